-- EXIT by a job that holds signals: over any number of trees and of held signals, and with the numbers of docs/MACHINE.md.
use mathlib.Core.Path.{◌≡◌, refl, sym, ap, ◌∙◌}
use mathlib.Core.Bool.{Bool, true, false, cond, false≢true}
use mathlib.Core.Logic.{ite}
use mathlib.Core.Option.{some, none}
use mathlib.Core.List.{List, [], ◌∷◌, ◌++◌, map, append_assoc, append-nil}
use Prim.Native.Nat.{ℕ, zero, suc, ◌-◌}
use native.Mathlib.Decide.{ℕ_discrete}
use native.Mathlib.Omega.{arith}
use lib.Dec.{ltb}
use lib.ListN.{length, take, drop, length-map, length-append}
use borrow.Author.Tests.{ltb-true, ltb-false}
use Rattle.rules.specs.Machine.{Signal, Tree, Machine, first, put}
use Rattle.rules.specs.Steps.{Rules, Reply, rules_by, grown, founded, requeued, finished, admits, admitted, lost, exiting, carry}
use Rattle.rules.specs.declared.answer.Answer.TheVariants.{Exited}

-- a thread's first tree leaves the list
length-settled : (t : ℕ) (p : List Signal) (l : List Tree) → first t l ≡ some p → length l ≡ suc (length (put t none l))
unfolding first put
length-settled t p [] e = absurd (false≢true (cc))
length-settled t p (x ∷ l) e = case (ℕ_discrete x.thread t) e (length-settled t p l)
  where
    case : (c : Dec (x.thread ≡ t)) → ite c (some x.pending) (first t l) ≡ some p
        → (first t l ≡ some p → length l ≡ suc (length (put t none l)))
        → suc (length l) ≡ suc (length (ite c l (x ∷ put t none l)))
    case (yes q) h k = refl
    case (no q) h k = ap suc (k h)

module _ (image table : List ℕ) where
  abbrev R : Rules
  R = rules_by image table

  -- what the held signals leave: as many trees as there is room for, in order; the others, the last, are lost
  pub record Admission (gs : List Signal) (s : Machine) : Type 0 where
    pub trees : (admitted R gs s).trees ≡ s.trees ++ map (founded R) (take (16 - length s.trees) gs)
    pub lost-ones : lost R gs s ≡ drop (16 - length s.trees) gs

  pub founds : (gs : List Signal) (s : Machine) → Admission gs s
  unfolding admitted lost
  founds [] s = record {
    trees = sym (rw (nothing (16 - length s.trees)) (append-nil s.trees));
    lost-ones = sym (none (16 - length s.trees));
  }
    where
      nothing : (n : ℕ) → map (founded R) (take n []) ≡ []
      nothing zero = refl
      nothing (suc n) = refl

      none : (n : ℕ) → ◌≡◌ {A = List Signal} (drop n []) []
      none zero = refl
      none (suc n) = refl
  founds (g ∷ gs) s =
      let k = case (admits R s.trees g) refl (founds gs (grown (founded R g) s)) (founds gs s) in
      record { trees = k.0; lost-ones = k.1 }
    where
      beside : (c : Bool) → admits R s.trees g ≡ c → ltb (length s.trees) 16 ≡ c
      beside c e = rw length-map at e

      case : (c : Bool) → admits R s.trees g ≡ c → Admission gs (grown (founded R g) s) → Admission gs s
          → ((admitted R gs (cond c (grown (founded R g) s) s)).trees
          ≡ s.trees ++ map (founded R) (take (16 - length s.trees) (g ∷ gs)))
          × (cond c (lost R gs (cond c (grown (founded R g) s) s)) (g ∷ lost R gs (cond c (grown (founded R g) s) s))
          ≡ drop (16 - length s.trees) (g ∷ gs))
      case true e k l =
          let h = ltb-true (length s.trees) 16 (beside true e) in
          let n : 16 - length s.trees ≡ suc (16 - length (s.trees ++ founded R g ∷ [])) = simp length-append (omega arith) in
          (rw n (k.trees ∙ append_assoc s.trees (founded R g ∷ []) _), rw n k.lost-ones)
      case false e l k =
          let h = ltb-false (length s.trees) 16 (beside false e) in
          let n : 16 - length s.trees ≡ 0 = omega arith in
          (rw n (rw n at k.trees), rw n (ap (λ l. g ∷ l) (rw n at k.lost-ones)))

  -- EXIT with three held signals beside 14 other trees: the own tree, if empty, leaves room for two, otherwise for one
  module _ (s : Machine) (t : ℕ) (a b c : Signal) (full : length s.trees ≡ 15) where
    abbrev left : Reply
    left = carry R s (exiting t (a ∷ b ∷ c ∷ []))

    pub two-appended : first t s.trees ≡ some []
        → (left.answer ≡ Exited 1) × (left.state.trees ≡ put t none s.trees ++ founded R a ∷ founded R b ∷ [])
    unfolding carry
    two-appended e =
        let n : length (put t none s.trees) ≡ 14 = omega (arith, length-settled t [] s.trees e) in
        let k = founds (a ∷ b ∷ c ∷ []) (finished R t s) in
        let m : (finished R t s).trees ≡ put t none s.trees = rw e (append-nil (put t none s.trees)) in
        let q : 16 - length (finished R t s).trees ≡ 2 = rw (m, n) in
        let one : lost R (a ∷ b ∷ c ∷ []) (finished R t s) ≡ c ∷ [] = k.lost-ones ∙ rw q in
        (ap (λ l. Exited (length l)) one, k.trees ∙ rw (q, m))

    pub one-appended : (g : Signal) (p : List Signal) → first t s.trees ≡ some (g ∷ p)
        → (left.answer ≡ Exited 2)
        × (left.state.trees ≡ (put t none s.trees ++ requeued R (some (g ∷ p))) ++ founded R a ∷ [])
    unfolding carry
    one-appended g p e =
        let n : length (put t none s.trees) ≡ 14 = omega (arith, length-settled t (g ∷ p) s.trees e) in
        let k = founds (a ∷ b ∷ c ∷ []) (finished R t s) in
        let m : (finished R t s).trees ≡ put t none s.trees ++ requeued R (some (g ∷ p)) = rw e in
        let q : 16 - length (finished R t s).trees ≡ 1 = rw (m, length-append (put t none s.trees), n) in
        let two : lost R (a ∷ b ∷ c ∷ []) (finished R t s) ≡ b ∷ c ∷ [] = k.lost-ones ∙ rw q in
        (ap (λ l. Exited (length l)) two, k.trees ∙ rw (q, m))
