-- The signals that an EXIT admits to the list of trees, oldest first: each founds a tree at the list's end, or is lost.
use Rattle.std.specs.Prelude.{◌≡◌, Bool, ℕ, ◌+◌}
use Rattle.std.proofs.Math.Path.{refl, sym, ap}
use Rattle.std.proofs.Common.{◌∙◌, length-append}
use Rattle.std.proofs.Math.Bool.{true, false, cond}
use mathlib.Core.List.{List, [], ◌∷◌, ◌++◌, append-nil, append_assoc, Memᴰ}
use native.Mathlib.Omega.{arith}
use Rattle.std.proofs.Math.ListN.{length}
use Rattle.rules.specs.Machine.{Signal, Tree, ThreadState, Machine, with_thread, tree_threads}
use Rattle.rules.specs.Steps.{Rules, grown, home, founded, admits, admit, admitted, lost}

module _ (R : Rules) where
  -- whether there is room goes by the threads of the trees alone
  pub admits-same : (l l' : List Tree) (g : Signal) → tree_threads l' ≡ tree_threads l → admits R l' g ≡ admits R l g
  admits-same l l' g e = ap (λ (ts : List ℕ). R.room ts (home R g)) e

  -- what holds of a machine, and still does where the signal founds a tree
  pub admit-keeps : (P : Machine → Type 0) (g : Signal) (s : Machine) → (admits R s.trees g ≡ true → P (grown (founded R g) s)) → P s
      → P (admit R g s)
  admit-keeps P g s new old = case (admits R s.trees g) refl
    where
      case : (b : Bool) → admits R s.trees g ≡ b → P (cond b (grown (founded R g) s) s)
      case true e = new e
      case false e = old

  pub admitted-keeps : (P : Machine → Type 0) (gs : List Signal)
      → ((g : Signal) → Memᴰ g gs → (s : Machine) → admits R s.trees g ≡ true → P s → P (grown (founded R g) s))
      → (s : Machine) → P s → P (admitted R gs s)
  unfolding admitted
  admitted-keeps P [] new s h = h
  admitted-keeps P (g ∷ gs) new s h =
      admitted-keeps P gs (λ x m. new x (Memᴰ.tail m)) (admit R g s)
      (admit-keeps P g s (λ e. new g (Memᴰ.head refl) s e h) h)

  -- words and threads stay
  pub admitted-words : (gs : List Signal) (s : Machine) → (admitted R gs s).words ≡ s.words
  admitted-words gs s = admitted-keeps (λ (z : Machine). z.words ≡ s.words) gs (λ g m z e h. h) s refl

  pub admitted-threads : (gs : List Signal) (s : Machine) → (admitted R gs s).threads ≡ s.threads
  admitted-threads gs s = admitted-keeps (λ (z : Machine). z.threads ≡ s.threads) gs (λ g m z e h. h) s refl

  -- what a thread's state is does not matter to them
  module _ (t : ℕ) (w : ThreadState) where
    admit-thread : (g : Signal) (s : Machine) → admit R g (with_thread s t w) ≡ with_thread (admit R g s) t w
    admit-thread g s = case (admits R s.trees g)
      where
        case : (b : Bool) → cond b (grown (founded R g) (with_thread s t w)) (with_thread s t w)
            ≡ with_thread (cond b (grown (founded R g) s) s) t w
        case true = refl
        case false = refl

    pub admitted-thread : (gs : List Signal) (s : Machine) → admitted R gs (with_thread s t w) ≡ with_thread (admitted R gs s) t w
    unfolding admitted
    admitted-thread [] s = refl
    admitted-thread (g ∷ gs) s = ap (admitted R gs) (admit-thread g s) ∙ admitted-thread gs (admit R g s)

    pub lost-thread : (gs : List Signal) (s : Machine) → lost R gs (with_thread s t w) ≡ lost R gs s
    unfolding lost
    lost-thread [] s = refl
    lost-thread (g ∷ gs) s =
        ap (λ l. cond (admits R s.trees g) l (g ∷ l)) (ap (lost R gs) (admit-thread g s) ∙ lost-thread gs (admit R g s))

  -- one more is lost where there is no room for the first
  pub lost-one : (g : Signal) (gs : List Signal) (s : Machine)
      → length (lost R (g ∷ gs) s) ≡ cond (admits R s.trees g) 0 1 + length (lost R gs (admit R g s))
  unfolding lost
  lost-one g gs s = case (admits R s.trees g) (lost R gs (admit R g s))
    where
      case : (b : Bool) (l : List Signal) → length (cond b l (g ∷ l)) ≡ cond b 0 1 + length l
      case true l = omega arith
      case false l = omega arith

  -- the trees keep their places, and behind them comes one for each signal that is not lost
  pub record Founded (gs : List Signal) (s : Machine) : Type 0 where
    pub more : List Tree
    pub trees : (admitted R gs s).trees ≡ s.trees ++ more
    pub count : length more + length (lost R gs s) ≡ length gs

  pub admitted-trees : (gs : List Signal) (s : Machine) → Founded gs s
  unfolding admitted lost
  admitted-trees [] s = record { more = []; trees = sym (append-nil s.trees); count = refl }
  admitted-trees (g ∷ gs) s =
      let a = one (admits R s.trees g) in
      let k = admitted-trees gs (admit R g s) in
      record {
        more = a.0 ++ k.more;
        trees = k.trees ∙ ap (λ (l : List Tree). l ++ k.more) a.1 ∙ append_assoc s.trees a.0 k.more;
        count = rw (length-append a.0 k.more) (omega (arith, k.count, a.2, lost-one g gs s));
      }
    where
      one : (b : Bool) → (l : List Tree) × ((cond b (grown (founded R g) s) s).trees ≡ s.trees ++ l) × (length l + cond b 0 1 ≡ 1)
      one true = (founded R g ∷ [], refl, refl)
      one false = ([], sym (append-nil s.trees), refl)
