use mathlib.Core.Path.{◌≡◌, sym, ap, ◌∙◌}
use mathlib.Core.List.{List}
use Prim.Native.Nat.{ℕ, ◌+◌}
use native.Mathlib.Nat.{add-zero}
use lib.ListN.{get_or, drop, replicate}
use lib.Seq.{drop-drop, get_or-drop}
use Rattle.rules.specs.Sorts.{label}
use Rattle.rules.specs.Sizes.{return_count, register_count, locks_place, return_count_place, returns_place, presence_place, registers_place}
use Rattle.rules.specs.Sizes.{held_count_place, held_place, held_size}
use Rattle.rules.specs.Bytes.{num16, num32, part, chunks}
use Rattle.bytes_fields.specs.Put.{put}
use Rattle.state_thread.specs.Records.{thread_place, raw_thread}
use Rattle.state_thread_record.specs.Stores.{signals-read}
use Rattle.state_thread_record.proofs.read_thread.Goals as goal

-- a part of the record, read at its place
placed : {A : Type 0} (f : List ℕ → A) (s : List ℕ) (at k : ℕ) {n : ℕ} → n ≡ at → f (drop (n + k) s) ≡ f (drop k (drop at s))
placed f s at k e = rw e (ap f (sym (drop-drop k at s)))

pub returns : goal.returns
unfolding raw_thread
returns c =
    let s : List ℕ = c.args.state.now in
    let at = thread_place c.args.t.0 in
    let e = c.record_at-at.ensures in
    let byte : (i : ℕ) → get_or s i 0 ≡ get_or (drop i s) 0 0 = λ i. sym (get_or-drop i s 0 0 ∙ ap (λ k. get_or s k 0) (add-zero i)) in
    let signals = c.copy.ensures
    ∙ ap (λ k. put (replicate held_size 0) 0 (part s (k + held_place) held_size)) e
    ∙ signals-read s c.args.t.0 c.requires.0 c.requires.1 in
    λ i. record {
      present = (c.get32.ensures ∙ placed num32 s at presence_place e) i;
      label = (c.from.ensures ∙ ap label (c.get16.ensures
          ∙ ap (λ k. num16 (drop k s)) e)) i;
      locks = (c.get16-2.ensures ∙ placed num16 s at locks_place e) i;
      depth = (c.get8.ensures.0 ∙ byte _ ∙ placed (λ l. get_or l 0 0) s at return_count_place e) i;
      returns = (c.get16s.ensures ∙ placed (chunks num16 2 return_count) s at returns_place e) i;
      registers = (c.get16s-2.ensures
          ∙ placed (chunks num16 2 register_count) s at registers_place e) i;
      held = (c.get8-2.ensures.0 ∙ byte _ ∙ placed (λ l. get_or l 0 0) s at held_count_place e) i;
      signals = signals i;
    }
