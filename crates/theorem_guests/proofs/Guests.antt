-- The two guests of a linked image, and what holds of a guest.
use Rattle.std.specs.Prelude.{◌≡◌, ◌&&◌, List, [], map, ℕ, ◌<◌}
use Rattle.std.proofs.Math.Path.{refl}
use Rattle.std.proofs.Common.{sym, ap, ◌∙◌, arith, ne_eqb}
use Rattle.std.proofs.Math.Bool.{true, true≢false}
use Rattle.std.proofs.Math.Decide.{dec_lt}
use Rattle.rules.specs.Sizes.{block_count}
use Rattle.rules.specs.Image.{labels}
use Rattle.rules.specs.Check.{Checked}
use Rattle.rules.specs.Machine.{Machine, thread_at, fresh, window}
use Rattle.rules.specs.Events.{Event}
use Rattle.rules.specs.Steps.{block_at, rules_by, final}
use Rattle.rules.specs.Link.{names, share_block, shift_event}
use Rattle.rules.specs.Calls.{link_return, link_out}
use Rattle.bytes_fields.specs.Each.{Each}
use Rattle.bytes_fields.specs.Runs.{any_at, any_none}
use Rattle.lemmas_rules.specs.Logic.{not-true, both_hold}
use Rattle.lemmas_rules.specs.Passed.{Passed, passed}
use Rattle.lemmas_invariant.specs.Destinations.{block-below}
use Rattle.lemmas_invariant.specs.StaysWellFormed.{Accepted}
use Rattle.lemmas_invariant.proofs.StaysWellFormed.{sound-fresh}
use Rattle.theorem_guests.specs.Parts.{Fits}
use Rattle.theorem_guests.proofs.Parts.{first_part, second-part}
use Rattle.theorem_guests.specs.Passes.{LinkAccepted}
use Rattle.theorem_guests.proofs.Passes.{fits, link-accepted}
use Rattle.theorem_guests.specs.Labels.{thread-shift, locks-shift}
use Rattle.theorem_guests.specs.Reading.{GuestReading}
use Rattle.theorem_guests.proofs.Reading.{guest-reading-fresh, all-accepted}
use Rattle.theorem_guests.specs.OtherBlocks.{NotOwn, Free, words-of-unnamed-blocks-stay, other-locks-stay-free, fresh-free}
use Rattle.theorem_guests.specs.Guests.{Guest, OthersUntouched}

-- ---- the guests of a link that is not refused

-- a checked image names blocks of the table only
named-below : (image table : List ℕ) → Checked image table → (b : ℕ) → names image b ≡ true → b < block_count
unfolding names
named-below image table checked b h = case (dec_lt b block_count)
  where
    ok : Passed image table
    ok = (passed image table [] checked).0

    case : Dec (b < block_count) → b < block_count
    case (yes k) = k
    case (no k) =
        absurd (true≢false (sym h ∙ any_none _ 0 (labels image) (λ l p q.
        ne_eqb (block_at image l) b (λ e. absurd (omega (arith, block-below image table ok l (omega arith)))))))

module _ (first second table out : List ℕ) (accepted : link_return first second table out ≡ 0) where
  abbrev L : List ℕ
  L = link_out first second table out

  given : LinkAccepted first second table out
  given = link-accepted first second table out accepted

  together : Fits first second
  together = fits first second table given.checked_first given.checked_second given.few

  -- no block is named by both
  not-both : (b : ℕ) → names first b ≡ true → names second b ≡ true → ⊥
  unfolding share_block
  not-both b e f =
      let both : names first b && names second b ≡ true = both_hold (names first b) (names second b) e f in
      let below : b < block_count = named-below first table given.checked_first b e in
      true≢false
      (sym (any_at (λ c. names first c && names second c) 0 block_count b both (omega arith) (omega arith)) ∙ given.apart)

  -- THE FIRST IMAGE IS A GUEST, with its labels as they are
  pub first-guest : Guest 0 first second L table
  first-guest = record {
    part = rw given.result (first_part first second together);
    checked = given.checked_first;
    apart = λ b h. not-true (names first b) (λ e. not-both b e h);
  }

  -- THE SECOND IMAGE IS A GUEST, with its labels shifted by the first's record count
  pub second-guest : Guest (labels first) second first L table
  second-guest = record {
    part = rw given.result (second-part first second together);
    checked = given.checked_second;
    apart = λ b h. not-true (names second b) (λ e. not-both b h e);
  }

-- ---- what holds of a guest, from a fresh machine and with events that its own image accepts

module _ (d : ℕ) (G H L table : List ℕ) (guest : Guest d G H L table) (initial : List ℕ) (l : List Event)
    (accepted : Each (Accepted G) l) where
  -- THE READING: answers, words and state are those that the guest has by itself
  pub reads-as-alone : GuestReading d G L table (fresh initial) (fresh initial) l
  reads-as-alone = guest-reading-fresh d G L table guest.part guest.checked initial l accepted

  -- the linked image accepts the events
  pub accepted-there : Each (Accepted L) (map (shift_event d) l)
  accepted-there = all-accepted d G L table guest.part guest.checked l accepted

  -- NOTHING OF THE OTHER GUEST IS TOUCHED: the words of its blocks are the initial ones
  pub other-words-stay : (b : ℕ) → names H b ≡ true
      → window b (final (rules_by L table) (fresh initial) (map (shift_event d) l)).words ≡ window b initial
  other-words-stay b h =
      ap (window b) reads-as-alone.words
      ∙ words-of-unnamed-blocks-stay G table b (guest.apart b h) guest.checked (fresh initial) l
      (sound-fresh G table guest.checked initial) accepted
      ∙ unfold fresh in refl

  -- and no thread holds a lock that none of the guest's own blocks has. One that blocks of both have is held as if the guest were alone
  pub other-locks-free : (lock : ℕ) → NotOwn G table lock → Free lock (final (rules_by L table) (fresh initial) (map (shift_event d) l))
  other-locks-free lock h t =
      let z : Machine = final (rules_by G table) (fresh initial) l in
      rw (reads-as-alone.state, thread-shift d z.threads t, locks-shift d (thread_at z t))
      (other-locks-stay-free G table lock h guest.checked (fresh initial) l (sound-fresh G table guest.checked initial) accepted
      (fresh-free lock initial) t)

  pub others-untouched : OthersUntouched d G H L table initial l
  others-untouched = record { other-words-stay = other-words-stay; other-locks-free = other-locks-free }
