use mathlib.Core.Path.{◌≡◌, ap, ◌∙◌}
use mathlib.Core.List.{List}
use Prim.Native.Nat.{ℕ, ◌*◌, ◌≤◌, ◌<◌}
use native.Mathlib.Omega.{arith}
use lib.ListN.{length, length-append}
use Rattle.rules.specs.Sizes.{record_size, record_count}
use Rattle.rules.specs.Bytes.{blocks, chunks}
use Rattle.rules.specs.Image.{labels}
use Rattle.bytes_fields.specs.Put.{put, length-put, put_then}
use Rattle.image_record.specs.Records.{labels-small, labels-whole, record-part, record-taken, length-record}
use Rattle.image_record.specs.Shifts.{one_more, length_run}
use Rattle.image_link.specs.Linkable.{Linkable}
use Rattle.image_link.specs.Stores.{both-copied, still-copied, all-shifted}
use Rattle.image_link.proofs.link.Goals as goal

-- how many records the images have
record Counted (first second : List ℕ) (n m : ℕ) : Type 0 where
  one : n ≡ labels first
  other : m ≡ labels second
  few : (n ≤ record_count) × (m ≤ record_count)
  first-size : length first ≡ record_size * n
  second-size : length second ≡ record_size * m

counted : (first second out : List ℕ) (n m : ℕ) → Linkable first second out → n ≡ labels first → m ≡ labels second
    → Counted first second n m
counted first second out n m s p q = record {
  one = p;
  other = q;
  few = (omega (arith, p, labels-small first), omega (arith, q, labels-small second));
  first-size = omega (arith, p, labels-whole first s.some);
  second-size = omega (arith, q, labels-whole second s.more);
}

pub copy-requires-2 : goal.copy-requires-2
copy-requires-2 c =
    let at = c in
    let k = counted at.args.first.now at.args.second.now at.args.out.now _ _ at.requires
    at.count_labels-n.ensures at.count_labels-m.ensures in
    let s = at in
    let copied = c.copy in
    let size : length copied.new.s ≡ length s.args.out.now = rw (copied.ensures, length-put) in
    (omega (arith, s.requires.exact), omega arith)

pub loop-l-init : goal.loop-l-init
unfolding put blocks chunks
loop-l-init c =
    let at = c in
    let k = counted at.args.first.now at.args.second.now at.args.out.now _ _ at.requires
    at.count_labels-n.ensures at.count_labels-m.ensures in
    let s = at in
    both-copied s.args.first.now s.args.second.now s.args.out.now _ _ _
    c.copy.ensures
    c.copy-2.ensures (omega arith) (omega arith) (omega arith) s.requires.exact

pub shift_record-requires : goal.shift_record-requires
shift_record-requires c =
    let at = c in
    let k = counted at.args.first.now at.args.second.now at.args.out.now _ _ at.requires
    at.count_labels-n.ensures at.count_labels-m.ensures in
    let s = at in
    let second = s.args.second.now in
    let loop = c.loop-l in
    let below : loop.l < labels second = omega arith in
    rw (record-taken second loop.l below) (
      omega (arith, simp (length-put, length-append) at (ap length loop.invariant)),
      length-record second loop.l below,
      rw loop.invariant (still-copied s.args.first.now second _ loop.l _ below (omega arith)),
      omega (arith, s.requires.low_a loop.l below),
      omega (arith, s.requires.low_b loop.l below),
      s.requires.heads loop.l below,
    )

pub loop-l-preserved : goal.loop-l-preserved
loop-l-preserved c =
    let at = c in
    let k = counted at.args.first.now at.args.second.now at.args.out.now _ _ at.requires
    at.count_labels-n.ensures at.count_labels-m.ensures in
    let second = at.args.second.now in
    let loop = c.loop-l in
    let below : loop.l < labels second = omega arith in
    let shifted = rw (record-taken second loop.l below) at c.shift_record.ensures in
    let fits : record_size * loop.l ≤ length second = omega arith in
    rw (one_more _ loop.l second, ← record-part second loop.l below)
    (put_then _ _ _ _ _ loop.invariant shifted (rw length_run (omega arith)))

pub returns : goal.returns
returns c =
    let at = c in
    let k = counted at.args.first.now at.args.second.now at.args.out.now _ _ at.requires
    at.count_labels-n.ensures at.count_labels-m.ensures in
    let s = at in
    c.loop-l.invariant ∙ all-shifted s.args.first.now s.args.second.now _ _ (omega arith) (omega arith) (omega arith)
