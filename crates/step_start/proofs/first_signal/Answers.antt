use mathlib.Core.Path.{◌≡◌, refl, sym, ◌∙◌}
use native.Mathlib.Omega.{arith}
use Rattle.std.specs.Prelude.{None}
use borrow.Author.Rules.{rules}
use Rattle.rules.specs.Sorts.{thread}
use Rattle.rules.specs.Sizes.{thread_count}
use Rattle.rules.specs.Encoding.{machine_from}
use Rattle.bytes_fields.specs.Found.{none-is, none-as}
use Rattle.lemmas_encoding.specs.FirstTree.{first-none}
use Rattle.step_end.specs.Home.{oldest-below, block_inside, table-long}
use Rattle.step_start.specs.Starting.{found-pending, first-is, first_goes}
use Rattle.step_start.proofs.first_signal.Goals as goal

pub returns-in_err-i : goal.returns-in_err-i
returns-in_err-i c =
    let gone : c.from_residual.result ≡ None = grind arith in
    rw gone (first-none c.args.t.0 (machine_from c.args.state.now).trees (none-is _ _ (sym c.in_err-i.was ∙ c.first_tree.ensures)))

pub oldest_label-requires : goal.oldest_label-requires
oldest_label-requires c =
    let k = found-pending c.requires.0 c.args.t.0 c.requires.1 _ (sym c.in_ok-i.was ∙ c.first_tree.ensures) in
    (c.requires.0.canonical, k.1, k.2)

-- the label of its oldest signal is below n
pub block_at-requires : goal.block_at-requires
block_at-requires c =
    let k = found-pending c.requires.0 c.args.t.0 c.requires.1 _ (sym c.in_ok-i.was ∙ c.first_tree.ensures) in
    rw c.oldest_label.ensures (oldest-below c.requires.0 _ k.1 k.2)

pub lock_at-lock-requires : goal.lock_at-lock-requires
lock_at-lock-requires c =
    let k = found-pending c.requires.0 c.args.t.0 c.requires.1 _ (sym c.in_ok-i.was ∙ c.first_tree.ensures) in (
      rw (c.block_at.ensures, c.oldest_label.ensures) (block_inside c.requires.0 _ (oldest-below c.requires.0 _ k.1 k.2)),
      table-long c.requires.0,
    )

pub other_holder-requires : goal.other_holder-requires
other_holder-requires c =
    let k = found-pending c.requires.0 c.args.t.0 c.requires.1 _ (sym c.in_ok-i.was ∙ c.first_tree.ensures) in
    let lock = c.lock_at-lock.ensures ∙ rw (c.block_at.ensures, c.oldest_label.ensures) refl in
    (c.requires.0.canonical, (first-is c.requires.0 c.args.t.0 c.requires.1 _ _ k.0 k.1 lock).small)

pub returns-in-None : goal.returns-in-None
returns-in-None c =
    let k = found-pending c.requires.0 c.args.t.0 c.requires.1 _ (sym c.in_ok-i.was ∙ c.first_tree.ensures) in
    let lock = c.lock_at-lock.ensures ∙ rw (c.block_at.ensures, c.oldest_label.ensures) refl in
    let first = first-is c.requires.0 c.args.t.0 c.requires.1 _ _ k.0 k.1 lock in
    first_goes c.requires.0 c.args.t.0 c.requires.1 first _ refl (none-as thread thread_count _ c.in-None.ensures)
