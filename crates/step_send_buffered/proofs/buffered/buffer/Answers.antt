use mathlib.Core.Path.{◌≡◌, refl}
use Rattle.rules.specs.Encoding.{machine_from}
use Rattle.rules.specs.declared.statement.Statement.TheVariants.{SendBuffered}
use Rattle.lemmas_encoding.specs.Encoded.{encoded-machine, encoded-canonical}
use Rattle.lemmas_encoding.specs.FirstTree.{first_tree}
use Rattle.step_operands.specs.Gathered.{zeros-stay}
use Rattle.step_contract.specs.At.{label-B, small}
use Rattle.step_send_buffered.specs.Buffered.{own-tree, buffered-stepped}
use borrow.Author.Rules.{rules}
use Rattle.step_send_buffered.proofs.buffered.buffer.Goals as goal

pub go_on-a-requires : goal.go_on-a-requires
go_on-a-requires c =
    let s = c in
    let h = s.requires.at.0 in
    (h.ready.canonical, h.inside, h.thread, rw c.label_b-next.ensures (small h _ (label-B h SendBuffered s.requires.at.1)))

-- going on leaves the trees alone
pub push-requires : goal.push-requires
push-requires c =
    let s = c in
    let given = s.requires.at.2 in
    let n = c.operand_count.ensures in
    let m = encoded-machine _ _ c.go_on-a.ensures.encodes in
    let inside = own-tree s.requires.at.0 s.args.i s.requires.i_value.0 in
    let canonical = encoded-canonical _ _ c.go_on-a.ensures.encodes in
    (canonical, rw m inside, rw m s.requires.i_value.1, record { few = rw n given.few; zeros = rw n (zeros-stay given) })

pub returns : goal.returns
returns c =
    let push = c.push in
    let operand-count = c.operand_count in
    let go_on = c.go_on-a in
    let label-b = c.label_b-next in
    let earlier = c in
    let label-a = earlier.label_a-to in
    let s = earlier in
    let t = s.args.t.0 in
    let i = s.args.i in
    let moved = rw label-b.ensures at go_on.ensures.encodes in
    let first : i ≡ first_tree t (machine_from go_on.new.state).trees = rw (encoded-machine _ _ go_on.ensures.encodes) s.requires.i_value.0
    in
    let sent = rw (label-a.ensures, operand-count.ensures) at (push.ensures.by_index t first) in
    buffered-stepped s.requires.at.0 s.requires.at.1 s.args.values s.requires.at.2 i s.requires.i_value.0 s.requires.i_value.1
    moved push.ensures.canon sent go_on.ensures.value
