use mathlib.Core.Path.{◌≡◌, refl, sym, ap, ◌∙◌}
use Prim.Native.Nat.{◌+◌, ◌*◌}
use native.Mathlib.Omega.{arith}
use mir.Val.{bool_byte}
use mathlib.Core.Bool.{not}
use lib.Dec.{eqb}
use lib.ListN.{drop, length-set}
use lib.Seq.{take_all, drop-drop}
use Rattle.rules.specs.Sizes.{thread_count, idle_label, thread_size, threads_place}
use Rattle.rules.specs.Bytes.{chunks}
use Rattle.rules.specs.Encoding.{thread_from}
use Rattle.bytes_fields.specs.Blocks.{fill_step}
use Rattle.check_queues.specs.Queues.{flag}
use Rattle.bytes_fields.specs.Pieces.{map-chunks}
use Rattle.check_queues.specs.Flags.{flag_at}
use Rattle.check_queues.proofs.queues.flag_running.Goals as goal

pub loop-t-init : goal.loop-t-init
unfolding chunks
loop-t-init c = (omega arith, omega arith, refl)

pub loop-t-preserved : goal.loop-t-preserved
loop-t-preserved c =
    let s = c.args.state.now in
    let l = c.loop-t in (
      omega arith,
      simp length-set (omega arith),
      fill_step (λ b. flag (thread_from b)) thread_size l.flags l.t (bool_byte (not (eqb c.get16.result idle_label)))
          (drop threads_place s) (omega arith)
          l.invariant.2 (rw c.get16.ensures (flag_at s (threads_place + thread_size * l.t)
          ∙ ap (λ b. flag (thread_from b)) (sym (drop-drop (thread_size * l.t) threads_place s)))),
    )

pub returns : goal.returns
returns c =
    let s = c.args.state.now in
    let l = c.loop-t in
    let e : l.t ≡ thread_count = omega arith in
    sym (take_all l.t l.flags (omega arith)) ∙ l.invariant.2
    ∙ rw e (sym (map-chunks thread_from thread_size flag thread_count (drop threads_place s)))
