use Rattle.rules.specs.Encoding.{machine_from}
use Rattle.lemmas_encoding.specs.Encoded.{encoded-canonical}
use Rattle.step_contract.specs.Ready.{still-recorded}
use Rattle.step_store.specs.Destinations.{standing, both_stored}
use Rattle.step_store.specs.Operands.{legal, second_at}
use Rattle.step_store.proofs.store_both.Goals as goal

pub store_second-requires : goal.store_second-requires
store_second-requires c =
    let kind_at = c.kind_at-kind in
    let value-at = c.value_at-to in
    let s = c in
    let h = s.requires.0 in
    let a = s.args.a in
    let first = c.store_first-next.ensures in (
      encoded-canonical _ _ first.encodes,
      h.inside,
      first.runs.running,
      rw c.block_field-block.ensures h.readable.block,
      (second_at h a s.requires.1 _ _ kind_at.ensures value-at.ensures s.requires.2).1,
      still-recorded s.args.t.0 h.inside first.runs.running first.encodes
          (standing (machine_from s.args.state.now) s.args.t.0 (rw h.ready.canonical.sized.threads h.inside)
          _ _ a.first s.args.u _),
    )

pub returns : goal.returns
returns c =
    let kind_at = c.kind_at-kind in
    let value-at = c.value_at-to in
    let block-field = c.block_field-block in
    let store-second = c.store_second in
    let s = c in
    let h = s.requires.0 in
    let a = s.args.a in
    let fits = legal h a s.requires.1 in
    let first = c.store_first-next in
    let second = second_at h a s.requires.1 _ _ kind_at.ensures value-at.ensures s.requires.2 in
    both_stored (machine_from s.args.state.now) s.args.t.0 (rw h.ready.canonical.sized.threads h.inside) s.args.w
    s.args.r.now a s.args.u s.args.v first.result fits.first fits.second first.ensures.runs first.ensures.encodes
    (rw second.0 (rw block-field.ensures at store-second.ensures))
