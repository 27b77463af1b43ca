use mathlib.Core.Path.{refl}
use Rattle.step_end.proofs.trapped.Goals as goal

pub finish_apart-requires : goal.finish_apart-requires
finish_apart-requires c =
    let p = c.requires in
    (p.0, p.1, rw p.2 at p.3)

pub returns : goal.returns
returns c = record { value = refl; ended = c.finish_apart.ensures }
