-- What is worked out from two values: the law's results, as the code has them.
use Rattle.rules.specs.Effects.{Results}
use Rattle.step_compute.specs.declared.Computation.{Computation}

abbrev pub values_of : Computation → Results
values_of d = record { first = d.first; second = d.second }
