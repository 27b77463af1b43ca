use borrow.Author.Rules.{rules}
use mathlib.Core.Path.{refl, sym, ◌∙◌}
use Rattle.rules.specs.Encoding.{machine_from}
use Rattle.rules.specs.Steps.{rules_by, finished}
use Rattle.rules.specs.declared.answer.Answer.TheVariants.{WasCut, NothingToCut}
use Rattle.lemmas_step.specs.Events.{cut-idle, cut-running}
use Rattle.step_contract.specs.Ready.{done}
use Rattle.step_contract.specs.At.{at_rest, runs-job, thread-runs}
use Rattle.step_end.proofs.cut_job.Goals as goal

pub returns-then-is_idle : goal.returns-then-is_idle
returns-then-is_idle c =
    let s = c in
    let a = s.args in
    let m = machine_from a.state.now in
    let e = at_rest s.requires.0 a.t.0 a.w s.requires.1 s.requires.2 (sym c.is_idle.ensures ∙ c.if-is_idle.true) in
    done m NothingToCut (cut-idle (rules_by a.image.now a.table.now) m a.t.0 e) refl s.requires.0.canonical

pub finish-requires : goal.finish-requires
finish-requires c =
    let s = c in (
      s.requires.0,
      s.requires.1,
      s.requires.2,
      thread-runs s.requires.0 s.args.t.0 s.args.w s.requires.1 s.requires.2
          (sym c.is_idle.ensures ∙ c.if-is_idle.false),
    )

pub returns : goal.returns
returns c =
    let s = c in
    let a = s.args in
    let m = machine_from a.state.now in
    let R = rules_by a.image.now a.table.now in
    let e = runs-job s.requires.0 a.t.0 a.w s.requires.1 s.requires.2
    (sym c.is_idle.ensures ∙ c.if-is_idle.false) in
    done (finished R a.t.0 m) WasCut (cut-running R m a.t.0 a.w.locks _ e) refl
    c.finish.ensures
