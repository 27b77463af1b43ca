use mathlib.Core.Path.{◌∙◌}
use borrow.Author.Rules.{rules}
use Rattle.walk_waits.specs.Waiting.{opcode-send, opcode-call, opcode-other, waits-passage, waits-nobody}
use Rattle.walk_waits.proofs.running_waits.Goals as goal

pub passage_of-requires : goal.passage_of-requires
passage_of-requires c = (
  c.requires,
  opcode-send
      c.args.r.now c.in-5.is,
  search rules,
)

pub passage_of-requires-in-7 : goal.passage_of-requires-in-7
passage_of-requires-in-7 c = (
  c.requires,
  opcode-call
      c.args.r.now c.in-7.is,
  search rules,
)

pub returns-in-5 : goal.returns-in-5
returns-in-5 c = c.passage_waits.ensures ∙ waits-passage c.passage_of.ensures

pub returns-in-7 : goal.returns-in-7
returns-in-7 c = c.passage_waits-in-7.ensures ∙ waits-passage c.passage_of-in-7.ensures

pub returns-in_default : goal.returns-in_default
returns-in_default c = waits-nobody c.requires
    (opcode-other c.args.r.now c.in_default.in_default-own.rest.0.1 c.in_default.in_default-own.rest.1)
