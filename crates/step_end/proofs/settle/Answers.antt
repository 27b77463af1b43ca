use borrow.Author.Rules.{rules}
use mathlib.Core.Path.{sym, ◌∙◌, subst}
use Rattle.rules.specs.Machine.{Machine}
use Rattle.rules.specs.Encoding.{machine_from}
use Rattle.bytes_fields.specs.Found.{some_found, found-is}
use Rattle.lemmas_encoding.specs.Encoded.{Encodes}
use Rattle.step_end.specs.Home.{tree-inside, settled_is}
use Rattle.step_end.proofs.settle.Goals as goal

pub unwrap-i-requires : goal.unwrap-i-requires
unwrap-i-requires c = rw c.first_tree.ensures (some_found _ _ (tree-inside c.requires.0 c.args.t.0 c.requires.2))

pub home-to-requires : goal.home-to-requires
home-to-requires c = (c.requires.0, (found-is _ _ (sym c.unwrap-i.ensures ∙ c.first_tree.ensures)).1)

pub end_tree-requires : goal.end_tree-requires
end_tree-requires c = (c.requires.0.canonical, (found-is _ _ (sym c.unwrap-i.ensures ∙ c.first_tree.ensures)).1)

pub returns : goal.returns
returns c =
    let a = c.args in
    let e = c.end_tree in
    let i = found-is _ _ (sym c.unwrap-i.ensures ∙ c.first_tree.ensures) in
    let f = e.ensures.by_index a.t.0 i.0
    ∙ settled_is a.image.now a.table.now (machine_from a.state.now) a.t.0 c.home-to.result.0 _ i.0 i.1 c.home-to.ensures in
    subst (λ (q : Machine). Encodes e.new.state q) f e.ensures.canon
