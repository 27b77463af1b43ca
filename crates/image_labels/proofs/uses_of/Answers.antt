use Rattle.image_labels.proofs.Uses.{uses-of}
use Rattle.image_labels.proofs.uses_of.Goals as goal

pub has-a-requires : goal.has-a-requires
has-a-requires c = rw c.from-opcode.ensures (uses-of _ c.requires.1).small

pub has-b-requires : goal.has-b-requires
has-b-requires c = rw c.from-opcode.ensures (uses-of _ c.requires.1).small

pub returns : goal.returns
returns c =
    let u = uses-of _ c.requires.1 in
    rw (c.has-a.ensures, c.has-b.ensures, c.from-opcode.ensures) (cc)
