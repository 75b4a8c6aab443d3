use Rattle.std.proofs.Common.{◌∙◌, ap, sym}
use Rattle.birth_index.specs.Bits.{has}
use Rattle.birth_index.proofs.BitLaws.{has-bits_of}
use Rattle.birth_index.proofs.birth_index.BirthIndex.contains.Goals as goal

pub returns : goal.returns
returns c = c.is_set.ensures ∙ sym (has-bits_of c.self.inside.births.items c.args.birth) ∙ ap (λ m. has m c.args.birth) c.self.view_is
