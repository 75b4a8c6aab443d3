use Rattle.std.proofs.Common.{◌∙◌, ap}
use Rattle.birth_index.specs.Bits.{bits_of}
use Rattle.birth_index.proofs.BitLaws.{bits_of_none}
use Rattle.birth_index.proofs.birth_index.BirthIndex.new.Goals as goal

pub returns : goal.returns
returns c = ap bits_of c.new.ensures.items ∙ bits_of_none
