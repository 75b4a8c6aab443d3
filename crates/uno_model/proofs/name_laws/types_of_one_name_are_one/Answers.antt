use Rattle.std.proofs.lemmas.Bool.{and_parts}
use Rattle.uno_model.proofs.NameLaws.{one_type}
use Rattle.uno_model.specs.Sound.{kind_known, elements_storable}
use Rattle.uno_model.proofs.name_laws.types_of_one_name_are_one.Goals as goal

pub returns : goal.returns
returns c = λ reg sound k j formed formed_j same. one_type reg k j sound.named (and_parts (kind_known reg k) (elements_storable k) formed).0
    (and_parts (kind_known reg j) (elements_storable j) formed_j).0 same
