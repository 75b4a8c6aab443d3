use Rattle.idl_meaning_model.proofs.FaultLaws.{one_at_place}
use Rattle.idl_meaning_model.proofs.laws.a_place_has_one_fault.Goals as goal

pub returns : goal.returns
returns c = one_at_place
