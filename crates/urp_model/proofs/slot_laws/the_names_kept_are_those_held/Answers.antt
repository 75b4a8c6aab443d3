use Rattle.urp_model.proofs.UseByUse.{same_held}
use Rattle.urp_model.proofs.slot_laws.the_names_kept_are_those_held.Goals as goal

pub returns : goal.returns
returns c = same_held
