use Rattle.std.proofs.lemmas.Result.{on_ok_weaker}
use Rattle.registry_rules.proofs.WayLaws.{both_written}
use Rattle.registry_rules.proofs.circles.push_struct_over.Goals as goal

pub returns : goal.returns
returns c = on_ok_weaker _ (both_written _ _ _ _ _ _ c.in_ok-push_base.ensures) c.push_contained.ensures
