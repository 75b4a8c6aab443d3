use Rattle.std.proofs.Common.{◌∙◌}
use Rattle.std.proofs.lemmas.Cmp.{nat_list_eq_equiv}
use Rattle.type_registry.specs.Functions.{lent_function}
use Rattle.behaviour.proofs.manager.is_called.Goals as goal

pub returns : goal.returns
returns c = c.is_named.ensures ∙ nat_list_eq_equiv.symm c.args.name.now (lent_function c.args.function.now).name
