use Rattle.std.specs.Option.{option_map}
use Rattle.uno_entities.specs.TypeNames.{kind_of}
use Rattle.plan_checks.proofs.PartLemmas.{named_alone}
use Rattle.plan_checks.proofs.checker.Checker.named_in.Goals as goal

pub returns : goal.returns
returns c = named_alone (option_map kind_of) _ _ _ c.new-named.ensures.items c.in_ok-push_named.ensures
