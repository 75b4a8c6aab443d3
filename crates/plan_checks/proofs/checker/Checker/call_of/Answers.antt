use Rattle.plan_checks.proofs.CalledLaws.{called_named}
use Rattle.plan_checks.proofs.checker.Checker.call_of.Goals as goal

pub call_with-requires : goal.call_with-requires
call_with-requires c = called_named c.args.self.now.registry.now _ c.args.function.now _ _ _ c.in_ok-found.ensures c.as_str-2.ensures c.in-Some-found.is
