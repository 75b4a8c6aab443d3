use Rattle.std.proofs.Common.{◌∙◌}
use Rattle.std.specs.Str.{bytes_eq}
use Rattle.plan_model.specs.Contexts as plain
use Rattle.plan_checks.proofs.FindLemmas.{some_found}
use Rattle.plan_checks.proofs.scope.Scope.has.Goals as goal

pub returns : goal.returns
returns c = c.is_some.ensures ∙ some_found (λ (x : plain.Scoped). bytes_eq c.args.name.now x.name) _ c.named.result c.args.self.now c.named.ensures
