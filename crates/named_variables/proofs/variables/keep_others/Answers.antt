use Rattle.std.proofs.Common.{rules, not}
use Rattle.std.specs.Str.{bytes_eq}
use Rattle.std.proofs.lemmas.Fn.{filter_same}
use Rattle.plan_types.specs.declared.frame.Variable.{Variable}
use Rattle.named_variables.proofs.variables.keep_others.Goals as goal

pub returns : goal.returns
returns c = filter_same _ (λ (x : Variable). not (bytes_eq c.args.name.now x.name)) _ (λ x b f' k. search rules) _ _ c.retain.ensures.filtered
