use Rattle.std.proofs.Common.{ap, ◌∙◌}
use Rattle.std.specs.List.{list_any}
use Rattle.std.specs.Str.{bytes_eq}
use Rattle.named_variables.proofs.ThreadLemmas.{any_named, any_under}
use Rattle.named_variables.proofs.VariableLemmas.{has_name}
use Rattle.named_variables.proofs.thread.ThreadVariables.has.Goals as goal

pub returns-then-self : goal.returns-then-self
returns-then-self c =
    c.contains.ensures ∙ (ap (list_any (bytes_eq c.args.name.now)) (c.args.self.now.noted c.if-self.true) ∙ any_named c.args.name.now c.args.self.now.all.items)

pub returns : goal.returns
returns c = c.has.ensures ∙ (ap (list_any (has_name c.args.name.now)) c.deref.ensures.value ∙ any_under c.args.name.now c.args.self.now.all.items)
