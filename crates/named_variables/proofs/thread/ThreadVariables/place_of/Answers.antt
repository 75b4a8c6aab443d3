use Rattle.std.proofs.Common.{ap, ◌∙◌}
use Rattle.std.specs.List.{position}
use Rattle.std.specs.Str.{bytes_eq}
use Rattle.named_variables.proofs.ThreadLemmas.{position_named}
use Rattle.named_variables.proofs.thread.ThreadVariables.place_of.Goals as goal

pub returns-then-self : goal.returns-then-self
returns-then-self c =
    c.get_index_of.ensures.index ∙ (ap (position (bytes_eq c.args.name.now)) (c.args.self.now.noted c.if-self.true) ∙ position_named c.args.name.now c.args.self.now.all.items)
