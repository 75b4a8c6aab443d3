use Rattle.std.proofs.lemmas.Result.{IfOk-weaker}
use Rattle.entity_rules.proofs.GraphLemmas.{circles_of_graph}
use Rattle.entity_rules.proofs.circles.has_no_circles.Goals as goal

pub returns : goal.returns
returns c = IfOk-weaker c.has_no_circle.result _ _ (λ b. circles_of_graph _ _ b c.requires c.in_ok-graph.ensures) c.has_no_circle.ensures
