use Rattle.std.proofs.Common.{ap, ◌∙◌}
use Rattle.bridge_objects.specs.Kept as kept
use Rattle.bridge_tables.proofs.AnsweringLemmas.{lowest_is}
use Rattle.bridge_tables.proofs.tables.Tables.lowest.Goals as goal

pub returns : goal.returns
returns c = λ g of.
    c.lowest.ensures
    ∙ ap kept.number_of
    (lowest_is g c.self.inside.objects c.args.self.now.tables (ap (λ e. e.prefix) c.self.view_is ∙ of.prefix) (ap (λ e. e.first) c.self.view_is ∙ of.first)
    (ap (λ e. e.tables.objects) c.self.view_is) (ap (λ e. e.tables.holdings) c.self.view_is) (ap (λ e. e.tables.stubs) c.self.view_is))
