use Rattle.std.proofs.Common.{ap, ◌∙◌, unwrap_or, refl, sym}
use Rattle.bridge_model.specs.Objects.{object_named}
use Rattle.bridge_tables.proofs.AnsweringLemmas.{shown, number_shown}
use Rattle.bridge_tables.proofs.tables.Tables.number_of.Goals as goal

pub returns : goal.returns
returns c = λ g of.
    c.unwrap_or.ensures
    ∙ ap (λ x. unwrap_or x 0)
    (sym
    (shown g c.args.oid.now c.as_str.result.now c.self.inside.objects c.args.self.now c.number_named.result c.number_named.result c.as_str.ensures (ap (λ e. e.prefix) c.self.view_is)
    (ap (λ e. e.tables.objects) c.self.view_is) of.prefix c.number_named.ensures refl))
    ∙ number_shown (object_named g c.args.oid.now c.args.self.now.tables.objects)
