use Rattle.std.proofs.Common.{ap, ◌∙◌, map}
use Rattle.std.specs.List.{filter, list_any}
use Rattle.plan_model.specs.Services.{service_names, has_name}
use Rattle.plan_types.specs.Plans.{offer_of}
use Rattle.service_manager.proofs.NameLaws.{names_same, as_wanted}
use Rattle.service_manager.proofs.names.service_names.Goals as goal

pub returns : goal.returns
unfolding service_names
returns c =
    let offered = c.args.plan.now.services.items in
    as_wanted (λ v. v.items) _ _ c.names_among.result
    ((λ i. filter (λ q. (c.in_ok-offered.ensures q ∙ ap (λ os. list_any (has_name q) (map offer_of os)) c.deref.ensures.value) i) (map (λ e. e.name) c.entities.result.now))
    ∙ ap (filter (λ q. list_any (has_name q) (map offer_of offered))) (names_same c.entities.result.now ∙ ap (map (λ e. e.name)) c.entities.ensures.all))
    c.names_among.ensures
