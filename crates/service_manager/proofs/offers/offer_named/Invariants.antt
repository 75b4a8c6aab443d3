use Rattle.std.specs.Prelude.{◌≡◌, map, drop}
use Rattle.std.specs.List.{find}
use Rattle.plan_model.specs.Services.{has_name}
use Rattle.plan_types.specs.Plans.{offer_of}
use Rattle.service_manager.proofs.offers.offer_named.Given as goal

abbrev pub invariant-loop-offer : goal.invariant-loop-offer
invariant-loop-offer l = find (has_name l.name) (map offer_of (drop l.offer-index l.offers)) ≡ find (has_name l.name) (map offer_of l.offers)
