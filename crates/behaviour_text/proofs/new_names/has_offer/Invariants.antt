use Rattle.plan_types.specs.Plans.{offer_of}
use Rattle.std.specs.List.{list_any}
use Rattle.std.specs.Prelude.{drop, map, ◌≡◌}
use Rattle.std.specs.Str.{bytes_eq}
use Rattle.behaviour_text.proofs.new_names.has_offer.Given as goal

abbrev pub invariant-loop-offer : goal.invariant-loop-offer
invariant-loop-offer l = list_any (λ o. bytes_eq l.name o.name) (map offer_of (drop l.offer-index l.offers)) ≡ list_any (λ o. bytes_eq l.name o.name) (map offer_of l.offers)
