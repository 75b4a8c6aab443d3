use Rattle.std.specs.Prelude.{◌≡◌, ℕ, List, map, take}
use Rattle.std.specs.List.{list_any}
use Rattle.std.specs.BTreeSet.{contains_text}
use Rattle.plan_model.specs.Services.{has_name}
use Rattle.plan_types.specs.Plans.{offer_of}
use Rattle.service_manager.proofs.names.names_of.Given as goal

abbrev pub invariant-loop-service : goal.invariant-loop-service
invariant-loop-service l = (q : List ℕ) → contains_text l.names q ≡ list_any (has_name q) (map offer_of (take l.service-index l.services))
