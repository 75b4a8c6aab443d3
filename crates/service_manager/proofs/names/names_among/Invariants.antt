use Rattle.std.specs.Prelude.{◌≡◌, map, take}
use Rattle.std.specs.List.{filter}
use Rattle.std.specs.BTreeSet.{contains_text}
use Rattle.service_manager.proofs.names.names_among.Given as goal

abbrev pub invariant-loop-entity : goal.invariant-loop-entity
invariant-loop-entity l = l.names.items ≡ filter (contains_text l.offered) (map (λ e. e.name) (take l.entity-index l.entities))
