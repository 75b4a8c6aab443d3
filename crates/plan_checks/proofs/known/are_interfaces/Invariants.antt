use Rattle.std.specs.List.{list_all}
use Rattle.std.specs.Prelude.{drop, ◌≡◌}
use Rattle.uno_model.specs.Sound.{is_there, is_interface}
use Rattle.plan_checks.proofs.known.are_interfaces.Given as goal

abbrev pub invariant-loop-name : goal.invariant-loop-name
invariant-loop-name l = list_all (is_there l.registry is_interface) (drop l.name-index l.names) ≡ list_all (is_there l.registry is_interface) l.names
