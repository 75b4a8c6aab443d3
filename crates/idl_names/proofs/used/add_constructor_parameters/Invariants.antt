use Rattle.std.proofs.Common.{◌≡◌, ◌++◌, map, take}
use Rattle.std.specs.List.{flat_map}
use Rattle.idl_meaning_model.specs.Uses.{type_paths}
use Rattle.idl_trees.specs.Members.{constructor_parameter_of}
use Rattle.idl_names.specs.Used.{all_used_of, entities_used}
use Rattle.idl_names.proofs.used.add_constructor_parameters.Given as goal

abbrev pub invariant-loop-parameter : goal.invariant-loop-parameter
invariant-loop-parameter l = all_used_of l.used.items ≡ all_used_of l.fn.used.items ++ entities_used (flat_map (λ p. type_paths p.type) (map constructor_parameter_of (take l.parameter-index l.parameters)))
