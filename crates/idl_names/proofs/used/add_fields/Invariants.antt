use Rattle.std.proofs.Common.{◌≡◌, ◌++◌, map, take}
use Rattle.std.specs.List.{flat_map}
use Rattle.idl_meaning_model.specs.Uses.{type_paths}
use Rattle.idl_trees.specs.Members.{fields_of}
use Rattle.idl_names.specs.Used.{all_used_of, entities_used}
use Rattle.idl_names.proofs.used.add_fields.Given as goal

abbrev pub invariant-loop-field : goal.invariant-loop-field
invariant-loop-field l = all_used_of l.used.items ≡ all_used_of l.fn.used.items ++ entities_used (flat_map (λ m. type_paths m.type) (map fields_of (take l.field-index l.fields)))
