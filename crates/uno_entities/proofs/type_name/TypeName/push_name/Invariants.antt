use Rattle.std.specs.Prelude.{◌≡◌, ◌++◌}
use Rattle.uno_model.specs.Kinds.{name_of}
use Rattle.uno_entities.specs.TypeNames.{kind_of}
use Rattle.uno_entities.proofs.type_name.TypeName.push_name.Given as goal

abbrev pub invariant-loop-kind : goal.invariant-loop-kind
invariant-loop-kind l = l.text.items ++ name_of (kind_of l.kind) ≡ l.fn.text.items ++ name_of (kind_of l.self)
