use Rattle.std.specs.Prelude.{◌≡◌, ◌++◌, string_bytes}
use Rattle.uno_entities.specs.TypeNames.{kind_of}
use Rattle.uno_model.specs.Kinds.{name_of}
use Rattle.behaviour.proofs.leaving.type_name.Given as goal

-- the brackets so far stand before the rest of the name
abbrev pub invariant-loop-kind : goal.invariant-loop-kind
invariant-loop-kind l = string_bytes l.name ++ name_of (kind_of l.kind) ≡ name_of (kind_of l.fn.kind)
