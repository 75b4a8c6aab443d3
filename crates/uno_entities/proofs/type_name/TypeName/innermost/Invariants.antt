use Rattle.std.specs.Prelude.{◌≡◌}
use Rattle.uno_entities.specs.TypeNames.{kind_of, innermost}
use Rattle.uno_entities.proofs.type_name.TypeName.innermost.Given as goal

abbrev pub invariant-loop-kind : goal.invariant-loop-kind
invariant-loop-kind l = innermost (kind_of l.kind) ≡ innermost (kind_of l.self)
