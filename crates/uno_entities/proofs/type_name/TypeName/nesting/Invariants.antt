use Rattle.std.specs.Prelude.{◌≡◌, ◌+◌, ◌-◌, ◌^◌, ◌<◌, min}
use Rattle.uno_model.specs.Kinds.{nesting}
use Rattle.uno_entities.specs.TypeNames.{kind_of}
use Rattle.uno_entities.proofs.type_name.TypeName.nesting.Given as goal

abbrev pub invariant-loop-kind : goal.invariant-loop-kind
invariant-loop-kind l = record {
  counted : min (l.count + nesting (kind_of l.kind)) (2 ^ 64 - 1) ≡ min (nesting (kind_of l.self)) (2 ^ 64 - 1);
  within : l.count < 2 ^ 64;
}
