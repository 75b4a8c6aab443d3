use Rattle.std.proofs.Common.{refl}
use Rattle.std.specs.Borrow.{Bor}
use Rattle.uno_entities.specs.Entities.{field_of}
use Rattle.uno_entities.specs.TypeNames.{kind_of}
use Rattle.uno_entities.specs.declared.entity.Field as rust
use Rattle.uno_entities.specs.declared.type_name.TypeName.{TypeName}
use Rattle.uno_model.specs.Entities.{Field}
use Rattle.plan_checks.proofs.PartLemmas.{turned_end, turned_on}
use Rattle.plan_checks.proofs.typing.parts.push_kinds.Goals as goal

pub loop-field-preserved : goal.loop-field-preserved
loop-field-preserved c =
    turned_on (λ (k : Bor TypeName). kind_of k.now) (λ (f : Bor rust.Field). field_of f.now) (λ (f : Field). f.kind) _ _ _ _ _ _ _ c.loop-field-test.true c.field-item.is refl c.in_ok-push.ensures.items
    c.loop-field.invariant

pub returns : goal.returns
returns c = turned_end (λ (k : Bor TypeName). kind_of k.now) (λ (f : Bor rust.Field). field_of f.now) (λ (f : Field). f.kind) _ _ c.loop-field.wanted.items _ c.loop-field-test.false c.loop-field.invariant
