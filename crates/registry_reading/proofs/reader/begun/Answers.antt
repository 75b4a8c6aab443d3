use Rattle.std.proofs.Common.{ap, ◌∙◌, option_map}
use Rattle.uno_entities.specs.Entities.{entity_of}
use Rattle.registry_reading_model.specs.States.{is_above_name}
use Rattle.registry_reading.proofs.ReaderLemmas.{header_falls, header_fits, header_free}
use Rattle.registry_reading.proofs.reader.begun.Goals as goal

pub returns-then-not-is_above-clause-order : goal.returns-then-not-is_above-clause-order
returns-then-not-is_above-clause-order c =
    λ _. header_falls _ _ _ _ (entity_of c.in-Ok-Some.entity) _ _ c.in-Ok-Some.ensures (ap (option_map entity_of) c.in-Ok-Some.field-0-is) c.requires
    (c.is_above.ensures ∙ ap (is_above_name c.args.last) c.as_str.ensures) c.if-not-is_above.true

pub returns-else-not-is_above-clause-next : goal.returns-else-not-is_above-clause-next
returns-else-not-is_above-clause-next c =
    (header_fits _ _ _ _ (entity_of c.in-Ok-Some.entity) _ _ c.in-Ok-Some.ensures (ap (option_map entity_of) c.in-Ok-Some.field-0-is) c.requires
    (c.is_above.ensures ∙ ap (is_above_name c.args.last) c.as_str.ensures) c.if-not-is_above.false).0

pub returns-else-not-is_above-clause-read : goal.returns-else-not-is_above-clause-read
returns-else-not-is_above-clause-read c =
    record {
      last = c.requires;
      entity = (
        (header_fits _ _ _ _ (entity_of c.in-Ok-Some.entity) _ _ c.in-Ok-Some.ensures (ap (option_map entity_of) c.in-Ok-Some.field-0-is) c.requires
            (c.is_above.ensures ∙ ap (is_above_name c.args.last) c.as_str.ensures) c.if-not-is_above.false).1,
        header_free _ _ _ (entity_of c.in-Ok-Some.entity) c.in-Ok-Some.ensures (ap (option_map entity_of) c.in-Ok-Some.field-0-is),
      );
    }
