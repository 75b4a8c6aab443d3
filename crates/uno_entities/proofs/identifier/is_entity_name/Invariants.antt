use Rattle.std.proofs.Common.{◌≡◌, length, IsUtf8}
use Rattle.uno_model.specs.Names.{is_entity_name}
use Rattle.uno_entities.proofs.identifier.is_entity_name.Given as goal

abbrev pub invariant-loop-part : goal.invariant-loop-part
invariant-loop-part l = record {
  same : is_entity_name l.rest ≡ is_entity_name l.name;
  text : IsUtf8 l.rest;
}

abbrev pub decreases-loop-part : goal.decreases-loop-part
decreases-loop-part l = length l.rest
