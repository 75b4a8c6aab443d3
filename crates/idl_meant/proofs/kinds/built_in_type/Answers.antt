use Rattle.std.proofs.Common.{◌∙◌, ap}
use Rattle.uno_entities.specs.Entities.{entities_of}
use Rattle.uno_entities.specs.TypeNames.{kind_of}
use Rattle.uno_model.specs.Registry.{find_entity}
use Rattle.idl_meant.proofs.KindLemmas.{entity_found, entity_missing}
use Rattle.idl_meant.proofs.kinds.built_in_type.Goals as goal

pub returns-in-Some : goal.returns-in-Some
returns-in-Some c =
    entity_found c.args.name c.args.built_in.now c.in-Some.entity.now (kind_of c.entity_type.result) (c.in-Some.ensures ∙ ap (λ n. find_entity n (entities_of c.args.built_in.now)) c.as_str.ensures) c.entity_type.ensures

pub returns-in-None : goal.returns-in-None
returns-in-None c = c.struct_type.ensures ∙ entity_missing c.args.name c.args.built_in.now (c.in-None.ensures ∙ ap (λ n. find_entity n (entities_of c.args.built_in.now)) c.as_str.ensures)
