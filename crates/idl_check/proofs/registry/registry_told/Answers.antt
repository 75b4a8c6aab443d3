use Rattle.std.proofs.Common.{◌∙◌, map}
use Rattle.idl_check.proofs.RegistryLemmas.{found_moved, if_ok}
use Rattle.idl_entities.specs.Telling.{entity_told}
use Rattle.idl_check.proofs.registry.registry_told.Goals as goal

pub returns : goal.returns
returns g c =
    if_ok _ _ c.registry_of.result
    (λ reg found name. found name
    ∙ found_moved c.in_ok-entities.entities.items c.put_in_order.new.entities.items (map entity_told (map g.M.Meanings.telling c.args.all.now)) c.requires.apart c.in_ok-entities.ensures c.put_in_order.ensures name)
    c.registry_of.ensures
