use Rattle.std.proofs.Common.{◌∙◌, ap}
use Rattle.uno_model.specs.Registry.{find_entity, own_members}
use Rattle.uno_entities.specs.Entities.{entity_of}
use Rattle.default_depths.specs.Depths.{deepest, told}
use Rattle.default_depths.proofs.DepthLaws.{told_tests}
use Rattle.default_depths.proofs.TableLaws.{level_known}
use Rattle.default_depths.proofs.shallow.are_own_shallow.Goals as goal

pub deepest-requires-clause-known : goal.deepest-requires-clause-known
deepest-requires-clause-known c =
    level_known c.args.registry.now c.requires.rising c.requires.sound c.args.depths.now (entity_of c.args.entity.now) _ _ c.requires.told c.requires.there c.as_str.ensures c.level.ensures.own

pub returns : goal.returns
returns c =
    told_tests _ c.deepest.result
    (c.deepest.ensures
    ∙ ap (λ fs. told (deepest c.args.registry.now fs)) (c.level.ensures.own ∙ ap (λ n. own_members (find_entity n c.args.registry.now)) c.as_str.ensures ∙ ap own_members c.requires.there))
