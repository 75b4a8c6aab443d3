use Rattle.std.proofs.Common.{◌∙◌, ap, arith, min, refl}
use Rattle.uno_model.specs.Registry.{find_entity}
use Rattle.default_depths.specs.Depths.{deepest, deepest_named, told}
use Rattle.default_depths.proofs.DepthLaws.{depth_is, joined, told_small}
use Rattle.default_depths.proofs.nested.tuple_depth.Goals as goal

pub overflow_add-own : goal.overflow_add-own
overflow_add-own c = let low = told_small _ _ c.deepest-own.ensures in omega (arith, low)

pub returns : goal.returns
returns c =
    joined _ _ _ _ _ _ (c.deepest-own.ensures ∙ ap (λ fs. told (deepest c.args.registry.now fs)) c.level.ensures.own)
    (c.base_depth-base.ensures ∙ ap (λ ns. told (deepest_named c.args.registry.now ns)) c.level.ensures.base)
    (depth_is c.args.registry.now c.requires.sound c.args.name.now (find_entity c.args.name.now c.args.registry.now) refl) (c.min.ensures ∙ ap (λ m. min m 1025) c.max.ensures)
