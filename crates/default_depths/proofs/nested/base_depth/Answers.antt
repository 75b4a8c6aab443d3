use Rattle.std.proofs.Common.{◌≡◌, subst, sym}
use Rattle.uno_types.specs.Members.{base_named}
use Rattle.default_depths.specs.Depths.{deepest_named, told}
use Rattle.default_depths.proofs.DepthLaws.{none_named, one_named}
use Rattle.default_depths.proofs.nested.base_depth.Goals as goal

pub returns-in-Some : goal.returns-in-Some
returns-in-Some c =
    subst (λ b. c.named_depth.result ≡ told (deepest_named c.args.registry.now (base_named b))) (sym c.in-Some.is) (one_named c.args.registry.now c.in-Some.name.now c.named_depth.result c.named_depth.ensures)

pub returns-in-None : goal.returns-in-None
returns-in-None c = subst (λ b. 0 ≡ told (deepest_named c.args.registry.now (base_named b))) (sym c.in-None.is) (none_named c.args.registry.now)
