use Rattle.std.proofs.Common.{ap, sym, subst, List, [], ℕ}
use Rattle.world_model.specs.Worlds.{Event}
use Rattle.bridge_world.specs.Worlds.{IsWorld}
use Rattle.bridge_world.proofs.Opening.{no_events, opening_is}
use Rattle.bridge_world.proofs.world.World.new.Goals as goal

pub invariant_of-result : goal.invariant_of-result
invariant_of-result c =
    subst (λ (ws : List ℕ). IsWorld c.args.a c.args.b ws c.in-Ok.to_b.items) (sym c.in-Ok.ensures.0)
    (subst (λ (ws : List ℕ). IsWorld c.args.a c.args.b [] ws) (sym c.in-Ok.ensures.1)
    (opening_is c.args.a c.args.b c.requires.opening_a.0 c.requires.opening_a.1 c.requires.opening_b.0 c.requires.opening_b.1 c.requires.registry c.are_ready.ensures))

pub returns-in-Ok-clause-opening : goal.returns-in-Ok-clause-opening
returns-in-Ok-clause-opening c = ap (λ (es : List Event). record { a = c.args.a.configured; b = c.args.b.configured; events = es }) (no_events c.args.a c.args.b c.requires.opening_a.0 c.requires.opening_b.1)

pub returns-in-Ok-clause-ready : goal.returns-in-Ok-clause-ready
returns-in-Ok-clause-ready c = c.are_ready.ensures
