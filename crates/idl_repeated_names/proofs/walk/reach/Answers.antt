use Rattle.std.proofs.Common.{refl}
use Rattle.idl_repeated_names.specs.Over.{names_over, owned}
use Rattle.idl_repeated_names.proofs.WayLemmas.{reached_anew, reached_on}
use Rattle.idl_repeated_names.proofs.walk.reach.Goals as goal

pub returns-then-branch : goal.returns-then-branch
returns-then-branch c = λ ns way.
    reached_on (owned c.args.around.owners.now) c.args.around.built_in.now c.args.around.registry.now c.requires c.args.kind c.args.name.now c.args.way.now c.goes_back.new.way
    (record { steps = c.goes_back.new.way.steps; twins = c.meet_at.new.twins })
    (c.in_ok-goes_back.ensures c.if-branch.true) c.in_ok-meet_at.ensures refl ns way

pub returns : goal.returns
returns c = λ ns way.
    reached_anew (names_over c.args.kind (owned c.args.around.owners.now) c.args.around.built_in.now c.args.around.registry.now) c.args.name.now c.args.way.now c.begin.new.self
    (record { steps = c.begin.new.self.steps; twins = c.meet_over.new.twins })
    (c.begin.ensures (names_over c.args.kind (owned c.args.around.owners.now) c.args.around.built_in.now c.args.around.registry.now)) c.in_ok-meet_over.ensures refl ns way
