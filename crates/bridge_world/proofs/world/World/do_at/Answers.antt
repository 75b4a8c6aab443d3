use Rattle.std.proofs.Common.{subst, map}
use Rattle.behaviour.specs.Roots.{run_of}
use Rattle.bridge_endpoint.specs.Journals.{setting_at, side_at}
use Rattle.bridge_model.specs.Sides.{stands}
use Rattle.bridge_world.specs.Doing.{IsDeedIn}
use Rattle.bridge_world.specs.Joined.{end_at}
use Rattle.bridge_world.proofs.DeedLaws.{is_applied, is_carried, is_closed, is_drained, is_reaped, is_stepped}
use Rattle.bridge_world.proofs.DoingLemmas.{ok_both, reaped_so}
use Rattle.bridge_world.proofs.RunsLaws.{keeps_ended, keeps_reaped, other_stays}
use Rattle.bridge_world.proofs.world.World.do_at.Goals as goal

pub returns-in-Applies-clause-does : goal.returns-in-Applies-clause-does
returns-in-Applies-clause-does c =
    let j = c.args.self.now in
    let rs = map run_of c.args.runs.now.items in
    ok_both c.apply_nth.result
    (λ did grows place d at is. is_applied j c.apply_nth.new.self c.know_history.ensures c.args.side c.args.cut rs d c.in-Applies.nth (subst (IsDeedIn j c.args.side rs d) c.in-Applies.is is) did grows)
    c.apply_nth.ensures.applied c.apply_nth.ensures.grows

pub returns-in-Applies-clause-stands : goal.returns-in-Applies-clause-stands
returns-in-Applies-clause-stands c = c.apply_nth.ensures.runs (map run_of c.args.runs.now.items) c.requires.stands

pub returns-in-Steps-clause-does : goal.returns-in-Steps-clause-does
returns-in-Steps-clause-does c =
    let j = c.args.self.now in
    let rs = map run_of c.args.runs.now.items in
    ok_both c.step_nth.result
    (λ did grows place d at is. is_stepped j c.step_nth.new.self c.know_history.ensures c.args.side c.args.cut rs d c.in-Steps.nth (map run_of c.step_nth.new.runs.items) (subst (IsDeedIn j c.args.side rs d) c.in-Steps.is is) did grows)
    c.step_nth.ensures.stepped c.step_nth.ensures.grows

pub returns-in-Reaps-clause-does : goal.returns-in-Reaps-clause-does
returns-in-Reaps-clause-does c place d at is =
    let j = c.args.self.now in
    let e = end_at j c.args.side in
    let rs = map run_of c.args.runs.now.items in
    is_reaped j c.reap.new.self c.know_history.ensures c.args.side c.args.cut rs d (subst (IsDeedIn j c.args.side rs d) c.in-Reaps.is is)
    (reaped_so (setting_at e) (side_at e) e (end_at c.reap.new.self c.args.side) c.reap.result c.reap.ensures.object c.reap.ensures.entered) c.reap.ensures.history

pub returns-in-Reaps-clause-stands : goal.returns-in-Reaps-clause-stands
returns-in-Reaps-clause-stands c =
    keeps_reaped c.reap.result (end_at c.args.self.now c.args.side) (end_at c.reap.new.self c.args.side) c.reap.ensures.entered c.reap.ensures.kept (map run_of c.args.runs.now.items) c.requires.stands

pub returns-in-Reaps-clause-other : goal.returns-in-Reaps-clause-other
returns-in-Reaps-clause-other c = other_stays c.args.side c.args.self.now c.reap.new.self c.reap.ensures.history

pub returns-in-Drains-clause-does : goal.returns-in-Drains-clause-does
returns-in-Drains-clause-does c =
    let j = c.args.self.now in
    let rs = map run_of c.args.runs.now.items in
    ok_both c.drain_some.result
    (λ did grows place d at is. is_drained j c.drain_some.new.self c.know_history.ensures c.args.side c.args.cut rs d place at (subst (IsDeedIn j c.args.side rs d) c.in-Drains.is is) did c.drain_some.ensures.grows)
    c.drain_some.ensures.drained c.drain_some.ensures.drained

pub returns-in-Drains-clause-stands : goal.returns-in-Drains-clause-stands
returns-in-Drains-clause-stands c = c.drain_some.ensures.runs (map run_of c.args.runs.now.items) c.requires.stands

pub returns-in-Drains-clause-other : goal.returns-in-Drains-clause-other
returns-in-Drains-clause-other c = other_stays c.args.side c.args.self.now c.drain_some.new.self c.drain_some.ensures.grows

pub returns-in-Carries-clause-does : goal.returns-in-Carries-clause-does
returns-in-Carries-clause-does c =
    let j = c.args.self.now in
    let rs = map run_of c.args.runs.now.items in
    ok_both c.carry_some.result
    (λ did grows place d at is. is_carried j c.carry_some.new.self c.know_history.ensures c.args.side c.args.cut rs d place c.requires.cut at (subst (IsDeedIn j c.args.side rs d) c.in-Carries.is is) did c.carry_some.ensures.grows)
    c.carry_some.ensures.carried c.carry_some.ensures.carried

pub returns-in-Carries-clause-stands : goal.returns-in-Carries-clause-stands
returns-in-Carries-clause-stands c = c.carry_some.ensures.runs (map run_of c.args.runs.now.items) c.requires.stands

pub returns-in-Carries-clause-other : goal.returns-in-Carries-clause-other
returns-in-Carries-clause-other c = other_stays c.args.side c.args.self.now c.carry_some.new.self c.carry_some.ensures.grows

pub returns-in-Closes-clause-does : goal.returns-in-Closes-clause-does
returns-in-Closes-clause-does c place d at is =
    let j = c.args.self.now in
    let rs = map run_of c.args.runs.now.items in
    is_closed j c.end_input.new.self c.know_history.ensures c.args.side c.args.cut rs d place at (subst (IsDeedIn j c.args.side rs d) c.in-Closes.is is) c.end_input.ensures.ended c.end_input.ensures.history

pub returns-in-Closes-clause-stands : goal.returns-in-Closes-clause-stands
returns-in-Closes-clause-stands c =
    let e = end_at c.args.self.now c.args.side in
    keeps_ended (stands (side_at e)) e (end_at c.end_input.new.self c.args.side) c.end_input.ensures.ended c.end_input.ensures.kept (map run_of c.args.runs.now.items) c.requires.stands

pub returns-in-Closes-clause-other : goal.returns-in-Closes-clause-other
returns-in-Closes-clause-other c = other_stays c.args.side c.args.self.now c.end_input.new.self c.end_input.ensures.history
