use Rattle.std.proofs.Common.{◌∙◌, ◌<◌, length, sym, ap, arith}
use Rattle.bridge_model.specs.Going.{spells_for}
use Rattle.urp_message.specs.Messages.{message_of}
use Rattle.bridge_streams.proofs.DrainingLemmas.{enough, stops, stopped_outgoing, stopped_unsaid, step_same, step_rest, step_sayable}
use Rattle.bridge_streams.proofs.outgoing.Outgoing.spell_for.Goals as goal

-- no message is left
pub returns-in_default-clause-outgoing : goal.returns-in_default-clause-outgoing
returns-in_default-clause-outgoing c =
    stopped_outgoing c.args.registry.now c.args.wanted c.loop-self.self c.loop-self.unsaid c.args.unsaid.now (spells_for c.args.registry.now c.args.wanted c.args.unsaid.now.said c.args.self.now)
    (stops c.args.registry.now c.args.wanted c.loop-self.unsaid.said c.loop-self.self c.in_default.ensures) c.loop-self.invariant.same c.loop-self.invariant.rest

pub returns-in_default-clause-unsaid : goal.returns-in_default-clause-unsaid
returns-in_default-clause-unsaid c =
    stopped_unsaid c.args.registry.now c.args.wanted c.loop-self.self c.loop-self.unsaid c.args.unsaid.now (spells_for c.args.registry.now c.args.wanted c.args.unsaid.now.said c.args.self.now)
    (stops c.args.registry.now c.args.wanted c.loop-self.unsaid.said c.loop-self.self c.in_default.ensures) c.loop-self.invariant.same c.loop-self.invariant.rest

-- a message is spelled and gone
pub loop-self-preserved : goal.loop-self-preserved
loop-self-preserved c =
    let reg = c.args.registry.now in
    let m = message_of c.in-Some.message.now in
    let ms = c.in-Some.ensures.0 in
    let first = c.in-Some.ensures.1 in
    let below : length c.loop-self.self.ready < c.args.wanted = omega (arith, c.loop-self-test.true, c.len.ensures, ap (λ o. length o.ready) c.self.view_is) in
    record {
      same = step_same reg c.args.wanted m ms c.loop-self.self c.spell.new.self c.loop-self.unsaid c.drop_first.new.self c.args.unsaid.now first c.in_ok-spell.ensures c.drop_first.ensures
          (spells_for reg c.args.wanted c.args.unsaid.now.said c.args.self.now) below c.loop-self.invariant.same;
      rest = step_rest reg c.args.wanted m ms c.loop-self.self c.spell.new.self c.loop-self.unsaid c.drop_first.new.self c.args.unsaid.now first c.in_ok-spell.ensures c.drop_first.ensures
          c.loop-self.invariant.rest;
      sayable = step_sayable reg c.args.wanted m ms c.loop-self.self c.spell.new.self c.loop-self.unsaid c.drop_first.new.self c.args.unsaid.now first c.in_ok-spell.ensures c.drop_first.ensures
          c.loop-self.invariant.sayable;
    }

-- enough bytes are there
pub returns-clause-outgoing : goal.returns-clause-outgoing
returns-clause-outgoing c =
    stopped_outgoing c.args.registry.now c.args.wanted c.loop-self.self c.loop-self.unsaid c.args.unsaid.now (spells_for c.args.registry.now c.args.wanted c.args.unsaid.now.said c.args.self.now)
    (enough c.args.registry.now c.args.wanted c.loop-self.unsaid.said c.loop-self.self (omega (arith, c.loop-self-test.false, c.len.ensures, ap (λ o. length o.ready) c.self.view_is)))
    c.loop-self.invariant.same c.loop-self.invariant.rest

pub returns-clause-unsaid : goal.returns-clause-unsaid
returns-clause-unsaid c =
    stopped_unsaid c.args.registry.now c.args.wanted c.loop-self.self c.loop-self.unsaid c.args.unsaid.now (spells_for c.args.registry.now c.args.wanted c.args.unsaid.now.said c.args.self.now)
    (enough c.args.registry.now c.args.wanted c.loop-self.unsaid.said c.loop-self.self (omega (arith, c.loop-self-test.false, c.len.ensures, ap (λ o. length o.ready) c.self.view_is)))
    c.loop-self.invariant.same c.loop-self.invariant.rest
