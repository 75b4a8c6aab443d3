use Rattle.std.proofs.Common.{sym, refl, ◌∙◌, map}
use Rattle.message_model.specs.Messages.{returned}
use Rattle.uno_values.specs.Values.{plain_of}
use Rattle.behaviour.proofs.EndingLemmas.{given_too, as_it_is, in_its_place, returned_leaves}
use Rattle.behaviour.specs.Effects.{effect_of}
use Rattle.behaviour.specs.Running.{running_of}
use Rattle.behaviour.proofs.ending.returns.Goals as goal

pub returns : goal.returns
returns c =
    as_it_is c.args.running.now.tid.now c.args.running.now.face.now c.args.running.now.number (returned (plain_of c.args.value) (map plain_of c.args.outs.items)) _ refl
    (rw c.deref.ensures.value at (c.in_default.ensures c.args.running.now.face.now c.args.running.now.number))
    ∙ sym (returned_leaves c.args.registry.now (running_of c.args.running.now) _ _)

pub returns-in-Some : goal.returns-in-Some
returns-in-Some c =
    given_too c.raises_cause.result effect_of _ _
    (in_its_place c.args.running.now.tid.now c.args.running.now.face.now c.args.running.now.number (returned (plain_of c.args.value) (map plain_of c.args.outs.items)) _ _ refl
    (rw c.deref.ensures.value at (c.in-Some.ensures c.args.running.now.face.now c.args.running.now.number))
    ∙ sym (returned_leaves c.args.registry.now (running_of c.args.running.now) _ _)) c.raises_cause.ensures
