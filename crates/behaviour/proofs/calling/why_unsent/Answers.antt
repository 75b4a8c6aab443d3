use Rattle.std.proofs.Common.{◌∙◌, map}
use Rattle.plan_model.specs.Evaluation.{identity_of}
use Rattle.uno_values.specs.Values.{plain_of}
use Rattle.behaviour.specs.Calling.{face_of, target_of, too_much}
use Rattle.behaviour.specs.Running.{running_of}
use Rattle.behaviour.proofs.LimitLemmas.{call_too_far, call_unless}
use Rattle.behaviour.proofs.calling.why_unsent.Goals as goal

pub returns-then-is_full : goal.returns-then-is_full
returns-then-is_full c reg number e =
    call_too_far reg (running_of c.args.running.now) (identity_of (target_of c.args.target)) (face_of (target_of c.args.target)) number (map plain_of c.args.args.now) e _ c.is_full.ensures c.if-is_full.true

pub returns : goal.returns
returns c reg number e =
    call_unless reg (running_of c.args.running.now) (identity_of (target_of c.args.target)) (face_of (target_of c.args.target)) number (map plain_of c.args.args.now) e _ _ c.is_full.ensures c.if-is_full.false
    (c.why_too_much.ensures number ∙ (λ i. too_much (running_of c.args.running.now).tid (c.oid.ensures i) (c.face.ensures i) number (map plain_of c.args.args.now)))
