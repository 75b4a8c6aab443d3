use Rattle.std.proofs.Common.{◌∙◌, refl}
use Rattle.urp_message.proofs.RaisedLemmas.{refused, allowed, fails}
use Rattle.urp_message.proofs.listener.reply.raised.Goals as goal

pub returns-in-Some : goal.returns-in-Some
returns-in-Some c = refused _ _ _ _ _ _ _ c.in_ok-kind.ensures _ c.in-Some.ensures

pub returns-in-Ok : goal.returns-in-Ok
returns-in-Ok c = allowed _ _ _ _ _ _ _ c.in_ok-kind.ensures c.in_default.ensures ∙ rw c.in-Ok.ensures refl

pub returns-in-Err : goal.returns-in-Err
returns-in-Err c = fails _ _ _ _ _ _ _ c.in_ok-kind.ensures _ c.in_default.ensures c.in-Err.ensures
