use Rattle.urp_message.proofs.SayingLemmas.{finds}
use Rattle.urp_message.proofs.saying.called.Goals as goal

pub returns : goal.returns
returns c =
    finds _ _ _ _ _ _ c.function_numbered.ensures c.as_str-2.ensures c.if-not-has_interface.ensures c.as_str.ensures c.if-number-eq-ACQUIRE.false c.if-number-eq-RELEASE.false c.ranges.number.fits
