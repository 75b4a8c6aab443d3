use Rattle.std.proofs.Common.{map}
use Rattle.uno_values.specs.Values.{plain_of}
use Rattle.behaviour.proofs.LimitLemmas.{request_too_large, request_too_deep, request_within}
use Rattle.behaviour.proofs.calling.why_too_much.Goals as goal

pub returns-then-is_heavy : goal.returns-then-is_heavy
returns-then-is_heavy c number =
    request_too_large c.args.tid.now c.args.oid.now c.args.face.now number (map plain_of c.args.args.now) _ c.request_weight.result (c.request_weight.ensures number) c.is_heavy.ensures c.if-is_heavy.true

pub returns-then-has_deep : goal.returns-then-has_deep
returns-then-has_deep c number =
    request_too_deep c.args.tid.now c.args.oid.now c.args.face.now number (map plain_of c.args.args.now) _ _ c.request_weight.result (c.request_weight.ensures number) c.is_heavy.ensures c.if-is_heavy.false
    c.has_deep.ensures c.if-has_deep.true

pub returns : goal.returns
returns c number =
    request_within c.args.tid.now c.args.oid.now c.args.face.now number (map plain_of c.args.args.now) _ _ c.request_weight.result (c.request_weight.ensures number) c.is_heavy.ensures c.if-is_heavy.false
    c.has_deep.ensures c.if-has_deep.false
