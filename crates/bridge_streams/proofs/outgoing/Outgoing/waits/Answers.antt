use Rattle.std.proofs.Common.{◌∙◌, ◌<◌, length, ap, arith}
use Rattle.std.proofs.lemmas.Bool.{lt-ltb}
use Rattle.bridge_streams.proofs.DrainingLemmas.{ready_waits, unsaid_waits}
use Rattle.bridge_streams.proofs.outgoing.Outgoing.waits.Goals as goal

-- bytes are ready
pub returns-then-len-gt0 : goal.returns-then-len-gt0
returns-then-len-gt0 c = λ reg.
    let view = ap (λ o. length o.ready) c.self.view_is in
    lt-ltb 0 c.len.result c.if-len-gt0.true ∙ ready_waits reg c.args.unsaid.now.said c.args.self.now (omega (arith, c.if-len-gt0.true, c.len.ensures, view))

-- none are: then messages make the difference
pub returns-else-len-gt0 : goal.returns-else-len-gt0
returns-else-len-gt0 c = λ reg.
    let view = ap (λ o. length o.ready) c.self.view_is in
    unsaid_waits reg c.args.unsaid.now.said c.args.self.now c.is_empty.result (omega (arith, c.if-len-gt0.false, c.len.ensures, view)) c.is_empty.ensures
