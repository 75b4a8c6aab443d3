use Rattle.std.proofs.Common.{◌∙◌, sym}
use Rattle.bridge_streams.proofs.WaitingLemmas.{waits_at_top}
use Rattle.bridge_streams.proofs.waiting.WaitingExpects.waits.Goals as goal

-- the call at the top of the stack is what the thread waits for
pub returns : goal.returns
returns c = c.waiting_call.ensures.call ∙ sym (waits_at_top c.args.tid.now c.args.self.now.stacks.now c.waiting_call.ensures.own)
