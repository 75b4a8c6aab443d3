use Rattle.std.proofs.Common.{◌∙◌, ap, sym}
use Rattle.plan_model.specs.Frames.{first_frame}
use Rattle.call_stacks.proofs.EntryLaws.{frames_none, frames_found, fronted}
use Rattle.call_stacks.proofs.stack.top.Goals as goal

pub returns-in_default : goal.returns-in_default
returns-in_default c = sym (ap first_frame (frames_none c.args.birth c.args.stacks.now.entries c.in_default.ensures.value))

pub returns : goal.returns
returns c =
    fronted c.in-Some.stack.now.frames c.front.result c.front.ensures.variant.0 c.front.ensures.variant.1 c.front.ensures.lookup
    ∙ sym (ap first_frame (frames_found c.args.birth c.args.stacks.now.entries c.in-Some.stack.now c.in-Some.ensures.value))
