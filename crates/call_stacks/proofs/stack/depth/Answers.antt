use Rattle.std.proofs.Common.{◌∙◌, ap, sym, length}
use Rattle.std.proofs.lemmas.List.{length-map}
use Rattle.plan_types.specs.Frames.{frame_of}
use Rattle.call_stacks.proofs.EntryLaws.{frames_none, frames_found, sized}
use Rattle.call_stacks.proofs.stack.depth.Goals as goal

pub returns-in_default : goal.returns-in_default
returns-in_default c = sym (ap length (frames_none c.args.birth c.args.stacks.now.entries c.in_default.ensures.value))

pub returns : goal.returns
returns c =
    c.len.ensures ∙ sized c.in-Some.stack.now.frames ∙ sym (length-map c.in-Some.stack.now.frames.items frame_of)
    ∙ sym (ap length (frames_found c.args.birth c.args.stacks.now.entries c.in-Some.stack.now c.in-Some.ensures.value))
