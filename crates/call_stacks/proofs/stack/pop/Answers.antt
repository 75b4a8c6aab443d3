use Rattle.std.proofs.Common.{◌∙◌, ap, sym}
use Rattle.plan_model.specs.Frames.{first_frame}
use Rattle.call_stacks.specs.Rows.{rows_of, one_less}
use Rattle.call_stacks.proofs.EntryLaws.{missing, frames_set, frames_found, less_of, top_popped, with_frames}
use Rattle.call_stacks.proofs.stack.pop.Goals as goal

pub unreachable-requires : goal.unreachable-requires
unreachable-requires c = missing c.args.birth c.args.stacks.now.entries c.requires c.in_default.ensures.value

pub returns-clause-top : goal.returns-clause-top
returns-clause-top c =
    top_popped c.in-Some.stack.now.frames c.pop_front.new.self c.pop_front.result c.pop_front.ensures.items c.pop_front.ensures.variant.1
    ∙ sym (ap first_frame (frames_found c.args.birth c.args.stacks.now.entries c.in-Some.stack.now c.in-Some.ensures.value))

pub returns-clause-popped : goal.returns-clause-popped
returns-clause-popped c =
    let s = c.in-Some.stack.now in
    let q = c.pop_front.new.self in
    ap rows_of (c.get_mut.follows.holds (with_frames s q)).0 ∙ frames_set c.args.birth c.args.stacks.now.entries s q one_less (less_of s q c.pop_front.ensures.rest) c.in-Some.ensures.value
