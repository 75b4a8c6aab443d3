use Rattle.std.proofs.Common.{◌∙◌, ap, sym, Some}
use Rattle.std.specs.VecDeque.{deque_with_item}
use Rattle.plan_model.specs.Frames.{first_frame}
use Rattle.plan_types.specs.Frames.{frame_of}
use Rattle.call_stacks.specs.Rows.{rows_of, topped}
use Rattle.call_stacks.proofs.EntryLaws.{no_place, front_there, has_front, front_of, frames_found, frames_set, topped_of, with_frames}
use Rattle.call_stacks.proofs.stack.set_top.Goals as goal

pub unreachable-requires : goal.unreachable-requires
unreachable-requires c = no_place c.args.birth c.args.stacks.now.entries c.requires c.in_default.ensures.value

pub unreachable-requires-in_default-front_mut : goal.unreachable-requires-in_default-front_mut
unreachable-requires-in_default-front_mut c =
    front_there c.args.birth c.args.stacks.now.entries c.in-Some.stack.now c.requires c.in-Some.ensures.value c.in_default-front_mut.ensures.variant.1

pub returns-clause-top : goal.returns-clause-top
returns-clause-top c =
    let s = c.in-Some.stack.now in
    ap (λ f. Some (frame_of f)) c.replace.ensures.value
    ∙ front_of s.frames c.in-Some-front_mut.place.now (has_front c.args.birth c.args.stacks.now.entries s c.requires c.in-Some.ensures.value) c.in-Some-front_mut.ensures.value
    ∙ sym (ap first_frame (frames_found c.args.birth c.args.stacks.now.entries s c.in-Some.ensures.value))

pub returns-clause-topped : goal.returns-clause-topped
returns-clause-topped c =
    let s = c.in-Some.stack.now in
    let q = deque_with_item s.frames 0 c.replace.new.dest in
    ap rows_of (c.get_mut.follows.holds (with_frames s q)).0
    ∙ frames_set c.args.birth c.args.stacks.now.entries s q (topped (frame_of c.args.frame)) (topped_of s c.args.frame c.replace.new.dest c.replace.ensures.after) c.in-Some.ensures.value
