use Rattle.std.proofs.Common.{◌∙◌, ap, sym}
use Rattle.plan_types.specs.Frames.{frame_of}
use Rattle.call_stacks.specs.Rows.{rows_of, one_more}
use Rattle.call_stacks.proofs.EntryLaws.{missing, frames_set, more_of, same_of, written_same, with_frames, at_err}
use Rattle.call_stacks.proofs.stack.push.Goals as goal

pub unreachable-requires : goal.unreachable-requires
unreachable-requires c = missing c.args.birth c.args.stacks.now.entries c.requires c.in_default.ensures.value

pub returns-in_err-push_front-clause-kept : goal.returns-in_err-push_front-clause-kept
returns-in_err-push_front-clause-kept c =
    let s = c.in-Some.stack.now in
    let q = c.push_front.new.self in
    at_err c.from_residual.result
    (ap rows_of (c.get_mut.follows.holds (with_frames s q)).0 ∙ written_same c.args.birth c.args.stacks.now.entries s (with_frames s q) (same_of s q c.in_err-push_front.ensures.items) (sym c.in-Some.ensures.value))

pub returns-clause-pushed : goal.returns-clause-pushed
returns-clause-pushed c =
    let s = c.in-Some.stack.now in
    let q = c.push_front.new.self in
    ap rows_of (c.get_mut.follows.holds (with_frames s q)).0
    ∙ frames_set c.args.birth c.args.stacks.now.entries s q (one_more (frame_of c.args.frame)) (more_of s q c.args.frame c.in_ok-push_front.ensures.items) c.in-Some.ensures.value
