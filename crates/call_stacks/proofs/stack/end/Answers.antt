use Rattle.std.proofs.Common.{◌∙◌, ap, sym}
use Rattle.plan_model.specs.Frames.{first_frame}
use Rattle.call_stacks.specs.Rows.{rows_of}
use Rattle.call_stacks.proofs.EntryLaws.{missing, taken, frames_found, top_popped}
use Rattle.call_stacks.proofs.stack.end.Goals as goal

pub unreachable-requires : goal.unreachable-requires
unreachable-requires c = missing c.args.birth c.args.stacks.now.entries c.requires (sym c.in_default.is ∙ c.remove.ensures.value)

pub returns-clause-top : goal.returns-clause-top
returns-clause-top c =
    top_popped c.in-Some.stack.frames c.pop_front.new.self c.pop_front.result c.pop_front.ensures.items c.pop_front.ensures.variant.1
    ∙ sym (ap first_frame (frames_found c.args.birth c.args.stacks.now.entries c.in-Some.stack c.in-Some.ensures.value))

pub returns-clause-ended : goal.returns-clause-ended
returns-clause-ended c = ap rows_of c.remove.ensures.entries ∙ taken c.args.birth c.args.stacks.now.entries
