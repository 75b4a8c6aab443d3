use Rattle.std.proofs.Common.{◌∙◌, ap, option_map}
use Rattle.plan_model.specs.Frames as plain
use Rattle.call_stacks.specs.Rows.{stack_of}
use Rattle.call_stacks.proofs.EntryLaws.{found}
use Rattle.call_stacks.proofs.stack.tid.Goals as goal

pub returns-in_default : goal.returns-in_default
returns-in_default c = ap (λ o. option_map (λ (s : plain.Stack). s.tid) (option_map stack_of o)) c.in_default.ensures.value ∙ ap (option_map (λ s. s.tid)) (found c.args.birth c.args.stacks.now.entries)

pub returns : goal.returns
returns c = ap (λ o. option_map (λ (s : plain.Stack). s.tid) (option_map stack_of o)) c.in-Some.ensures.value ∙ ap (option_map (λ s. s.tid)) (found c.args.birth c.args.stacks.now.entries)
