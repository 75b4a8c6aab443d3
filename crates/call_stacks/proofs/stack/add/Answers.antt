use Rattle.std.proofs.Common.{◌∙◌, ap}
use Rattle.call_stacks.specs.Rows.{rows_of}
use Rattle.call_stacks.proofs.EntryLaws.{added}
use Rattle.call_stacks.proofs.stack.add.Goals as goal

pub returns-clause-added : goal.returns-clause-added
returns-clause-added c = ap rows_of c.in_ok-insert.ensures.entries ∙ added 0 c.args.birth c.args.stack c.args.stacks.now.entries c.requires
