use Rattle.plan_lines.proofs.ClassLemmas.{ascii_is_text}
use Rattle.plan_lines.proofs.class.as_text.Goals as goal

pub unreachable-requires : goal.unreachable-requires
unreachable-requires c = c.in-Err.ensures.cases.0 (ascii_is_text c.args.bytes.now c.requires)
