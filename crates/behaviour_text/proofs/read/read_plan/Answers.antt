use Rattle.std.proofs.Common.{sym, ◌∙◌}
use Rattle.behaviour_text.proofs.ReadLemmas.{reads_so}
use Rattle.behaviour_text.proofs.VerdictLemmas.{large_front, plan_read, refusal_read, wrong_front, right_front, rest_within}
use Rattle.behaviour_text.proofs.read.read_plan.Goals as goal

pub returns-then-bytes-gt-MOST_BYTES-clause-refused : goal.returns-then-bytes-gt-MOST_BYTES-clause-refused
returns-then-bytes-gt-MOST_BYTES-clause-refused c = refusal_read _ _ _ c.requires (large_front _ _ c.if-bytes-gt-MOST_BYTES.true)

pub returns-then-not-begins_plan-clause-refused : goal.returns-then-not-begins_plan-clause-refused
returns-then-not-begins_plan-clause-refused c =
    refusal_read _ _ _ c.requires
    (wrong_front _ _ c.split_line.result.0.now c.split_line.result.1.now c.if-bytes-gt-MOST_BYTES.false c.split_line.ensures.lines
    (sym c.begins_plan.ensures ∙ c.if-not-begins_plan.true))

pub read_lines-requires-clause-within : goal.read_lines-requires-clause-within
read_lines-requires-clause-within c =
    rest_within c.args.bytes.now c.split_line.result.0.now c.split_line.result.1.now c.if-bytes-gt-MOST_BYTES.false c.split_line.ensures.less
    c.split_line.ensures.none (sym c.begins_plan.ensures ∙ c.if-not-begins_plan.false)

pub returns-clause-text : goal.returns-clause-text
returns-clause-text c =
    plan_read _ _ _ c.requires
    (reads_so _ _ _
    (right_front c.args.registry.now c.args.bytes.now c.split_line.result.0.now c.split_line.result.1.now c.if-bytes-gt-MOST_BYTES.false
    c.split_line.ensures.lines c.split_line.ensures.none (sym c.begins_plan.ensures ∙ c.if-not-begins_plan.false))
    c.read_lines.ensures)

pub returns-clause-refused : goal.returns-clause-refused
returns-clause-refused c =
    refusal_read _ _ _ c.requires
    (reads_so _ _ _
    (right_front c.args.registry.now c.args.bytes.now c.split_line.result.0.now c.split_line.result.1.now c.if-bytes-gt-MOST_BYTES.false
    c.split_line.ensures.lines c.split_line.ensures.none (sym c.begins_plan.ensures ∙ c.if-not-begins_plan.false))
    c.read_lines.ensures)
