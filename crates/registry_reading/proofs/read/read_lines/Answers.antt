use Rattle.std.proofs.Common.{sym, ◌∙◌}
use Rattle.registry_reading.proofs.ReadLemmas.{no_first, wrong_first}
use Rattle.registry_reading.proofs.read.read_lines.Goals as goal

pub returns-in_default-clause-refused : goal.returns-in_default-clause-refused
returns-in_default-clause-refused c = no_first _ c.in_default.ensures c.args.heads.now

pub returns-then-not-is_first_line-clause-refused : goal.returns-then-not-is_first_line-clause-refused
returns-then-not-is_first_line-clause-refused c =
    wrong_first _ _ _ c.args.heads.now c.in-Some.ensures.0 c.in-Some.ensures.1 (sym c.is_first_line.ensures ∙ c.if-not-is_first_line.true)
