use Rattle.std.proofs.Common.{sym, ap, ◌∙◌}
use Rattle.idl_text_model.specs.Readings.{directive_at}
use Rattle.idl_lex.proofs.RunLemmas.{at_hash, at_none}
use Rattle.idl_lex.proofs.run.behind_line_start.Goals as goal

pub returns-then-not-begins : goal.returns-then-not-begins
returns-then-not-begins c =
    sym (at_none c.split_run.result.1.now (sym c.begins.ensures.is ∙ c.if-not-begins.true)) ∙ ap (λ x. (directive_at x).1) c.split_run.ensures.rest

pub returns : goal.returns
returns c =
    c.split_run-2.ensures.rest
    ∙ (sym (at_hash c.split_run.result.1.now (sym c.begins.ensures.is ∙ c.if-not-begins.false)) ∙ ap (λ x. (directive_at x).1) c.split_run.ensures.rest)
