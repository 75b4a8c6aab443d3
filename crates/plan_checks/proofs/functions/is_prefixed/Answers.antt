use Rattle.std.proofs.Common.{sym, ap, ◌∙◌, ◌++◌}
use Rattle.std.specs.Str.{bytes_eq}
use Rattle.plan_checks.proofs.FunctionLemmas.{same_behind, no_prefix}
use Rattle.plan_checks.proofs.functions.is_prefixed.Goals as goal

pub returns-in-Some : goal.returns-in-Some
returns-in-Some c =
    c.eq.ensures ∙ ap (bytes_eq c.in-Some.behind.now) c.as_str.ensures ∙ same_behind c.args.prefix.now c.in-Some.behind.now c.args.name.now
    ∙ ap (λ text. bytes_eq text (c.args.prefix.now ++ c.args.name.now)) (sym c.in-Some.ensures)

pub returns-in-None : goal.returns-in-None
returns-in-None c = no_prefix c.args.text.now c.args.prefix.now c.args.name.now c.in-None.ensures
