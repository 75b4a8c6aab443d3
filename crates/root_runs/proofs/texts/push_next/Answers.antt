use Rattle.std.proofs.Common.{sym, ◌∙◌, map, string_bytes}
use Rattle.type_registry.specs.Functions.{lent_param}
use Rattle.uno_values.specs.Values.{plain_of}
use Rattle.root_runs.proofs.TextLemmas.{lacks_one, passed_over, written}
use Rattle.root_runs.proofs.texts.push_next.Goals as goal

pub returns-then-not-comes : goal.returns-then-not-comes
returns-then-not-comes c = λ ps. passed_over c.args.registry.now (lent_param c.args.param) ps (map plain_of c.args.left.now) (string_bytes c.args.text.now) (sym c.comes.ensures ∙ c.if-not-comes.true)

pub returns-in_default : goal.returns-in_default
returns-in_default c = λ ps. lacks_one c.args.registry.now (lent_param c.args.param) ps c.args.left.now (string_bytes c.args.text.now) c.in_default.ensures.cases

pub returns : goal.returns
returns c =
    λ ps. written c.args.registry.now (lent_param c.args.param) ps c.args.left.now c.in-Some.behind.now c.in-Some.value.now (string_bytes c.args.text.now) (string_bytes c.push_out.new.text)
    (sym c.comes.ensures ∙ c.if-not-comes.false) c.in-Some.ensures.cases.0 c.in_ok-push_out.ensures
