use Rattle.clap.specs.Words.{found_of}
use Rattle.command_words.proofs.Orders.{refused_order, accepted, some_ordered, none_ordered}
use Rattle.command_words.proofs.forms.order_by.Goals as goal

pub returns-in_err-numbers : goal.returns-in_err-numbers
returns-in_err-numbers c = refused_order c.args.name _ c.from_residual.result c.in_err-numbers.field-0.0 c.from_residual.ensures c.in_err-numbers.ensures

pub matches_of-requires : goal.matches_of-requires
matches_of-requires c = accepted c.args.name _ _ c.in_ok-numbers.ensures

pub returns-in-Some : goal.returns-in-Some
returns-in-Some c = some_ordered c.args.name _ _ (found_of c.in_ok-matches.matches) c.form_of.result c.in_ok-numbers.ensures c.in_ok-matches.ensures.shows _ c.in-Some.ensures c.form_of.ensures

pub returns : goal.returns
returns c = none_ordered c.args.name _ _ (found_of c.in_ok-matches.matches) c.form_of-in-None.result c.in_ok-numbers.ensures c.in_ok-matches.ensures.shows c.in-None.ensures c.form_of-in-None.ensures
