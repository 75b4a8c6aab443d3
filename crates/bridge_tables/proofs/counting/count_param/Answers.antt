use Rattle.std.proofs.Common.{◌++◌, sym, ◌∙◌, ap, option_map}
use Rattle.message_model.specs.Calls.{kinds_on}
use Rattle.type_registry.specs.Functions.{lent_param}
use Rattle.uno_values.specs.Values.{plain_of, plains_of}
use Rattle.urp_model.specs.Namings.{namings_each}
use Rattle.bridge_tables.specs.Counted.{counted, carries, one_or_none}
use Rattle.bridge_tables.proofs.CountLemmas.{param_counted}
use Rattle.bridge_tables.proofs.counting.count_param.Goals as goal

pub returns-clause-counted : goal.returns-clause-counted
returns-clause-counted c = λ ps.
    param_counted c.args.registry.now c.args.phase (lent_param c.in-Some.param) ps (plain_of c.in-Some-split_first.value.now) (plains_of c.in-Some-split_first.rest.now) (plains_of c.args.values.now)
    c.args.objects.now c.count_value.new.objects (ap plains_of c.in-Some-split_first.ensures.cases.0) (sym c.carries.ensures ∙ c.if-not-carries.false) c.in_ok-count_value.ensures.counted
    ∙ ap (λ o. counted (namings_each c.args.registry.now (plains_of c.args.values.now) (kinds_on (carries c.args.phase) (one_or_none (option_map lent_param o) ++ ps))) c.args.objects.now) (sym c.in-Some.is)
