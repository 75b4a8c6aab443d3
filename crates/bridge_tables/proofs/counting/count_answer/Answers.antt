use Rattle.std.proofs.Common.{ap, ◌∙◌, map, option_map}
use Rattle.message_model.specs.Sayable.{result_of}
use Rattle.type_registry.specs.Functions.{lent_function}
use Rattle.uno_values.specs.Values.{plain_of, plains_of}
use Rattle.urp_message.specs.Messages.{answer_of}
use Rattle.urp_model.specs.Namings.{namings, namings_each}
use Rattle.bridge_tables.specs.Counted.{counted, carried_by}
use Rattle.bridge_tables.specs.declared.counting.Phase.TheVariants.{Reply}
use Rattle.bridge_tables.proofs.CountLemmas.{counted_on, on_ok, answer_counted}
use Rattle.bridge_tables.proofs.counting.count_answer.Goals as goal

pub returns-in_ok-count_result-in-Returned-clause-counted : goal.returns-in_ok-count_result-in-Returned-clause-counted
returns-in_ok-count_result-in-Returned-clause-counted c =
    on_ok c.count_carried.result
    (λ here.
    counted_on (namings c.args.registry.now (plain_of c.in-Returned.value) (result_of (option_map lent_function c.args.function.now)))
    (namings_each c.args.registry.now (plains_of c.in-Returned.outs.items) (carried_by Reply (option_map lent_function c.args.function.now))) c.args.objects.now c.count_result.new.objects c.count_carried.new.objects
    c.in_ok-count_result-in-Returned.ensures.counted
    (here ∙ ap (λ xs. counted (namings_each c.args.registry.now (plains_of xs) (carried_by Reply (option_map lent_function c.args.function.now))) c.count_result.new.objects) c.deref.ensures.value)
    ∙ answer_counted c.args.registry.now (option_map lent_function c.args.function.now) (plain_of c.in-Returned.value) (map plain_of c.in-Returned.outs.items) (answer_of c.args.answer.now) c.args.objects.now (ap answer_of c.in-Returned.is))
    c.count_carried.ensures.counted
