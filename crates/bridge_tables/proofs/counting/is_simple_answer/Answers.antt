use Rattle.std.proofs.Common.{sym, ap, ◌∙◌, map}
use Rattle.std.specs.Vec.{vec_len}
use Rattle.uno_values.specs.Values.{plain_of}
use Rattle.urp_message.specs.Messages.{answer_of}
use Rattle.bridge_tables.proofs.CountLemmas.{none_mapped, result_alone}
use Rattle.bridge_tables.proofs.counting.is_simple_answer.Goals as goal

pub returns : goal.returns
returns c = λ simple.
    result_alone (answer_of c.args.answer.now) (plain_of c.in-Returned.value) (map plain_of c.in-Returned.outs.items) (ap answer_of c.in-Returned.is)
    (none_mapped plain_of c.in-Returned.outs.items (vec_len c.in-Returned.outs) c.in-Returned.outs.ok.0 (sym c.is_empty.ensures ∙ c.if-not-is_empty.false)) (c.is_simple.ensures simple)
