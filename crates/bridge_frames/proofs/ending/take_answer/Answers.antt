use Rattle.std.proofs.Common.{ap, map, sym, ◌∙◌}
use Rattle.uno_values.specs.References.{ref_of}
use Rattle.urp_message.specs.Messages.{answer_of}
use Rattle.bridge_frames.proofs.CallLemmas.{at_ok}
use Rattle.bridge_frames.proofs.ending.take_answer.Goals as goal

pub returns-clause-taken : goal.returns-clause-taken
returns-clause-taken c =
    at_ok c.take_below.result (λ is. is (answer_of c.args.answer.now) (sym (ap (map ref_of) c.deref.ensures.value ∙ c.in_ok-references.ensures))) c.take_below.ensures.taken
