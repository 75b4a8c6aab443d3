use Rattle.std.proofs.Common.{ap, map, ◌∙◌}
use Rattle.behaviour.specs.Answers.{raised_of}
use Rattle.uno_entities.specs.TypeNames.{kind_of}
use Rattle.uno_values.specs.References.{ref_of}
use Rattle.uno_values.specs.Values.{plain_of}
use Rattle.bridge_frames.proofs.CallLemmas.{at_ok}
use Rattle.bridge_frames.proofs.EndingLemmas.{refs_raised}
use Rattle.bridge_frames.proofs.ending.gain_exception.Goals as goal

pub returns-clause-gained : goal.returns-clause-gained
returns-clause-gained c =
    at_ok c.gain_below.result
    (λ is. is (raised_of c.args.exception.now)
    (refs_raised (kind_of c.args.exception.now.kind) (plain_of c.args.exception.now.value) (map ref_of c.deref.result.now) (ap (map ref_of) c.deref.ensures.value ∙ c.in_ok-references.ensures)))
    c.gain_below.ensures.gained
