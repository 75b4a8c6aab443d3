use Rattle.std.proofs.Common.{ap, ◌∙◌}
use Rattle.uno_model.specs.Kinds as kd
use Rattle.registry_reading.proofs.KindLemmas.{no_sequence, one_sequence_more}
use Rattle.registry_reading.proofs.kind.sequences.Goals as goal

pub loop-init : goal.loop-init
loop-init c = no_sequence _

pub loop-preserved : goal.loop-preserved
loop-preserved c = one_sequence_more _ _ _ (c.in_ok-kind.ensures ∙ ap kd.sequence c.loop.invariant)
