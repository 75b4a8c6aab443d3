use Rattle.std.proofs.Common.{◌≡◌, arith, subst}
use Rattle.registry_reading_model.specs.Kinds.{sequences}
use Rattle.uno_entities.specs.TypeNames.{kind_of}
use Rattle.idl_meant.proofs.KindLemmas.{no_sequence, one_sequence_more}
use Rattle.idl_meant.proofs.kinds.sequences.Goals as goal

pub loop-level-init : goal.loop-level-init
loop-level-init c = (no_sequence (kind_of c.args.kind), omega arith)

pub loop-level-preserved : goal.loop-level-preserved
loop-level-preserved c =
    (one_sequence_more (kind_of c.args.kind) (kind_of c.loop-level.made) (kind_of c.in_ok-made.made) c.loop-level.level c.loop-level.invariant.0 c.in_ok-made.ensures, omega (arith, c.loop-level-test.true))

pub returns : goal.returns
returns c =
    let low = c.loop-level.invariant.1 in
    let end : c.loop-level.level ≡ c.args.count = omega (arith, c.loop-level-test.false, low) in
    subst (λ n. kind_of c.loop-level.made ≡ sequences n (kind_of c.args.kind)) end c.loop-level.invariant.0
