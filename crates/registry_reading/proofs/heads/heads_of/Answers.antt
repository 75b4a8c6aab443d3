use Rattle.registry_reading.proofs.HeadLemmas.{goes_on, all_looked}
use Rattle.registry_reading.proofs.heads.heads_of.Goals as goal

pub loop-line-preserved : goal.loop-line-preserved
loop-line-preserved c =
    goes_on _ _ c.in-Some.line.now c.in-Some.behind.now _ _ _ _ _ c.loop-line.invariant c.in-Some.ensures.0 c.in-Some.ensures.1 c.in_ok-heads.ensures
    c.precedes_header-is_header.ensures

pub returns : goal.returns
returns c = all_looked _ _ _ _ _ _ c.loop-line.invariant c.in_default.ensures c.guessed.ensures
