use Rattle.registry_reading.proofs.ReadLemmas.{begun, handed_on, line_refused, one_line_on, on_done, on_refused, whole, end_refused}
use Rattle.registry_reading.proofs.read.read_entities.Goals as goal

pub loop-line-init : goal.loop-line-init
loop-line-init c = begun _ _ _ _ c.requires.first c.in_ok-reader.ensures.state c.in_ok-reader.ensures.read

pub returns-in_err-reader-2-clause-refused : goal.returns-in_err-reader-2-clause-refused
returns-in_err-reader-2-clause-refused c =
    handed_on _ _ _ c.from_residual-in_err-reader-2.ensures.1
    (line_refused _ _ _ _ _ _ _ c.loop-line.invariant c.in-Some.ensures.0 c.in-Some.ensures.1 _ c.in_err-reader-2.ensures.refused)

pub loop-line-preserved : goal.loop-line-preserved
loop-line-preserved c = one_line_on _ _ _ _ _ _ _ _ c.loop-line.invariant c.in-Some.ensures.0 c.in_ok-reader-2.ensures.next c.in_ok-reader-2.ensures.read

pub returns-clause-whole : goal.returns-clause-whole
returns-clause-whole c =
    on_done _ _ _ (λ reg done. whole _ _ _ _ _ reg c.loop-line.invariant c.requires.heads done.0 done.1 done.2 done.3) c.finished.ensures.done

pub returns-clause-refused : goal.returns-clause-refused
returns-clause-refused c = on_refused _ _ _ (λ e is. end_refused _ _ _ _ _ c.loop-line.invariant c.in_default.ensures e is) c.finished.ensures.refused
