use Rattle.behaviour.specs.Roots.{run_of}
use Rattle.bridge_tests.proofs.Opening.{opening_of}
use Rattle.bridge_tests.proofs.endpoint.stepping.put_found.Goals as goal

pub hear_all-over-requires : goal.hear_all-over-requires
hear_all-over-requires g c = opening_of (run_of c.new-root.result) 1 c.expect-instance.result c.new-root.ensures (rw c.expect-instance.ensures at c.of.ensures)
