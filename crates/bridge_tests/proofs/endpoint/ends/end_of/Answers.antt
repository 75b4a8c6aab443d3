use Rattle.bridge_tests.proofs.endpoint.ends.end_of.Goals as goal

pub set_up-requires-clause-names : goal.set_up-requires-clause-names
set_up-requires-clause-names g c = c.know_names.ensures _ c.in-Ok.ensures.accepted
