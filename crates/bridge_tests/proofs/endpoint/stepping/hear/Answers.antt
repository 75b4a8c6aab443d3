use Rattle.behaviour.specs.Roots.{run_of}
use Rattle.bridge_core.proofs.OtherLemmas.{fed_stays}
use Rattle.bridge_tests.proofs.endpoint.stepping.hear.Goals as goal

pub go_on-requires : goal.go_on-requires
go_on-requires g c = fed_stays c.feed-fed.result c.args.end.now c.feed-fed.new.self _ c.feed-fed.ensures.entered (run_of c.args.root.now) c.requires
