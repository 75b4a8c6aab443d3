use Rattle.pair_map.proofs.Updates.{changes_face}
use Rattle.std.proofs.Common.{Some}
use Rattle.pair_map.proofs.faces.insert.Goals as goal

pub returns-clause-put : goal.returns-clause-put
returns-clause-put g c = changes_face c.args.face c.args.faces.now c.insert.new.self (Some c.args.value) c.in_ok-insert.ensures.updates
