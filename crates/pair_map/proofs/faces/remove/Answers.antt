use Rattle.std.proofs.Common.{None}
use Rattle.pair_map.proofs.Updates.{changes_face}
use Rattle.pair_map.proofs.faces.remove.Goals as goal

pub returns-clause-without : goal.returns-clause-without
returns-clause-without g c = changes_face c.args.face.now c.args.faces.now c.swap_remove.new.self None c.swap_remove.ensures.updates
