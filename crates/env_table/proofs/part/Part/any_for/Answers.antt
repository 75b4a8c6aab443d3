use Rattle.env_table.proofs.Parts.{any_held}
use Rattle.env_table.proofs.part.Part.any_for.Goals as goal

pub returns : goal.returns
returns c = any_held c.self.inside.pairs c.self.inside.pairs c.args.self.now c.self.view_is c.args.oid.now c.has_oid.result c.has_oid.ensures.rises c.self.invariant c.has_oid.ensures.any
