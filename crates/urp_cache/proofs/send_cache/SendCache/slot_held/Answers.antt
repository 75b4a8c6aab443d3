use Rattle.std.proofs.Common.{◌∙◌}
use Rattle.urp_cache.proofs.Views.{slot_told}
use Rattle.urp_cache.proofs.send_cache.SendCache.slot_held.Goals as goal

pub returns-clause-held : goal.returns-clause-held
returns-clause-held c = slot_told c.args.name.now c.args.self.now c.self.inside.names.entries c.copied.result c.self.view_is (c.copied.ensures ∙ c.peek.ensures)
