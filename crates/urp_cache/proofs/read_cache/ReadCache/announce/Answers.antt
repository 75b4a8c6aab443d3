use Rattle.urp_cache.proofs.Tables.{set_means}
use Rattle.urp_cache.proofs.read_cache.ReadCache.announce.Goals as goal

pub returns-clause-means : goal.returns-clause-means
returns-clause-means g c announcements means = set_means g.N.SlotName.bytes c.self.inside.names.items c.args.self.now c.args.slot c.args.name announcements c.self.view_is means
