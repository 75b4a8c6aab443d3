use Rattle.urp_cache.proofs.Uses.{again_kept}
use Rattle.urp_cache.proofs.send_cache.SendCache.use_again.Goals as goal

pub invariant_of-self : goal.invariant_of-self
invariant_of-self c = again_kept c.args.name.now c.args.self.now c.self.inside.names c.promote.new.self c.self.view_is c.self.invariant c.requires c.promote.ensures.entries
