use Rattle.std.proofs.Common.{map, ◌∙◌}
use Rattle.bridge_tables.specs.Roots.{root_of}
use Rattle.bridge_tables.proofs.ProxyCounts.{counted_standing, counted_ended}
use Rattle.bridge_tables.proofs.tables.Tables.counts.Goals.{then-self, else-self}
use Rattle.bridge_tables.proofs.tables.Tables.counts.Goals as goal

pub returns-clause-proxies : goal.returns-clause-proxies
returns-clause-proxies c = λ g of.
    elim c.if-self.branch [
      | then-self w ↦
          counted_standing g c.self.inside.objects c.self.inside.unsaid c.self.inside.stands (map root_of c.self.inside.roots.items) c.self.inside.frames_made c.args.self.now c.self.view_is c.self.inside.proxies
          c.self.inside.unsaid.kept c.if-self.proxies of c.self.invariant (w.proxies-is ∙ w.kept.ensures) w.if-self.true
      | else-self w ↦
          counted_ended g c.self.inside.objects c.self.inside.unsaid c.self.inside.stands (map root_of c.self.inside.roots.items) c.self.inside.frames_made c.args.self.now c.self.view_is c.if-self.proxies w.proxies-is
          w.if-self.false
    ]
