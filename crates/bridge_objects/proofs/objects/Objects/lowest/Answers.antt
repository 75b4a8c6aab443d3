use Rattle.std.proofs.Common.{◌∙◌}
use Rattle.uno_values.specs.Values.{plain_of}
use Rattle.bridge_objects.proofs.Seen.{lowest_seen}
use Rattle.bridge_objects.proofs.objects.Objects.lowest.Goals as goal

pub returns : goal.returns
returns c = c.lowest.ensures.lowest ∙ lowest_seen plain_of c.self.inside.prefix c.self.inside.first c.self.inside.environment c.self.inside.stubs c.self.inside.store c.args.self.now c.self.view_is c.lowest.ensures.rises c.self.invariant
