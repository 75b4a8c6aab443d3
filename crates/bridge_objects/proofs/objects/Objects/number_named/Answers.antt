use Rattle.uno_values.specs.Values.{plain_of}
use Rattle.bridge_objects.proofs.Seen.{named_seen}
use Rattle.bridge_objects.proofs.objects.Objects.number_named.Goals as goal

pub returns : goal.returns
returns c = named_seen plain_of c.self.inside.prefix c.self.inside.first c.self.inside.environment c.self.inside.stubs c.self.inside.store c.args.self.now c.self.view_is c.args.oid.now c.living.result c.living.ensures.is c.living.ensures.lives c.living.ensures.few c.living.ensures.none
