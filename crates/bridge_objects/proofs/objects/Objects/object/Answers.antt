use Rattle.uno_values.specs.Values.{plain_of}
use Rattle.bridge_objects.proofs.Lists.{if_some, if_none}
use Rattle.bridge_objects.proofs.Seen.{behaviour_seen, fields_seen, none_seen}
use Rattle.bridge_objects.proofs.objects.Objects.object.Goals as goal

pub returns-clause-found : goal.returns-clause-found
returns-clause-found c = if_some c.object.result (λ r found. behaviour_seen plain_of c.self.inside.prefix c.self.inside.first c.self.inside.environment c.self.inside.stubs c.self.inside.store c.args.self.now c.self.view_is c.args.number r.0 found) c.object.ensures.found

pub returns-clause-fields : goal.returns-clause-fields
returns-clause-fields c = if_some c.object.result (λ r found. fields_seen plain_of c.self.inside.prefix c.self.inside.first c.self.inside.environment c.self.inside.stubs c.self.inside.store c.args.self.now c.self.view_is c.args.number r.1.now found) c.object.ensures.fields

pub returns-clause-none : goal.returns-clause-none
returns-clause-none c = if_none c.object.result (none_seen plain_of c.self.inside.prefix c.self.inside.first c.self.inside.environment c.self.inside.stubs c.self.inside.store c.args.self.now c.self.view_is c.args.number) c.object.ensures.none
