use Rattle.uno_entities.specs.TypeNames.{kind_of}
use Rattle.literal_reading.proofs.ReadLemmas.{read_found, read_only}
use Rattle.literal_reading.proofs.read.read_value.Goals as goal

pub returns-clause-found : goal.returns-clause-found
returns-clause-found c = read_found c.args.registry.now (kind_of c.args.kind.now) c.args.text.now c.read_text.result c.requires c.read_text.ensures

pub returns-clause-only : goal.returns-clause-only
returns-clause-only c = read_only c.args.registry.now (kind_of c.args.kind.now) c.args.text.now c.read_text.result c.requires c.read_text.ensures
