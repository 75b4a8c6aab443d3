use Rattle.std.proofs.Common.{rules}
use Rattle.idl_repeated_names.proofs.ChainLemmas.{base_there, no_base}
use Rattle.uno_entities.specs.Entities.{entity_of}
use Rattle.idl_repeated_names.proofs.chain.base_of.Goals as goal

pub returns-in-Some : goal.returns-in-Some
returns-in-Some c =
    base_there c.args.registry.now c.args.name.now (entity_of c.in-Some.entity.now) c.base_in.result c.in-Some.ensures.found c.base_in.ensures

pub returns-in-None : goal.returns-in-None
returns-in-None c =
    no_base c.args.registry.now c.args.name.now (search rules)
