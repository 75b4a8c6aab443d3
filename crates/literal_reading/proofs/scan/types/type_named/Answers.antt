use Rattle.literal_reading.proofs.ScanLemmas.{found_type}
use Rattle.literal_reading.proofs.scan.types.type_named.Goals as goal

pub returns : goal.returns
returns c = found_type c.args.registry.now c.args.name.now c.type_named.result c.requires.named c.type_named.ensures
