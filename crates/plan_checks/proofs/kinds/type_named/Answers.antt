use Rattle.literal_reading.proofs.ScanLemmas.{found_type}
use Rattle.plan_checks.proofs.kinds.type_named.Goals as goal

pub returns : goal.returns
returns c = rw (← c.as_str.ensures) (found_type c.args.registry.now _ c.type_named.result c.requires.named c.type_named.ensures)
