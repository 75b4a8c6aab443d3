use Rattle.literal_reading.proofs.ScanLemmas.{run_is_text}
use Rattle.literal_reading.proofs.scan.types.as_text.Goals as goal

pub unreachable-requires : goal.unreachable-requires
unreachable-requires c = c.in-Err.ensures.cases.0 (run_is_text c.args.run c.args.bytes.now c.requires)
