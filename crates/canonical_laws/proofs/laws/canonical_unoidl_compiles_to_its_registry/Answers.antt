use Rattle.canonical_laws.proofs.Compiled.{compiles}
use Rattle.canonical_laws.proofs.laws.canonical_unoidl_compiles_to_its_registry.Goals as goal

pub returns : goal.returns
returns c = compiles
