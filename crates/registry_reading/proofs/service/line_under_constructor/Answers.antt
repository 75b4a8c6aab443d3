use Rattle.std.proofs.Common.{refl}
use Rattle.registry_reading.proofs.LastLemmas.{none_left, last_taken}
use Rattle.registry_reading.proofs.service.line_under_constructor.Goals as goal

pub returns-in-Some : goal.returns-in-Some
returns-in-Some c = last_taken _ _ _ _ _ _ _ c.args.constructors.now.ok.0 (c.in-Some.ensures.variant.0 refl) c.in-Some.ensures.value c.push_line.ensures

pub returns-in-None : goal.returns-in-None
returns-in-None c = none_left _ _ _ _ c.args.constructors.now.ok.0 c.in-None.ensures.variant.1
