use Rattle.std.proofs.Common.{ap, option_map}
use Rattle.uno_entities.specs.Entities.{field_of}
use Rattle.registry_reading.proofs.FieldLemmas.{method_read, no_method}
use Rattle.registry_reading.proofs.interface.method.Goals as goal

pub returns-in-Some : goal.returns-in-Some
returns-in-Some c = method_read _ _ _ _ _ _ c.in_ok-name.ensures (ap (option_map field_of) c.in-Some.is) c.new_method.ensures

pub returns-in-None : goal.returns-in-None
returns-in-None c = no_method _ _ _ c.in_ok-name.ensures (ap (option_map field_of) c.in-None.is)
