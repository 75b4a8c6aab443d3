use Rattle.std.proofs.Common.{ap, option_map}
use Rattle.uno_entities.specs.Entities.{field_of}
use Rattle.registry_reading.proofs.FieldLemmas.{param_read, no_param}
use Rattle.registry_reading.proofs.interface.param.Goals as goal

pub returns-in-Some-2 : goal.returns-in-Some-2
returns-in-Some-2 c = param_read _ _ _ _ _ _ _ c.in-Some.ensures c.in-Some-way.ensures c.in_ok-name.ensures (ap (option_map field_of) c.in-Some-2.is)

pub returns-in-None : goal.returns-in-None
returns-in-None c = no_param _ _ _ _ _ c.in-Some.ensures c.in-Some-way.ensures c.in_ok-name.ensures (ap (option_map field_of) c.in-None.is)
