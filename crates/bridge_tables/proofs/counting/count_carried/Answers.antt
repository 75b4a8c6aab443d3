use Rattle.std.proofs.Common.{ap, option_map}
use Rattle.type_registry.specs.Functions.{lent_function}
use Rattle.uno_values.specs.Values.{plains_of}
use Rattle.bridge_tables.proofs.CountLemmas.{none_carried}
use Rattle.bridge_tables.proofs.counting.count_carried.Goals as goal

pub returns-in-None-clause-counted : goal.returns-in-None-clause-counted
returns-in-None-clause-counted c =
    none_carried c.args.registry.now c.args.phase (option_map lent_function c.args.function.now) (plains_of c.args.values.now) c.args.objects.now (ap (option_map lent_function) c.in-None.is)
