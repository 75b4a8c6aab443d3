use Rattle.std.proofs.Common.{map, string_bytes}
use Rattle.uno_values.specs.Values.{plain_of}
use Rattle.root_runs.proofs.TextLemmas.{nothing_called}
use Rattle.root_runs.proofs.texts.push_stated.Goals as goal

pub returns-in_default : goal.returns-in_default
returns-in_default c = nothing_called c.args.registry.now c.args.statement.now (map plain_of c.args.outs.now) (string_bytes c.args.text.now) c.in_default.not-Call
