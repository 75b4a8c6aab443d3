use Rattle.std.proofs.Common.{Some}
use Rattle.idl_values.proofs.LoopLemmas.{noted_at_place}
use Rattle.idl_values.proofs.told.note.Goals as goal

pub returns : goal.returns
returns c = noted_at_place c.args.numbers.now c.insert.new.self c.args.place (Some c.args.number) c.in_ok-insert.ensures.updates
