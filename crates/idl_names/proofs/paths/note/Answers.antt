use Rattle.std.proofs.Common.{◌∙◌, sym, Some}
use Rattle.idl_names.proofs.KeyLaws.{noted}
use Rattle.idl_names.proofs.paths.note.Goals as goal

pub returns-clause-noted : goal.returns-clause-noted
returns-clause-noted c = noted c.args.numbers.now c.insert.new.self (c.args.outer, c.args.name) (Some c.args.number) c.in_ok-insert.ensures.updates

pub returns-clause-marked : goal.returns-clause-marked
returns-clause-marked c = λ other none. let marks = c.mark.ensures other none in (marks.0, λ same. marks.1 (same ∙ sym c.slot_of.ensures))
