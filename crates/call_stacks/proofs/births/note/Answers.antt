use Rattle.std.proofs.Common.{Some, cond, ◌∙◌, ap}
use Rattle.std.specs.Str.{bytes_eq}
use Rattle.call_stacks.specs.Births.{birth_at}
use Rattle.call_stacks.proofs.BirthLaws.{birth_updates}
use Rattle.call_stacks.proofs.births.note.Goals as goal

pub returns-clause-noted : goal.returns-clause-noted
returns-clause-noted c = λ q.
    birth_updates c.args.births.now c.insert.new.self c.in_ok-key.key.items (Some c.args.birth) c.in_ok-insert.ensures.updates q
    ∙ ap (λ tid. cond (bytes_eq tid q) (Some c.args.birth) (birth_at q c.args.births.now)) (c.in_ok-key.ensures.items ∙ c.as_bytes.ensures)
