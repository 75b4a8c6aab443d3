use Rattle.std.proofs.Common.{None, cond, ◌∙◌, ap}
use Rattle.std.specs.Str.{bytes_eq}
use Rattle.call_stacks.specs.Births.{birth_at}
use Rattle.call_stacks.proofs.BirthLaws.{birth_updates}
use Rattle.call_stacks.proofs.births.forget.Goals as goal

pub returns : goal.returns
returns c = λ q.
    birth_updates c.args.births.now c.remove.new.self c.as_bytes.result.now None c.remove.ensures.updates q
    ∙ ap (λ tid. cond (bytes_eq tid q) None (birth_at q c.args.births.now)) c.as_bytes.ensures
