use Rattle.std.proofs.Common.{◌≡◌, length, ap, ◌∙◌, arith}
use Rattle.uno_entities.proofs.InnermostLemmas.{length_innermost}
use Rattle.uno_entities.specs.TypeNames.{kind_of, front_of}
use Rattle.uno_entities.proofs.type_name.TypeName.name_len.Goals as goal

pub returns : goal.returns
returns c =
    let front = ap length (c.front.ensures ∙ ap front_of c.innermost.ensures) in
    omega (arith, length_innermost (kind_of c.args.self.now), front, c.nesting.ensures, c.saturating_mul.ensures, c.saturating_add.ensures)
