use Rattle.std.proofs.Common.{◌∙◌, arith}
use Rattle.uno_model.specs.Names.{reserved_words}
use Rattle.uno_entities.proofs.WordLemmas.{among_words}
use Rattle.uno_entities.proofs.identifier.is_reserved.Goals as goal

pub returns : goal.returns
returns c =
    c.is_among.ensures
    ∙ among_words c.args.name.now c.as_bytes.result.now _ c.reserved_with.result.now reserved_words c.as_bytes.ensures.value (omega (arith, c.in-len1-up.len_at_least))
    c.reserved_with.ensures
