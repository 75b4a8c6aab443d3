use Rattle.std.proofs.Common.{sym, ◌∙◌, ap}
use Rattle.uno_model.specs.Sound.{is_there}
use Rattle.uno_entities.specs.Entities.{entities_of}
use Rattle.uno_entities.specs.TypeNames.{kind_of}
use Rattle.entity_rules.specs.Wanted.{is_wanted}
use Rattle.entity_rules.proofs.KnownLemmas.{none_named, one_named}
use Rattle.entity_rules.proofs.known.kind_known.Goals as goal

pub returns-in_default : goal.returns-in_default
returns-in_default c = none_named (entities_of c.args.entities.now) (kind_of c.args.kind.now) _ c.innermost-innermost.ensures (sym c.kind_wanted.ensures ∙ c.in_default.is)

pub returns : goal.returns
returns c =
    c.is_there.ensures ∙ ap (is_there (entities_of c.args.entities.now) (is_wanted c.in-Some.wanted)) c.front.ensures
    ∙ one_named (entities_of c.args.entities.now) (kind_of c.args.kind.now) _ _ c.innermost-innermost.ensures (sym c.kind_wanted.ensures ∙ c.in-Some.is)
