use Rattle.std.proofs.Common.{length, sym, ap, ◌∙◌, refl}
use Rattle.std.proofs.lemmas.List.{length-map}
use Rattle.type_registry.proofs.WalkLemmas.{from_start}
use Rattle.type_registry.proofs.numbered.numbered_within.Goals as goal

pub returns-clause-found : goal.returns-clause-found
returns-clause-found c =
    from_start c.args.registry.now c.args.name.now _ _ c.args.number c.walk.result (sym (length-map c.entities.result.now _) ∙ ap length c.entities.ensures.all) refl
    c.walk.ensures.found
