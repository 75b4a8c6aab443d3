use Rattle.std.proofs.Common.{◌≡◌, [], ◌∷◌, subst, sym}
use Rattle.std.specs.Prelude.{IfSome}
use Rattle.idl_repeated_names.proofs.WayLemmas.{only_so}
use Rattle.uno_entities.specs.Entities.{entities_of, entity_of}
use Rattle.uno_model.specs.Registry.{IsRising, stands_on_body}
use Rattle.idl_repeated_names.proofs.bases.only_stand.Goals as goal

pub standing_of-requires : goal.standing_of-requires
standing_of-requires c = subst IsRising (sym c.entities-entities.ensures.all) c.entities-entities.ensures.rising

pub returns : goal.returns
returns c =
    subst (λ o. IfSome c.name_at.result (λ base. stands_on_body o ≡ base.now ∷ [])) (sym c.in-Some.ensures.found)
    (only_so (entities_of c.entities-entities.result.now) c.in-OnOne.place _ c.name_at.result c.in-OnOne.ensures c.name_at.ensures)
