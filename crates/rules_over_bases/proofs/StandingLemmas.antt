-- Bases that are not optional, and the entity at a place.
use Rattle.std.proofs.Common.{◌≡◌, ℕ, ◌<◌, Bool, true, false, ◌&&◌, List, [], ◌∷◌, length, map, get_or, Some, refl, sym, ap, subst, ◌∙◌, arith}
use Rattle.std.specs.Prelude.{slice_get}
use Rattle.std.specs.List.{list_all}
use Rattle.std.proofs.lemmas.List.{length-map}
use Rattle.uno_model.specs.Registry.{mandatory_bases, stands_on_body}
use Rattle.uno_entities.specs.Entities.{base_of, entities_of, entity_of}
use Rattle.uno_entities.specs.declared.entity.Base.{Base}
use Rattle.uno_entities.specs.declared.entity.Entity.{Entity}
use Rattle.rules_over_bases.specs.Standing.{IsOnlyBase, IsStanding, IsWithin}
use Rattle.rules_over_bases.specs.declared.standing.Standing.{Standing}
use Rattle.rules_over_bases.specs.declared.standing.Standing.TheVariants.{OnNone, OnOne, Otherwise}
use Rattle.rules_over_bases.proofs.FirstLemmas.{entity_read}

-- an optional base is none
one_optional : (base : Base) (behind : List Base) → base.optional ≡ true → mandatory_bases (map base_of (base ∷ behind)) ≡ mandatory_bases (map base_of behind)
one_optional base behind optional = rw optional refl

pub optional_first : (rest behind : List Base) (base : Base) → rest ≡ base ∷ behind → base.optional ≡ true → mandatory_bases (map base_of rest) ≡ mandatory_bases (map base_of behind)
optional_first rest behind base parts optional = ap (λ bs. mandatory_bases (map base_of bs)) parts ∙ one_optional base behind optional

pub required_first : (rest behind : List Base) (base : Base) → rest ≡ base ∷ behind → mandatory_bases (map base_of rest) ≡ mandatory_bases (base_of base ∷ map base_of behind)
required_first rest behind base parts = ap (λ bs. mandatory_bases (map base_of bs)) parts

pub no_bases : (rest : List Base) → length rest ≡ 0 → mandatory_bases (map base_of rest) ≡ []
no_bases [] none = refl
no_bases (b ∷ bs) none = absurd (omega (arith, none))

all_parts : (first rest : Bool) → (first && rest) ≡ true → (first ≡ true) × (rest ≡ true)
all_parts true true all = (refl, refl)
all_parts true false all = let bad : false ≡ true = all in absurd cc
all_parts false rest all = let bad : false ≡ true = all in absurd cc

others_optional : (bases : List Base) → list_all (λ b. b.optional) bases ≡ true → mandatory_bases (map base_of bases) ≡ []
others_optional [] all = refl
others_optional (b ∷ bases) all =
    let parts = all_parts b.optional (list_all (λ x. x.optional) bases) all in
    one_optional b bases parts.0 ∙ others_optional bases parts.1

-- where all others are optional there is but one
pub first_alone : (base : Base) (behind : List Base) → base.optional ≡ false → list_all (λ b. b.optional) behind ≡ true
    → mandatory_bases (base_of base ∷ map base_of behind) ≡ base.name ∷ []
first_alone base behind required others = rw required (ap (λ bs. base.name ∷ bs) (others_optional behind others))

-- the one alone is a place
pub standing_within : (es : List Entity) (bases : List (List ℕ)) (standing : Standing) (count : ℕ) → IsStanding (entities_of es) bases standing → count ≡ length es
    → IsWithin count standing
standing_within es bases OnNone count is same = tt
standing_within es bases (OnOne place) count is same = omega (arith, is.there.within, length-map es entity_of, same)
standing_within es bases Otherwise count is same = tt

-- what the entity that was read stands on alone
pub only_at : (es : List Entity) (place base : ℕ) (d : Entity) → place < length es → d ≡ get_or es place d
    → IsOnlyBase (entities_of es) (stands_on_body (Some (entity_of d))) base → IsOnlyBase (entities_of es) (stands_on_body (slice_get (entities_of es) place)) base
only_at es place base d within is only =
    subst (λ o. IsOnlyBase (entities_of es) (stands_on_body o) base) (ap (λ x. Some (entity_of x)) is ∙ sym (entity_read es place d within)) only
