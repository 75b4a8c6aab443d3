-- From a struct or an exception without a member to its base: it has none either.
use Rattle.std.proofs.Common.{◌≡◌, refl, sym, ap, subst, ◌∙◌, ℕ, ◌<◌, Bool, true, false, not, List, length, get_or, set, Some, arith}
use Rattle.std.proofs.lemmas.List.{length-map}
use Rattle.std.proofs.lemmas.Option.{slice_get-get_or}
use Rattle.uno_model.specs.Circles.{HasNoCircle}
use Rattle.uno_model.specs.Entities as plain
use Rattle.uno_model.specs.Registry.{IsRising, find_entity, leads_to}
use Rattle.uno_model.specs.Sound.{has_member}
use Rattle.uno_model.proofs.PlaceLaws.{named_there}
use Rattle.uno_entities.specs.Entities.{body_of, entities_of, entity_of}
use Rattle.uno_entities.specs.declared.entity.Entity.{Entity}
use Rattle.uno_entities.proofs.SpreadLemmas.{entity_at}
use Rattle.rules_over_bases.specs.Climbing.{IsCarrierAt, bases_in, needs_base}
use Rattle.rules_over_bases.specs.Known.{KeepsAt}
use Rattle.rules_over_bases.proofs.ClimbLemmas.{as_its_base, known_one_more, own_suffices}
use Rattle.rules_over_bases.proofs.FirstLemmas.{body_read}
use Rattle.whole_entities.specs.Bare.{KnownBare}

-- what is marked has no member
pub bare_at : (reg : List plain.Entity) (bare : List Bool) (at : ℕ) (d : Bool) → KnownBare reg bare → at < length reg → get_or bare at d ≡ true → KeepsAt (has_member reg) reg at false
bare_at reg bare at d known within is e there =
    let marked = slice_get-get_or bare at d (let long = known.one_each in omega (arith, within, long)) ∙ ap (λ b. Some b) is in
    turned (has_member reg e) (known.passes at marked e there)
  where
    turned : (b : Bool) → true ≡ not b → false ≡ b
    turned true is = let bad : true ≡ false = is in absurd cc
    turned false is = refl

pub more_bare : (reg : List plain.Entity) (bare : List Bool) (at : ℕ) → KnownBare reg bare → KeepsAt (has_member reg) reg at false → KnownBare reg (set bare at true)
more_bare reg bare at known none = known_one_more (λ e. not (has_member reg e)) reg bare at known (λ e there. ap not (none e there))

-- without a member it needs a base
lacking_needs : (reg : List plain.Entity) (e : plain.Entity) → HasNoCircle (leads_to reg) → find_entity e.name reg ≡ Some e → false ≡ has_member reg e → needs_base e.body ≡ true
lacking_needs reg e no_circle found none = by_body (needs_base e.body) refl
  where
    by_body : (b : Bool) → needs_base e.body ≡ b → b ≡ true
    by_body true is = refl
    by_body false is = let bad : true ≡ false = own_suffices reg e no_circle found is ∙ sym none in absurd cc

-- and its base has none
pub bare_on : (es : List Entity) (at base : ℕ) (d : Entity) → IsRising (entities_of es) → HasNoCircle (leads_to (entities_of es)) → at < length es
    → KeepsAt (has_member (entities_of es)) (entities_of es) at false → IsCarrierAt (entities_of es) (bases_in (body_of (get_or es at d).body)) base
    → (base < length es) × KeepsAt (has_member (entities_of es)) (entities_of es) base false
bare_on es at base d rising no_circle within none carrier =
    let reg = entities_of es in
    let long = length-map es entity_of in
    let e = entity_at reg at (omega (arith, within, long)) in
    let found = named_there reg at e.0 rising e.1 in
    let needs = lacking_needs reg e.0 no_circle found (none e.0 e.1) in
    let carrier_e = subst (λ b. IsCarrierAt reg (bases_in b) base) (body_read es at d within e.0 e.1) carrier in (
      omega (arith, carrier.there.within, long),
      λ f there. none e.0 e.1 ∙ as_its_base reg e.0 f base no_circle found needs carrier_e there,
    )
