-- A value that is light has no length or count of 2 ^ 32 or more: each value but void weighs something.
use Rattle.std.proofs.Common.{◌≡◌, ◌≤◌, Bool, true, false, ◌&&◌, List, [], ◌∷◌, length, refl, sym, ◌∙◌, ap, subst, arith}
use Rattle.std.specs.List.{list_all}
use Rattle.std.proofs.lemmas.Bool.{and_parts}
use Rattle.uno_model.specs.Entities.{Entity}
use Rattle.uno_model.specs.Fits.{Fits, FitEach, FitAll, member_kinds}
use Rattle.uno_model.specs.Kinds.{Kind}
use Rattle.uno_model.specs.Kinds as kd
use Rattle.uno_model.specs.Sound.{IsSound, is_storable, is_some_list, elements_storable, kind_known, is_namable}
use Rattle.uno_model.specs.Types.{is_type, is_formed}
use Rattle.uno_model.specs.Values.{Ref, null, own, peer, Plain, Plains, void, str, kind, any, tuple, list, bytes, ref, none, more}
use Rattle.uno_model.specs.Weights.{kind_weight, ref_weight, count, weight, weights}
use Rattle.urp_model.specs.NamedKinds.{is_simple}
use Rattle.uno_model.proofs.MemberKindLaws.{members_ruled, members_some}
use Rattle.uno_model.proofs.UsedKindLaws.{is_member}
use Rattle.urp_model.proofs.SentLaws.{IsMeasurable, AreMeasurable}
use Rattle.urp_model.proofs.WeightLaws.{compressed_some, simple_weight, named_weight}

-- a type weighs something, and a reference
kind_some : (k : Kind) → 1 ≤ kind_weight k
kind_some k = by_simple (is_simple k) refl
  where
    by_simple : (t : Bool) → is_simple k ≡ t → 1 ≤ kind_weight k
    by_simple true is = omega (arith, simple_weight k is)
    by_simple false is = omega (arith, named_weight k is)

ref_some : (r : Ref) → 1 ≤ ref_weight r
ref_some null = omega arith
ref_some (own oid face) = omega arith
ref_some (peer oid face) = omega arith

-- the elements of a sequence that is a type are storable
element_plain : (reg : List Entity) (t : Kind) → is_type reg (kd.sequence t) ≡ true → is_storable t ≡ true
element_plain reg t is =
    let formed = (and_parts (is_formed reg (kd.sequence t)) (is_namable (kd.sequence t)) is).0 in
    (and_parts (is_storable t) (elements_storable t) (and_parts (kind_known reg t) (is_storable t && elements_storable t) formed).1).0

void_not_plain : (k : Kind) → k ≡ kd.void → is_storable k ≡ true → ⊥
void_not_plain k at is = let bad : false ≡ true = ap is_storable (sym at) ∙ is in absurd cc

module _ (reg : List Entity) (sound : IsSound reg) where
  -- each value of a storable type weighs something
  mutual
    unfolding weight weights Fits FitEach

    value_some : (v : Plain) (k : Kind) → Fits reg v k → is_storable k ≡ true → 1 ≤ weight v
    value_some void k fits is = absurd (void_not_plain k fits is)
    value_some (str s) k fits is = omega (arith, compressed_some (length s))
    value_some (kind t) k fits is = kind_some t
    value_some (any t v) k fits is = omega (arith, kind_some t)
    value_some (tuple name vs) k fits is = first_some vs (member_kinds reg name) fits.2 (members_ruled reg sound name) (members_some reg name k sound fits.0 fits.1)
    value_some (list t vs) k fits is = omega (arith, compressed_some (count vs))
    value_some (bytes b) k fits is = omega (arith, compressed_some (length b))
    value_some (ref r) k fits is = ref_some r
    value_some _ k fits is = omega arith

    first_some : (vs : Plains) (ks : List Kind) → FitEach reg vs ks → list_all (is_member reg) ks ≡ true → is_some_list ks ≡ true → 1 ≤ weights vs
    first_some vs [] fits is some = absurd cc
    first_some none (k ∷ ks) fits is some = absurd fits
    first_some (more v vs) (k ∷ ks) fits is some = omega (arith, value_some v k fits.0 (and_parts (is_storable k) (is_type reg k) (and_parts (is_member reg k) (list_all (is_member reg) ks) is).0).0)

  -- so there are at most as many as they weigh
  all_counted : (vs : Plains) (t : Kind) → FitAll reg vs t → is_storable t ≡ true → count vs ≤ weights vs
  unfolding weights FitAll
  all_counted none t fits is = omega arith
  all_counted (more v vs) t fits is = omega (arith, value_some v t fits.0 is, all_counted vs t fits.1 is)

  mutual
    unfolding weight weights Fits FitEach FitAll IsMeasurable AreMeasurable

    pub light_sized : (v : Plain) (k : Kind) → Fits reg v k → weight v ≤ 16777216 → IsMeasurable v
    light_sized (str s) k fits light = omega arith
    light_sized (any t v) k fits light = light_sized v t fits.3 (omega arith)
    light_sized (tuple name vs) k fits light = each_sized vs (member_kinds reg name) fits.2 light
    light_sized (list t vs) k fits light =
        let counted = all_counted vs t fits.3 (element_plain reg t (subst (λ j. is_type reg j ≡ true) fits.0 fits.2)) in
        (omega arith, all_sized vs t fits.3 (omega arith))
    light_sized (bytes b) k fits light = omega arith
    light_sized _ k fits light = tt

    pub each_sized : (vs : Plains) (ks : List Kind) → FitEach reg vs ks → weights vs ≤ 16777216 → AreMeasurable vs
    each_sized none ks fits light = tt
    each_sized (more v vs) [] fits light = absurd fits
    each_sized (more v vs) (k ∷ ks) fits light = (light_sized v k fits.0 (omega arith), each_sized vs ks fits.1 (omega arith))

    all_sized : (vs : Plains) (t : Kind) → FitAll reg vs t → weights vs ≤ 16777216 → AreMeasurable vs
    all_sized none t fits light = tt
    all_sized (more v vs) t fits light = (light_sized v t fits.0 (omega arith), all_sized vs t fits.1 (omega arith))
