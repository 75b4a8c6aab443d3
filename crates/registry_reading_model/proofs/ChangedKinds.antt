-- The types and the numbers of an entity that is changed.
use Rattle.std.proofs.Common.{◌≡◌, Bool, true, List, ◌++◌, map, refl, sym, ap, ap₂, ◌∙◌}
use Rattle.std.specs.List.{list_all}
use Rattle.std.proofs.lemmas.List.{map-append}
use Rattle.uno_model.specs.Entities.{Field, Param, Member, attribute, method, Constant, Constructor, Part, face, subservice, property}
use Rattle.uno_model.specs.Entities.{Body, interface, struct, exception, constants, new_service, old_service}
use Rattle.uno_model.specs.Entities.{Entity}
use Rattle.uno_model.specs.Kinds.{Kind}
use Rattle.uno_model.specs.Sound.{is_namable}
use Rattle.uno_model.specs.Uses.{value_kinds_of, result_kinds_of, property_kinds, value_kinds, result_kinds, target_kinds, kinds_in}
use Rattle.registry_text_model.specs.ConstantValues.{is_in_range, body_is_in_range, constants_are_in_range}
use Rattle.registry_text_model.specs.EnumValues.{values_are_long}
use Rattle.registry_reading_model.specs.Changes.{Change, field_changed, param_changed, member_changed, constant_changed, constructor_changed}
use Rattle.registry_reading_model.specs.Changes.{part_changed, body_changed, entity_changed}
use Rattle.registry_reading_model.specs.Kept.{cut, clamped, limited}
use Rattle.registry_reading_model.proofs.CutLaws.{cut_alike, cut_namable}
use Rattle.registry_reading_model.proofs.Mapped.{all_mapped, map_mapped, flat_changed}
use Rattle.registry_reading_model.proofs.RangeLaws.{range_clamped}
use Rattle.registry_reading_model.proofs.SameWithin.{same_within}

module _ (c : Change) where
  fields_kinds : (fs : List Field) → map (λ f. f.kind) (map (field_changed c) fs) ≡ map c.kind (map (λ f. f.kind) fs)
  fields_kinds fs =
      map_mapped (field_changed c) (λ (f : Field). f.kind) (λ f. c.kind f.kind) (λ f. refl) fs
      ∙ sym (map_mapped (λ (f : Field). f.kind) c.kind (λ f. c.kind f.kind) (λ f. refl) fs)

  params_kinds : (ps : List Param) → map (λ p. p.kind) (map (param_changed c) ps) ≡ map c.kind (map (λ p. p.kind) ps)
  params_kinds ps =
      map_mapped (param_changed c) (λ (p : Param). p.kind) (λ p. c.kind p.kind) (λ p. refl) ps
      ∙ sym (map_mapped (λ (p : Param). p.kind) c.kind (λ p. c.kind p.kind) (λ p. refl) ps)

  constants_kinds : (cs : List Constant) → map (λ k. k.kind) (map (constant_changed c) cs) ≡ map c.kind (map (λ k. k.kind) cs)
  constants_kinds cs =
      map_mapped (constant_changed c) (λ (k : Constant). k.kind) (λ k. c.kind k.kind) (λ k. refl) cs
      ∙ sym (map_mapped (λ (k : Constant). k.kind) c.kind (λ k. c.kind k.kind) (λ k. refl) cs)

  member_values : (m : Member) → value_kinds_of (member_changed c m) ≡ map c.kind (value_kinds_of m)
  member_values (attribute a) = refl
  member_values (method m) = params_kinds m.params

  member_results : (m : Member) → result_kinds_of (member_changed c m) ≡ map c.kind (result_kinds_of m)
  member_results (attribute a) = refl
  member_results (method m) = refl

  part_kinds : (p : Part) → property_kinds (part_changed c p) ≡ map c.kind (property_kinds p)
  part_kinds (face optional name) = refl
  part_kinds (subservice optional name) = refl
  part_kinds (property name flags k) = refl

  pub value_kinds_changed : (b : Body) → value_kinds (body_changed c b) ≡ map c.kind (value_kinds b)
  value_kinds_changed (interface bases members) = flat_changed (member_changed c) value_kinds_of value_kinds_of c.kind member_values members
  value_kinds_changed (struct base members) = fields_kinds members
  value_kinds_changed (exception base members) = fields_kinds members
  value_kinds_changed (constants cs) = constants_kinds cs
  value_kinds_changed (new_service base constructors) =
      flat_changed (constructor_changed c) (λ (k : Constructor). map (λ (p : Field). p.kind) k.params)
      (λ (k : Constructor). map (λ (p : Field). p.kind) k.params) c.kind
      (λ k. fields_kinds k.params) constructors
  value_kinds_changed (old_service parts) = flat_changed (part_changed c) property_kinds property_kinds c.kind part_kinds parts
  value_kinds_changed _ = refl

  pub result_kinds_changed : (b : Body) → result_kinds (body_changed c b) ≡ map c.kind (result_kinds b)
  result_kinds_changed (interface bases members) = flat_changed (member_changed c) result_kinds_of result_kinds_of c.kind member_results members
  result_kinds_changed _ = refl

  pub target_kinds_changed : (b : Body) → target_kinds (body_changed c b) ≡ map c.kind (target_kinds b)
  target_kinds_changed (interface bases members) = refl
  target_kinds_changed _ = refl

  pub all_kinds_changed : (b : Body) → kinds_in (body_changed c b) ≡ map c.kind (kinds_in b)
  all_kinds_changed b =
      ap₂ (λ xs ys. xs ++ ys) (value_kinds_changed b)
      (ap₂ (λ xs ys. xs ++ ys) (result_kinds_changed b) (target_kinds_changed b) ∙ sym (map-append c.kind (result_kinds b) (target_kinds b)))
      ∙ sym (map-append c.kind (value_kinds b) (result_kinds b ++ target_kinds b))

-- ---- what a reader keeps

-- a test that passes for what is cut as for the whole
module _ (test : Kind → Bool) (other : Kind → Bool) (alike : (k : Kind) → test (cut k) ≡ other k) where
  pub values_pass : (b : Body) → list_all test (value_kinds (body_changed limited b)) ≡ list_all other (value_kinds b)
  values_pass b = ap (list_all test) (value_kinds_changed limited b) ∙ all_mapped cut test other alike (value_kinds b)

  pub results_pass : (b : Body) → list_all test (result_kinds (body_changed limited b)) ≡ list_all other (result_kinds b)
  results_pass b = ap (list_all test) (result_kinds_changed limited b) ∙ all_mapped cut test other alike (result_kinds b)

  pub targets_pass : (b : Body) → list_all test (target_kinds (body_changed limited b)) ≡ list_all other (target_kinds b)
  targets_pass b = ap (list_all test) (target_kinds_changed limited b) ∙ all_mapped cut test other alike (target_kinds b)

  pub kinds_pass : (b : Body) → list_all test (kinds_in (body_changed limited b)) ≡ list_all other (kinds_in b)
  kinds_pass b = ap (list_all test) (all_kinds_changed limited b) ∙ all_mapped cut test other alike (kinds_in b)

pub namable_alike : (b : Body) → list_all is_namable (kinds_in (body_changed limited b)) ≡ list_all is_namable (kinds_in b)
namable_alike b = kinds_pass is_namable is_namable cut_namable b

constant_alike : (c : Constant) → is_in_range (cut c.kind) (clamped c.number) ≡ is_in_range c.kind c.number
constant_alike c = cut_alike (λ k. is_in_range k (clamped c.number)) (λ k. refl) c.kind ∙ range_clamped c.kind c.number

in_range_alike : (b : Body) → body_is_in_range (body_changed limited b) ≡ body_is_in_range b
in_range_alike (constants cs) =
    all_mapped (constant_changed limited) (λ c. is_in_range c.kind c.number) (λ c. is_in_range c.kind c.number) constant_alike cs
in_range_alike _ = refl

pub constants_alike : (e : Entity) → constants_are_in_range (entity_changed limited e) ≡ constants_are_in_range e
unfolding constants_are_in_range
constants_alike e = in_range_alike e.body

-- what is kept of an entity shows as well whether it is within the limits
pub same_as_kept : (e : Entity) → list_all is_namable (kinds_in (entity_changed limited e).body) ≡ true
    → constants_are_in_range (entity_changed limited e) ≡ true
    → values_are_long e ≡ true → entity_changed limited e ≡ e
same_as_kept e namable within long = same_within e (sym (namable_alike e.body) ∙ namable) (sym (constants_alike e) ∙ within) long
