-- The second and the eleventh rule are broken at the same places among entities whose types are cut and whose numbers are others.
use Rattle.std.proofs.Common.{◌≡◌, refl, sym, ap, ap₂, ◌∙◌, ℕ, zero, suc, Bool, not, ◌&&◌, ◌||◌, nat_le, List, [], ◌∷◌, ◌++◌, length, map, Option, None, Some, option_map, if◌then◌else◌}
use Rattle.std.proofs.lemmas.List.{length-map}
use Rattle.std.proofs.lemmas.List.Elements.{filter_agree}
use Rattle.std.specs.List.{filter, list_any}
use Rattle.std.specs.Str.{bytes_eq}
use Rattle.uno_model.specs.Entities.{Body, Entity, Field, struct, typedef}
use Rattle.uno_model.specs.Kinds.{Kind}
use Rattle.uno_model.specs.Registry.{all_members, at_most_one, contained, find_entity}
use Rattle.uno_model.specs.Sound.{is_complete, is_exception, is_some_list, is_struct, is_there, is_within_limits}
use Rattle.registry_text_model.specs.NoCircles.{is_typedef, led_on, leads_on, leads_on_to, names_in, typedefs_in}
use Rattle.registry_text_model.specs.WholeWithinLimits.{is_whole_within_limits}
use Rattle.registry_reading_model.specs.Changes.{Change, body_changed, entity_changed, field_changed}
use Rattle.registry_reading_model.specs.Kept.{cut, limited}
use Rattle.registry_reading_model.proofs.ChangedBodies.{led_to_changed, typedef_seen}
use Rattle.registry_reading_model.proofs.ChangedRegistries.{all_changed, all_members_named, find_changed, functions_counted, there_changed}
use Rattle.registry_reading_model.proofs.CutLaws.{cut_alike}
use Rattle.registry_reading_model.proofs.Mapped.{some_mapped}
use Rattle.idl_meaning_model.specs.Declarations.{Declared, all_valued, full_name, valued_in}
use Rattle.idl_meaning_model.specs.Meaning.{entity_meant}
use Rattle.idl_rules_model.specs.Circles.{comes_to, entity_comes_back, on_circles, value_comes_back}
use Rattle.idl_rules_model.specs.WherePaths.{failing}
use Rattle.idl_rules_model.specs.Whole.{past_limits}

-- ---- what is whole, where types and numbers are changed in any way

whole_in : (c : Change) (reg : List Entity) (e : Entity) → is_whole_within_limits (all_changed c reg) e ≡ is_whole_within_limits reg e
unfolding is_whole_within_limits
whole_in c reg e =
    let some : is_some_list (all_members (all_changed c reg) e.name) ≡ is_some_list (all_members reg e.name) =
    sym (some_mapped (λ (f : Field). f.name) (all_members (all_changed c reg) e.name)) ∙ ap is_some_list (all_members_named c reg e.name) ∙ some_mapped (λ (f : Field). f.name) (all_members reg e.name) in
    ap₂ (λ a b. (is_complete e && a) && (is_within_limits e && b)) (ap (λ a. (not (is_struct e.body || is_exception e.body)) || a) some) (ap (λ n. nat_le n 65536) (functions_counted c reg e.name))

pub past_alike : (ds : List Declared) (c : Change) (reg : List Entity) (d : Declared) → past_limits ds (all_changed c reg) d ≡ past_limits ds reg d
unfolding past_limits
past_alike ds c reg d = ap (λ b. map (λ (e : Declared). e.name.place) (if not b then d ∷ [] else [])) (whole_in c reg (entity_meant ds d))

-- ---- circles, where types are cut

module _ (c : Change) (cuts : (k : Kind) → c.kind k ≡ cut k) where
  fields_cut : (fs : List Field) → map (field_changed c) fs ≡ map (field_changed limited) fs
  fields_cut [] = refl
  fields_cut (f ∷ fs) = ap₂ (λ k rest. record { name = f.name; kind = k } ∷ rest) (cuts f.kind) (fields_cut fs)

  led_on_cut : (reg : List Entity) (b : Body) → led_on (all_changed c reg) (body_changed c b) ≡ led_on reg b
  led_on_cut reg (typedef k) =
      ap (typedefs_in (all_changed c reg)) (cuts k) ∙ ap (filter (is_there (all_changed c reg) is_typedef)) (cut_alike names_in (λ j. refl) k)
      ∙ filter_agree (is_there (all_changed c reg) is_typedef) (is_there reg is_typedef) (λ name. there_changed c is_typedef (typedef_seen c) reg name) (names_in k)
  led_on_cut reg (struct base members) = ap (λ fs. at_most_one base ++ contained fs) (fields_cut members) ∙ led_to_changed (struct base members)
  led_on_cut reg _ = refl

  leads_on_cut : (reg : List Entity) (o : Option Entity) → leads_on (all_changed c reg) (option_map (entity_changed c) o) ≡ leads_on reg o
  leads_on_cut reg None = refl
  leads_on_cut reg (Some e) = led_on_cut reg e.body

  leads_cut : (reg : List Entity) (name : List ℕ) → leads_on_to (all_changed c reg) name ≡ leads_on_to reg name
  unfolding leads_on_to
  leads_cut reg name = ap (leads_on (all_changed c reg)) (find_changed c name reg) ∙ leads_on_cut reg (find_entity name reg)

  any_same : {X : Type 0} (f g : X → Bool) (xs : List X) → ((x : X) → f x ≡ g x) → list_any f xs ≡ list_any g xs
  any_same f g [] same = refl
  any_same f g (x ∷ xs) same = ap₂ (λ a b. a || b) (same x) (any_same f g xs same)

  comes_same : (reg : List Entity) (wanted : List ℕ → Bool) (steps : ℕ) (name : List ℕ) → comes_to (leads_on_to (all_changed c reg)) wanted steps name ≡ comes_to (leads_on_to reg) wanted steps name
  unfolding comes_to
  comes_same reg wanted zero name = refl
  comes_same reg wanted (suc steps) name =
      ap (list_any (λ b. wanted b || comes_to (leads_on_to (all_changed c reg)) wanted steps b)) (leads_cut reg name)
      ∙ any_same (λ b. wanted b || comes_to (leads_on_to (all_changed c reg)) wanted steps b) (λ b. wanted b || comes_to (leads_on_to reg) wanted steps b) (leads_on_to reg name)
      (λ b. ap (λ t. wanted b || t) (comes_same reg wanted steps b))

  back_same : (reg : List Entity) (name : List ℕ) → entity_comes_back (all_changed c reg) name ≡ entity_comes_back reg name
  unfolding entity_comes_back
  back_same reg name = ap (λ n. comes_to (leads_on_to (all_changed c reg)) (bytes_eq name) n name) (length-map reg (entity_changed c)) ∙ comes_same reg (bytes_eq name) (length reg) name

  pub circles_alike : (ds : List Declared) (reg : List Entity) (d : Declared) → on_circles ds (all_changed c reg) d ≡ on_circles ds reg d
  unfolding on_circles
  circles_alike ds reg d =
      ap (λ b. map (λ (e : Declared). e.name.place) (if not (not b) then d ∷ [] else []) ++ failing (λ v. not (value_comes_back (all_valued ds) v)) (λ v. v.name.place) (valued_in d d.body))
      (back_same reg (full_name d))
