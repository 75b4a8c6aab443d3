-- What the rules say of a registry that a reader keeps, they say of the one that the text says.
use Rattle.std.proofs.Common.{◌≡◌, ℕ, suc, ◌<◌, true, false, not, ◌&&◌, ◌||◌, List, [], ◌∷◌, ◌++◌, map, take, drop, Contains, refl, sym, ap, ap₂, ◌∙◌}
use Rattle.std.proofs.Common.{subst, inl, inr}
use Rattle.std.specs.List.{list_all}
use Rattle.std.proofs.lemmas.Bool.{and_parts, cases_Bool, false_from_ne_true}
use Rattle.std.proofs.lemmas.List.{take-map}
use Rattle.uno_model.specs.BuiltIn.{HasBuiltIn}
use Rattle.uno_model.specs.Entities.{Entity}
use Rattle.uno_model.specs.Registry.{IsRising}
use Rattle.uno_model.specs.Sound.{is_namable, is_complete, has_member, is_within_limits, is_type_body, few_modules, short_name, few_params}
use Rattle.uno_model.specs.Uses.{kinds_in, param_counts}
use Rattle.uno_model.proofs.CircleLaws.{all_at}
use Rattle.uno_model.proofs.PlaceLaws.{contains_head, contains_behind}
use Rattle.registry_text_model.specs.EnumValues.{values_are_long}
use Rattle.registry_text_model.specs.Lines.{is_built_in_name, written}
use Rattle.registry_text_model.specs.Rules as r
use Rattle.registry_text_model.specs.Rules.{Rule, number_of, Keeps, AllKeep, KeepsTheRules, BreaksFirst}
use Rattle.registry_text_model.specs.WholeWithinLimits.{is_whole_within_limits, has_few_functions}
use Rattle.registry_reading_model.specs.Changes.{entity_changed}
use Rattle.registry_reading_model.specs.Kept.{limited}
use Rattle.registry_reading_model.proofs.BrokenFirst.{broken_first, items_first, contains_mapped}
use Rattle.registry_reading_model.proofs.BuiltInKeep.{built_in_keeps}
use Rattle.registry_reading_model.proofs.ChangedKinds.{same_as_kept}
use Rattle.registry_reading_model.proofs.Lifted.{lifted, of_built_in_name}
use Rattle.registry_reading_model.proofs.WrittenPlaces.{written_at, place_of_written, contains_written, contains_taken, written_changed}

-- ---- what is not built in

-- what breaks a rule is not built in
pub broken_is_written : (reg : List Entity) (rule : Rule) (e : Entity) → IsRising reg → HasBuiltIn reg → Contains reg e → ¬ Keeps reg rule e
    → is_built_in_name e.name ≡ false
broken_is_written reg rule e rising has there broken =
    false_from_ne_true (is_built_in_name e.name) (λ named. broken (built_in_keeps reg rising has e (of_built_in_name reg rising has e there named) rule))

-- where the written entities of some keep a rule, all of them do
pub all_with_built_in : (reg some : List Entity) (rule : Rule) → IsRising reg → HasBuiltIn reg → ((d : Entity) → Contains some d → Contains reg d)
    → ((d : Entity) → Contains (written some) d → Keeps reg rule d) → (d : Entity) → Contains some d → Keeps reg rule d
all_with_built_in reg some rule rising has among all d there = elim (cases_Bool (is_built_in_name d.name)) [
  | inl named ↦ built_in_keeps reg rising has d (of_built_in_name reg rising has d (among d there) named) rule
  | inr other ↦ all d (contains_written some d there other)
]

pub all_long : (reg : List Entity) → IsRising reg → HasBuiltIn reg → list_all values_are_long (written reg) ≡ true → AllKeep reg r.values
all_long reg rising has long =
    all_with_built_in reg reg r.values rising has (λ d there. there) (λ d there. all_at values_are_long (written reg) d long there)

-- ---- the first rule that is broken

-- the registry with these written entities breaks a rule first by this one of them
pub record BreaksAt (before : List Entity) (entity : Entity) (behind : List Entity) (rule : Rule) : Type 0 where
  pub reg : List Entity
  pub written : written reg ≡ before ++ entity ∷ behind
  pub rising : IsRising reg
  pub built_in : HasBuiltIn reg
  pub first : BreaksFirst reg rule entity

-- of these entities one is that of which k is kept, and by it they break the rule first
abbrev pub BrokenBy : List Entity → List Entity → (rule : Rule) → Entity → ℕ → Type 0
BrokenBy ks es rule k place =
    (before : List Entity) × (e : Entity) × (behind : List Entity) × (es ≡ before ++ e ∷ behind) × (entity_changed limited e ≡ k)
    × (map (entity_changed limited) before ≡ written (take place ks)) × BreaksAt before e behind rule

broken_in : (reg es : List Entity) (rule : Rule) (k : Entity) → IsRising reg → HasBuiltIn reg → written reg ≡ es
    → (number_of r.values < number_of rule → list_all values_are_long es ≡ true)
    → (kept : BreaksFirst (map (entity_changed limited) reg) rule k) → BrokenBy (map (entity_changed limited) reg) es rule k kept.place
broken_in reg es rule k rising has are long kept =
    let found = broken_first reg rule k (λ low. all_long reg rising has (ap (list_all values_are_long) are ∙ long low)) kept in
    let first = found.2 in
    let place = first.place in
    let e = found.0 in
    let other = broken_is_written reg rule e rising has (place, first.within, first.there) first.broken in
    let split = written_at reg place e first.within first.there other in
    let before = written (take place reg) in (
      before,
      e,
      written (drop (suc place) reg),
      sym are ∙ split,
      found.1,
      sym (written_changed limited (take place reg)) ∙ ap written (sym (take-map (entity_changed limited) place reg))
          ∙ ap (λ n. written (take n (map (entity_changed limited) reg))) found.3,
      record { reg = reg; written = split; rising = rising; built_in = has; first = first },
    )

-- where what is kept of entities breaks a rule first, they break it first by the entity of which that one is kept
pub broken_kept : (ks es : List Entity) (rule : Rule) (k : Entity) → IsRising ks → HasBuiltIn ks → written ks ≡ map (entity_changed limited) es
    → (number_of r.values < number_of rule → list_all values_are_long es ≡ true) → (kept : BreaksFirst ks rule k) → BrokenBy ks es rule k kept.place
broken_kept ks es rule k rising has same long =
    let made = lifted ks es rising has same in
    subst (λ xs. (kept : BreaksFirst xs rule k) → BrokenBy xs es rule k kept.place) made.1 (broken_in made.0 es rule k made.3 made.4 made.2 long)

-- where an item is not long, and all lesser rules are kept in what is kept, the rule on items is broken first by the first entity with such an item
pub items_kept : (ks before behind : List Entity) (e : Entity) → IsRising ks → HasBuiltIn ks
    → written ks ≡ map (entity_changed limited) (before ++ e ∷ behind)
    → list_all values_are_long before ≡ true → values_are_long e ≡ false → ((lesser : Rule) → number_of lesser < number_of r.values → AllKeep ks lesser)
    → BreaksAt before e behind r.values
items_kept ks before behind e rising has same long short least =
    let made = lifted ks (before ++ e ∷ behind) rising has same in
    let reg = made.0 in
    let found = place_of_written reg before behind e made.2 in
    let lesser_kept : (lesser : Rule) → number_of lesser < number_of r.values → AllKeep (map (entity_changed limited) reg) lesser =
    λ lesser low. subst (λ xs. AllKeep xs lesser) (sym made.1) (least lesser low) in
    let first_long : (d : Entity) → Contains (take found.0 reg) d → values_are_long d ≡ true =
    all_with_built_in reg (take found.0 reg) r.values made.3 made.4 (λ d there. contains_taken found.0 reg d there)
    (λ d there. all_at values_are_long before d long (subst (λ ds. Contains ds d) found.3 there)) in
    record {
      reg = reg;
      written = made.2;
      rising = made.3;
      built_in = made.4;
      first = items_first reg found.0 e found.1 found.2 short lesser_kept first_long;
    }

-- ---- all rules kept

namable_of_whole : (reg : List Entity) (e : Entity) → is_whole_within_limits reg e ≡ true → list_all is_namable (kinds_in e.body) ≡ true
unfolding is_whole_within_limits
namable_of_whole reg e whole =
    let both = and_parts (is_complete e && has_member reg e) (is_within_limits e && has_few_functions reg e) whole in
    let limits = and_parts (is_within_limits e) (has_few_functions reg e) both.1 in
    let parts = and_parts (few_modules e.name && (not (is_type_body e.body) || short_name e.name))
    (list_all is_namable (kinds_in e.body) && list_all few_params (param_counts e.body)) limits.0 in
    (and_parts (list_all is_namable (kinds_in e.body)) (list_all few_params (param_counts e.body)) parts.1).0

each_stays : (f : Entity → Entity) (es : List Entity) → ((e : Entity) → Contains es e → f e ≡ e) → map f es ≡ es
each_stays f [] stays = refl
each_stays f (e ∷ es) stays = ap₂ (λ x xs. x ∷ xs) (stays e (contains_head e es)) (each_stays f es (λ d there. stays d (contains_behind e es d there)))

-- a registry of long items of which what is kept keeps the rules is what is kept of it
pub keeps_all : (reg : List Entity) → AllKeep reg r.values → KeepsTheRules (map (entity_changed limited) reg)
    → (map (entity_changed limited) reg ≡ reg) × KeepsTheRules reg
keeps_all reg long keeps =
    let changed = entity_changed limited in
    let stays : (e : Entity) → Contains reg e → changed e ≡ e =
    λ e there.
    same_as_kept e (namable_of_whole (map changed reg) (changed e) (keeps.each r.whole (changed e) (contains_mapped changed reg e there)))
    (keeps.each r.constant_values (changed e) (contains_mapped changed reg e there)) (long e there) in
    let same = each_stays changed reg stays in
    (same, subst KeepsTheRules same keeps)

-- what is kept of entities with long items is what they say, where it keeps the rules
pub kept_is_said : (ks es : List Entity) → IsRising ks → HasBuiltIn ks → written ks ≡ map (entity_changed limited) es
    → list_all values_are_long es ≡ true → KeepsTheRules ks
    → written ks ≡ es
kept_is_said ks es rising has same long keeps =
    let made = lifted ks es rising has same in
    let all = keeps_all made.0 (all_long made.0 made.3 made.4 (ap (list_all values_are_long) made.2 ∙ long)) (subst KeepsTheRules (sym made.1) keeps) in
    ap written (sym made.1 ∙ all.0) ∙ made.2
