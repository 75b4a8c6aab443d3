-- The first rule that is broken, and the first entity that breaks it, are the same in a registry and in what a reader keeps of it.
use Rattle.std.proofs.Common.{◌≡◌, ◌≢◌, pos, if◌then◌else◌, ℕ, ◌<◌, Bool, true, false, List, [], ◌∷◌, map, take, length, get_or, Contains, refl, sym}
use Rattle.std.proofs.Common.{ap, ◌∙◌, subst, arith, ◌⊎◌, inl, inr}
use Rattle.std.specs.List.{list_all}
use Rattle.std.proofs.lemmas.Bool.{both_ways}
use Rattle.std.proofs.lemmas.List.{length-map, get_or-map, take-map, get_or_default}
use Rattle.uno_model.specs.Entities.{Entity}
use Rattle.uno_model.specs.Entities.{Body, enum}
use Rattle.uno_model.specs.Entities.{Item}
use Rattle.registry_text_model.specs.EnumValues.{is_long, items_are_long, values_are_long}
use Rattle.registry_text_model.specs.Rules as r
use Rattle.registry_text_model.specs.Rules.{Rule, number_of, Keeps, AllKeep, BreaksFirst}
use Rattle.registry_reading_model.specs.Changes.{entity_changed, body_changed, item_changed}
use Rattle.registry_reading_model.specs.Kept.{limited, long_or_zero}
use Rattle.registry_reading_model.proofs.LimitedKeeps.{limited_keeps}
use Rattle.registry_reading_model.proofs.Mapped.{all_mapped}

-- ---- the rule on items

asks_items : Rule → Bool
asks_items r.values = true
asks_items _ = false

-- it is that rule, or another one
pub items_or_other : (rule : Rule) → (rule ≡ r.values) ⊎ (rule ≢ r.values)
unfolding asks_items
items_or_other r.values = inl refl
items_or_other r.bases = inr (λ same. both_ways false refl (ap asks_items same))
items_or_other r.circles = inr (λ same. both_ways false refl (ap asks_items same))
items_or_other r.names = inr (λ same. both_ways false refl (ap asks_items same))
items_or_other r.one_way = inr (λ same. both_ways false refl (ap asks_items same))
items_or_other r.raised = inr (λ same. both_ways false refl (ap asks_items same))
items_or_other r.constant_values = inr (λ same. both_ways false refl (ap asks_items same))
items_or_other r.services = inr (λ same. both_ways false refl (ap asks_items same))
items_or_other r.singletons = inr (λ same. both_ways false refl (ap asks_items same))
items_or_other r.types = inr (λ same. both_ways false refl (ap asks_items same))
items_or_other r.whole = inr (λ same. both_ways false refl (ap asks_items same))

item_is_long : (i : Item) → is_long (long_or_zero i.number) ≡ true
unfolding long_or_zero
item_is_long i = by_test (is_long i.number) refl
  where
    by_test : (b : Bool) → is_long i.number ≡ b → is_long (if is_long i.number then i.number else pos 0) ≡ true
    by_test true long = rw long long
    by_test false other = rw other refl

-- in what is kept it is never broken
pub kept_is_long : (e : Entity) → values_are_long (entity_changed limited e) ≡ true
unfolding values_are_long
kept_is_long e = of_body e.body
  where
    of_body : (b : Body) → items_are_long (body_changed limited b) ≡ true
    of_body (enum items) = all_mapped (item_changed limited) (λ i. is_long i.number) (λ i. true) item_is_long items ∙ all_true items
      where
        all_true : (is : List Item) → list_all (λ i. true) is ≡ true
        all_true [] = refl
        all_true (i ∷ is) = all_true is
    of_body _ = refl

-- ---- all that a registry has

pub contains_mapped : {X Y : Type 0} (f : X → Y) (xs : List X) (x : X) → Contains xs x → Contains (map f xs) (f x)
contains_mapped f xs x (i, low, is) = (i, omega (arith, low, length-map xs f), get_or-map f xs i x (f x) low ∙ ap f is)

-- a rule that all keep in what is kept, all keep
pub all_keep_back : (reg : List Entity) (rule : Rule) → (rule ≡ r.values → AllKeep reg r.values) → AllKeep (map (entity_changed limited) reg) rule
    → AllKeep reg rule
all_keep_back reg rule long all = elim (items_or_other rule) [
  | inl is ↦ subst (AllKeep reg) (sym is) (long is)
  | inr other ↦ λ d there. (limited_keeps reg rule d other).0 (all (entity_changed limited d) (contains_mapped (entity_changed limited) reg d there))
]

lesser_is_other : (rule least : Rule) → number_of rule < number_of least → rule ≡ least → ⊥
lesser_is_other rule least low same = let equal : number_of rule ≡ number_of least = ap number_of same in omega (arith, low, equal)

-- ---- the first that is broken

pub broken_first : (reg : List Entity) (rule : Rule) (k : Entity) → (number_of r.values < number_of rule → AllKeep reg r.values)
    → (kept : BreaksFirst (map (entity_changed limited) reg) rule k)
    → (e : Entity) × (entity_changed limited e ≡ k) × (broken : BreaksFirst reg rule e) × (broken.place ≡ kept.place)
broken_first reg rule k long kept =
    let changed = entity_changed limited in
    let place = kept.place in
    let within : place < length reg = omega (arith, kept.within, length-map reg changed) in
    let e = get_or reg place k in
    let is_kept : changed e ≡ k = sym (get_or-map changed reg place k k within) ∙ kept.there in
    let other : rule ≢ r.values = λ is. kept.broken
    (subst (λ x. Keeps (map changed reg) rule x) is_kept (subst (λ x. Keeps (map changed reg) x (changed e)) (sym is) (kept_is_long e))) in (
      e,
      is_kept,
      record {
        place = place;
        within = within;
        there = get_or_default reg place e k within;
        broken = λ keeps. kept.broken (subst (λ x. Keeps (map changed reg) rule x) is_kept ((limited_keeps reg rule e other).1 keeps));
        least = λ lesser low. all_keep_back reg lesser (λ is. long (subst (λ x. number_of x < number_of rule) is low)) (kept.least lesser low);
        first =
            λ d there. (limited_keeps reg rule d other).0
            (kept.first (changed d)
            (subst (λ xs. Contains xs (changed d)) (sym (take-map changed place reg)) (contains_mapped changed (take place reg) d there)));
      },
      refl,
    )

-- the rule on items is the first that is broken where all lesser ones are kept in what is kept
pub items_first : (reg : List Entity) (place : ℕ) (e : Entity) → place < length reg → get_or reg place e ≡ e → values_are_long e ≡ false
    → ((lesser : Rule) → number_of lesser < number_of r.values → AllKeep (map (entity_changed limited) reg) lesser)
    → ((d : Entity) → Contains (take place reg) d → values_are_long d ≡ true) → BreaksFirst reg r.values e
items_first reg place e within there short least before =
    record {
      place = place;
      within = within;
      there = there;
      broken = λ long. both_ways (values_are_long e) short long;
      least = λ lesser low. all_keep_back reg lesser (λ is. absurd (lesser_is_other lesser r.values low is)) (least lesser low);
      first = before;
    }
