-- The constants and items of a declaration, by their places in it.
use Rattle.std.proofs.Common.{◌≡◌, refl, sym, ap, subst, ◌∙◌, ℕ, zero, suc, ◌+◌, ◌<◌, ◌≤◌, List, [], ◌∷◌, ◌++◌, map, length, take, get_or, slice_get, Option, None, Some, arith}
use Rattle.std.proofs.lemmas.List.{length-map}
use Rattle.std.proofs.lemmas.Option.{slice_get_read}
use Rattle.idl_entities.proofs.Steps.{next_is, one_put}
use Rattle.idl_entities.specs.Telling.{Telling, items_told, item_told, valued_told}
use Rattle.idl_meaning_model.specs.Declarations.{Declared, Origin, Valued, all_valued, first_item, item_before, items_valued, valued_in, constant_valued}
use Rattle.idl_meaning_model.specs.Meaning as model
use Rattle.idl_model.specs.Trees as tree
use Rattle.registry_reading_model.specs.Changes as changed
use Rattle.uno_entities.specs.Entities.{item_of}
use Rattle.uno_entities.specs.declared.entity.Item.{Item}
use Rattle.uno_model.specs.Entities as uno

-- ---- items

-- the items before a place, as they are told
abbrev pub items_before : Telling → List tree.Item → ℕ → List uno.Item
items_before t items n = map (changed.item_changed t.kept) (map (model.item_meant (all_valued t.all)) (take n (items_valued t.declared first_item items)))

-- one for each item, with its name
pub record IsItemAt (d : Declared) (without : Origin) (items : List tree.Item) (n : ℕ) (item : tree.Item) : Type 0 where
  pub valued : Valued
  pub stands : slice_get (items_valued d without items) n ≡ Some valued
  pub named : valued.name ≡ item.name

pub item_at : (d : Declared) (without : Origin) (items : List tree.Item) (n : ℕ) (item : tree.Item) → slice_get items n ≡ Some item → IsItemAt d without items n item
unfolding items_valued
item_at d without [] n item is = let bad : ⊥ = cc in absurd bad
item_at d without (i ∷ is) zero item at =
    let same : i ≡ item = cc in
    record { valued = _; stands = refl; named = ap (λ (k : tree.Item). k.name) same }
item_at d without (i ∷ is) (suc n) item at =
    let behind = item_at d (item_before i.name.place) is n item at in
    record { valued = behind.valued; stands = behind.stands; named = behind.named }

pub as_many_items : (d : Declared) (without : Origin) (items : List tree.Item) → length (items_valued d without items) ≡ length items
unfolding items_valued
as_many_items d without [] = refl
as_many_items d without (i ∷ is) = ap suc (as_many_items d (item_before i.name.place) is)

-- one more of a list that is told by places
one_more : {V W Z : Type 0} (f : W → Z) (g : V → W) (vs : List V) (n : ℕ) (v : V) → slice_get vs n ≡ Some v
    → map f (map g (take (suc n) vs)) ≡ map f (map g (take n vs)) ++ f (g v) ∷ []
one_more f g [] n v at = let bad : ⊥ = cc in absurd bad
one_more f g (w ∷ vs) zero v at =
    let same : w ≡ v = cc in
    ap (λ k. f (g k) ∷ []) same
one_more f g (w ∷ vs) (suc n) v at = ap (λ k. f (g w) ∷ k) (one_more f g vs n v at)

pub next_item : (t : Telling) (items : List tree.Item) (n : ℕ) (v : Valued) (now new : List uno.Item) → slice_get (items_valued t.declared first_item items) n ≡ Some v
    → now ≡ items_before t items n → new ≡ now ++ item_told t v ∷ [] → new ≡ items_before t items (n + 1)
next_item t items n v now new at so_far put =
    put ∙ ap (λ k. k ++ item_told t v ∷ []) so_far
    ∙ sym (ap (items_before t items) (sym (next_is n))
    ∙ one_more (changed.item_changed t.kept) (model.item_meant (all_valued t.all)) (items_valued t.declared first_item items) n v at)

-- where the declaration is that of an enum, its items stand among what has a value
pub stands_there : (t : Telling) (items : List tree.Item) (n : ℕ) (v : Valued) → tree.enum items ≡ t.declared.body
    → slice_get (items_valued t.declared first_item items) n ≡ Some v → slice_get (valued_told t) n ≡ Some v
stands_there t items n v is at = ap (λ b. slice_get (valued_in t.declared b) n) (sym is) ∙ at

-- ---- constants

mapped_at : {X Y : Type 0} (f : X → Y) (xs : List X) (n : ℕ) (x : X) → slice_get xs n ≡ Some x → slice_get (map f xs) n ≡ Some (f x)
mapped_at f [] n x at = let bad : ⊥ = cc in absurd bad
mapped_at f (y ∷ xs) zero x at =
    let same : y ≡ x = cc in
    ap (λ k. Some (f k)) same
mapped_at f (y ∷ xs) (suc n) x at = mapped_at f xs n x at

pub constant_there : (t : Telling) (cs : List tree.Constant) (n : ℕ) (c : tree.Constant) → tree.constants cs ≡ t.declared.body → slice_get cs n ≡ Some c
    → slice_get (valued_told t) n ≡ Some (constant_valued t.declared c)
constant_there t cs n c is at = ap (λ b. slice_get (valued_in t.declared b) n) (sym is) ∙ mapped_at (constant_valued t.declared) cs n c at

-- ---- in loops

pub item_on : {X : Type 0} (t : Telling) (view : X → tree.Item) (xs : List X) (i place : ℕ) (x : X) (now new : List Item) (one : Item) → tree.enum (map view xs) ≡ t.declared.body
    → place ≡ i → i < length xs → x ≡ get_or xs i x
    → ((v : Valued) → slice_get (valued_told t) place ≡ Some v → v.name.name ≡ (view x).name.name → item_of one ≡ item_told t v)
    → new ≡ now ++ one ∷ [] → map item_of now ≡ items_before t (map view xs) i → map item_of new ≡ items_before t (map view xs) (i + 1)
item_on t view xs i place x now new one is same low read told put so_far =
    let at = mapped_at view xs i x (slice_get_read xs (length xs) i x refl low read) in
    let item = item_at t.declared first_item (map view xs) i (view x) at in
    let stands = subst (λ n. slice_get (valued_told t) n ≡ Some item.valued) (sym same) (stands_there t (map view xs) i item.valued is item.stands) in
    next_item t (map view xs) i item.valued (map item_of now) (map item_of new) item.stands so_far
    (one_put item_of now new one _ put (told item.valued stands (ap (λ (k : tree.Id). k.name) item.named)))

pub constant_read : {X : Type 0} (t : Telling) (view : X → tree.Constant) (xs : List X) (i place : ℕ) (x : X) → tree.constants (map view xs) ≡ t.declared.body
    → place ≡ i → i < length xs → x ≡ get_or xs i x → slice_get (valued_told t) place ≡ Some (constant_valued t.declared (view x))
constant_read t view xs i place x is same low read =
    let at = mapped_at view xs i x (slice_get_read xs (length xs) i x refl low read) in
    subst (λ n. slice_get (valued_told t) n ≡ Some (constant_valued t.declared (view x))) (sym same) (constant_there t (map view xs) i (view x) is at)

take_past : {V : Type 0} (vs : List V) (i : ℕ) → length vs ≤ i → take i vs ≡ vs
take_past [] zero past = refl
take_past [] (suc i) past = refl
take_past (v ∷ vs) zero past = absurd (omega (arith, past))
take_past (v ∷ vs) (suc i) past = ap (λ k. v ∷ k) (take_past vs i (omega (arith, past)))

-- behind the last one all are told
pub all_told : {X : Type 0} (t : Telling) (view : X → tree.Item) (xs : List X) (i : ℕ) (now : List uno.Item) → length xs ≤ i → now ≡ items_before t (map view xs) i
    → now ≡ items_told t (map view xs)
all_told t view xs i now past so_far =
    let items = map view xs in
    let many = as_many_items t.declared first_item items in
    let mapped = length-map xs view in
    so_far
    ∙ ap (λ k. map (changed.item_changed t.kept) (map (model.item_meant (all_valued t.all)) k))
    (take_past (items_valued t.declared first_item items) i (omega (arith, many, mapped, past)))
