-- The names of the items that are the first of their numbers.
use Rattle.std.proofs.Common.{◌≡◌, ℕ, ℤ, ◌<◌, ◌≤◌, ◌+◌, Bool, true, false, not, ◌&&◌, ◌||◌, List, [], ◌∷◌, length, drop, get_or, map, Some, refl, sym, ap, ◌∙◌, arith, Bor}
use Rattle.std.specs.List.{list_any}
use Rattle.std.proofs.lemmas.List.{drop_more, drop_all}
use Rattle.std.specs.BTreeSet.{BTreeSet, Updates, contains_by}
use Rattle.std.specs.Ordering.{int_eq}
use Rattle.std.specs.Str.{bytes_eq}
use Rattle.std.proofs.lemmas.Cmp.{int_eq_equiv}
use Rattle.std.proofs.lemmas.Bool.Decides.{Decides-int_eq}
use Rattle.std.proofs.lemmas.Map.Text.{is_eq-slice_cmp}
use Rattle.literal_model.specs.Literals.{first_item}
use Rattle.literal_model.specs.Shapes.{is_first_name, is_some_name}
use Rattle.uno_model.specs.Entities.{Item}
use Rattle.uno_entities.specs.Entities.{item_of}
use Rattle.uno_entities.specs.declared.entity.Item.{Item as Stored}
use Rattle.plan_lines.specs.Index.{by_text, Adds, is_fresh}

-- ---- tests

list_any_same : {X : Type 0} (p q : X → Bool) → ((x : X) → p x ≡ q x) → (xs : List X) → list_any p xs ≡ list_any q xs
list_any_same p q same [] = refl
list_any_same p q same (x ∷ xs) = let rest = list_any_same p q same xs in let first = same x in grind (arith, first, rest)

-- alike numbers make alike names
pub fresh_same : (seen more : ℤ → Bool) → ((n : ℤ) → seen n ≡ more n) → (items : List Item) (w : List ℕ) → is_fresh seen items w ≡ is_fresh more items w
unfolding is_fresh
fresh_same seen more same [] w = refl
fresh_same seen more same (i ∷ items) w =
    let rest = fresh_same (λ n. int_eq n i.number || seen n) (λ n. int_eq n i.number || more n) (λ n. ap (λ b. int_eq n i.number || b) (same n)) items w in
    rw (same i.number, rest) refl

-- an item that is the first of its number, of a number that was not seen
abbrev pub is_new_first : (ℤ → Bool) → List Item → List ℕ → Item → Bool
is_new_first seen items w i = not (seen i.number) && (bytes_eq i.name w && is_some_name (first_item items i.number) w)

-- the other items, behind one
behind_one : (seen : ℤ → Bool) (i : Item) (items : List Item) (w : List ℕ) (j : Item) → (not (seen i.number) && bytes_eq i.name w) ≡ false
    → is_new_first (λ n. int_eq n i.number || seen n) items w j ≡ is_new_first seen (i ∷ items) w j
unfolding first_item
behind_one seen i items w j none = by_number (int_eq j.number i.number) refl
  where
    by_number : (b : Bool) → int_eq j.number i.number ≡ b → is_new_first (λ n. int_eq n i.number || seen n) items w j ≡ is_new_first seen (i ∷ items) w j
    by_number true same =
        let one : j.number ≡ i.number = (Decides-int_eq j.number i.number).0 same in
        let back : int_eq i.number j.number ≡ true = (Decides-int_eq i.number j.number).1 (sym one) in
        let seen_one : seen j.number ≡ seen i.number = ap seen one in
        rw (same, back) (grind (arith, seen_one, none))
    by_number false other =
        let back : int_eq i.number j.number ≡ false = int_eq_equiv.symm i.number j.number ∙ other in
        rw (other, back) refl

first_of_all : (i : Item) (items : List Item) → first_item (i ∷ items) i.number ≡ Some i.name
unfolding first_item
first_of_all i items = let same : int_eq i.number i.number ≡ true = (Decides-int_eq i.number i.number).1 refl in rw same refl

pub fresh_first : (seen : ℤ → Bool) (items : List Item) (w : List ℕ) → is_fresh seen items w ≡ list_any (is_new_first seen items w) items
unfolding is_fresh
fresh_first seen [] w = refl
fresh_first seen (i ∷ items) w = by_first (not (seen i.number) && bytes_eq i.name w) refl (fresh_first (λ n. int_eq n i.number || seen n) items w)
  where
    by_first : (b : Bool) → (not (seen i.number) && bytes_eq i.name w) ≡ b
        → is_fresh (λ n. int_eq n i.number || seen n) items w ≡ list_any (is_new_first (λ n. int_eq n i.number || seen n) items w) items
        → ((not (seen i.number) && bytes_eq i.name w) || is_fresh (λ n. int_eq n i.number || seen n) items w) ≡ list_any (is_new_first seen (i ∷ items) w) (i ∷ items)
    by_first true same rest = let at = first_of_all i items in rw (same, at) (grind (arith, same))
    by_first false none rest =
        let others = list_any_same _ _ (λ j. behind_one seen i items w j none) items in
        let at = first_of_all i items in
        rw (none, rest, others, at) (grind (arith, none))

-- where no number was seen, those are the names that literals have
pub fresh_name : (items : List Item) (w : List ℕ) → is_fresh (λ n. false) items w ≡ is_first_name items w
fresh_name items w = fresh_first (λ n. false) items w ∙ refl

-- ---- sets of names

pub not_seen : (b : Bool) → not b ≡ true → b ≡ false
not_seen true is = absurd cc
not_seen false is = refl

pub name_added : (old new : BTreeSet (Bor (List ℕ))) (name : Bor (List ℕ)) (own : List ℕ) (b : Bool) → Updates by_text old new name true → name.now ≡ own → b ≡ false
    → Adds old new (λ w. not b && bytes_eq own w)
name_added old new name own b updates is fresh q =
    let same = is_eq-slice_cmp name.now q.now in
    let at : bytes_eq name.now q.now ≡ bytes_eq own q.now = ap (λ t. bytes_eq t q.now) is in
    updates.0 q ∙ grind (arith, same, at, fresh)

-- ---- all items of an enum

-- the names so far and those of the items that are left are those before and those of all items
abbrev pub AllItems : BTreeSet (Bor (List ℕ)) → BTreeSet (Bor (List ℕ)) → (ℤ → Bool) → List Item → List Item → Type 0
AllItems names before seen left all = (q : Bor (List ℕ)) → (contains_by (by_text q) names || is_fresh seen left q.now) ≡ (contains_by (by_text q) before || is_fresh (λ n. false) all q.now)

pub items_end : (names before : BTreeSet (Bor (List ℕ))) (seen : ℤ → Bool) (left all : List Item) → left ≡ [] → AllItems names before seen left all → Adds before names (is_first_name all)
unfolding is_fresh
items_end names before seen left all none is q =
    let so_far = is q in
    let at : is_fresh seen left q.now ≡ false = ap (λ xs. is_fresh seen xs q.now) none in
    let name = fresh_name all q.now in
    let out : contains_by (by_text q) names ≡ (contains_by (by_text q) before || is_fresh (λ n. false) all q.now) = grind (arith, so_far, at) in
    out ∙ ap (λ b. contains_by (by_text q) before || b) name

-- the items from one on, and those behind it
pub item_next : (old new before : BTreeSet (Bor (List ℕ))) (seen more : ℤ → Bool) (i : Item) (left items all : List Item) → left ≡ i ∷ items
    → Adds old new (λ w. not (seen i.number) && bytes_eq i.name w) → ((n : ℤ) → more n ≡ (int_eq n i.number || seen n))
    → AllItems old before seen left all → AllItems new before more items all
unfolding is_fresh
item_next old new before seen more i left items all split adds numbers is q =
    let behind = fresh_same more (λ n. int_eq n i.number || seen n) numbers items q.now in
    let added = adds q in
    let so_far = ap (λ xs. contains_by (by_text q) old || is_fresh seen xs q.now) (sym split) ∙ is q in
    rw (added, behind) (grind (arith, so_far))

pub items_more : (items : List Stored) (i : ℕ) (x : Stored) → i < length items → x ≡ get_or items i x → map item_of (drop i items) ≡ item_of x ∷ map item_of (drop (i + 1) items)
items_more items i x within read = ap (map item_of) (drop_more items i x within ∙ ap (λ y. y ∷ drop (i + 1) items) (sym read))

pub items_done : (items : List Stored) (i : ℕ) → length items ≤ i → map item_of (drop i items) ≡ []
items_done items i past = ap (map item_of) (drop_all i items past)
