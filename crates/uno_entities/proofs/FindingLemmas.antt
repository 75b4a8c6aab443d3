-- What a binary search over entities says of a name.
use Rattle.std.proofs.Common.{◌≡◌, ◌≢◌, ℕ, zero, suc, ◌+◌, ◌<◌, ◌≤◌, List, [], ◌∷◌, ◌++◌, length, take}
use Rattle.std.proofs.Common.{drop, get_or, None, Some, Result, Ok, Err, refl, sym, ap, subst, ◌∙◌, arith}
use Rattle.std.specs.Prelude.{slice_get, insert, IfOk, IfErr}
use Rattle.std.specs.List.Sorted.{IsBinarySearchResult, IsSearchInRange, IsSortedBy}
use Rattle.std.specs.Ordering.{is_lt, ordering_reverse}
use Rattle.std.specs.declared.cmp.Ordering.{Ordering}
use Rattle.std.specs.declared.cmp.Ordering.TheVariants.{Less, Equal, Greater}
use Rattle.std.proofs.lemmas.Cmp.{nat_list_cmp_total}
use Rattle.std.proofs.lemmas.List.{get_or-map, length-map, get_or_default, map-append, take-map, drop-map, take-append-drop}
use Rattle.std.proofs.lemmas.List.Sorted.{searchable_from_sorted}
use Rattle.std.proofs.lemmas.Option.{slice_get-get_or}
use Rattle.uno_model.specs.BuiltIn.{HasBuiltIn}
use Rattle.uno_model.proofs.BuiltInLaws.{built_in_beside}
use Rattle.uno_model.specs.Entities as plain
use Rattle.uno_model.specs.Registry.{IsRising, find_entity, Adds}
use Rattle.uno_model.proofs.FindLaws.{name_cmp, equal_names, found_at, absent_at, rising_at, rising_with}
use Rattle.uno_entities.specs.declared.entity.Entity.{Entity}
use Rattle.uno_entities.specs.Entities.{entity_of, entities_of}
use Rattle.uno_entities.specs.Finding.{IsPlaceOf, IsGapOf}

-- how an entity's name compares with a name
abbrev pub order_of : List ℕ → Entity → Ordering
order_of name e = name_cmp e.name name

-- the plain tree of the entity at a place
plain_at : (es : List Entity) (k : ℕ) (d : Entity) → k < length es → get_or (entities_of es) k (entity_of d) ≡ entity_of (get_or es k d)
plain_at es k d within = get_or-map entity_of es k d (entity_of d) within

-- no name is below the one before it
names_sorted : (es : List Entity) → IsRising (entities_of es) → IsSortedBy (λ a b. is_lt (name_cmp a.name b.name)) es
names_sorted es rising k d low within =
    let next : k + 1 < length es = omega arith in
    let here : k < length es = omega arith in
    let below = rising_at (entities_of es) k (k + 1) (entity_of d) rising (omega arith) (omega (arith, length-map es entity_of)) in
    let names : name_cmp (get_or es k d).name (get_or es (k + 1) d).name ≡ Less =
    ap (λ x. name_cmp x.name (get_or es (k + 1) d).name) (sym (plain_at es k d here))
    ∙ ap (λ x. name_cmp (get_or (entities_of es) k (entity_of d)).name x.name) (sym (plain_at es (k + 1) d next)) ∙ below in
    ap is_lt (nat_list_cmp_total.antisymm (get_or es (k + 1) d).name (get_or es k d).name ∙ ap ordering_reverse names)

-- a place that holds an equal name is the name's
place_of_equal : (es : List Entity) (name : List ℕ) (i : ℕ) → IsRising (entities_of es) → i < length es → ((d : Entity) → order_of name (get_or es i d) ≡ Equal)
    → IsPlaceOf name (entities_of es) i
place_of_equal [] name i rising within holds = absurd (omega arith)
place_of_equal (e ∷ es) name i rising within holds =
    let all = entities_of (e ∷ es) in
    let long : i < length all = omega (arith, length-map (e ∷ es) entity_of) in
    let is : (get_or all i (entity_of e)).name ≡ name =
    ap (λ x. x.name) (plain_at (e ∷ es) i e within) ∙ equal_names (get_or (e ∷ es) i e).name name (holds e) in
    record { within = long; found = found_at name all i (entity_of e) rising long is ∙ sym (slice_get-get_or all i (entity_of e) long) }

-- at every default the entity at a place has one name
name_at : (es : List Entity) (name : List ℕ) (o : Ordering) (k : ℕ) → k < length es → ((d : Entity) → order_of name (get_or es k d) ≡ o) → (d : plain.Entity)
    → name_cmp (get_or (entities_of es) k d).name name ≡ o
name_at [] name o k within each d = absurd (omega arith)
name_at (e ∷ es) name o k within each d =
    let long : k < length (entities_of (e ∷ es)) = omega (arith, length-map (e ∷ es) entity_of) in
    ap (λ x. name_cmp x.name name) (get_or_default (entities_of (e ∷ es)) k d (entity_of e) long ∙ plain_at (e ∷ es) k e within) ∙ each e

-- what a search answers where the name is there
pub placed : (r : Result ℕ ℕ) (es : List Entity) (name : List ℕ) → IsRising (entities_of es) → IsSearchInRange r (length es)
    → IsBinarySearchResult (order_of name) es r
    → IfOk r (IsPlaceOf name (entities_of es))
placed (Ok i) es name rising within holds = place_of_equal es name i rising within holds
placed (Err i) es name rising within holds = tt

-- and where it is not
pub parted : (r : Result ℕ ℕ) (es : List Entity) (name : List ℕ) → IsRising (entities_of es) → IsSearchInRange r (length es)
    → IsBinarySearchResult (order_of name) es r
    → IfErr r (IsGapOf name (entities_of es))
parted (Ok i) es name rising within holds = tt
parted (Err i) es name rising within holds =
    let parts = holds (searchable_from_sorted nat_list_cmp_total (λ (e : Entity). e.name) es name (names_sorted es rising)) in
    let long : length (entities_of es) ≡ length es = length-map es entity_of in
    let before = λ (k : ℕ) (d : plain.Entity) (low : k < i). name_at es name Less k (omega arith) (λ e. parts.0 k e (omega arith) low) d in
    let after =
    λ (k : ℕ) (d : plain.Entity) (high : i ≤ k) (in_list : k < length (entities_of es)).
    name_at es name Greater k (omega (arith, long)) (λ e. parts.1 k e high (omega (arith, long))) d in
    record {
      within = omega (arith, long);
      absent = absent_at name (entities_of es) i (λ k d low in_list. before k d low) after;
      before = before;
      after = after;
    }

-- a name that has a place is there
pub place_there : (name : List ℕ) (reg : List plain.Entity) (i : ℕ) → IsPlaceOf name reg i → find_entity name reg ≢ None
place_there name reg i place none = differs (sym none ∙ place.found) (at_place reg i place.within)
  where
    at_place : (xs : List plain.Entity) (k : ℕ) → k < length xs → (x : plain.Entity) × (slice_get xs k ≡ Some x)
    at_place [] k within = absurd (omega arith)
    at_place (x ∷ xs) zero within = (x, refl)
    at_place (x ∷ xs) (suc k) within = at_place xs k (omega arith)

    differs : None ≡ slice_get reg i → (x : plain.Entity) × (slice_get reg i ≡ Some x) → ⊥
    differs none some = let bad : None ≡ Some some.0 = none ∙ some.1 in cc

-- the plain trees after an entity was put into a gap
entities_of-insert : (es : List Entity) (i : ℕ) (e : Entity) → entities_of (insert es i e) ≡ take i (entities_of es) ++ entity_of e ∷ drop i (entities_of es)
entities_of-insert es i e =
    map-append entity_of (take i es) (e ∷ drop i es) ∙ ap (λ x. x ++ entity_of e ∷ entities_of (drop i es)) (sym (take-map entity_of i es))
    ∙ ap (λ x. take i (entities_of es) ++ entity_of e ∷ x) (sym (drop-map entity_of i es))

-- an entity put into the gap of its name keeps the names rising, and is the one more
pub rising_insert : (es shown : List Entity) (e : Entity) (i : ℕ) (name : List ℕ) → shown ≡ es → name ≡ e.name → IsRising (entities_of es)
    → IsGapOf name (entities_of shown) i
    → IsRising (entities_of (insert es i e))
rising_insert es shown e i name same is rising gap =
    let here : IsGapOf e.name (entities_of es) i = subst (λ n. IsGapOf n (entities_of es) i) is (subst (λ s. IsGapOf name (entities_of s) i) same gap) in
    subst IsRising (sym (entities_of-insert es i e)) (rising_with (entities_of es) i (entity_of e) rising here.within here.before here.after)

-- and what is built in where it is
pub built_in_insert : (es shown : List Entity) (e : Entity) (i : ℕ) (name : List ℕ) → shown ≡ es → name ≡ e.name → IsGapOf name (entities_of shown) i
    → HasBuiltIn (entities_of es)
    → HasBuiltIn (entities_of (insert es i e))
built_in_insert es shown e i name same is gap has =
    let here : IsGapOf e.name (entities_of es) i = subst (λ n. IsGapOf n (entities_of es) i) is (subst (λ s. IsGapOf name (entities_of s) i) same gap) in
    let whole = sym (take-append-drop i (entities_of es)) in
    subst HasBuiltIn (sym (entities_of-insert es i e))
    (built_in_beside (take i (entities_of es)) (drop i (entities_of es)) (entity_of e) (subst (λ r. find_entity e.name r ≡ None) whole here.absent) (subst HasBuiltIn whole has))

pub adds_insert : (es : List Entity) (e : Entity) (i : ℕ) → Adds (entities_of es) (entities_of (insert es i e)) (entity_of e)
adds_insert es e i =
    record {
      front = take i (entities_of es);
      back = drop i (entities_of es);
      before = sym (take-append-drop i (entities_of es));
      after = entities_of-insert es i e;
    }

-- the same, where name and entities are shown as others that are equal
pub shown_there : (name own : List ℕ) (shown es : List Entity) (reg : List plain.Entity) (i : ℕ) → name ≡ own → shown ≡ es → entities_of es ≡ reg
    → IsPlaceOf name (entities_of shown) i → find_entity own reg ≢ None
shown_there name own shown es reg i p q r place none =
    place_there name (entities_of shown) i place
    (ap (λ n. find_entity n (entities_of shown)) p ∙ ap (λ s. find_entity own (entities_of s)) q ∙ ap (find_entity own) r ∙ none)
