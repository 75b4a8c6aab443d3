-- Entities of which no two have one name make one registry, in whatever order they are added.
use Rattle.std.proofs.Common.{◌≡◌, ◌≢◌, refl, sym, ap, ap₂, subst, ◌∙◌, ℕ, Bool, true, false, not, ◌&&◌, ◌||◌, List, [], ◌∷◌, ◌++◌, map, length, append_assoc, append-nil, inl, inr, Result, Ok, Err, Option, None, Some, Contains, if◌then◌else◌, arith}
use Rattle.std.proofs.lemmas.Bool.{and_parts, both_ways}
use Rattle.std.proofs.lemmas.List.{map-append}
use Rattle.std.proofs.lemmas.List.Sorted.{Contains-permutation, IsPermutation-append_right, IsPermutation-map, IsPermutation-sym}
use Rattle.std.proofs.lemmas.Slice.Eq.{bytes_eq-Decides}
use Rattle.std.specs.List.{AllByRecursion, list_any}
use Rattle.std.specs.List.Sorted.{IsPermutation}
use Rattle.std.specs.Option.{option_or}
use Rattle.std.specs.Prelude.{IfOk}
use Rattle.std.specs.Str.{bytes_eq}
use Rattle.idl_meaning_model.specs.Meaning.{sorted}
use Rattle.idl_meaning_model.proofs.EachLaws.{AllPairsOf}
use Rattle.idl_meaning_model.proofs.FaultLaws.{one_of_pairs}
use Rattle.idl_meaning_model.proofs.SortedLaws.{Differ, found_append, found_sorted, sorted_rising}
use Rattle.registry_reading_model.proofs.OneRegistry.{same_registry}
use Rattle.uno_entities.specs.Entities.{entities_of, entity_of}
use Rattle.uno_entities.specs.declared.entity.Entity as code
use Rattle.uno_model.specs.BuiltIn.{built_in}
use Rattle.uno_model.specs.Entities.{Entity}
use Rattle.uno_model.specs.Registry.{Adds, IsRising, find_entity}
use Rattle.uno_model.specs.Sound.{all_differ}
use Rattle.uno_model.proofs.FindLaws.{same_equal}
use Rattle.uno_model.proofs.Options.{none_some, same_some}
use Rattle.uno_model.proofs.PlaceLaws.{contains_behind, contains_cases, contains_head}

-- ---- names that differ

abbrev pub name_of : Entity → List ℕ
name_of e = e.name

not_true : (b : Bool) → not b ≡ true → b ≡ false
not_true true is = absurd (both_ways true (sym is) refl)
not_true false is = refl

differs_from : (name : List ℕ) (es : List Entity) → list_any (bytes_eq name) (map name_of es) ≡ false → AllByRecursion (λ e. bytes_eq name e.name ≡ false) es
differs_from name [] none = tt
differs_from name (e ∷ es) none = by_test (bytes_eq name e.name) refl none (differs_from name es)
  where
    by_test : (b : Bool) → bytes_eq name e.name ≡ b → (b || list_any (bytes_eq name) (map name_of es)) ≡ false
        → (list_any (bytes_eq name) (map name_of es) ≡ false → AllByRecursion (λ f. bytes_eq name f.name ≡ false) es)
        → AllByRecursion (λ f. bytes_eq name f.name ≡ false) (e ∷ es)
    by_test true is bad rest = absurd (both_ways true bad refl)
    by_test false is none rest = (is, rest none)

pub pairs_of_names : (es : List Entity) → all_differ (map name_of es) ≡ true → AllPairsOf Differ es
unfolding all_differ
pairs_of_names [] differ = tt
pairs_of_names (e ∷ es) differ =
    let parts = and_parts (not (list_any (bytes_eq e.name) (map name_of es))) (all_differ (map name_of es)) differ in
    (differs_from e.name es (not_true (list_any (bytes_eq e.name) (map name_of es)) parts.0), pairs_of_names es parts.1)

none_same : (name : List ℕ) (es : List Entity) → AllByRecursion (λ e. bytes_eq name e.name ≡ false) es → list_any (bytes_eq name) (map name_of es) ≡ false
none_same name [] differ = refl
none_same name (e ∷ es) differ = ap₂ (λ a b. a || b) differ.0 (none_same name es differ.1)

pub names_of_pairs : (es : List Entity) → AllPairsOf Differ es → all_differ (map name_of es) ≡ true
unfolding all_differ
names_of_pairs [] pairs = refl
names_of_pairs (e ∷ es) pairs = ap₂ (λ a b. not a && b) (none_same e.name es pairs.0) (names_of_pairs es pairs.1)

-- ---- what is found

found_in : (name : List ℕ) (es : List Entity) (e : Entity) → find_entity name es ≡ Some e → Contains es e × (name ≡ e.name)
unfolding find_entity
found_in name [] e found = absurd (none_some found)
found_in name (f ∷ es) e found = by_test (bytes_eq name f.name) refl found (found_in name es e)
  where
    by_test : (b : Bool) → bytes_eq name f.name ≡ b → (if b then Some f else find_entity name es) ≡ Some e → (find_entity name es ≡ Some e → Contains es e × (name ≡ e.name))
        → Contains (f ∷ es) e × (name ≡ e.name)
    by_test true is found rest = (
      subst (Contains (f ∷ es)) (same_some found) (contains_head f es),
      (bytes_eq-Decides name f.name).0 is ∙ ap name_of (same_some found),
    )
    by_test false is found rest = let there = rest found in (contains_behind f es e there.0, there.1)

-- what is there is found, if not itself
found_there : (name : List ℕ) (es : List Entity) (e : Entity) → Contains es e → name ≡ e.name → (f : Entity) × (find_entity name es ≡ Some f)
unfolding find_entity
found_there name [] e in' is = absurd (omega (arith, in'.1))
found_there name (x ∷ es) e in' is = by_test (bytes_eq name x.name) refl (found_there name es e)
  where
    here : x ≡ e → bytes_eq name x.name ≡ true
    here same = ap (bytes_eq name) (ap name_of same ∙ sym is) ∙ same_equal name

    by_test : (b : Bool) → bytes_eq name x.name ≡ b → (Contains es e → name ≡ e.name → (f : Entity) × (find_entity name es ≡ Some f)) → (f : Entity) × ((if b then Some x else find_entity name es) ≡ Some f)
    by_test true eq rest = (x, refl)
    by_test false eq rest = elim (contains_cases x es e in') [
      | inl same ↦ absurd (both_ways (bytes_eq name x.name) eq (here same))
      | inr behind ↦ rest behind is
    ]

differ_not : (e f : Entity) → e.name ≡ f.name → Differ e f → ⊥
differ_not e f same differ = both_ways (bytes_eq e.name f.name) differ (ap (bytes_eq e.name) (sym same) ∙ same_equal e.name)

-- what is there is found by its name
pub found_of : (es : List Entity) (e : Entity) → AllPairsOf Differ es → Contains es e → find_entity e.name es ≡ Some e
found_of es e differ in' =
    let found = found_there e.name es e in' refl in
    let there = found_in e.name es found.0 found.1 in
    found.1 ∙ ap Some (one_of_pairs Differ es found.0 e differ there.0 in' (differ_not found.0 e (sym there.1)) (differ_not e found.0 there.1))

-- in another order the same are found
found_permuted : (name : List ℕ) (xs ys : List Entity) → AllPairsOf Differ xs → IsPermutation xs ys → find_entity name ys ≡ find_entity name xs
found_permuted name xs ys differ moved = by_find (find_entity name xs) (find_entity name ys) refl refl
  where
    back : IsPermutation ys xs
    back = IsPermutation-sym xs ys moved

    by_find : (o p : Option Entity) → find_entity name xs ≡ o → find_entity name ys ≡ p → p ≡ o
    by_find None None one other = refl
    by_find None (Some f) one other =
        let in' = found_in name ys f other in
        let again = found_there name xs f (Contains-permutation ys xs f back in'.0) in'.1 in
        absurd (none_some (sym one ∙ again.1))
    by_find (Some e) None one other =
        let in' = found_in name xs e one in
        let again = found_there name ys e (Contains-permutation xs ys e moved in'.0) in'.1 in
        absurd (none_some (sym other ∙ again.1))
    by_find (Some e) (Some f) one other =
        let first = found_in name xs e one in
        let second = found_in name ys f other in
        ap Some (one_of_pairs Differ xs f e differ (Contains-permutation ys xs f back second.0) first.0 (differ_not f e (sym second.1 ∙ first.1)) (differ_not e f (sym first.1 ∙ second.1)))

-- ---- registries

-- what was added to the built-in entities in any order is found as if it was not moved
pub found_moved : (xs ys : List code.Entity) (told : List Entity) → all_differ (map name_of (built_in ++ told)) ≡ true → entities_of xs ≡ told → IsPermutation xs ys
    → (name : List ℕ) → find_entity name (built_in ++ entities_of ys) ≡ find_entity name (built_in ++ told)
found_moved xs ys told differ are moved name =
    found_permuted name (built_in ++ told) (built_in ++ entities_of ys) (pairs_of_names (built_in ++ told) differ)
    (IsPermutation-append_right built_in told (entities_of ys) (subst (λ es. IsPermutation es (entities_of ys)) are (IsPermutation-map entity_of xs ys moved)))

-- and is the sorted list of all of them
pub registry_made : (told reg : List Entity) → all_differ (map name_of (built_in ++ told)) ≡ true → IsRising reg
    → ((name : List ℕ) → find_entity name reg ≡ find_entity name (built_in ++ told)) → reg ≡ sorted (built_in ++ told)
registry_made told reg differ rising found =
    let pairs = pairs_of_names (built_in ++ told) differ in
    same_registry reg (sorted (built_in ++ told)) rising (sorted_rising (built_in ++ told) pairs) (λ name. found name ∙ sym (found_sorted name (built_in ++ told) pairs))

pub if_ok : {X E : Type 0} (P Q : X → Type 0) (r : Result X E) → ((x : X) → P x → Q x) → IfOk r P → IfOk r Q
if_ok P Q (Ok x) f holds = f x holds
if_ok P Q (Err e) f holds = tt

-- one more is found behind those that there are
one_or_none : (name : List ℕ) (e : Entity) → find_entity name (e ∷ []) ≡ (if bytes_eq name e.name then Some e else None)
unfolding find_entity
one_or_none name e = refl

pub found_twice : (name : List ℕ) (old : List Entity) (e : Entity) → find_entity e.name old ≢ None → find_entity name old ≡ find_entity name (old ++ e ∷ [])
found_twice name old e twice = sym (found_append name old (e ∷ []) ∙ by_test (bytes_eq name e.name) refl)
  where
    first : (o p : Option Entity) → o ≢ None → option_or o p ≡ o
    first None p some = absurd (some refl)
    first (Some f) p some = refl

    none_behind : (o : Option Entity) → option_or o None ≡ o
    none_behind None = refl
    none_behind (Some f) = refl

    by_test : (b : Bool) → bytes_eq name e.name ≡ b → option_or (find_entity name old) (find_entity name (e ∷ [])) ≡ find_entity name old
    by_test true is = first (find_entity name old) (find_entity name (e ∷ [])) (λ none. twice (ap (λ n. find_entity n old) (sym ((bytes_eq-Decides name e.name).0 is)) ∙ none))
    by_test false is =
        ap (option_or (find_entity name old)) (one_or_none name e ∙ ap (λ b. if b then Some e else None) is) ∙ none_behind (find_entity name old)

some_or_none : (o : Option Entity) → (o ≢ None → ⊥) → o ≡ None
some_or_none None none = refl
some_or_none (Some e) none = absurd (none (λ is. none_some (sym is)))

pub found_added : (name : List ℕ) (old new : List Entity) (e : Entity) → Adds old new e → (find_entity e.name old ≢ None → ⊥) → find_entity name new ≡ find_entity name (old ++ e ∷ [])
found_added name old new e adds fresh =
    ap (find_entity name) adds.after ∙ found_append name adds.front (e ∷ adds.back) ∙ ap (option_or (find_entity name adds.front)) (found_append name (e ∷ []) adds.back)
    ∙ by_test (bytes_eq name e.name) refl
    ∙ sym (found_append name old (e ∷ []) ∙ ap (λ o. option_or o (find_entity name (e ∷ []))) (ap (find_entity name) adds.before ∙ found_append name adds.front adds.back))
  where
    none_there : option_or (find_entity e.name adds.front) (find_entity e.name adds.back) ≡ None
    none_there = sym (found_append e.name adds.front adds.back) ∙ ap (find_entity e.name) (sym adds.before) ∙ some_or_none (find_entity e.name old) fresh

    both_none : (o p : Option Entity) → option_or o p ≡ None → (o ≡ None) × (p ≡ None)
    both_none None p none = (refl, none)
    both_none (Some f) p none = absurd (none_some (sym none))

    here : (o p q : Option Entity) → o ≡ None → p ≡ None → option_or o (option_or q p) ≡ option_or (option_or o p) q
    here None None None no_o no_p = refl
    here None None (Some f) no_o no_p = refl
    here None (Some g) q no_o no_p = absurd (none_some (sym no_p))
    here (Some g) p q no_o no_p = absurd (none_some (sym no_o))

    apart : (o p : Option Entity) → option_or o (option_or None p) ≡ option_or (option_or o p) None
    apart None None = refl
    apart None (Some p) = refl
    apart (Some o) p = refl

    by_test : (b : Bool) → bytes_eq name e.name ≡ b
        → option_or (find_entity name adds.front) (option_or (find_entity name (e ∷ [])) (find_entity name adds.back))
        ≡ option_or (option_or (find_entity name adds.front) (find_entity name adds.back)) (find_entity name (e ∷ []))
    by_test true is =
        let none = both_none (find_entity e.name adds.front) (find_entity e.name adds.back) none_there in
        let same = (bytes_eq-Decides name e.name).0 is in
        here (find_entity name adds.front) (find_entity name adds.back) (find_entity name (e ∷ [])) (ap (λ n. find_entity n adds.front) same ∙ none.0) (ap (λ n. find_entity n adds.back) same ∙ none.1)
    by_test false is =
        let other : find_entity name (e ∷ []) ≡ None = one_or_none name e ∙ ap (λ b. if b then Some e else None) is in
        rw other (apart (find_entity name adds.front) (find_entity name adds.back))

-- ---- one after the other

pub one_more_found : (name : List ℕ) (more : List code.Entity) (old new : List Entity) (e : code.Entity) → find_entity name old ≡ find_entity name (built_in ++ entities_of more)
    → find_entity name new ≡ find_entity name (old ++ entity_of e ∷ []) → find_entity name new ≡ find_entity name (built_in ++ entities_of (more ++ e ∷ []))
one_more_found name more old new e so_far added =
    let one = entity_of e ∷ [] in
    added ∙ found_append name old one ∙ ap (λ o. option_or o (find_entity name one)) so_far ∙ sym (found_append name (built_in ++ entities_of more) one)
    ∙ ap (find_entity name) (append_assoc built_in (entities_of more) one ∙ ap (λ es. built_in ++ es) (sym (map-append entity_of more (e ∷ []))))

pub none_yet : (name : List ℕ) (reg : List Entity) → reg ≡ built_in → find_entity name reg ≡ find_entity name (built_in ++ [])
none_yet name reg is = ap (find_entity name) (is ∙ sym (append-nil built_in))

pub nothing_left : {X : Type 0} (xs : List X) → length xs ≡ 0 → xs ≡ []
nothing_left [] none = refl
nothing_left (x ∷ xs) none = absurd (omega arith)

pub not_refused : {X E : Type 0} {x : X} {e : E} → Ok x ≡ Err e → ⊥
not_refused is = cc
