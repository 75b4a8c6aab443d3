-- An entity has as many functions as the entities that are marked as its bases declare together.
use Rattle.std.proofs.Common.{◌≡◌, ℕ, zero, suc, ◌+◌, ◌<◌, ◌≤◌, Bool, true, false, ◌||◌, List, [], ◌∷◌, ◌++◌, length, map, Option, None, Some, refl, sym, ap, subst, ◌∙◌, if◌then◌else◌, ◌⊎◌, inl, inr, arith}
use Rattle.std.specs.Prelude.{slice_get, Contains, ◌↔◌, option_map}
use Rattle.std.specs.List.{flat_map, list_any}
use Rattle.std.specs.List.Sorted.{IsStrictlySortedBy}
use Rattle.std.specs.Str.{bytes_eq}
use Rattle.std.proofs.lemmas.List.{length-append, length-map}
use Rattle.std.proofs.lemmas.List.Concat.{flat_map-append}
use Rattle.std.proofs.lemmas.List.Folds.{list_any-append}
use Rattle.std.proofs.lemmas.List.Elements.{Contains-push}
use Rattle.std.proofs.lemmas.Option.{slice_get-map}
use Rattle.std.proofs.lemmas.Slice.Eq.{bytes_eq-Decides}
use Rattle.uno_model.specs.Circles.{Leads, step, on, HasNoCircle}
use Rattle.uno_model.specs.Entities.{Entity, Body, Member, attribute, method, interface}
use Rattle.uno_model.specs.Functions.{Function, getter, setter, declared_by, declared_in, accessors_of, calls_of, is_met, interfaces_of, functions_of}
use Rattle.uno_model.specs.Registry.{IsRising, find_entity, stands_on, leads_to, IsBaseOf}
use Rattle.uno_model.proofs.FindLaws.{distinct_places, same_equal}
use Rattle.uno_model.proofs.ReachLaws.{found_place}
use Rattle.uno_model.proofs.VisitLaws.{Differ, no_name, one_name_more, met_contains, contains_met, interfaces_are_bases, bases_are_interfaces, interfaces_differ}
use Rattle.uno_entities.specs.Counts.{accessors as own_accessors, functions_of_member, functions_in, own_functions, total_functions, marked_functions}
use Rattle.uno_entities.specs.Marks.{Marked, MarksBases}
use Rattle.uno_entities.proofs.SpreadLemmas.{entity_at}

-- ---- what an entity declares itself

functions_of_members : (owner : List ℕ) (ms : List Member) → length (flat_map (accessors_of owner) ms) + length (flat_map (calls_of owner) ms) ≡ functions_in ms
unfolding functions_in
functions_of_members owner [] = refl
functions_of_members owner (m ∷ ms) =
    let rest = functions_of_members owner ms in
    let accessors = length-append (accessors_of owner m) (flat_map (accessors_of owner) ms) in
    let calls = length-append (calls_of owner m) (flat_map (calls_of owner) ms) in
    omega (arith, rest, accessors, calls, one_member m)
  where
    by_test : (read_only : Bool) (a b : Function) → length (if read_only then a ∷ [] else a ∷ (b ∷ [])) + 0 ≡ own_accessors read_only
    by_test true a b = refl
    by_test false a b = refl

    one_member : (n : Member) → length (accessors_of owner n) + length (calls_of owner n) ≡ functions_of_member n
    one_member (attribute a) = by_test a.read_only (getter owner a) (setter owner a)
    one_member (method n) = refl

-- the functions of a body are as many as its own
own_counted : (owner : List ℕ) (body : Body) → length (declared_in owner body) ≡ own_functions body
own_counted owner (interface bases members) =
    length-append (flat_map (accessors_of owner) members) (flat_map (calls_of owner) members) ∙ functions_of_members owner members
own_counted owner body = refl

-- ---- marks at the names of a list

-- each entity whose name was met
abbrev pub met_marks : List (List ℕ) → List Entity → List Bool
met_marks met reg = map (λ e. is_met e.name met) reg

none_marked : (es : List Entity) → marked_functions (met_marks [] es) es ≡ 0
unfolding marked_functions is_met
none_marked [] = refl
none_marked (e ∷ es) = none_marked es

-- one mark in front of others
first_mark : (mark : Bool) (marks : List Bool) (e : Entity) (es : List Entity)
    → marked_functions (mark ∷ marks) (e ∷ es) ≡ (if mark then own_functions e.body else 0) + marked_functions marks es
unfolding marked_functions
first_mark true marks e es = refl
first_mark false marks e es = omega arith

-- the name behind others is met too
pub met_last : (n name : List ℕ) (met : List (List ℕ)) → is_met n (met ++ name ∷ []) ≡ (is_met n met || (bytes_eq n name || false))
unfolding is_met
met_last n name met = list_any-append (bytes_eq n) met (name ∷ [])

-- no other entity has the first one's name
pub no_twin : (e : Entity) (es : List Entity) → IsRising (e ∷ es) → find_entity e.name es ≡ None
no_twin e es rising = by_found (find_entity e.name es) refl
  where
    by_found : (o : Option Entity) → find_entity e.name es ≡ o → find_entity e.name es ≡ None
    by_found None found = found
    by_found (Some d) found =
        let place = found_place e.name es d found in
        let bad : zero ≡ suc place.0 = distinct_places (e ∷ es) rising zero (suc place.0) e d refl place.1 (sym place.2) in
        absurd (omega (arith, bad))

-- a name that is new adds the functions that its entity declares
one_more_counts : (es : List Entity) (met : List (List ℕ)) (name : List ℕ) → IsRising es → is_met name met ≡ false
    → marked_functions (met_marks (met ++ name ∷ []) es) es ≡ marked_functions (met_marks met es) es + length (declared_by name (find_entity name es))
unfolding marked_functions find_entity IsStrictlySortedBy
one_more_counts [] met name rising new = refl
one_more_counts (e ∷ es) met name rising new =
    let rest = one_more_counts es met name rising.1 new in
    let after = first_mark (is_met e.name (met ++ name ∷ [])) (met_marks (met ++ name ∷ []) es) e es in
    let before = first_mark (is_met e.name met) (met_marks met es) e es in
    by_test (bytes_eq name e.name) refl rest after before
  where
    by_test : (b : Bool) → bytes_eq name e.name ≡ b
        → marked_functions (met_marks (met ++ name ∷ []) es) es ≡ marked_functions (met_marks met es) es + length (declared_by name (find_entity name es))
        → marked_functions (met_marks (met ++ name ∷ []) (e ∷ es)) (e ∷ es)
        ≡ (if is_met e.name (met ++ name ∷ []) then own_functions e.body else 0) + marked_functions (met_marks (met ++ name ∷ []) es) es
        → marked_functions (met_marks met (e ∷ es)) (e ∷ es) ≡ (if is_met e.name met then own_functions e.body else 0) + marked_functions (met_marks met es) es
        → marked_functions (met_marks (met ++ name ∷ []) (e ∷ es)) (e ∷ es)
        ≡ marked_functions (met_marks met (e ∷ es)) (e ∷ es) + length (declared_by name (if bytes_eq name e.name then Some e else find_entity name es))
    by_test true test rest after before =
        let same : name ≡ e.name = (bytes_eq-Decides name e.name).0 test in
        let is_now : is_met e.name (met ++ name ∷ []) ≡ true = ap (λ n. is_met n (met ++ name ∷ [])) (sym same) ∙ contains_met name (met ++ name ∷ []) (Contains-push met name) in
        let was_not : is_met e.name met ≡ false = ap (λ n. is_met n met) (sym same) ∙ new in
        let none : length (declared_by name (find_entity name es)) ≡ 0 = ap (λ n. length (declared_by name (find_entity n es))) same ∙ ap (λ o. length (declared_by name o)) (no_twin e es rising) in
        let own = own_counted name e.body in
        let now : (if is_met e.name (met ++ name ∷ []) then own_functions e.body else 0) ≡ own_functions e.body = rw is_now refl in
        let old : (if is_met e.name met then own_functions e.body else 0) ≡ 0 = rw was_not refl in
        let whole : length (declared_by name (if bytes_eq name e.name then Some e else find_entity name es)) ≡ own_functions e.body = rw test own in
        omega (arith, rest, after, before, none, now, old, whole)
    by_test false test rest after before =
        let other : bytes_eq e.name name ≡ false = apart (bytes_eq e.name name) refl in
        let as_before : is_met e.name (met ++ name ∷ []) ≡ is_met e.name met = met_last e.name name met ∙ ap (λ b. is_met e.name met || (b || false)) other ∙ or_false (is_met e.name met) in
        let own : (if is_met e.name (met ++ name ∷ []) then own_functions e.body else 0) ≡ (if is_met e.name met then own_functions e.body else 0) = rw as_before refl in
        let whole : length (declared_by name (if bytes_eq name e.name then Some e else find_entity name es)) ≡ length (declared_by name (find_entity name es)) = rw test refl in
        omega (arith, rest, after, before, own, whole)
      where
        or_false : (b : Bool) → (b || false) ≡ b
        or_false true = refl
        or_false false = refl

        apart : (b : Bool) → bytes_eq e.name name ≡ b → bytes_eq e.name name ≡ false
        apart false is = is
        apart true is =
            let same : e.name ≡ name = (bytes_eq-Decides e.name name).0 is in
            let bad : true ≡ false = sym (ap (bytes_eq name) same ∙ same_equal name) ∙ test in cc

-- ---- the bridge

-- names that differ have as many functions as the entities that are marked by them
counted : (reg : List Entity) (met : List (List ℕ)) → IsRising reg → Differ met
    → length (flat_map (λ owner. declared_by owner (find_entity owner reg)) met) ≡ marked_functions (met_marks met reg) reg
counted reg met rising no_name = sym (none_marked reg)
counted reg met rising (one_name_more ms name before new) =
    let rest = counted reg ms rising before in
    let more = one_more_counts reg ms name rising new in
    let parts = ap length (flat_map-append (λ (owner : List ℕ). declared_by owner (find_entity owner reg)) ms (name ∷ [])) in
    let sum = length-append (flat_map (λ (owner : List ℕ). declared_by owner (find_entity owner reg)) ms) (declared_by name (find_entity name reg) ++ []) in
    let last = length-append (declared_by name (find_entity name reg)) [] in
    omega (arith, rest, more, parts, sum, last)

pub functions_counted : (reg : List Entity) (name : List ℕ) → IsRising reg → HasNoCircle (leads_to reg)
    → length (functions_of reg name) ≡ marked_functions (met_marks (interfaces_of reg name) reg) reg
functions_counted reg name rising none = counted reg (interfaces_of reg name) rising (interfaces_differ reg name none)

-- marks that say the same are the same
same_mark : (x y : Bool) → (Some x ≡ Some true) ↔ (Some y ≡ Some true) → x ≡ y
same_mark true true both = refl
same_mark false false both = refl
same_mark true false both = let bad : Some false ≡ Some true = both.0 refl in cc
same_mark false true both = let bad : Some false ≡ Some true = both.1 refl in cc

pub same_marks : (a b : List Bool) → length a ≡ length b → ((i : ℕ) → i < length a → Marked a i ↔ Marked b i) → a ≡ b
same_marks [] [] long each = refl
same_marks [] (y ∷ ys) long each = absurd (omega (arith, long))
same_marks (x ∷ xs) [] long each = absurd (omega (arith, long))
same_marks (x ∷ xs) (y ∷ ys) long each =
    let first : x ≡ y = same_mark x y (each 0 (omega arith)) in
    let others : xs ≡ ys = same_marks xs ys (omega (arith, long)) (λ i low. each (suc i) (omega (arith, low))) in
    ap (λ b. b ∷ xs) first ∙ ap (λ l. y ∷ l) others

-- a place is marked by the names exactly where they have its entity's
pub met_mark_at : (reg : List Entity) (met : List (List ℕ)) (i : ℕ) (e : Entity) → slice_get reg i ≡ Some e → Marked (met_marks met reg) i ↔ (is_met e.name met ≡ true)
met_mark_at reg met i e at =
    let here : slice_get (met_marks met reg) i ≡ Some (is_met e.name met) = slice_get-map (λ (d : Entity). is_met d.name met) reg i ∙ ap (option_map (λ (d : Entity). is_met d.name met)) at in
    (λ m. of_some (is_met e.name met) true (sym here ∙ m), λ is. here ∙ ap (λ b. Some b) is)
  where
    of_some : (x y : Bool) → Some x ≡ Some y → x ≡ y
    of_some x y e = cc

-- the entities that are marked as the bases of a name have as many functions as it
pub functions_are_marked : (reg : List Entity) (name : List ℕ) (marks : List Bool) → IsRising reg → HasNoCircle (leads_to reg) → MarksBases reg name marks
    → length (functions_of reg name) ≡ marked_functions marks reg
functions_are_marked reg name marks rising none marked =
    functions_counted reg name rising none ∙ ap (λ m. marked_functions m reg) (same_marks (met_marks (interfaces_of reg name) reg) marks long each)
  where
    long : length (met_marks (interfaces_of reg name) reg) ≡ length marks
    long = length-map reg (λ (e : Entity). is_met e.name (interfaces_of reg name)) ∙ sym marked.one_each

    each : (i : ℕ) → i < length (met_marks (interfaces_of reg name) reg) → Marked (met_marks (interfaces_of reg name) reg) i ↔ Marked marks i
    each i low =
        let there = entity_at reg i (omega (arith, low, long, marked.one_each)) in
        let here = met_mark_at reg (interfaces_of reg name) i there.0 there.1 in
        let said = marked.marked i there.0 there.1 in (
          λ m. said.1 (interfaces_are_bases reg name there.0.name (met_contains there.0.name (interfaces_of reg name) (here.0 m))),
          λ m. here.1 (contains_met there.0.name (interfaces_of reg name) (bases_are_interfaces reg name there.0.name none (said.0 m))),
        )

-- ---- fewer

-- what is marked has no more than all
marked_low : (marks : List Bool) (reg : List Entity) → marked_functions marks reg ≤ total_functions reg
unfolding marked_functions total_functions
marked_low [] reg = omega arith
marked_low (mark ∷ marks) [] = omega arith
marked_low (true ∷ marks) (e ∷ es) = omega (arith, marked_low marks es)
marked_low (false ∷ marks) (e ∷ es) = omega (arith, marked_low marks es)

pub no_more_than_all : (reg : List Entity) (name : List ℕ) → IsRising reg → HasNoCircle (leads_to reg) → length (functions_of reg name) ≤ total_functions reg
no_more_than_all reg name rising none = omega (arith, functions_counted reg name rising none, marked_low (met_marks (interfaces_of reg name) reg) reg)

-- where fewer names were met, they have fewer functions
fewer_met : (met more : List (List ℕ)) (es : List Entity) → ((n : List ℕ) → is_met n met ≡ true → is_met n more ≡ true)
    → marked_functions (met_marks met es) es ≤ marked_functions (met_marks more es) es
unfolding marked_functions
fewer_met met more [] each = omega arith
fewer_met met more (e ∷ es) each =
    let rest = fewer_met met more es each in
    omega (
      arith,
      rest,
      first_mark (is_met e.name met) (met_marks met es) e es,
      first_mark (is_met e.name more) (met_marks more es) e es,
      low (is_met e.name met) (is_met e.name more) (each e.name),
    )
  where
    low : (x y : Bool) → (x ≡ true → y ≡ true) → (if x then own_functions e.body else 0) ≤ (if y then own_functions e.body else 0)
    low false y so = omega arith
    low true true so = omega arith
    low true false so = let bad : false ≡ true = so refl in cc

pub led_on : (reg : List Entity) (a b c : List ℕ) → Leads (stands_on reg) a b → Leads (stands_on reg) b c → Leads (stands_on reg) a c
led_on reg a b c (step from to has) more = on from to c has more
led_on reg a b c (on from next to has further) more = on from next c has (led_on reg next to c further more)

-- a base has no more functions than what stands on it
pub fewer_below : (reg : List Entity) (name base : List ℕ) → IsRising reg → HasNoCircle (leads_to reg) → IsBaseOf reg base name
    → length (functions_of reg base) ≤ length (functions_of reg name)
fewer_below reg name base rising none is =
    omega (arith, functions_counted reg name rising none, functions_counted reg base rising none, fewer_met (interfaces_of reg base) (interfaces_of reg name) reg each)
  where
    from_base : (n : List ℕ) → IsBaseOf reg base name → IsBaseOf reg n base → IsBaseOf reg n name
    from_base n (inl same) more = subst (IsBaseOf reg n) (sym same) more
    from_base n (inr way) (inl same) = inr (subst (Leads (stands_on reg) name) same way)
    from_base n (inr way) (inr more) = inr (led_on reg name base n way more)

    each : (n : List ℕ) → is_met n (interfaces_of reg base) ≡ true → is_met n (interfaces_of reg name) ≡ true
    each n met =
        contains_met n (interfaces_of reg name)
        (bases_are_interfaces reg name n none (from_base n is (interfaces_are_bases reg base n (met_contains n (interfaces_of reg base) met))))
