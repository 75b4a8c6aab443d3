-- An entity has over its bases the names that the entities marked as its bases declare, each as often.
use Rattle.std.proofs.Common.{◌≡◌, ℕ, ◌+◌, ◌<◌, ◌≤◌, Bool, true, false, ◌||◌, List, [], ◌∷◌, ◌++◌, length, Some, refl, sym, ap, subst, ◌∙◌, if◌then◌else◌, inl, inr, arith}
use Rattle.std.specs.Prelude.{◌↔◌}
use Rattle.std.specs.List.{flat_map}
use Rattle.std.specs.List.Sorted.{IsStrictlySortedBy}
use Rattle.std.specs.Str.{bytes_eq}
use Rattle.std.proofs.lemmas.List.{length-map}
use Rattle.std.proofs.lemmas.List.Concat.{flat_map-append}
use Rattle.std.proofs.lemmas.List.Elements.{Contains-push}
use Rattle.std.proofs.lemmas.Slice.Eq.{bytes_eq-Decides}
use Rattle.uno_model.specs.Circles.{Leads, HasNoCircle}
use Rattle.uno_model.specs.Entities.{Entity}
use Rattle.uno_model.specs.Functions.{is_met, interfaces_of}
use Rattle.uno_model.specs.Registry.{IsRising, find_entity, stands_on, leads_to, IsBaseOf}
use Rattle.uno_model.specs.Sound.{all_differ}
use Rattle.uno_model.proofs.FindLaws.{same_equal}
use Rattle.uno_model.proofs.VisitLaws.{Differ, no_name, one_name_more, met_contains, contains_met, interfaces_are_bases, bases_are_interfaces, interfaces_differ}
use Rattle.uno_entities.specs.Marks.{Marked, MarksBases}
use Rattle.uno_entities.proofs.CountLemmas.{met_marks, no_twin, met_last, same_marks, met_mark_at, led_on}
use Rattle.uno_entities.proofs.SpreadLemmas.{entity_at}
use Rattle.rules_over_bases.specs.Known.{names_at, names_over}
use Rattle.rules_over_bases.specs.OwnNames.{own_names, marked_names}
use Rattle.rules_over_bases.specs.Occurring.{occurs}
use Rattle.rules_over_bases.proofs.TwinLaws.{occurs_append, same_differ, fewer_differ}

-- ---- one mark in front

-- what an entity counts for with its mark
abbrev counted_if : Bool → List ℕ → Entity → ℕ
counted_if mark name e = if mark then occurs name (own_names e.body) else 0

first_mark : (name : List ℕ) (mark : Bool) (marks : List Bool) (e : Entity) (es : List Entity)
    → occurs name (marked_names (mark ∷ marks) (e ∷ es)) ≡ counted_if mark name e + occurs name (marked_names marks es)
unfolding marked_names
first_mark name true marks e es = occurs_append name (own_names e.body) (marked_names marks es)
first_mark name false marks e es = omega arith

-- ---- marks at the names of a list

none_marked : (name : List ℕ) (es : List Entity) → occurs name (marked_names (met_marks [] es) es) ≡ 0
unfolding marked_names is_met occurs
none_marked name [] = refl
none_marked name (e ∷ es) = none_marked name es

-- one name that is new adds what its entity declares
one_more : (asked : List ℕ) (es : List Entity) (met : List (List ℕ)) (name : List ℕ) → IsRising es → is_met name met ≡ false
    → occurs asked (marked_names (met_marks (met ++ name ∷ []) es) es) ≡ occurs asked (marked_names (met_marks met es) es) + occurs asked (names_at (find_entity name es))
unfolding marked_names find_entity IsStrictlySortedBy occurs
one_more asked [] met name rising new = refl
one_more asked (e ∷ es) met name rising new =
    let rest = one_more asked es met name rising.1 new in
    let after = first_mark asked (is_met e.name (met ++ name ∷ [])) (met_marks (met ++ name ∷ []) es) e es in
    let before = first_mark asked (is_met e.name met) (met_marks met es) e es in
    by_test (bytes_eq name e.name) refl rest after before
  where
    or_false : (b : Bool) → (b || false) ≡ b
    or_false true = refl
    or_false false = refl

    apart : bytes_eq name e.name ≡ false → (b : Bool) → bytes_eq e.name name ≡ b → bytes_eq e.name name ≡ false
    apart test false is = is
    apart test true is =
        let same : e.name ≡ name = (bytes_eq-Decides e.name name).0 is in
        let bad : true ≡ false = sym (ap (bytes_eq name) same ∙ same_equal name) ∙ test in cc

    by_test : (b : Bool) → bytes_eq name e.name ≡ b
        → occurs asked (marked_names (met_marks (met ++ name ∷ []) es) es) ≡ occurs asked (marked_names (met_marks met es) es) + occurs asked (names_at (find_entity name es))
        → occurs asked (marked_names (met_marks (met ++ name ∷ []) (e ∷ es)) (e ∷ es))
        ≡ counted_if (is_met e.name (met ++ name ∷ [])) asked e + occurs asked (marked_names (met_marks (met ++ name ∷ []) es) es)
        → occurs asked (marked_names (met_marks met (e ∷ es)) (e ∷ es)) ≡ counted_if (is_met e.name met) asked e + occurs asked (marked_names (met_marks met es) es)
        → occurs asked (marked_names (met_marks (met ++ name ∷ []) (e ∷ es)) (e ∷ es))
        ≡ occurs asked (marked_names (met_marks met (e ∷ es)) (e ∷ es)) + occurs asked (names_at (if b then Some e else find_entity name es))
    by_test true test rest after before =
        let same : name ≡ e.name = (bytes_eq-Decides name e.name).0 test in
        let is_now : is_met e.name (met ++ name ∷ []) ≡ true = ap (λ n. is_met n (met ++ name ∷ [])) (sym same) ∙ contains_met name (met ++ name ∷ []) (Contains-push met name) in
        let was_not : is_met e.name met ≡ false = ap (λ n. is_met n met) (sym same) ∙ new in
        let none : occurs asked (names_at (find_entity name es)) ≡ 0 = ap (λ n. occurs asked (names_at (find_entity n es))) same ∙ ap (λ o. occurs asked (names_at o)) (no_twin e es rising) in
        let now_own : counted_if (is_met e.name (met ++ name ∷ [])) asked e ≡ occurs asked (own_names e.body) = ap (λ b. counted_if b asked e) is_now in
        let was_own : counted_if (is_met e.name met) asked e ≡ 0 = ap (λ b. counted_if b asked e) was_not in
        omega (arith, rest, after, before, none, now_own, was_own)
    by_test false test rest after before =
        let other : bytes_eq e.name name ≡ false = apart test (bytes_eq e.name name) refl in
        let as_before : is_met e.name (met ++ name ∷ []) ≡ is_met e.name met = met_last e.name name met ∙ ap (λ b. is_met e.name met || (b || false)) other ∙ or_false (is_met e.name met) in
        let own : counted_if (is_met e.name (met ++ name ∷ [])) asked e ≡ counted_if (is_met e.name met) asked e = ap (λ b. counted_if b asked e) as_before in
        omega (arith, rest, after, before, own)

-- ---- the names over bases

-- what the entities of these names declare
abbrev names_by : List Entity → List (List ℕ) → List (List ℕ)
names_by reg met = flat_map (λ n. names_at (find_entity n reg)) met

counted : (asked : List ℕ) (reg : List Entity) (met : List (List ℕ)) → IsRising reg → Differ met → occurs asked (names_by reg met) ≡ occurs asked (marked_names (met_marks met reg) reg)
unfolding occurs
counted asked reg met rising no_name = sym (none_marked asked reg)
counted asked reg met rising (one_name_more ms name before new) =
    let rest = counted asked reg ms rising before in
    let more = one_more asked reg ms name rising new in
    let parts = ap (occurs asked) (flat_map-append (λ (n : List ℕ). names_at (find_entity n reg)) ms (name ∷ [])) in
    let sum = occurs_append asked (names_by reg ms) (names_at (find_entity name reg) ++ []) in
    let last = occurs_append asked (names_at (find_entity name reg)) [] in
    omega (arith, rest, more, parts, sum, last)

counted_over : (asked : List ℕ) (reg : List Entity) (name : List ℕ) → IsRising reg → HasNoCircle (leads_to reg)
    → occurs asked (names_over reg name) ≡ occurs asked (marked_names (met_marks (interfaces_of reg name) reg) reg)
unfolding names_over
counted_over asked reg name rising none = counted asked reg (interfaces_of reg name) rising (interfaces_differ reg name none)

-- the marks at the bases of a name are those at the names that were met
marks_are_met : (reg : List Entity) (name : List ℕ) (marks : List Bool) → HasNoCircle (leads_to reg) → MarksBases reg name marks → met_marks (interfaces_of reg name) reg ≡ marks
marks_are_met reg name marks none marked = same_marks (met_marks (interfaces_of reg name) reg) marks long each
  where
    long : length (met_marks (interfaces_of reg name) reg) ≡ length marks
    long = length-map reg (λ (e : Entity). is_met e.name (interfaces_of reg name)) ∙ sym marked.one_each

    each : (i : ℕ) → i < length (met_marks (interfaces_of reg name) reg) → Marked (met_marks (interfaces_of reg name) reg) i ↔ Marked marks i
    each i low =
        let found = entity_at reg i (omega (arith, low, long, marked.one_each)) in
        let here = met_mark_at reg (interfaces_of reg name) i found.0 found.1 in
        let said = marked.marked i found.0 found.1 in (
          λ m. said.1 (interfaces_are_bases reg name found.0.name (met_contains found.0.name (interfaces_of reg name) (here.0 m))),
          λ m. here.1 (contains_met found.0.name (interfaces_of reg name) (bases_are_interfaces reg name found.0.name none (said.0 m))),
        )

-- what is marked declares the names over bases, each as often
pub marked_over : (asked : List ℕ) (reg : List Entity) (name : List ℕ) (marks : List Bool) → IsRising reg → HasNoCircle (leads_to reg) → MarksBases reg name marks
    → occurs asked (marked_names marks reg) ≡ occurs asked (names_over reg name)
marked_over asked reg name marks rising none marked =
    sym (counted_over asked reg name rising none ∙ ap (λ m. occurs asked (marked_names m reg)) (marks_are_met reg name marks none marked))

-- names over bases differ where the names that are marked do
pub marked_differ_over : (reg : List Entity) (name : List ℕ) (marks : List Bool) → IsRising reg → HasNoCircle (leads_to reg) → MarksBases reg name marks
    → all_differ (marked_names marks reg) ≡ all_differ (names_over reg name)
marked_differ_over reg name marks rising none marked =
    same_differ (marked_names marks reg) (names_over reg name)
    (λ asked. marked_over asked reg name marks rising none marked)

-- ---- fewer

fewer_met : (asked : List ℕ) (met more : List (List ℕ)) (es : List Entity) → ((n : List ℕ) → is_met n met ≡ true → is_met n more ≡ true)
    → occurs asked (marked_names (met_marks met es) es) ≤ occurs asked (marked_names (met_marks more es) es)
unfolding marked_names
fewer_met asked met more [] each = omega arith
fewer_met asked met more (e ∷ es) each =
    let rest = fewer_met asked met more es each in
    omega (
      arith,
      rest,
      first_mark asked (is_met e.name met) (met_marks met es) e es,
      first_mark asked (is_met e.name more) (met_marks more es) e es,
      low (is_met e.name met) (is_met e.name more) (each e.name),
    )
  where
    low : (x y : Bool) → (x ≡ true → y ≡ true) → counted_if x asked e ≤ counted_if y asked e
    low false y so = omega arith
    low true true so = omega arith
    low true false so = let bad : false ≡ true = so refl in cc

-- a base of a base is one
base_over : (reg : List Entity) (name base n : List ℕ) → IsBaseOf reg base name → IsBaseOf reg n base → IsBaseOf reg n name
base_over reg name base n (inl same) more = subst (IsBaseOf reg n) (sym same) more
base_over reg name base n (inr way) (inl same) = inr (subst (Leads (stands_on reg) name) same way)
base_over reg name base n (inr way) (inr more) = inr (led_on reg name base n way more)

-- what stands on a base is met with all that the base is met with
base_met : (reg : List Entity) (name base n : List ℕ) → HasNoCircle (leads_to reg) → IsBaseOf reg base name → is_met n (interfaces_of reg base) ≡ true
    → is_met n (interfaces_of reg name) ≡ true
base_met reg name base n none is met =
    contains_met n (interfaces_of reg name) (bases_are_interfaces reg name n none
    (base_over reg name base n is (interfaces_are_bases reg base n (met_contains n (interfaces_of reg base) met))))

-- a base of what differs over its bases does too
pub differ_below : (reg : List Entity) (name base : List ℕ) → IsRising reg → HasNoCircle (leads_to reg) → IsBaseOf reg base name
    → all_differ (names_over reg name) ≡ true → all_differ (names_over reg base) ≡ true
differ_below reg name base rising none is =
    fewer_differ (names_over reg base) (names_over reg name)
    (λ asked. omega (
      arith,
      counted_over asked reg name rising none,
      counted_over asked reg base rising none,
      fewer_met asked (interfaces_of reg base) (interfaces_of reg name) reg (λ n met. base_met reg name base n none is met),
    ))
