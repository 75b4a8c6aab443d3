-- The interfaces that an interface brings in: levels that are more than enough change nothing, and what is met are its bases, each once.
use Rattle.std.proofs.Common.{◌≡◌, ℕ, zero, suc, ◌<◌, Bool, true, false, List, [], ◌∷◌, ◌++◌, length, refl, sym, ap, subst, ◌∙◌, if◌then◌else◌, ◌⊎◌, inl, inr, arith, append_assoc, append-nil}
use Rattle.std.specs.Prelude.{Contains}
use Rattle.std.specs.List.{list_any}
use Rattle.std.specs.Str.{bytes_eq}
use Rattle.std.proofs.lemmas.Bool.{cases_lt}
use Rattle.std.proofs.lemmas.List.Elements.{Contains-append_left, Contains-append_right, Contains-push, Contains-push_cases}
use Rattle.std.proofs.lemmas.Slice.Eq.{bytes_eq-Decides}
use Rattle.uno_model.specs.Circles.{Leads, step, on, HasNoCircle, ends_within}
use Rattle.uno_model.specs.Entities.{Entity}
use Rattle.uno_model.specs.Functions.{is_met, visit_all, met_within, visit, interfaces_of}
use Rattle.uno_model.specs.Registry.{stands_on, leads_to, IsBaseOf}
use Rattle.uno_model.proofs.CircleLaws.{none_ends_at_once, next_ends, ends_more}
use Rattle.uno_model.proofs.FindLaws.{same_equal}
use Rattle.uno_model.proofs.PlaceLaws.{contains_cases, contains_head, contains_behind}
use Rattle.uno_model.proofs.ReachesLaws.{passing, passes, base_of_base, ways_lead, bases_end}

-- ---- levels

-- two ways to visit that agree at each of the names
same_visits : (f g : List (List ℕ) → List ℕ → List (List ℕ)) (names : List (List ℕ)) → ((name : List ℕ) → Contains names name → (met : List (List ℕ)) → f met name ≡ g met name)
    → (met : List (List ℕ)) → visit_all f met names ≡ visit_all g met names
unfolding visit_all
same_visits f g [] same met = refl
same_visits f g (n ∷ ns) same met =
    ap (λ m. visit_all f m ns) (same n (contains_head n ns) met) ∙ same_visits f g ns (λ m has. same m (contains_behind n ns m has)) (g met n)

-- one level more brings nothing where each way ends
one_level_more : (levels : ℕ) (reg : List Entity) (name : List ℕ) → ends_within (stands_on reg) levels name ≡ true → (met : List (List ℕ))
    → met_within (suc levels) reg met name ≡ met_within levels reg met name
unfolding met_within
one_level_more zero reg name ends met = absurd (none_ends_at_once (stands_on reg) name ends)
one_level_more (suc levels) reg name ends met =
    ap (λ ms. if is_met name met then met else ms ++ name ∷ []) (same_visits (met_within (suc levels) reg) (met_within levels reg) (stands_on reg name)
    (λ base has. one_level_more levels reg base (next_ends (stands_on reg) levels name base ends has)) met)

-- without a circle, levels that are more than the entities change nothing
pub more_levels : (reg : List Entity) (levels : ℕ) (met : List (List ℕ)) (name : List ℕ) → HasNoCircle (leads_to reg) → length reg < levels
    → met_within levels reg met name ≡ visit reg met name
more_levels reg zero met name none above = absurd (omega arith)
more_levels reg (suc levels) met name none above = elim (cases_lt (length reg) levels) [
  | inl more ↦
      one_level_more levels reg name (ends_more (stands_on reg) (suc (length reg)) levels name (omega (arith, more)) (bases_end reg name none)) met
      ∙ more_levels reg levels met name none more
  | inr most ↦ let one : levels ≡ length reg = omega (arith, above, most) in ap (λ l. met_within (suc l) reg met name) one
]

-- without a circle, a visit is that of the bases, in their order, and then the interface itself
pub visit_is : (reg : List Entity) (met : List (List ℕ)) (name : List ℕ) → HasNoCircle (leads_to reg)
    → visit reg met name ≡ (if is_met name met then met else visit_all (visit reg) met (stands_on reg name) ++ name ∷ [])
unfolding met_within
visit_is reg met name none =
    let ends = bases_end reg name none in
    ap (λ ms. if is_met name met then met else ms ++ name ∷ []) (same_visits (met_within (length reg) reg) (visit reg) (stands_on reg name)
    (λ base has m. sym (one_level_more (length reg) reg base (next_ends (stands_on reg) (length reg) name base ends has) m)) met)

-- ---- what is met

pub met_contains : (name : List ℕ) (met : List (List ℕ)) → is_met name met ≡ true → Contains met name
unfolding is_met
met_contains name met is =
    let found = passing (bytes_eq name) met is in
    subst (Contains met) (sym ((bytes_eq-Decides name found.0).0 found.2)) found.1

pub contains_met : (name : List ℕ) (met : List (List ℕ)) → Contains met name → is_met name met ≡ true
unfolding is_met
contains_met name met has = passes (bytes_eq name) met name has (same_equal name)

-- whether a name was met
met_or_not : (name : List ℕ) (met : List (List ℕ)) → (is_met name met ≡ true) ⊎ (is_met name met ≡ false)
met_or_not name met = by_test (is_met name met)
  where
    by_test : (b : Bool) → (b ≡ true) ⊎ (b ≡ false)
    by_test true = inl refl
    by_test false = inr refl

-- over one level or more
was_met : (levels : ℕ) (reg : List Entity) (met : List (List ℕ)) (name : List ℕ) → is_met name met ≡ true → met_within (suc levels) reg met name ≡ met
unfolding met_within
was_met levels reg met name is = rw is refl

is_new : (levels : ℕ) (reg : List Entity) (met : List (List ℕ)) (name : List ℕ) → is_met name met ≡ false
    → met_within (suc levels) reg met name ≡ visit_all (met_within levels reg) met (stands_on reg name) ++ name ∷ []
unfolding met_within
is_new levels reg met name new = rw new refl

-- one list is the front of the other
abbrev pub Extends : {X : Type 0} → List X → List X → Type 0
Extends {X = X} xs ys = (more : List X) × (ys ≡ xs ++ more)

pub extends_on : {X : Type 0} (xs ys zs : List X) → Extends xs ys → Extends ys zs → Extends xs zs
extends_on xs ys zs first second = (first.0 ++ second.0, second.1 ∙ ap (λ l. l ++ second.0) first.1 ∙ append_assoc xs first.0 second.0)

-- a visit leaves what was met in front
pub all_extend : (f : List (List ℕ) → List ℕ → List (List ℕ)) (names : List (List ℕ)) → ((met : List (List ℕ)) (name : List ℕ) → Extends met (f met name))
    → (met : List (List ℕ)) → Extends met (visit_all f met names)
unfolding visit_all
all_extend f [] each met = ([], sym (append-nil met))
all_extend f (n ∷ ns) each met = extends_on met (f met n) (visit_all f (f met n) ns) (each met n) (all_extend f ns each (f met n))

pub met_extends : (levels : ℕ) (reg : List Entity) (met : List (List ℕ)) (name : List ℕ) → Extends met (met_within levels reg met name)
unfolding met_within
met_extends zero reg met name = ([], sym (append-nil met))
met_extends (suc levels) reg met name = elim (met_or_not name met) [
  | inl is ↦ ([], was_met levels reg met name is ∙ sym (append-nil met))
  | inr new ↦
      let all = all_extend (met_within levels reg) (stands_on reg name) (λ m n. met_extends levels reg m n) met in
      subst (Extends met) (sym (is_new levels reg met name new)) (extends_on met (visit_all (met_within levels reg) met (stands_on reg name)) _ all (name ∷ [], refl))
]

extends_has : {X : Type 0} (xs ys : List X) (x : X) → Extends xs ys → Contains xs x → Contains ys x
extends_has xs ys x more has = subst (λ l. Contains l x) (sym more.1) (Contains-append_left xs more.0 x has)

-- what is met was met, or is a base of what is visited
abbrev OneOf : List Entity → List (List ℕ) → List ℕ → Type 0
OneOf reg names n = (b : List ℕ) × Contains names b × IsBaseOf reg n b

all_are_bases : (reg : List Entity) (f : List (List ℕ) → List ℕ → List (List ℕ)) (names : List (List ℕ))
    → ((met : List (List ℕ)) (name n : List ℕ) → Contains (f met name) n → Contains met n ⊎ IsBaseOf reg n name)
    → (met : List (List ℕ)) (n : List ℕ) → Contains (visit_all f met names) n → Contains met n ⊎ OneOf reg names n
unfolding visit_all
all_are_bases reg f [] each met n has = inl has
all_are_bases reg f (b ∷ bs) each met n has = elim (all_are_bases reg f bs each (f met b) n has) [
  | inl before ↦ elim (each met b n before) [ inl old ↦ inl old | inr base ↦ inr (b, contains_head b bs, base) ]
  | inr one ↦ inr (one.0, contains_behind b bs one.0 one.1, one.2)
]

pub met_are_bases : (levels : ℕ) (reg : List Entity) (met : List (List ℕ)) (name n : List ℕ) → Contains (met_within levels reg met name) n
    → Contains met n ⊎ IsBaseOf reg n name
unfolding met_within
met_are_bases zero reg met name n has = inl has
met_are_bases (suc levels) reg met name n has = elim (met_or_not name met) [
  | inl is ↦ inl (subst (λ l. Contains l n) (was_met levels reg met name is) has)
  | inr new ↦
      let bases = stands_on reg name in
      elim (Contains-push_cases (visit_all (met_within levels reg) met bases) name n (subst (λ l. Contains l n) (is_new levels reg met name new) has)) [
        | inl in_bases ↦ elim (all_are_bases reg (met_within levels reg) bases (λ m b k. met_are_bases levels reg m b k) met n in_bases)
            [ inl old ↦ inl old | inr one ↦ inr (base_of_base reg n name one.0 one.1 one.2) ]
        | inr here ↦ inr (inl here)
      ]
]

pub interfaces_are_bases : (reg : List Entity) (name n : List ℕ) → Contains (interfaces_of reg name) n → IsBaseOf reg n name
interfaces_are_bases reg name n has = elim (met_are_bases (suc (length reg)) reg [] name n has) [ inl none ↦ absurd (omega (arith, none.1)) | inr base ↦ base ]

-- ---- all bases are met

-- with each name its bases are there
abbrev Closed : List Entity → List (List ℕ) → Type 0
Closed reg met = (a b : List ℕ) → Contains met a → Contains (stands_on reg a) b → Contains met b

abbrev Visited : List Entity → (List (List ℕ) → List ℕ → List (List ℕ)) → List ℕ → Type 0
Visited reg f name = (met : List (List ℕ)) → Closed reg met → Closed reg (f met name) × Contains (f met name) name

all_visited : (reg : List Entity) (f : List (List ℕ) → List ℕ → List (List ℕ)) (names : List (List ℕ)) → ((met : List (List ℕ)) (name : List ℕ) → Extends met (f met name))
    → ((name : List ℕ) → Contains names name → Visited reg f name)
    → (met : List (List ℕ)) → Closed reg met → Closed reg (visit_all f met names) × ((b : List ℕ) → Contains names b → Contains (visit_all f met names) b)
unfolding visit_all
all_visited reg f [] extends each met closed = (closed, λ b has. absurd (omega (arith, has.1)))
all_visited reg f (n ∷ ns) extends each met closed =
    let first = each n (contains_head n ns) met closed in
    let others = all_visited reg f ns extends (λ m has. each m (contains_behind n ns m has)) (f met n) first.0 in (
      others.0,
      λ b has. elim (contains_cases n ns b has) [
        | inl here ↦ subst (Contains (visit_all f (f met n) ns)) here (extends_has (f met n) _ n (all_extend f ns extends (f met n)) first.1)
        | inr behind ↦ others.1 b behind
      ],
    )

visited : (levels : ℕ) (reg : List Entity) (name : List ℕ) → ends_within (stands_on reg) levels name ≡ true → Visited reg (met_within levels reg) name
visited zero reg name ends met closed = absurd (none_ends_at_once (stands_on reg) name ends)
visited (suc levels) reg name ends met closed = elim (met_or_not name met) [
  | inl is ↦ subst (λ l. Closed reg l × Contains l name) (sym (was_met levels reg met name is)) (closed, met_contains name met is)
  | inr new ↦
      let all = all_visited reg (met_within levels reg) (stands_on reg name) (λ m n. met_extends levels reg m n)
      (λ b has. visited levels reg b (next_ends (stands_on reg) levels name b ends has)) met closed in
      let ms = visit_all (met_within levels reg) met (stands_on reg name) in
      subst (λ l. Closed reg l × Contains l name) (sym (is_new levels reg met name new)) (with_last ms all.0 all.1, Contains-push ms name)
]
  where
    with_last : (ms : List (List ℕ)) → Closed reg ms → ((b : List ℕ) → Contains (stands_on reg name) b → Contains ms b) → Closed reg (ms ++ name ∷ [])
    with_last ms before own a b has base = elim (Contains-push_cases ms name a has) [
      | inl old ↦ Contains-append_left ms (name ∷ []) b (before a b old base)
      | inr here ↦ Contains-append_left ms (name ∷ []) b (own b (subst (λ n. Contains (stands_on reg n) b) (sym here) base))
    ]

led_is_there : (reg : List Entity) (met : List (List ℕ)) (a b : List ℕ) → Closed reg met → Leads (stands_on reg) a b → Contains met a → Contains met b
led_is_there reg met a b closed (step from to has) there = closed from to there has
led_is_there reg met a b closed (on from next to has more) there = led_is_there reg met next to closed more (closed from next there has)

pub bases_are_interfaces : (reg : List Entity) (name base : List ℕ) → HasNoCircle (leads_to reg) → IsBaseOf reg base name → Contains (interfaces_of reg name) base
bases_are_interfaces reg name base none is =
    let all = visited (suc (length reg)) reg name (bases_end reg name none) [] (λ a b has in'. absurd (omega (arith, has.1))) in
    elim is [ inl same ↦ subst (Contains (interfaces_of reg name)) same all.1 | inr leads ↦ led_is_there reg (interfaces_of reg name) name base all.0 leads all.1 ]

-- ---- each once

pub data Differ : List (List ℕ) → Type 0 where
  no_name : Differ []
  one_name_more : (met : List (List ℕ)) (name : List ℕ) → Differ met → is_met name met ≡ false → Differ (met ++ name ∷ [])

-- what no base of the names is, they do not bring in
all_differ : (f : List (List ℕ) → List ℕ → List (List ℕ)) (names : List (List ℕ)) → ((met : List (List ℕ)) (name : List ℕ) → Differ met → Differ (f met name))
    → (met : List (List ℕ)) → Differ met → Differ (visit_all f met names)
unfolding visit_all
all_differ f [] each met before = before
all_differ f (n ∷ ns) each met before = all_differ f ns each (f met n) (each met n before)

-- a name that is new is not among its bases
still_new : (levels : ℕ) (reg : List Entity) (met : List (List ℕ)) (name : List ℕ) → HasNoCircle (leads_to reg) → is_met name met ≡ false
    → is_met name (visit_all (met_within levels reg) met (stands_on reg name)) ≡ false
still_new levels reg met name none new = elim (met_or_not name (visit_all (met_within levels reg) met (stands_on reg name))) [
  | inl is ↦ absurd (elim (all_are_bases reg (met_within levels reg) (stands_on reg name) (λ m b k. met_are_bases levels reg m b k) met name
      (met_contains name (visit_all (met_within levels reg) met (stands_on reg name)) is)) [
        | inl old ↦ clash (is_met name met) (contains_met name met old) new
        | inr one ↦ none name (ways_lead reg name name (round one.0 one.1 one.2))
      ])
  | inr still ↦ still
]
  where
    clash : (b : Bool) → b ≡ true → b ≡ false → ⊥
    clash b is not_so = let bad : true ≡ false = sym is ∙ not_so in cc

    round : (b : List ℕ) → Contains (stands_on reg name) b → IsBaseOf reg name b → Leads (stands_on reg) name name
    round b has (inl same) = step name name (subst (Contains (stands_on reg name)) same has)
    round b has (inr leads) = on name b name has leads

met_differ : (levels : ℕ) (reg : List Entity) (met : List (List ℕ)) (name : List ℕ) → HasNoCircle (leads_to reg) → Differ met → Differ (met_within levels reg met name)
unfolding met_within
met_differ zero reg met name none before = before
met_differ (suc levels) reg met name none before = elim (met_or_not name met) [
  | inl is ↦ subst Differ (sym (was_met levels reg met name is)) before
  | inr new ↦
      let all = all_differ (met_within levels reg) (stands_on reg name) (λ m b d. met_differ levels reg m b none d) met before in
      subst Differ (sym (is_new levels reg met name new)) (one_name_more _ name all (still_new levels reg met name none new))
]

pub interfaces_differ : (reg : List Entity) (name : List ℕ) → HasNoCircle (leads_to reg) → Differ (interfaces_of reg name)
interfaces_differ reg name none = met_differ (suc (length reg)) reg [] name none no_name
