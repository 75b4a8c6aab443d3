-- Names rise just where each is above the last before it.
use Rattle.std.proofs.Common.{◌≡◌, ℕ, Bool, true, List, [], ◌∷◌, ◌++◌, map, refl, sym, subst}
use Rattle.std.proofs.lemmas.Cmp.{nat_list_cmp_total}
use Rattle.std.proofs.lemmas.List.{map_push}
use Rattle.std.specs.Cmp.Lexicographic.{slice_cmp}
use Rattle.std.specs.List.{AllByRecursion}
use Rattle.std.specs.List.Sorted.{IsStrictlySortedBy}
use Rattle.std.specs.Ordering.{nat_cmp, is_lt}
use Rattle.std.specs.declared.cmp.Ordering.{Ordering}
use Rattle.std.specs.declared.cmp.Ordering.TheVariants.{Less, Equal, Greater}
use Rattle.uno_model.specs.Entities.{Entity}
use Rattle.uno_model.specs.Registry.{IsRising}
use Rattle.registry_reading_model.specs.States.{is_above}

abbrev pub names_of : List Entity → List (List ℕ)
names_of es = map (λ e. e.name) es

abbrev pub is_below : List ℕ → List ℕ → Bool
is_below x y = is_lt (slice_cmp nat_cmp x y)

pub less_from_below : (x y : List ℕ) → is_below x y ≡ true → slice_cmp nat_cmp x y ≡ Less
less_from_below x y below = by_order (slice_cmp nat_cmp x y) below
  where
    by_order : (o : Ordering) → is_lt o ≡ true → o ≡ Less
    by_order Less is = refl
    by_order Equal is = let bad : ⊥ = cc in absurd bad
    by_order Greater is = let bad : ⊥ = cc in absurd bad

-- all names are below this one
abbrev pub AllBelow : List (List ℕ) → List ℕ → Type 0
AllBelow names name = AllByRecursion (λ n. slice_cmp nat_cmp n name ≡ Less) names

-- the names from the last on are below what is above the last
pub all_below : (es : List Entity) (name : List ℕ) → IsRising es → is_above es name ≡ true → AllBelow (names_of es) name
unfolding is_above IsStrictlySortedBy
all_below [] name rising above = tt
all_below (e ∷ []) name rising above = (less_from_below e.name name above, tt)
all_below (e ∷ (d ∷ ds)) name rising above =
    let rest = all_below (d ∷ ds) name rising.1 above in
    (nat_list_cmp_total.trans e.name d.name name rising.0.0 rest.0, rest)

-- one more name behind others that rise
pub sorted_more : (names : List (List ℕ)) (name : List ℕ) → IsStrictlySortedBy (slice_cmp nat_cmp) names → AllBelow names name
    → IsStrictlySortedBy (slice_cmp nat_cmp) (names ++ name ∷ [])
unfolding IsStrictlySortedBy
sorted_more [] name sorted below = (tt, tt)
sorted_more (n ∷ ns) name sorted below = (with_last n ns sorted.0 below.0, sorted_more ns name sorted.1 below.1)
  where
    with_last : (m : List ℕ) (ms : List (List ℕ)) → AllByRecursion (λ y. slice_cmp nat_cmp m y ≡ Less) ms → slice_cmp nat_cmp m name ≡ Less
        → AllByRecursion (λ y. slice_cmp nat_cmp m y ≡ Less) (ms ++ name ∷ [])
    with_last m [] all last = (last, tt)
    with_last m (k ∷ ks) all last = (all.0, with_last m ks all.1 last)

pub rising_more : (es : List Entity) (e : Entity) → IsRising es → is_above es e.name ≡ true → IsRising (es ++ e ∷ [])
rising_more es e rising above =
    subst (λ names. IsStrictlySortedBy (slice_cmp nat_cmp) names) (sym (map_push (λ d. d.name) es e)) (sorted_more (names_of es) e.name rising (all_below es e.name rising above))

-- an entity that stands behind others that rise is above the last of them
pub above_of_rising : (es : List Entity) (e : Entity) (behind : List Entity) → IsRising (es ++ e ∷ behind) → is_above es e.name ≡ true
unfolding is_above IsStrictlySortedBy
above_of_rising [] e behind rising = refl
above_of_rising (d ∷ []) e behind rising = rw rising.0.0 refl
above_of_rising (d ∷ (c ∷ cs)) e behind rising = above_of_rising (c ∷ cs) e behind rising.1

-- entities of the same names rise alike
pub rising_by_names : (es ds : List Entity) → names_of es ≡ names_of ds → IsRising es → IsRising ds
rising_by_names es ds same rising = subst (λ names. IsStrictlySortedBy (slice_cmp nat_cmp) names) same rising
