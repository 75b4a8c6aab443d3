-- Entities sorted by their names: what holds of each still does, each is found as before, and names rise where they differ.
use Rattle.std.proofs.Common.{◌≡◌, ℕ, Bool, true, false, List, [], ◌∷◌, ◌++◌, map, Some, refl, sym, ap, subst, ◌∙◌, if◌then◌else◌}
use Rattle.std.proofs.lemmas.Bool.{both_ways}
use Rattle.std.proofs.lemmas.Cmp.{nat_list_cmp_total}
use Rattle.std.proofs.lemmas.Slice.Eq.{bytes_eq-Decides}
use Rattle.std.specs.Cmp.Lexicographic.{slice_cmp}
use Rattle.std.specs.List.{AllByRecursion}
use Rattle.std.specs.List.Sorted.{IsStrictlySortedBy}
use Rattle.std.specs.Option.{option_or}
use Rattle.std.specs.Ordering.{nat_cmp, is_lt, ordering_reverse}
use Rattle.std.specs.Str.{bytes_eq}
use Rattle.std.specs.declared.cmp.Ordering.{Ordering}
use Rattle.std.specs.declared.cmp.Ordering.TheVariants.{Less, Equal, Greater}
use Rattle.uno_model.specs.Entities.{Entity}
use Rattle.uno_model.specs.Registry.{IsRising, find_entity}
use Rattle.uno_model.proofs.FindLaws.{name_cmp, equal_names, same_equal}
use Rattle.idl_meaning_model.specs.Meaning.{placed, sorted}
use Rattle.idl_meaning_model.proofs.EachLaws.{AllPairsOf, each_weaker}

-- two entities with different names
abbrev pub Differ : Entity → Entity → Type 0
Differ e f = bytes_eq e.name f.name ≡ false

-- ---- what holds of each

each_by_order : (P : Entity → Type 0) (e f : Entity) (fs : List Entity) (b : Bool) → P e → AllByRecursion P (f ∷ fs) → AllByRecursion P (placed e fs)
    → AllByRecursion P (if b then e ∷ (f ∷ fs) else f ∷ placed e fs)
each_by_order P e f fs true here all rest = (here, all)
each_by_order P e f fs false here all rest = (all.0, rest)

pub each_placed : (P : Entity → Type 0) (e : Entity) (es : List Entity) → P e → AllByRecursion P es → AllByRecursion P (placed e es)
unfolding placed
each_placed P e [] here all = (here, tt)
each_placed P e (f ∷ fs) here all = each_by_order P e f fs (is_lt (slice_cmp nat_cmp e.name f.name)) here all (each_placed P e fs here all.1)

pub each_sorted : (P : Entity → Type 0) (es : List Entity) → AllByRecursion P es → AllByRecursion P (sorted es)
unfolding sorted
each_sorted P [] all = tt
each_sorted P (e ∷ es) all = each_placed P e (sorted es) all.0 (each_sorted P es all.1)

-- ---- what is found

other_name : (name : List ℕ) (e f : Entity) → bytes_eq name e.name ≡ true → Differ e f → bytes_eq name f.name ≡ false
other_name name e f same other = subst (λ n. bytes_eq n f.name ≡ false) (sym ((bytes_eq-Decides name e.name).0 same)) other

-- the one that is put among others is found before them
pub found_placed : (name : List ℕ) (e : Entity) (es : List Entity) → AllByRecursion (Differ e) es
    → find_entity name (placed e es) ≡ (if bytes_eq name e.name then Some e else find_entity name es)
unfolding find_entity placed
found_placed name e [] differ = refl
found_placed name e (f ∷ fs) differ = by_order (is_lt (slice_cmp nat_cmp e.name f.name)) (found_placed name e fs differ.1)
  where
    swapped : (b c : Bool) → (bytes_eq name e.name ≡ true → bytes_eq name f.name ≡ false) → bytes_eq name e.name ≡ b → bytes_eq name f.name ≡ c
        → (if c then Some f else (if b then Some e else find_entity name fs)) ≡ (if b then Some e else (if c then Some f else find_entity name fs))
    swapped true true apart is_e is_f = absurd (both_ways (bytes_eq name f.name) (apart is_e) is_f)
    swapped true false apart is_e is_f = refl
    swapped false true apart is_e is_f = refl
    swapped false false apart is_e is_f = refl

    by_order : (b : Bool) → find_entity name (placed e fs) ≡ (if bytes_eq name e.name then Some e else find_entity name fs)
        → find_entity name (if b then e ∷ (f ∷ fs) else f ∷ placed e fs) ≡ (if bytes_eq name e.name then Some e else (if bytes_eq name f.name then Some f else find_entity name fs))
    by_order true rest = refl
    by_order false rest = ap (λ o. if bytes_eq name f.name then Some f else o) rest ∙ swapped (bytes_eq name e.name) (bytes_eq name f.name) (λ same. other_name name e f same differ.0) refl refl

pub found_sorted : (name : List ℕ) (es : List Entity) → AllPairsOf Differ es → find_entity name (sorted es) ≡ find_entity name es
unfolding find_entity sorted
found_sorted name [] differ = refl
found_sorted name (e ∷ es) differ =
    found_placed name e (sorted es) (each_sorted (Differ e) es differ.0) ∙ ap (λ o. if bytes_eq name e.name then Some e else o) (found_sorted name es differ.1)

pub found_append : (name : List ℕ) (es fs : List Entity) → find_entity name (es ++ fs) ≡ option_or (find_entity name es) (find_entity name fs)
unfolding find_entity
found_append name [] fs = refl
found_append name (e ∷ es) fs = by_test (bytes_eq name e.name) (found_append name es fs)
  where
    by_test : (b : Bool) → find_entity name (es ++ fs) ≡ option_or (find_entity name es) (find_entity name fs)
        → (if b then Some e else find_entity name (es ++ fs)) ≡ option_or (if b then Some e else find_entity name es) (find_entity name fs)
    by_test true rest = refl
    by_test false rest = rest

-- ---- names rise

abbrev Below : List ℕ → List Entity → Type 0
Below name es = AllByRecursion (λ y. name_cmp name y ≡ Less) (map (λ e. e.name) es)

below_each : (name : List ℕ) (es : List Entity) → AllByRecursion (λ e. name_cmp name e.name ≡ Less) es → Below name es
below_each name [] all = tt
below_each name (e ∷ es) all = (all.0, below_each name es all.1)

each_below : (name : List ℕ) (es : List Entity) → Below name es → AllByRecursion (λ e. name_cmp name e.name ≡ Less) es
each_below name [] all = tt
each_below name (e ∷ es) all = (all.0, each_below name es all.1)

-- of two different names the one that is not below is above
above_other : (x y : List ℕ) → bytes_eq x y ≡ false → is_lt (name_cmp x y) ≡ false → name_cmp y x ≡ Less
above_other x y other not_below = by_order (name_cmp x y) refl
  where
    by_order : (o : Ordering) → name_cmp x y ≡ o → name_cmp y x ≡ Less
    by_order Less is = let bad : true ≡ false = ap is_lt (sym is) ∙ not_below in absurd (both_ways true bad refl)
    by_order Equal is = absurd (both_ways (bytes_eq x y) other (subst (λ z. bytes_eq x z ≡ true) (equal_names x y is) (same_equal x)))
    by_order Greater is = nat_list_cmp_total.antisymm y x ∙ ap ordering_reverse is

less_from : (o : Ordering) → is_lt o ≡ true → o ≡ Less
less_from Less is = refl
less_from Equal is = absurd (both_ways false refl is)
less_from Greater is = absurd (both_ways false refl is)

rising_by_order : (e f : Entity) (fs : List Entity) (b : Bool) → is_lt (slice_cmp nat_cmp e.name f.name) ≡ b → IsRising (f ∷ fs) → Differ e f → IsRising (placed e fs)
    → IsRising (if b then e ∷ (f ∷ fs) else f ∷ placed e fs)
unfolding IsStrictlySortedBy
rising_by_order e f fs true is rising differ rest =
    let below : name_cmp e.name f.name ≡ Less = less_from (name_cmp e.name f.name) is in
    let others = each_weaker (λ g. name_cmp f.name g.name ≡ Less) (λ g. name_cmp e.name g.name ≡ Less) fs
    (λ g less. nat_list_cmp_total.trans e.name f.name g.name below less) (each_below f.name fs rising.0) in
    ((below, below_each e.name fs others), rising)
rising_by_order e f fs false is rising differ rest =
    let above : name_cmp f.name e.name ≡ Less = above_other e.name f.name differ is in
    (below_each f.name (placed e fs) (each_placed (λ g. name_cmp f.name g.name ≡ Less) e fs above (each_below f.name fs rising.0)), rest)

pub placed_rising : (e : Entity) (es : List Entity) → IsRising es → AllByRecursion (Differ e) es → IsRising (placed e es)
unfolding placed IsStrictlySortedBy
placed_rising e [] rising differ = (tt, tt)
placed_rising e (f ∷ fs) rising differ =
    rising_by_order e f fs (is_lt (slice_cmp nat_cmp e.name f.name)) refl rising differ.0 (placed_rising e fs rising.1 differ.1)

pub sorted_rising : (es : List Entity) → AllPairsOf Differ es → IsRising (sorted es)
unfolding sorted IsStrictlySortedBy
sorted_rising [] differ = tt
sorted_rising (e ∷ es) differ = placed_rising e (sorted es) (sorted_rising es differ.1) (each_sorted (Differ e) es differ.0)
