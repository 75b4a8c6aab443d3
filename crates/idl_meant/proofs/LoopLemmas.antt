-- What is so behind one more step of a loop.
use Rattle.std.proofs.Common.{◌≡◌, refl, sym, ap, subst, ◌∙◌, ℕ, zero, suc, ◌+◌, ◌<◌, ◌≤◌, Bool, true, false, List, [], ◌∷◌, ◌++◌, length, map, take, drop, get_or, slice_get, Option, None, Some, if◌then◌else◌, arith}
use Rattle.std.proofs.lemmas.List.{map_more}
use Rattle.std.proofs.lemmas.Option.{slice_get_within}
use Rattle.std.specs.List.{AllByRecursion}
use Rattle.std.specs.Str.{bytes_eq}
use Rattle.uno_entities.specs.Entities.{entities_of, entity_of}
use Rattle.uno_entities.specs.declared.entity.Entity.{Entity}
use Rattle.uno_model.specs.Registry.{find_entity}
use Rattle.idl_meant.specs.Owning.{entity_number}
use Rattle.idl_meant.specs.Starting.{count_in, starts_of, value_count}
use Rattle.idl_meaning_model.specs.Declarations.{is_forward}
use Rattle.idl_model.specs.Places.{Place}
use Rattle.idl_model.specs.Trees.{Declaration}
use Rattle.idl_names.specs.Collected.{HasNumbers}
use Rattle.idl_names.specs.Opened.{AreAt}
use Rattle.idl_names.specs.Paths.{Parts}
use Rattle.idl_names.specs.Telling.{AreRight}
use Rattle.idl_names.specs.declared.declaration.Declared.{Declared}
use Rattle.idl_trees.specs.Names.{place_of}
use Rattle.idl_trees.specs.Trees.{declaration_of}
use Rattle.idl_trees.specs.declared.place.Place as code
use Rattle.idl_model.specs.Places.{is_at}
use Rattle.idl_values.specs.Told.{later, number_told}

none_some : {X : Type 0} {x : X} → None ≡ Some x → ⊥
none_some is = cc

-- ---- numbers of entities

pub one_number_more : {X Y : Type 0} (view : X → Y) (xs : List X) (i : ℕ) (x : X) (now new : List Y) (y : Y) → i < length xs → x ≡ get_or xs i x → now ≡ map view (take i xs) → new ≡ now ++ y ∷ [] → y ≡ view x → new ≡ map view (take (i + 1) xs)
one_number_more view xs i x now new y low is so_far adds same =
    adds ∙ (λ j. so_far j ++ (same ∙ ap view is) j ∷ []) ∙ sym (map_more view xs i x low)

pub low_numbers : (count : ℕ) (all : List Declared) → 0 < count → AllByRecursion (λ d. d.path < count) all → AllByRecursion (λ n. n < count) (map entity_number all)
low_numbers count [] some low = tt
low_numbers count (d ∷ ds) some low = (by_forward (is_forward (declaration_of d.body.now)), low_numbers count ds some low.1)
  where
    by_forward : (b : Bool) → (if b then 0 else d.path) < count
    by_forward true = some
    by_forward false = low.0

-- ---- where constants and items begin

pub no_starts : (ds : List Declaration) → [] ≡ starts_of ds 0
unfolding starts_of
no_starts ds = refl

pub none_counted : (ds : List Declaration) → 0 ≡ count_in (take 0 ds)
unfolding count_in
none_counted ds = refl

pub one_start_more : (ds : List Declaration) (i : ℕ) (now new : List ℕ) (next : ℕ) → now ≡ starts_of ds i → next ≡ count_in (take i ds) → new ≡ now ++ next ∷ [] → new ≡ starts_of ds (i + 1)
unfolding starts_of
one_start_more ds i now new next so_far is adds =
    adds ∙ (λ j. so_far j ++ is j ∷ []) ∙ ap (starts_of ds) (let step : suc i ≡ i + 1 = omega arith in step)

counted_more : (ds : List Declaration) (i : ℕ) (d : Declaration) → slice_get ds i ≡ Some d → count_in (take (suc i) ds) ≡ count_in (take i ds) + value_count d
unfolding count_in
counted_more [] i d at = absurd (none_some at)
counted_more (e ∷ es) zero d at = ap (λ x. value_count x + 0) (let one : e ≡ d = cc in one) ∙ (let is : value_count d + 0 ≡ 0 + value_count d = omega arith in is)
counted_more (e ∷ es) (suc i) d at =
    let rest = counted_more es i d at in
    let more : value_count e + count_in (take (suc i) es) ≡ (value_count e + count_in (take i es)) + value_count d = omega (arith, rest) in
    more

mapped_at : {X : Type 0} (view : X → Declaration) (xs : List X) (i : ℕ) (x : X) → i < length xs → x ≡ get_or xs i x → slice_get (map view xs) i ≡ Some (view x)
mapped_at view [] i x low is = absurd (omega (arith, low))
mapped_at view (y ∷ ys) zero x low is = ap (λ z. Some (view z)) (sym is)
mapped_at view (y ∷ ys) (suc i) x low is = mapped_at view ys i x (omega (arith, low)) is

pub one_counted_more : {X : Type 0} (view : X → Declaration) (xs : List X) (i : ℕ) (x : X) (next behind count : ℕ) → i < length xs → x ≡ get_or xs i x → next ≡ count_in (take i (map view xs)) → count ≡ value_count (view x) → behind ≡ count + next
    → behind ≡ count_in (take (i + 1) (map view xs))
one_counted_more view xs i x next behind count low is so_far many sum =
    let more = counted_more (map view xs) i (view x) (mapped_at view xs i x low is) in
    let whole : behind ≡ count_in (take (suc i) (map view xs)) = omega (arith, more, sum, many, so_far) in
    whole ∙ ap (λ n. count_in (take n (map view xs))) (let step : suc i ≡ i + 1 = omega arith in step)

-- ---- numbers are low

pub low_paths : (paths : List Parts) (count : ℕ) (all : List Declared) → count ≡ length paths → AllByRecursion (HasNumbers paths) all → AllByRecursion (λ d. d.path < count) all
low_paths paths count [] many has = tt
low_paths paths count (d ∷ ds) many has = (let low = slice_get_within paths d.path _ has.0.own in omega (arith, low, many), low_paths paths count ds many has.1)

pub low_values : (paths : List Parts) (count : ℕ) (ns : List ℕ) (ps : List Parts) → count ≡ length paths → AreAt paths ns ps → AllByRecursion (λ n. n < count) ns
unfolding AreAt
low_values paths count [] ps many are = tt
low_values paths count (n ∷ ns) [] many are = absurd are
low_values paths count (n ∷ ns) (p ∷ ps) many are = (let low = slice_get_within paths n p are.0 in omega (arith, low, many), low_values paths count ns ps many are.1)

pub told_low : (paths : List Parts) (names : List (code.Place × ℕ)) (p : Place) (n : ℕ) → AreRight paths names → number_told names p ≡ Some n → n < length paths
unfolding number_told
told_low paths [] p n right told = absurd (none_some told)
told_low paths (x ∷ xs) p n right told = by_later (number_told xs p) refl told (told_low paths xs p n right.1)
  where
    same_some : (m k : ℕ) → Some m ≡ Some k → m ≡ k
    same_some m k is = cc

    by_here : (b : Bool) → (if b then Some x.1 else None) ≡ Some n → n < length paths
    by_here true is = subst (λ k. k < length paths) (same_some x.1 n is) right.0.0
    by_here false is = absurd (none_some is)

    by_later : (o : Option ℕ) → number_told xs p ≡ o → later (if is_at (place_of x.0) p then Some x.1 else None) o ≡ Some n → (number_told xs p ≡ Some n → n < length paths) → n < length paths
    by_later None at is rest = by_here (is_at (place_of x.0) p) is
    by_later (Some k) at is rest = rest (at ∙ is)

-- ---- entities by name

entity_past : (name : List ℕ) (es : List Entity) (i : ℕ) (e : Entity) → i < length es → e ≡ get_or es i e → bytes_eq name e.name ≡ false → find_entity name (entities_of (drop i es)) ≡ find_entity name (entities_of (drop (suc i) es))
unfolding find_entity
entity_past name [] i e low is other = absurd (omega (arith, low))
entity_past name (x ∷ xs) zero e low is other = ap (λ b. if b then Some (entity_of x) else find_entity name (entities_of xs)) (ap (λ (y : Entity). bytes_eq name y.name) (sym is) ∙ other)
entity_past name (x ∷ xs) (suc i) e low is other = entity_past name xs i e (omega (arith, low)) is other

pub next_entity : (name : List ℕ) (es : List Entity) (i : ℕ) (e : Entity) → i < length es → e ≡ get_or es i e → bytes_eq name e.name ≡ false → find_entity name (entities_of (drop i es)) ≡ find_entity name (entities_of (drop (i + 1) es))
next_entity name es i e low is other = entity_past name es i e low is other ∙ ap (λ n. find_entity name (entities_of (drop n es))) (let step : suc i ≡ i + 1 = omega arith in step)

pub this_entity : (name : List ℕ) (es : List Entity) (i : ℕ) (e : Entity) → i < length es → e ≡ get_or es i e → bytes_eq name e.name ≡ true → find_entity name (entities_of (drop i es)) ≡ Some (entity_of e)
unfolding find_entity
this_entity name [] i e low is own = absurd (omega (arith, low))
this_entity name (x ∷ xs) zero e low is own =
    ap (λ b. if b then Some (entity_of x) else find_entity name (entities_of xs)) (ap (λ (y : Entity). bytes_eq name y.name) (sym is) ∙ own) ∙ ap (λ y. Some (entity_of y)) (sym is)
this_entity name (x ∷ xs) (suc i) e low is own = this_entity name xs i e (omega (arith, low)) is own

pub no_entity : (name : List ℕ) (es : List Entity) (i : ℕ) → length es ≤ i → find_entity name (entities_of (drop i es)) ≡ None
unfolding find_entity
no_entity name [] zero end = refl
no_entity name [] (suc i) end = refl
no_entity name (x ∷ xs) zero end = absurd (omega (arith, end))
no_entity name (x ∷ xs) (suc i) end = no_entity name xs i (omega (arith, end))
