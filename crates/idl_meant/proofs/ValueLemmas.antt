-- The values of a declaration stand among those of all where its constants or items begin.
use Rattle.std.proofs.Common.{◌≡◌, refl, sym, ap, subst, ◌∙◌, ℕ, zero, suc, ◌+◌, ◌≤◌, ℤ, List, [], ◌∷◌, ◌++◌, length, map, take, drop, slice_get, Option, None, Some, option_map, ◌⊎◌, inl, inr, length-append, arith}
use Rattle.std.proofs.lemmas.List.{length-map, length_push, map-append, take-append-le, take_all}
use Rattle.std.proofs.lemmas.Option.{slice_get-get_or, slice_get-map, slice_get_within}
use Rattle.std.specs.List.{flat_map}
use Rattle.idl_meaning_model.specs.ConstantsMeant.{value_meant}
use Rattle.idl_meaning_model.specs.Declarations.{Declared, Origin, Valued, all_valued, constant_valued, first_item, item_before, items_valued, valued_in}
use Rattle.idl_meant.specs.Numbering.{NumbersMeant}
use Rattle.idl_meant.specs.Resolving.{all_in}
use Rattle.idl_meant.specs.Starting.{count_in, starts_of, value_count}
use Rattle.idl_meant.specs.declared.numbers.Numbers.{Numbers}
use Rattle.idl_model.specs.Trees.{Item, Declaration, forward, interface, struct, exception, enum, constants, typedef, new_service, old_service, new_singleton, old_singleton}
use Rattle.idl_names.specs.Collected.{declared_of}
use Rattle.idl_names.specs.declared.declaration.Declared as code
use Rattle.idl_names.specs.declared.resolving.Resolved.{Resolved}
use Rattle.idl_names.proofs.PathLaws.{at_end}
use Rattle.idl_trees.specs.Trees.{declaration_of}
use Rattle.idl_types.specs.Bodies.{bodies_of}

none_some : {X : Type 0} {x : X} → None ≡ Some x → ⊥
none_some is = cc

-- ---- lists

drop_past : {X : Type 0} (xs ys : List X) (n : ℕ) → drop (length xs + n) (xs ++ ys) ≡ drop n ys
drop_past [] ys n = ap (λ m. drop m ys) (let is : 0 + n ≡ n = omega arith in is)
drop_past (x ∷ xs) ys n = ap (λ m. drop m (x ∷ (xs ++ ys))) (let is : length (x ∷ xs) + n ≡ suc (length xs + n) = omega arith in is) ∙ drop_past xs ys n

take_front : {X : Type 0} (xs ys : List X) (n : ℕ) → length xs ≡ n → take n (xs ++ ys) ≡ xs
take_front xs ys n long = take-append-le n xs ys (omega (arith, long)) ∙ take_all n xs (omega (arith, long))

-- ---- how many there are

items_many : (d : Declared) (without : Origin) (items : List Item) → length (items_valued d without items) ≡ length items
unfolding items_valued
items_many d without [] = refl
items_many d without (i ∷ is) = ap suc (items_many d (item_before i.name.place) is)

counted : (d : Declared) (body : Declaration) → length (valued_in d body) ≡ value_count body
counted d forward = refl
counted d (interface base members) = refl
counted d (struct base members) = refl
counted d (exception base members) = refl
counted d (enum items) = items_many d first_item items
counted d (constants cs) = length-map cs (constant_valued d)
counted d (typedef t) = refl
counted d (new_service base constructors) = refl
counted d (old_service members) = refl
counted d (new_singleton base) = refl
counted d (old_singleton service) = refl

-- ---- those of one declaration

abbrev bodies : List Declared → List Declaration
bodies ds = map (λ (d : Declared). d.body) ds

module _ {Y : Type 0} (f : Valued → Y) where
  record IsPart (ds : List Declared) (k : ℕ) (d : Declared) : Type 0 where
    within : count_in (take k (bodies ds)) + value_count d.body ≤ length (map f (all_valued ds))
    part : take (value_count d.body) (drop (count_in (take k (bodies ds))) (map f (all_valued ds))) ≡ map f (valued_in d d.body)

  all_parts : (e : Declared) (es : List Declared) → map f (all_valued (e ∷ es)) ≡ map f (valued_in e e.body) ++ map f (all_valued es)
  unfolding all_valued
  all_parts e es = map-append f (valued_in e e.body) (flat_map (λ (d : Declared). valued_in d d.body) es)

  own_many : (e : Declared) → length (map f (valued_in e e.body)) ≡ value_count e.body
  own_many e = length-map (valued_in e e.body) f ∙ counted e e.body

  first_part : (e : Declared) (es : List Declared) → IsPart (e ∷ es) 0 e
  unfolding count_in
  first_part e es =
      let many = own_many e in
      let long = ap length (all_parts e es) ∙ length-append (map f (valued_in e e.body)) (map f (all_valued es)) in
      record {
        within = omega (arith, many, long);
        part = ap (λ xs. take (value_count e.body) xs) (all_parts e es) ∙ take_front (map f (valued_in e e.body)) (map f (all_valued es)) (value_count e.body) many;
      }

  later_part : (e : Declared) (es : List Declared) (k : ℕ) (d : Declared) → IsPart es k d → IsPart (e ∷ es) (suc k) d
  unfolding count_in
  later_part e es k d it =
      let many = own_many e in
      let long = ap length (all_parts e es) ∙ length-append (map f (valued_in e e.body)) (map f (all_valued es)) in
      let within' = it.within in
      let before = count_in (take k (bodies es)) in
      record {
        within = omega (arith, many, long, within');
        part =
            ap (λ xs. take (value_count d.body) (drop (value_count e.body + before) xs)) (all_parts e es)
            ∙ ap (λ n. take (value_count d.body) (drop (n + before) (map f (valued_in e e.body) ++ map f (all_valued es)))) (sym many)
            ∙ ap (take (value_count d.body)) (drop_past (map f (valued_in e e.body)) (map f (all_valued es)) before)
            ∙ it.part;
      }

  own_part : (ds : List Declared) (k : ℕ) (d : Declared) → slice_get ds k ≡ Some d → IsPart ds k d
  own_part [] k d at = absurd (none_some at)
  own_part (e ∷ es) zero d at = subst (IsPart (e ∷ es) 0) (let one : e ≡ d = cc in one) (first_part e es)
  own_part (e ∷ es) (suc k) d at = later_part e es k d (own_part es k d at)

-- ---- where they begin

long_starts : (ds : List Declaration) (n : ℕ) → length (starts_of ds n) ≡ n
unfolding starts_of
long_starts ds zero = refl
long_starts ds (suc n) =
    let long = length_push (starts_of ds n) (count_in (take n ds)) in
    let rest = long_starts ds n in
    omega (arith, long, rest)

start_at : (ds : List Declaration) (n k s : ℕ) → slice_get (starts_of ds n) k ≡ Some s → s ≡ count_in (take k ds)
unfolding starts_of
start_at ds zero k s at = absurd (none_some at)
start_at ds (suc n) k s at = by_end (start_at ds n k s) (at_end (starts_of ds n) (count_in (take n ds)) k s at)
  where
    by_end : (slice_get (starts_of ds n) k ≡ Some s → s ≡ count_in (take k ds)) → (slice_get (starts_of ds n) k ≡ Some s) ⊎ ((k ≡ length (starts_of ds n)) × (s ≡ count_in (take n ds))) → s ≡ count_in (take k ds)
    by_end rest (inl old) = rest old
    by_end rest (inr (here, is)) = is ∙ ap (λ m. count_in (take m ds)) (sym (here ∙ long_starts ds n))

bodies_are : (paths : List (List (List ℕ))) (all : List code.Declared) → bodies_of all ≡ bodies (map (declared_of paths) all)
bodies_are paths [] = refl
bodies_are paths (d ∷ ds) = ap (λ xs. declaration_of d.body.now ∷ xs) (bodies_are paths ds)

module _ (r : Resolved) (numbers : Numbers) (are : NumbersMeant r numbers) (number : ℕ) (d : code.Declared) (at : slice_get r.declared.items number ≡ Some d) where
  abbrev value_of : Valued → Option ℤ
  value_of = value_meant (all_valued (all_in r))

  pub has_start : slice_get numbers.starts.items number ≡ None → ⊥
  has_start none =
      let low = slice_get_within r.declared.items number d at in
      let long = ap length are.starts ∙ long_starts (bodies_of r.declared.items) (length r.declared.items) in
      none_some (sym none ∙ slice_get-get_or numbers.starts.items number 0 (omega (arith, low, long)))

  part_of : IsPart value_of (all_in r) number (declared_of r.paths d)
  part_of = own_part value_of (all_in r) number (declared_of r.paths d) (slice_get-map (declared_of r.paths) r.declared.items number ∙ ap (option_map (declared_of r.paths)) at)

  starts_there : (start : ℕ) → slice_get numbers.starts.items number ≡ Some start → start ≡ count_in (take number (bodies (all_in r)))
  starts_there start is =
      start_at (bodies_of r.declared.items) (length r.declared.items) number start (sym (ap (λ xs. slice_get xs number) are.starts) ∙ is)
      ∙ ap (λ bs. count_in (take number bs)) (bodies_are r.paths r.declared.items)

  pub own_values : (values part : List (Option ℤ)) (start count : ℕ) → values ≡ numbers.values.items → slice_get numbers.starts.items number ≡ Some start → count ≡ value_count (declaration_of d.body.now)
      → (start + count ≤ length values → part ≡ take count (drop start values)) → part ≡ map (value_meant (all_valued (all_in r))) (valued_in (declared_of r.paths d) (declaration_of d.body.now))
  own_values values part start count seen begins many cut_out =
      let all = seen ∙ are.values in
      let start_is = starts_there start begins in
      let it = part_of in
      let within = it.within in
      let long = ap length all in
      cut_out (omega (arith, within, long, start_is, many))
      ∙ (λ i. take (many i) (drop (start_is i) (all i)))
      ∙ it.part

-- ---- the value of one

pub value_there : (vs : List Valued) (own : List Valued) (values : List (Option ℤ)) (place : ℕ) (v : Valued) → values ≡ map (value_meant vs) own → slice_get own place ≡ Some v → slice_get values place ≡ Some (value_meant vs v)
value_there vs own values place v are at = ap (λ xs. slice_get xs place) are ∙ slice_get-map (value_meant vs) own place ∙ ap (option_map (value_meant vs)) at
