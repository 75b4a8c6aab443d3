-- What is known of all that is meant, and what resolved files have.
use Rattle.std.proofs.Common.{◌≡◌, refl, sym, ap, subst, ◌∙◌, ℕ, zero, suc, ℤ, pos, negsuc, ◌-◌, ◌^◌, ◌<◌, ◌≤◌, min, true, List, [], ◌∷◌, ◌++◌, map, length, slice_get, Contains, Option, None, Some, Result, Ok, Err, IfOk, FitsSigned, to_z, ◌⊎◌, inl, inr, arith}
use Rattle.std.proofs.lemmas.Bool.{cases_lt}
use Rattle.std.proofs.lemmas.Int.{to_z-of_z}
use Rattle.std.proofs.lemmas.Option.{get_or_from_slice_get, slice_get_within}
use Rattle.std.proofs.Props.{props}
use Rattle.std.proofs.Math.Logic.{∥∥₁_elim}
use Rattle.std.specs.Int.{cast_unsigned, w128}
use Rattle.std.specs.List.{AllByRecursion, list_all}
use base.Stored.{Coded-set}
use Rattle.uno_base.specs.declared.no_memory.NoMemory.{NoMemory}
use Rattle.uno_entities.specs.TypeNames.{kind_of}
use Rattle.uno_entities.specs.declared.type_name.TypeName.{TypeName}
use Rattle.uno_model.specs.Codes.{kind_code}
use Rattle.uno_model.specs.Kinds.{Kind}
use Rattle.registry_reading_model.specs.Kept.{clamped, greatest}
use Rattle.idl_meaning_model.specs.Declarations.{all_valued, declarations, dotted, full_name}
use Rattle.idl_meaning_model.specs.FromFiles.{AreOfFiles, are_apart, has_identifiers, is_spelled_use, leaf_places}
use Rattle.idl_meaning_model.specs.NameFaults.{IsResolved, faults, names_told, unknown_uses}
use Rattle.idl_meaning_model.specs.Uses.{an_entity, used_in, uses}
use Rattle.idl_meant.specs.Resolving.{AreTold, all_in}
use Rattle.idl_meant.specs.Using.{IsUsed}
use Rattle.idl_model.specs.Trees.{Path, Tree}
use Rattle.idl_names.specs.Collected.{HasNumbers, declared_of}
use Rattle.idl_names.specs.Resolving.{IsMadeOf}
use Rattle.idl_names.specs.Standing.{name_at}
use Rattle.idl_names.specs.Telling.{AreRight, named_of, told_among}
use Rattle.idl_names.specs.Opened.{HasOpened}
use Rattle.idl_names.specs.declared.declaration.Declared as code
use Rattle.idl_names.specs.declared.resolving.Resolved.{Resolved}
use Rattle.idl_trees.specs.Trees.{declaration_of}

none_some : {X : Type 0} {x : X} → None ≡ Some x → ⊥
none_some is = cc

-- ---- out of a fact that is only known to hold

pub low_of : {P : Type 0} (a b : ℕ) → ∥ P ∥₁ → (P → a < b) → a < b
low_of a b it f = ∥∥₁_elim it (hlevel props) f

pub at_most_of : {P : Type 0} (a b : ℕ) → ∥ P ∥₁ → (P → a ≤ b) → a ≤ b
at_most_of a b it f = ∥∥₁_elim it (hlevel props) f

pub name_of : {P : Type 0} (a b : List ℕ) → ∥ P ∥₁ → (P → a ≡ b) → a ≡ b
name_of a b it f = ∥∥₁_elim it (hlevel props) f

pub kind_of_it : {P : Type 0} (a b : Kind) → ∥ P ∥₁ → (P → a ≡ b) → a ≡ b
kind_of_it a b it f = ∥∥₁_elim it (Coded-set kind_code a b) f

pub values_of_it : {P : Type 0} (a b : List (Option ℤ)) → ∥ P ∥₁ → (P → a ≡ b) → a ≡ b
values_of_it a b it f = ∥∥₁_elim it (hlevel props) f

pub told_kind : {P : Type 0} (result : Result TypeName NoMemory) (k : Kind) → ∥ P ∥₁ → (P → IfOk result (λ made. kind_of made ≡ k)) → IfOk result (λ made. kind_of made ≡ k)
told_kind (Ok made) k it f = ∥∥₁_elim it (Coded-set kind_code (kind_of made) k) f
told_kind (Err e) k it f = tt

pub told_name : {P : Type 0} (result : Result (List ℕ) NoMemory) (a : List ℕ) → ∥ P ∥₁ → (P → IfOk result (λ name. name ≡ a)) → IfOk result (λ name. name ≡ a)
told_name (Ok name) a it f = ∥∥₁_elim it (hlevel props) f
told_name (Err e) a it f = tt

pub none_of : {P : Type 0} → ∥ P ∥₁ → (P → ⊥) → ⊥
none_of it f = ∥∥₁_elim it (hlevel props) f

-- ---- what is kept

-- a number of 128 bits is kept as it is, but for the least
pub fits_clamped : (z : ℤ) → FitsSigned w128 z → (z ≡ negsuc (2 ^ 127 - 1) → ⊥) → z ≡ clamped z
unfolding clamped
fits_clamped (pos n) fits other = let low : n < 2 ^ 127 = fits.sfits in let same : n ≡ min greatest n = omega (arith, low) in ap pos same
fits_clamped (negsuc n) fits other = by_size (cases_lt n (2 ^ 127 - 1))
  where
    by_size : (n < 2 ^ 127 - 1) ⊎ (2 ^ 127 - 1 ≤ n) → negsuc n ≡ negsuc (min (greatest - 1) n)
    by_size (inl low) = let same : n ≡ min (greatest - 1) n = omega (arith, low) in ap negsuc same
    by_size (inr high) = let low : n < 2 ^ 127 = fits.sfits in let most : n ≡ 2 ^ 127 - 1 = omega (arith, high, low) in absurd (other (ap negsuc most))

-- the least one, by its bits
pub is_least : (z : ℤ) → FitsSigned w128 z → cast_unsigned w128 z ≡ 2 ^ 127 → z ≡ negsuc (2 ^ 127 - 1)
is_least z fits is = sym (to_z-of_z w128 z fits) ∙ ap (to_z w128) is

pub not_least : (z : ℤ) → (cast_unsigned w128 z ≡ 2 ^ 127 → ⊥) → z ≡ negsuc (2 ^ 127 - 1) → ⊥
not_least z other is = other (ap (cast_unsigned w128) is)

pub least_clamped : (z : ℤ) → z ≡ negsuc (2 ^ 127 - 1) → negsuc (2 ^ 127 - 2) ≡ clamped z
unfolding clamped
least_clamped z is = (let same : 2 ^ 127 - 2 ≡ min (greatest - 1) (2 ^ 127 - 1) = omega arith in ap negsuc same) ∙ ap clamped (sym is)

-- ---- the numbers of a declaration

pub numbers_of : (paths : List (List (List ℕ))) (all : List code.Declared) (n : ℕ) (d : code.Declared) → AllByRecursion (HasNumbers paths) all → slice_get all n ≡ Some d → HasNumbers paths d
numbers_of paths [] n d has at = absurd (none_some at)
numbers_of paths (x ∷ xs) zero d has at = subst (HasNumbers paths) (let one : x ≡ d = cc in one) has.0
numbers_of paths (x ∷ xs) (suc n) d has at = numbers_of paths xs n d has.1 at

pub own_low : (paths : List (List (List ℕ))) (d : code.Declared) → HasNumbers paths d → d.path < length paths
own_low paths d has = slice_get_within paths d.path _ has.own

pub own_name : (paths : List (List (List ℕ))) (d : code.Declared) → HasNumbers paths d → name_at paths d.path ≡ full_name (declared_of paths d)
own_name paths d has = ap dotted (get_or_from_slice_get paths d.path _ [] has.own)

-- what a declaration uses is used in its modules
pub own_used : (all : List code.Declared) (n : ℕ) (d : code.Declared) (path : Path) → slice_get all n ≡ Some d → Contains (used_in (declaration_of d.body.now)) (an_entity path) → IsUsed all d.modules path
own_used all n d path at used = record { declared = d; there = (n, slice_get_within all n d at, get_or_from_slice_get all n d d at); modules_are = refl; used = used }

-- ---- files whose names are resolved

front_empty : {X : Type 0} (xs ys : List X) → xs ++ ys ≡ [] → xs ≡ []
front_empty [] ys none = refl
front_empty (x ∷ xs) ys none = let bad : ⊥ = cc in absurd bad

pub told_of_files : (trees : List Tree) (r : Resolved) → AreOfFiles trees → are_apart (map (λ v. v.name.place) (all_valued (declarations trees))) ≡ true → IsResolved trees (Ok (named_of r.paths r.names.items)) → AreRight r.paths r.names.items
    → IsMadeOf (declarations trees) r → AreTold r
unfolding faults names_told told_among
told_of_files trees r of_files apart resolved right made =
    let ds = declarations trees in
    let same : ds ≡ all_in r = sym made.declared in
    record {
      numbered = made.numbered;
      outermost = made.outermost;
      opened = subst (λ xs. HasOpened r.paths xs r.opened) same made.opened;
      identifiers = subst (λ xs. list_all has_identifiers xs ≡ true) same of_files.identifiers;
      spelled = subst (λ xs. list_all is_spelled_use (uses xs) ≡ true) same of_files.used;
      apart = subst (λ xs. are_apart (leaf_places xs) ≡ true) same of_files.apart;
      values_apart = subst (λ xs. are_apart (map (λ v. v.name.place) (all_valued xs)) ≡ true) same apart;
      known = subst (λ xs. unknown_uses xs ≡ []) same (front_empty (unknown_uses ds) _ resolved.0);
      names = resolved.1 ∙ ap (λ xs. told_among xs (uses xs)) same;
      right = right;
    }
