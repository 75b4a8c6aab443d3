-- The set of a walk has just the names that were met.
use Rattle.std.proofs.Common.{◌≡◌, ℕ, List, [], ◌∷◌, ◌++◌, true, refl, ap, sym, ◌∙◌, ◌||◌, Bool, false, arith, Bor}
use Rattle.std.specs.List.{list_any}
use Rattle.std.specs.BTreeSet.{BTreeSet, IsEmpty, Updates}
use Rattle.std.specs.BTreeMap.{is_at}
use Rattle.std.specs.Str.{bytes_eq}
use Rattle.std.proofs.lemmas.Cmp.{nat_list_eq_equiv}
use Rattle.std.proofs.lemmas.Map.Text.{is_eq-slice_cmp}
use Rattle.uno_model.specs.Functions.{is_met}
use Rattle.type_registry.specs.Met.{names_at, by_text, Has}

-- none at first
pub has_none : (set : BTreeSet (Bor (List ℕ))) (order : List (Bor (List ℕ))) → IsEmpty set → order ≡ [] → Has set (names_at order)
unfolding is_met
has_none set order empty none q = ap (list_any (is_at (by_text q))) empty ∙ sym (ap (λ o. list_any (bytes_eq q.now) (names_at o)) none)

-- one name more behind the others
met_more : (name : List ℕ) (order : List (Bor (List ℕ))) (one : Bor (List ℕ)) → is_met name (names_at (order ++ one ∷ [])) ≡ (bytes_eq name one.now || is_met name (names_at order))
unfolding is_met
met_more name [] one = refl
met_more name (o ∷ order) one = let rest = met_more name order one in grind (arith, rest)

pub has_more : (old new : BTreeSet (Bor (List ℕ))) (name : Bor (List ℕ)) (order more : List (Bor (List ℕ))) → Updates by_text old new name true → Has old (names_at order)
    → more ≡ order ++ name ∷ [] → Has new (names_at more)
has_more old new name order more updates has is q =
    let same = is_eq-slice_cmp name.now q.now ∙ nat_list_eq_equiv.symm name.now q.now in
    let behind = ap (λ o. is_met q.now (names_at o)) is ∙ met_more q.now order name in
    updates.0 q ∙ grind (arith, same, has q, behind)

-- a name behind others
pub name_behind : (name last : List ℕ) (names : List (List ℕ)) → is_met name (names ++ last ∷ []) ≡ (bytes_eq name last || is_met name names)
unfolding is_met
name_behind name last [] = refl
name_behind name last (n ∷ names) = let rest = name_behind name last names in grind (arith, rest)

pub none_met : (name : List ℕ) (all : List (List ℕ)) → all ≡ [] → false ≡ is_met name all
unfolding is_met
none_met name all none = sym (ap (is_met name) none)

pub is_last : (name last : List ℕ) (names all : List (List ℕ)) → all ≡ names ++ last ∷ [] → bytes_eq name last ≡ true → true ≡ is_met name all
is_last name last names all is same = sym (ap (is_met name) is ∙ name_behind name last names ∙ ap (λ b. b || is_met name names) same)

pub is_before : (name last : List ℕ) (names all : List (List ℕ)) (b : Bool) → all ≡ names ++ last ∷ [] → bytes_eq name last ≡ false → b ≡ is_met name names → b ≡ is_met name all
is_before name last names all b is other told = told ∙ sym (ap (is_met name) is ∙ name_behind name last names ∙ ap (λ c. c || is_met name names) other)
