-- Full names of paths, by the numbers of these.
use Rattle.std.proofs.Common.{◌≡◌, sym, ap, subst, ◌∙◌, ℕ, zero, suc, ◌+◌, List, [], ◌∷◌, ◌++◌, length, get_or, Option, None, Some, IfSome, length-append}
use Rattle.idl_meant.specs.FullNames.{AreFullNames}
use Rattle.idl_names.specs.Paths.{Parts}
use Rattle.idl_names.specs.Standing.{name_at}

pub no_full_name : (paths : List Parts) (names : List (Option (List ℕ))) → names ≡ [] → AreFullNames paths names
no_full_name paths names none = subst (AreFullNames paths) (sym none) (λ n. tt)

pushed : (name : ℕ → List ℕ) (xs : List (Option (List ℕ))) (x : Option (List ℕ)) → ((n : ℕ) → IfSome (get_or xs n None) (λ t. t ≡ name n)) → IfSome x (λ t. t ≡ name (length xs)) → (n : ℕ) → IfSome (get_or (xs ++ x ∷ []) n None) (λ t. t ≡ name n)
pushed name [] x all one zero = one
pushed name [] x all one (suc n) = tt
pushed name (y ∷ ys) x all one zero = all zero
pushed name (y ∷ ys) x all one (suc n) = pushed (λ k. name (suc k)) ys x (λ k. all (suc k)) one n

-- one more
pub full_name_more : (paths : List Parts) (names more : List (Option (List ℕ))) (name : Option (List ℕ)) (n : ℕ) → length names ≡ n → more ≡ names ++ name ∷ [] → IfSome name (λ t. t ≡ name_at paths n) → AreFullNames paths names → AreFullNames paths more
full_name_more paths names more name n long is one all = subst (AreFullNames paths) (sym is) (pushed (name_at paths) names name all (subst (λ k. IfSome name (λ t. t ≡ name_at paths k)) (sym long) one))

pub one_longer : (names more : List (Option (List ℕ))) (name : Option (List ℕ)) → more ≡ names ++ name ∷ [] → length more ≡ length names + 1
one_longer names more name is = ap length is ∙ length-append names (name ∷ [])

-- the one that is there
pub full_name_there : (paths : List Parts) (names : List (Option (List ℕ))) (name : List ℕ) (n : ℕ) → Some name ≡ get_or names n None → AreFullNames paths names → name ≡ name_at paths n
full_name_there paths names name n is all = subst (λ o. IfSome o (λ t. t ≡ name_at paths n)) (sym is) (all n)
