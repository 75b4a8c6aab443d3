-- Flags by their numbers.
use Rattle.std.proofs.Common.{◌≡◌, refl, sym, ap, ap₂, ◌∙◌, ℕ, ◌==◌, Bool, ◌||◌, List, [], ◌∷◌, map}
use Rattle.std.specs.List.{list_any}
use Rattle.idl_meaning_model.specs.Meaning.{flag_number, has_flag, is_readonly}
use Rattle.idl_model.specs.Trees as tree

pub any_seen : {X Y : Type 0} (test : Y → Bool) (view : X → Y) (xs : List X) → list_any (λ x. test (view x)) xs ≡ list_any test (map view xs)
any_seen test view [] = refl
any_seen test view (x ∷ xs) = ap (λ b. test (view x) || b) (any_seen test view xs)

-- a flag that is searched for by its number
pub flag_sought : {X : Type 0} (view : X → tree.Flag) (xs : List X) (flag : tree.Flag) (wanted : ℕ) → wanted ≡ flag_number flag
    → list_any (λ x. flag_number (view x) == wanted) xs ≡ has_flag flag (map view xs)
unfolding has_flag
flag_sought view xs flag wanted is =
    ap (λ n. list_any (λ x. flag_number (view x) == n) xs) is ∙ any_seen (λ f. flag_number f == flag_number flag) view xs

readonly_by_number : (f : tree.Flag) → (flag_number f == 6) ≡ is_readonly f
readonly_by_number tree.bound_flag = refl
readonly_by_number tree.constrained_flag = refl
readonly_by_number tree.maybeambiguous_flag = refl
readonly_by_number tree.maybedefault_flag = refl
readonly_by_number tree.maybevoid_flag = refl
readonly_by_number tree.optional_flag = refl
readonly_by_number tree.readonly_flag = refl
readonly_by_number tree.removable_flag = refl
readonly_by_number tree.transient_flag = refl

any_alike : {X : Type 0} (p q : X → Bool) → ((x : X) → p x ≡ q x) → (xs : List X) → list_any p xs ≡ list_any q xs
any_alike p q alike [] = refl
any_alike p q alike (x ∷ xs) = ap₂ (λ b c. b || c) (alike x) (any_alike p q alike xs)

pub readonly_sought : (flags : List tree.Flag) → has_flag tree.readonly_flag flags ≡ list_any is_readonly flags
unfolding has_flag
readonly_sought flags = any_alike (λ f. flag_number f == 6) is_readonly readonly_by_number flags
