-- Lists of names with their slots, where a test tells whether two names are the same.
use Rattle.std.proofs.Common.{◌≡◌, ℕ, zero, suc, ◌<◌, Bool, true, false, List, [], ◌∷◌, ◌++◌, length, take, Some, None, cond, refl, sym, ◌∙◌, ◌+◌, subst, arith}
use Rattle.std.specs.Bool.{Decides}
use Rattle.std.specs.List.{AllByRecursion}
use Rattle.std.specs.Map.{lookup, remove_entry}

-- what holds of each entry holds of those that are left
pub all_taken : {E : Type 0} (P : E → Type 0) (n : ℕ) (es : List E) → AllByRecursion P es → AllByRecursion P (take n es)
all_taken P zero es all = tt
all_taken P (suc n) [] all = tt
all_taken P (suc n) (e ∷ es) all = (all.0, all_taken P n es all.1)

pub all_weaker : {E : Type 0} (P Q : E → Type 0) → ((e : E) → P e → Q e) → (es : List E) → AllByRecursion P es → AllByRecursion Q es
all_weaker P Q w [] all = tt
all_weaker P Q w (e ∷ es) all = (w e all.0, all_weaker P Q w es all.1)

-- what holds of each entry holds of the last, and of those before it
pub all_at_last : {E : Type 0} (P : E → Type 0) (last : E) (es : List E) → AllByRecursion P (es ++ last ∷ []) → P last
all_at_last P last [] all = all.0
all_at_last P last (e ∷ es) all = all_at_last P last es all.1

pub all_before : {E : Type 0} (P : E → Type 0) (last : E) (es : List E) → AllByRecursion P (es ++ last ∷ []) → AllByRecursion P es
all_before P last [] all = tt
all_before P last (e ∷ es) all = (all.0, all_before P last es all.1)

module _ {N : Type 0} (test : N → Bool) where
  pub all_left : (P : N × ℕ → Type 0) (es : List (N × ℕ)) → AllByRecursion P es → AllByRecursion P (remove_entry test es)
  all_left P [] all = tt
  all_left P (e ∷ es) all = (elim (test e.0) as (λ y. AllByRecursion P (cond y es (e ∷ remove_entry test es))) [ true ↦ all.1 | false ↦ (all.0, all_left P es all.1) ])

  -- one entry less is left where one was found
  pub one_less : (es : List (N × ℕ)) (s : ℕ) → lookup test es ≡ Some s → length (remove_entry test es) + 1 ≡ length es
  one_less [] s h = cc
  one_less (e ∷ es) s h = (elim (test e.0) as (λ y. cond y (Some e.1) (lookup test es) ≡ Some s → length (cond y es (e ∷ remove_entry test es)) + 1 ≡ suc (length es)) [
    | true ↦ λ g. omega arith
    | false ↦ λ g. let rest = one_less es s g in omega arith
  ]) h

  -- all are left where none was found
  pub none_less : (es : List (N × ℕ)) → lookup test es ≡ None → remove_entry test es ≡ es
  none_less [] h = refl
  none_less (e ∷ es) h = (elim (test e.0) as (λ y. cond y (Some e.1) (lookup test es) ≡ None → cond y es (e ∷ remove_entry test es) ≡ e ∷ es) [
    | true ↦ λ g. cc
    | false ↦ λ g. let rest = none_less es g in cc
  ]) h

module _ {N : Type 0} (f : N → ℕ) where
  -- a number of each name grows along the list
  abbrev pub Grows : List (N × ℕ) → Type 0
  Grows [] = Unit {0}
  Grows (e ∷ es) = AllByRecursion (λ x. f e.0 < f x.0) es × Grows es

  pub grows_taken : (n : ℕ) (es : List (N × ℕ)) → Grows es → Grows (take n es)
  grows_taken zero es g = tt
  grows_taken (suc n) [] g = tt
  grows_taken (suc n) (e ∷ es) g = (all_taken (λ x. f e.0 < f x.0) n es g.0, grows_taken n es g.1)

  pub grows_left : (test : N → Bool) (es : List (N × ℕ)) → Grows es → Grows (remove_entry test es)
  grows_left test [] g = tt
  grows_left test (e ∷ es) g = (elim (test e.0) as (λ y. Grows (cond y es (e ∷ remove_entry test es))) [
    | true ↦ g.1
    | false ↦ (all_left test (λ x. f e.0 < f x.0) es g.0, grows_left test es g.1)
  ])

  -- the number of the last is above all others
  pub last_is_above : (last : N × ℕ) (es : List (N × ℕ)) → Grows (es ++ last ∷ []) → AllByRecursion (λ e. f e.0 < f last.0) es
  last_is_above last [] g = tt
  last_is_above last (e ∷ es) g = (all_at_last (λ x. f e.0 < f x.0) last es g.0, last_is_above last es g.1)

module _ {N : Type 0} (same : N → N → Bool) (decides : (x y : N) → Decides (same x y) (x ≡ y)) where
  -- the first entry is found by its name, and another name looks further
  pub found_first : (q : N) (e : N × ℕ) (es : List (N × ℕ)) → q ≡ e.0 → lookup (same q) (e ∷ es) ≡ Some e.1
  found_first q e es is = rw ((decides q e.0).1 is) refl

  pub found_later : (q : N) (e : N × ℕ) (es : List (N × ℕ)) → (q ≡ e.0 → ⊥) → lookup (same q) (e ∷ es) ≡ lookup (same q) es
  found_later q e es other = (elim (same q e.0) as (λ y. same q e.0 ≡ y → cond y (Some e.1) (lookup (same q) es) ≡ lookup (same q) es) [
    | true ↦ λ t. absurd (other ((decides q e.0).0 t))
    | false ↦ λ t. refl
  ]) refl

  -- what holds of each entry holds of the one that is found
  pub all_found : (P : N → ℕ → Type 0) (q : N) (s : ℕ) (es : List (N × ℕ)) → AllByRecursion (λ e. P e.0 e.1) es → lookup (same q) es ≡ Some s → P q s
  all_found P q s [] all h = absurd cc
  all_found P q s (e ∷ es) all h = (elim (same q e.0) as (λ y. same q e.0 ≡ y → cond y (Some e.1) (lookup (same q) es) ≡ Some s → P q s) [
    | true ↦ λ t g. let slots : e.1 ≡ s = cc in subst (P q) slots (subst (λ n. P n e.1) (sym ((decides q e.0).0 t)) all.0)
    | false ↦ λ t g. all_found P q s es all.1 g
  ]) refl h

  -- another name is still found where the entries of one are taken away
  pub found_left : (q name : N) (es : List (N × ℕ)) → (q ≡ name → ⊥) → lookup (same q) (remove_entry (same name) es) ≡ lookup (same q) es
  found_left q name [] other = refl
  found_left q name (e ∷ es) other = (elim (same name e.0) as (λ y. same name e.0 ≡ y → lookup (same q) (cond y es (e ∷ remove_entry (same name) es)) ≡ lookup (same q) (e ∷ es)) [
    | true ↦ λ t. sym (found_later q e es (λ is. let at : name ≡ e.0 = (decides name e.0).0 t in other cc))
    | false ↦ λ t. let rest = found_left q name es other in cc
  ]) refl

  -- what is found among entries, and not by the name of the last, stands before the last
  pub found_before : (q : N) (s : ℕ) (last : N × ℕ) (es : List (N × ℕ)) → (q ≡ last.0 → ⊥) → lookup (same q) (es ++ last ∷ []) ≡ Some s → lookup (same q) es ≡ Some s
  found_before q s last [] other h = let gone = found_later q last [] other in absurd cc
  found_before q s last (e ∷ es) other h = (elim (same q e.0) as (λ y. cond y (Some e.1) (lookup (same q) (es ++ last ∷ [])) ≡ Some s → cond y (Some e.1) (lookup (same q) es) ≡ Some s) [
    | true ↦ λ g. g
    | false ↦ λ g. found_before q s last es other g
  ]) h

  -- where a number grows along the list, no name stands there twice
  pub others_left : (f : N → ℕ) (name : N) (es : List (N × ℕ)) → Grows f es → AllByRecursion (λ e. name ≡ e.0 → ⊥) (remove_entry (same name) es)
  others_left f name [] g = tt
  others_left f name (e ∷ es) g = (elim (same name e.0) as (λ y. same name e.0 ≡ y → AllByRecursion (λ e. name ≡ e.0 → ⊥) (cond y es (e ∷ remove_entry (same name) es))) [
    | true ↦ λ t. let first : name ≡ e.0 = (decides name e.0).0 t in all_weaker (λ x. f e.0 < f x.0) (λ x. name ≡ x.0 → ⊥) (λ x below is. let equal : f e.0 ≡ f x.0 = cc in omega arith) es g.0
    | false ↦ λ t. ((λ is. let bad : false ≡ true = sym t ∙ (decides name e.0).1 is in absurd cc), others_left f name es g.1)
  ]) refl

-- a number that is the first number and one more, and 0 at a name: it grows along the list with that name in front
pub grows_again : {N : Type 0} (f g : N → ℕ) (name : N) (s : ℕ) (es : List (N × ℕ)) → g name ≡ 0 → ((q : N) → (name ≡ q → ⊥) → g q ≡ suc (f q))
    → AllByRecursion (λ e. name ≡ e.0 → ⊥) es → Grows f es → Grows g ((name, s) ∷ es)
grows_again {N = N} f g name s es none more others grows = (
  all_weaker (λ e. name ≡ e.0 → ⊥) (λ e. g name < g e.0) (λ e other. let at = more e.0 other in omega arith) es others,
  grows_still es others grows,
) where
  above : (x : N) (es : List (N × ℕ)) → (name ≡ x → ⊥) → AllByRecursion (λ e. name ≡ e.0 → ⊥) es → AllByRecursion (λ e. f x < f e.0) es → AllByRecursion (λ e. g x < g e.0) es
  above x [] here others all = tt
  above x (e ∷ es) here others all = let first = more x here in let second = more e.0 others.0 in let low = all.0 in (omega arith, above x es here others.1 all.1)

  grows_still : (es : List (N × ℕ)) → AllByRecursion (λ e. name ≡ e.0 → ⊥) es → Grows f es → Grows g es
  grows_still [] others grows = tt
  grows_still (e ∷ es) others grows = (above e.0 es others.0 others.1 grows.0, grows_still es others.1 grows.1)
