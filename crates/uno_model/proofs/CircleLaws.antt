-- Nodes all of whose ways end: what leads to them, and that they are the nodes that reach no circle.
use Rattle.std.proofs.Common.{◌≡◌, ℕ, zero, suc, ◌+◌, ◌-◌, ◌<◌, ◌≤◌, inl, inr, Bool, true, List, [], ◌∷◌, length, get_or, refl, sym, ◌∙◌, ap, arith, subst}
use Rattle.std.specs.List.{list_all, Contains, remove}
use Rattle.std.proofs.lemmas.Bool.{cases_lt}
use Rattle.std.proofs.lemmas.List.{get_or_default}
use Rattle.std.proofs.lemmas.List.Elements.{All-contains, Contains-get_or}
use Rattle.std.proofs.lemmas.List.Sums.{AllPass-from_list_all, list_all-from_AllPass}
use Rattle.std.proofs.lemmas.List.Edits.{length-remove, get_or-remove_below, get_or-remove_above}
use Rattle.uno_model.specs.Circles.{Leads, step, on, HasNoCircle, HasAll, ends_within}

-- a test of each element passes exactly where it passes at what the list contains
pub all_at : {X : Type 0} (p : X → Bool) (xs : List X) (x : X) → list_all p xs ≡ true → Contains xs x → p x ≡ true
all_at p xs x e in' = All-contains (λ y. p y ≡ true) xs x (AllPass-from_list_all p xs e) in'

pub all_from : {X : Type 0} (p : X → Bool) (xs : List X) → ((x : X) → Contains xs x → p x ≡ true) → list_all p xs ≡ true
all_from p xs each = list_all-from_AllPass p xs (λ k d low. each (get_or xs k d) (Contains-get_or xs k d low))

-- what ends within a number of steps leads only to what ends within one less
pub next_ends : {X : Type 0} (next : X → List X) (d : ℕ) (a b : X) → ends_within next (suc d) a ≡ true → Contains (next a) b → ends_within next d b ≡ true
unfolding ends_within
next_ends next d a b ends in' = all_at (ends_within next d) (next a) b ends in'

pub ends_from : {X : Type 0} (next : X → List X) (d : ℕ) (a : X) → ((b : X) → Contains (next a) b → ends_within next d b ≡ true) → ends_within next (suc d) a ≡ true
unfolding ends_within
ends_from next d a each = all_from (ends_within next d) (next a) each

pub none_ends_at_once : {X : Type 0} (next : X → List X) (a : X) → ends_within next zero a ≡ true → ⊥
unfolding ends_within
none_ends_at_once next a ends = cc

-- what ends within a number of steps ends within more
pub ends_more : {X : Type 0} (next : X → List X) (d e : ℕ) (a : X) → d ≤ e → ends_within next d a ≡ true → ends_within next e a ≡ true
ends_more next zero e a low ends = absurd (none_ends_at_once next a ends)
ends_more next (suc d) zero a low ends = let bad : ⊥ = omega arith in absurd bad
ends_more next (suc d) (suc e) a low ends =
    ends_from next e a (λ b in'. ends_more next d e b (omega arith) (next_ends next d a b ends in'))

-- what is led to by one step or more ends one step sooner
pub led_ends : {X : Type 0} (next : X → List X) (d : ℕ) (a b : X) → ends_within next (suc d) a ≡ true → Leads next a b → ends_within next d b ≡ true
led_ends next d a b ends (step a' b' in') = next_ends next d a b ends in'
led_ends next zero a b ends (on a' c b' in' rest) = absurd (none_ends_at_once next c (next_ends next zero a c ends in'))
led_ends next (suc d) a b ends (on a' c b' in' rest) =
    ends_more next d (suc d) b (omega arith) (led_ends next d c b (next_ends next (suc d) a c ends in') rest)

-- a node all of whose ways end stands on no circle
pub ends_no_circle : {X : Type 0} (next : X → List X) (d : ℕ) (a : X) → ends_within next d a ≡ true → Leads next a a → ⊥
ends_no_circle next zero a ends way = none_ends_at_once next a ends
ends_no_circle next (suc d) a ends way = ends_no_circle next d a (led_ends next d a a ends way) way

-- one number of steps for all of a list
all_end : {X : Type 0} (next : X → List X) (xs : List X) → ((b : X) → Contains xs b → (d : ℕ) × (ends_within next d b ≡ true))
    → (d : ℕ) × ((b : X) → Contains xs b → ends_within next d b ≡ true)
all_end next [] each = (0, λ b (k, low, is). let bad : ⊥ = omega arith in absurd bad)
all_end {X = X} next (x ∷ xs) each =
    let front = each x (0, omega arith, refl) in
    let behind : (b : X) → Contains xs b → (d : ℕ) × (ends_within next d b ≡ true) = λ b (k, low, is). each b (suc k, omega arith, is) in
    let rest = all_end next xs behind in
    (front.0 + rest.0, all_end_cons next x xs front.0 rest.0 front.1 rest.1)
  where
    all_end_cons : {X : Type 0} (next : X → List X) (x : X) (xs : List X) (d e : ℕ) → ends_within next d x ≡ true
        → ((b : X) → Contains xs b → ends_within next e b ≡ true) → (b : X) → Contains (x ∷ xs) b → ends_within next (d + e) b ≡ true
    all_end_cons next x xs d e front rest b (zero, low, is) = subst (λ y. ends_within next (d + e) y ≡ true) is (ends_more next d (d + e) x (omega arith) front)
    all_end_cons next x xs d e front rest b (suc k, low, is) = ends_more next e (d + e) b (omega arith) (rest b (k, omega arith, is))

-- what leads only to what ends, ends
pub one_more : {X : Type 0} (next : X → List X) (a : X) → ((b : X) → Contains (next a) b → (d : ℕ) × (ends_within next d b ≡ true))
    → (d : ℕ) × (ends_within next d a ≡ true)
one_more next a each = let all = all_end next (next a) each in (suc all.0, ends_from next all.0 a all.1)

-- what a list contains, it still contains where another element is taken out
still_contains : {X : Type 0} (xs : List X) (a x : X) (k : ℕ) → k < length xs → get_or xs k a ≡ a → (a ≡ x → ⊥) → Contains xs x → Contains (remove xs k) x
still_contains xs a x k here is other (j, low, at) = elim (cases_lt j k) [
  | inl below ↦ (j, omega (arith, length-remove xs k here), get_or-remove_below xs k x j below here ∙ at)
  | inr above ↦
      let apart : j ≡ k → ⊥ = λ e. other (sym is ∙ get_or_default xs k a x here ∙ ap (λ i. get_or xs i x) (sym e) ∙ at) in
      let next_one : j - 1 + 1 ≡ j = omega arith in
      (j - 1, omega (arith, length-remove xs k here), get_or-remove_above xs k x (j - 1) (omega arith) here ∙ ap (λ i. get_or xs i x) next_one ∙ at)
]

-- a list that has all the nodes from here on still has those behind a step, where this node is taken out
has_all_behind : {X : Type 0} (next : X → List X) (left : List X) (a b : X) (k : ℕ) → HasNoCircle next → k < length left → get_or left k a ≡ a
    → Contains (next a) b → HasAll next left a → HasAll next (remove left k) b
has_all_behind next left a b k none here is in' all x on_way c out =
    let way : Leads next a x = elim on_way [ inl same ↦ subst (Leads next a) same (step a b in') | inr rest ↦ on a b x in' rest ] in
    still_contains left a x k here is (λ same. none a (subst (Leads next a) (sym same) way)) (all x (inr way) c out)

-- without a circle each way ends within as many steps as there are nodes that lead anywhere
pub no_circle_ends : {X : Type 0} (next : X → List X) (n : ℕ) (left : List X) (a : X) → HasNoCircle next → length left ≡ n → HasAll next left a
    → ends_within next (suc n) a ≡ true
no_circle_ends next zero left a none long all = ends_from next zero a (λ b in'. absurd (none_left left a long (all a (inl refl) b in')))
  where
    none_left : {X : Type 0} (left : List X) (a : X) → length left ≡ 0 → Contains left a → ⊥
    none_left left a long (k, here, is) = omega arith
no_circle_ends {X = X} next (suc n) left a none long all = ends_from next (suc n) a (λ b in'.
    let place : Contains left a = all a (inl refl) b in' in
    let rest : List X = remove left place.0 in
    no_circle_ends next n rest b none (omega (arith, length-remove left place.0 place.1)) (has_all_behind next left a b place.0 none place.1 place.2 in' all))
