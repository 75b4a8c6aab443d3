-- Tokens have weights, and trees of a grammar have weights: what is spelled by tokens weighs no more than they do.
use Rattle.std.proofs.Common.{◌≡◌, ℕ, ◌+◌, ◌≤◌, Bool, List, [], ◌∷◌, ◌++◌, map, Option, None, Some, refl, ap, ap₂, ◌∙◌, inl, inr, arith, cond}
use Rattle.std.specs.List.{flat_map}
use Rattle.grammar_model.specs.Relations.{One, Seq, Image, Either, Optional, Many, Separated, ◌&>◌, ◌<&◌}

-- ---- sums

-- what all of a list weigh together
unfoldable pub total : {X : Type 0} → (X → ℕ) → List X → ℕ
total w [] = 0
total w (x ∷ xs) = w x + total w xs

abbrev pub one_if : Bool → ℕ
one_if b = cond b 1 0

module _ {X : Type 0} where
  pub total_append : (w : X → ℕ) (xs ys : List X) → total w (xs ++ ys) ≡ total w xs + total w ys
  unfolding total
  total_append w [] ys = omega arith
  total_append w (x ∷ xs) ys = let rest = total_append w xs ys in omega (arith, rest)

  pub total_least : (v w : X → ℕ) (xs : List X) → ((x : X) → v x ≤ w x) → total v xs ≤ total w xs
  unfolding total
  total_least v w [] each = omega arith
  total_least v w (x ∷ xs) each = let here = each x in let rest = total_least v w xs each in omega (arith, here, rest)

  pub total_both : (v w : X → ℕ) (xs : List X) → total (λ x. v x + w x) xs ≡ total v xs + total w xs
  unfolding total
  total_both v w [] = refl
  total_both v w (x ∷ xs) = let rest = total_both v w xs in omega (arith, rest)

  pub total_same : (v w : X → ℕ) (xs : List X) → ((x : X) → v x ≡ w x) → total v xs ≡ total w xs
  unfolding total
  total_same v w [] each = refl
  total_same v w (x ∷ xs) each = ap₂ (λ a b. a + b) (each x) (total_same v w xs each)

module _ {X Y : Type 0} where
  pub total_map : (w : Y → ℕ) (f : X → Y) (xs : List X) → total w (map f xs) ≡ total (λ x. w (f x)) xs
  unfolding total
  total_map w f [] = refl
  total_map w f (x ∷ xs) = ap (λ n. w (f x) + n) (total_map w f xs)

  pub total_flat : (w : Y → ℕ) (f : X → List Y) (xs : List X) → total w (flat_map f xs) ≡ total (λ x. total w (f x)) xs
  unfolding total
  total_flat w f [] = refl
  total_flat w f (x ∷ xs) = total_append w (f x) (flat_map f xs) ∙ ap (λ n. total w (f x) + n) (total_flat w f xs)

-- ---- what is spelled weighs no more than its tokens

pub record Weighs {T X : Type 0} (w : T → ℕ) (m : X → ℕ) (P : X → List T → Type 0) : Type 0 where
  pub bound : (x : X) (u : List T) → P x u → m x ≤ total w u

abbrev pub nothing : {X : Type 0} → X → ℕ
nothing x = 0

abbrev pub of_option : {X : Type 0} → (X → ℕ) → Option X → ℕ
of_option m None = 0
of_option m (Some x) = m x

module _ {T : Type 0} (w : T → ℕ) where
  pub in_one : (t : T) (u : List T) (n : ℕ) → u ≡ t ∷ [] → n ≤ w t → n ≤ total w u
  unfolding total
  in_one t u n e low = let weight : total w u ≡ w t + 0 = ap (total w) e in omega (arith, weight, low)

  pub in_two : (t s : T) (u : List T) (n : ℕ) → u ≡ t ∷ (s ∷ []) → n ≤ w t → n ≤ total w u
  unfolding total
  in_two t s u n e low = let weight : total w u ≡ w t + (w s + 0) = ap (total w) e in omega (arith, weight, low)

  pub in_parts : (p q u : List T) (m n : ℕ) → u ≡ p ++ q → m ≤ total w p → n ≤ total w q → m + n ≤ total w u
  in_parts p q u m n e first second = let weight : total w u ≡ total w p + total w q = ap (total w) e ∙ total_append w p q in omega (arith, weight, first, second)

  pub in_three : (p q s u : List T) (m n : ℕ) → u ≡ p ++ (q ++ s) → m ≤ total w p → n ≤ total w q → m + n ≤ total w u
  in_three p q s u m n e first second =
      let weight : total w u ≡ total w p + total w (q ++ s) = ap (total w) e ∙ total_append w p (q ++ s) in
      let inner : total w (q ++ s) ≡ total w q + total w s = total_append w q s in
      omega (arith, weight, inner, first, second)

many_bound : {T X : Type 0} (w : T → ℕ) (m : X → ℕ) (P : X → List T → Type 0) → ((x : X) (u : List T) → P x u → m x ≤ total w u) → (xs : List X) (u : List T) → Many P xs u → total m xs ≤ total w u
unfolding Many total
many_bound w m P each [] u p = omega arith
many_bound w m P each (x ∷ xs) u (a, b, e, here, rest) = in_parts w a b u (m x) (total m xs) e (each x a here) (many_bound w m P each xs b rest)

first_and_others : {X : Type 0} (m : X → ℕ) (z : X × List X) → total m (z.0 ∷ z.1) ≤ m z.0 + total m z.1
unfolding total
first_and_others m z = omega arith

module _ {T X : Type 0} {w : T → ℕ} where
  -- what weighs nothing
  pub weighs_nothing : (P : X → List T → Type 0) → Weighs w nothing P
  weighs_nothing P = record { bound = λ x u p. omega arith }

  pub weighs_one : (m : X → ℕ) (f : T → Option X) → ((t : T) (x : X) → f t ≡ Some x → m x ≤ w t) → Weighs w m (One f)
  weighs_one m f each = record { bound = λ x u p. in_one w p.0 u (m x) p.1 (each p.0 x p.2) }

  pub weighs_either : {m : X → ℕ} {P Q : X → List T → Type 0} → Weighs w m P → Weighs w m Q → Weighs w m (Either P Q)
  weighs_either h k = record { bound = λ x u p. elim p [ inl is ↦ h.bound x u is | inr is ↦ k.bound x u is ] }

  pub weighs_optional : {m : X → ℕ} {P : X → List T → Type 0} → Weighs w m P → Weighs w (of_option m) (Optional P)
  weighs_optional {m = m} {P = P} h = record { bound = bound }
    where
      bound : (o : Option X) (u : List T) → Optional P o u → of_option m o ≤ total w u
      bound None u p = omega arith
      bound (Some x) u p = h.bound x u p

  pub weighs_many : {m : X → ℕ} {P : X → List T → Type 0} → Weighs w m P → Weighs w (total m) (Many P)
  weighs_many {m = m} {P = P} h = record { bound = many_bound w m P h.bound }

  -- the same relation, and less weight
  pub weighs_less : {n : X → ℕ} {P : X → List T → Type 0} (m : X → ℕ) → Weighs w n P → ((x : X) → m x ≤ n x) → Weighs w m P
  weighs_less m h less = record { bound = λ x u p. let a = h.bound x u p in let b = less x in omega (arith, a, b) }

module _ {T X Y : Type 0} {w : T → ℕ} where
  pub weighs_image : (g : X → Y) (n : X → ℕ) (m : Y → ℕ) {P : X → List T → Type 0} → ((x : X) → m (g x) ≤ n x) → Weighs w n P → Weighs w m (Image g P)
  weighs_image g n m less h = record {
    bound = λ y u p.
        let same : m y ≡ m (g p.0) = ap m p.1 in
        let low = less p.0 in
        let inner = h.bound p.0 u p.2 in
        omega (arith, same, low, inner);
  }

  pub weighs_seq : {m : X → ℕ} {n : Y → ℕ} {P : X → List T → Type 0} {Q : Y → List T → Type 0} → Weighs w m P → Weighs w n Q → Weighs w (λ z. m z.0 + n z.1) (Seq P Q)
  weighs_seq {m = m} {n = n} h k = record { bound = λ z u p. in_parts w p.0 p.1 u (m z.0) (n z.1) p.2 (h.bound z.0 p.0 p.3) (k.bound z.1 p.1 p.4) }

module _ {T X Y : Type 0} {w : T → ℕ} where
  -- behind something, and before something
  pub weighs_behind : {n : Y → ℕ} (P : X → List T → Type 0) {Q : Y → List T → Type 0} → Weighs w n Q → Weighs w n (P &> Q)
  weighs_behind {n = n} P h = weighs_image (λ (z : X × Y). z.1) (λ (z : X × Y). nothing z.0 + n z.1) n (λ z. omega arith) (weighs_seq (weighs_nothing P) h)

  pub weighs_before : {m : X → ℕ} {P : X → List T → Type 0} (Q : Y → List T → Type 0) → Weighs w m P → Weighs w m (P <& Q)
  weighs_before {m = m} Q h = weighs_image (λ (z : X × Y). z.0) (λ (z : X × Y). m z.0 + nothing z.1) m (λ z. omega arith) (weighs_seq h (weighs_nothing Q))

module _ {T X Y : Type 0} {w : T → ℕ} where
  pub weighs_separated : {m : X → ℕ} {P : X → List T → Type 0} (S : Y → List T → Type 0) → Weighs w m P → Weighs w (total m) (Separated P S)
  weighs_separated {m = m} S h =
      weighs_image (λ (z : X × List X). z.0 ∷ z.1) (λ (z : X × List X). m z.0 + total m z.1) (total m) (first_and_others m) (weighs_seq h (weighs_many (weighs_behind S h)))
