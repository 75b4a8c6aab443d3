-- One element more of a list that a loop goes through.
use Rattle.std.proofs.Common.{◌≡◌, refl, sym, ap, subst, ◌∙◌, ℕ, zero, suc, ◌+◌, ◌<◌, List, [], ◌∷◌, ◌++◌, length, map, take, get_or, slice_get, append_assoc, append-nil, Option, None, Some, arith}
use Rattle.std.proofs.lemmas.List.Elements.{filter_map-append}
use Rattle.std.specs.List.{cons_option, filter_map}
use Rattle.std.specs.Option.{option_to_list}
use Rattle.circle_search.specs.Graph.{targets}
use Rattle.circle_ranks.specs.Order.{below, graph_in_order, renumbered}

taken_more : {X : Type 0} (xs : List X) (i : ℕ) (x : X) → i < length xs → x ≡ get_or xs i x → take (suc i) xs ≡ take i xs ++ x ∷ []
taken_more [] i x low is = absurd (omega (arith, low))
taken_more (y ∷ ys) zero x low is = ap (λ z. z ∷ []) (sym is)
taken_more (y ∷ ys) (suc i) x low is = ap (λ zs. y ∷ zs) (taken_more ys i x (omega (arith, low)) is)

one_more : {X : Type 0} (xs : List X) (i : ℕ) (x : X) → i < length xs → x ≡ get_or xs i x → take (i + 1) xs ≡ take i xs ++ x ∷ []
one_more xs i x low is = subst (λ n. take n xs ≡ take i xs ++ x ∷ []) (next i) (taken_more xs i x low is)
  where
    next : (k : ℕ) → suc k ≡ k + 1
    next k = omega arith

numbers_last : (old now new : List ℕ) (n node : ℕ) → node ≡ n → now ≡ old ++ below n → new ≡ now ++ node ∷ [] → new ≡ old ++ below (suc n)
unfolding below
numbers_last old now new n node is so_far more =
    more ∙ ap (λ k. now ++ k ∷ []) is ∙ ap (λ xs. xs ++ n ∷ []) so_far ∙ append_assoc old (below n) (n ∷ [])

next_is : (i : ℕ) → suc i ≡ i + 1
next_is i = omega arith

pub numbers_more : (old now new : List ℕ) (n node : ℕ) → node ≡ n → now ≡ old ++ below n → new ≡ now ++ node ∷ [] → new ≡ old ++ below (n + 1)
numbers_more old now new n node is so_far more = subst (λ k. new ≡ old ++ below k) (next_is n) (numbers_last old now new n node is so_far more)

mapped : {X Y : Type 0} (f : X → Y) (xs : List X) (x : X) → map f (xs ++ x ∷ []) ≡ map f xs ++ f x ∷ []
mapped f [] x = refl
mapped f (y ∷ ys) x = ap (λ zs. f y ∷ zs) (mapped f ys x)

pub rows_more : (g now new : List (List ℕ)) (order numbers row : List ℕ) (i node : ℕ) → i < length order → node ≡ get_or order i node → now ≡ graph_in_order g (take i order) numbers
    → row ≡ renumbered numbers (targets g node) → new ≡ now ++ row ∷ [] → new ≡ graph_in_order g (take (i + 1) order) numbers
unfolding graph_in_order
rows_more g now new order numbers row i node low is so_far of_node more =
    more ∙ ap (λ rs. rs ++ row ∷ []) so_far ∙ ap (λ r. map (λ n. renumbered numbers (targets g n)) (take i order) ++ r ∷ []) of_node
    ∙ sym (ap (map (λ n. renumbered numbers (targets g n))) (one_more order i node low is) ∙ mapped (λ n. renumbered numbers (targets g n)) (take i order) node)

pub no_rows : (g : List (List ℕ)) (order numbers : List ℕ) → [] ≡ graph_in_order g (take 0 order) numbers
unfolding graph_in_order
no_rows g order numbers = refl

picked : {X Y : Type 0} (f : X → Option Y) (x : X) → filter_map f (x ∷ []) ≡ option_to_list (f x)
picked {Y = Y} f x = by_value (f x)
  where
    by_value : (o : Option Y) → cons_option o [] ≡ option_to_list o
    by_value None = refl
    by_value (Some y) = refl

pub targets_more : (numbers nodes now new : List ℕ) (i target : ℕ) → i < length nodes → target ≡ get_or nodes i target → now ≡ renumbered numbers (take i nodes)
    → new ≡ now ++ option_to_list (slice_get numbers target) → new ≡ renumbered numbers (take (i + 1) nodes)
unfolding renumbered
targets_more numbers nodes now new i target low is so_far more =
    more ∙ ap (λ xs. xs ++ option_to_list (slice_get numbers target)) so_far
    ∙ sym (ap (filter_map (slice_get numbers)) (one_more nodes i target low is) ∙ filter_map-append (slice_get numbers) (take i nodes) (target ∷ [])
    ∙ ap (λ xs. filter_map (slice_get numbers) (take i nodes) ++ xs) (picked (slice_get numbers) target))

pub no_numbers : (old : List ℕ) → old ≡ old ++ below 0
unfolding below
no_numbers old = sym (append-nil old)

pub no_targets : (numbers : List ℕ) → [] ≡ renumbered numbers []
unfolding renumbered
no_targets numbers = refl
