-- Chains along ways: a way that comes back to a node of its own has no end.
use Rattle.std.proofs.Common.{◌≡◌, refl, sym, ap, subst, ◌∙◌, ℕ, zero, suc, ◌+◌, min, List, [], ◌∷◌, ◌++◌, Option, None, Some, ◌⊎◌, inl, inr, Contains, slice_get, arith}
use Rattle.typedef_chains.specs.Chains.{Ends, here, on, IsEnd}
use Rattle.typedef_chains.specs.Known.{LeadsTo, Linked}
use Rattle.typedef_chains.specs.declared.step.Step.{Step}
use Rattle.typedef_chains.specs.declared.step.End.{End}

-- ---- one step

same_step : (o : Option Step) (s t : Step) → o ≡ Some s → o ≡ Some t → s ≡ t
same_step o s t is too = cc

same_next : (s t : Step) (m n : ℕ) → s ≡ t → s.next ≡ Some m → t.next ≡ Some n → m ≡ n
same_next s t m n is first second =
    let both : Some m ≡ Some n = sym first ∙ ap (λ (k : Step). k.next) is ∙ second in
    cc

no_next : (s t : Step) (n : ℕ) → s ≡ t → s.next ≡ None → t.next ≡ Some n → ⊥
no_next s t n is none some =
    let both : None ≡ Some n = sym none ∙ ap (λ (k : Step). k.next) is ∙ some in
    cc

module _ (steps : List Step) where
  -- a chain goes by the node to which the step leads
  pub goes_by : (node next last sum : ℕ) (s : Step) → slice_get steps node ≡ Some s → s.next ≡ Some next → Ends steps node last sum
      → (rest : ℕ) × (sum ≡ s.adds + rest) × Ends steps next last rest
  goes_by node next last sum s at leads (here node' t at' none) = absurd (no_next t s next (same_step (slice_get steps node) t s at' at) none leads)
  goes_by node next last sum s at leads (on node' last' rest next' t at' leads' ends) =
      let same : t ≡ s = same_step (slice_get steps node) t s at' at in
      (rest, ap (λ (k : Step). k.adds + rest) same, subst (λ n. Ends steps n last rest) (same_next t s next' next same leads' leads) ends)

  -- ---- ways

  pub linked_behind : (xs : List ℕ) (x at : ℕ) → Linked steps xs x → LeadsTo steps x at → Linked steps (xs ++ x ∷ []) at
  unfolding Linked
  linked_behind [] x at way leads = (leads, tt)
  linked_behind (y ∷ []) x at way leads = (way.0, linked_behind [] x at way.1 leads)
  linked_behind (y ∷ z ∷ xs) x at way leads = (way.0, linked_behind (z ∷ xs) x at way.1 leads)

  pub linked_before : (xs : List ℕ) (x at : ℕ) → Linked steps (xs ++ x ∷ []) at → Linked steps xs x × LeadsTo steps x at
  unfolding Linked
  linked_before [] x at way = (tt, way.0)
  linked_before (y ∷ []) x at way =
      let rest = linked_before [] x at way.1 in
      ((way.0, rest.0), rest.1)
  linked_before (y ∷ z ∷ xs) x at way =
      let rest = linked_before (z ∷ xs) x at way.1 in
      ((way.0, rest.0), rest.1)

  -- each node of a way leads to one of it, or to the one at its end
  step_of_way : (xs : List ℕ) (at node : ℕ) → Linked steps xs at → Contains xs node → (next : ℕ) × LeadsTo steps node next × (Contains xs next ⊎ (next ≡ at))
  unfolding Linked
  step_of_way [] at node way in' = let bad : ⊥ = omega (arith, in'.1) in absurd bad
  step_of_way (x ∷ []) at node way (zero, low, is) = (at, subst (λ n. LeadsTo steps n at) is way.0, inr refl)
  step_of_way (x ∷ y ∷ xs) at node way (zero, low, is) = (y, subst (λ n. LeadsTo steps n y) is way.0, inl (1, omega arith, refl))
  step_of_way (x ∷ xs) at node way (suc k, low, is) =
      let rest = step_of_way xs at node way.1 (k, omega arith, is) in
      (rest.0, rest.1, elim rest.2 [ inl there ↦ inl (suc there.0, omega (arith, there.1), there.2) | inr end ↦ inr end ])

  -- nodes that lead to nodes among them have no end
  no_end_within : (xs : List ℕ) → ((node : ℕ) → Contains xs node → (next : ℕ) × LeadsTo steps node next × Contains xs next)
      → (node last sum : ℕ) → Contains xs node → Ends steps node last sum → ⊥
  no_end_within xs closed node last sum in' (here node' t at none) =
      let next = closed node in' in
      no_next t next.1.0 next.0 (same_step (slice_get steps node) t next.1.0 at next.1.1) none next.1.2
  no_end_within xs closed node last sum in' (on node' last' rest next t at leads ends) =
      let other = closed node in' in
      let same = same_next t other.1.0 next other.0 (same_step (slice_get steps node) t other.1.0 at other.1.1) leads other.1.2 in
      no_end_within xs closed next last rest (subst (λ n. Contains xs n) (sym same) other.2) ends

  -- a way that leads to a node of its own has no end
  pub circle_has_none : (xs : List ℕ) (at : ℕ) → Linked steps xs at → Contains xs at → (last sum : ℕ) → ¬ Ends steps at last sum
  circle_has_none xs at way in' last sum ends = no_end_within xs (λ node there. closed node (step_of_way xs at node way there)) at last sum in' ends
    where
      closed : (node : ℕ) → ((next : ℕ) × LeadsTo steps node next × (Contains xs next ⊎ (next ≡ at))) → (next : ℕ) × LeadsTo steps node next × Contains xs next
      closed node it = (it.0, it.1, elim it.2 [ inl there ↦ there | inr is ↦ subst (λ n. Contains xs n) (sym is) in' ])

  -- ---- ends

  pub end_here : (most node : ℕ) (s : Step) (e : End) → slice_get steps node ≡ Some s → s.next ≡ None → e.last ≡ node → e.sum ≡ min (0 + s.adds) most → IsEnd steps most node (Some e)
  end_here most node s e at none last sum = (s.adds, omega (arith, sum), subst (λ n. Ends steps node n s.adds) (sym last) (here node s at none))

  pub end_behind : (most node next : ℕ) (s : Step) (d e : End) → slice_get steps node ≡ Some s → s.next ≡ Some next → e.last ≡ d.last → e.sum ≡ min (d.sum + s.adds) most
      → IsEnd steps most next (Some d) → IsEnd steps most node (Some e)
  end_behind most node next s d e at leads last sum right =
      let total = right.1 in (
        s.adds + right.0,
        omega (arith, sum, total),
        subst (λ n. Ends steps node n (s.adds + right.0)) (sym last) (on node d.last right.0 next s at leads right.2),
      )

  pub none_behind : (most node next : ℕ) (s : Step) → slice_get steps node ≡ Some s → s.next ≡ Some next → IsEnd steps most next None → IsEnd steps most node None
  none_behind most node next s at leads none last sum ends =
      let rest = goes_by node next last sum s at leads ends in
      none last rest.0 rest.2
