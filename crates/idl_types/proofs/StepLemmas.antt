-- The steps of the numbers below one lead to such numbers.
use Rattle.std.proofs.Common.{◌≡◌, refl, sym, ap, subst, ◌∙◌, ℕ, zero, suc, ◌+◌, ◌<◌, List, [], ◌∷◌, ◌++◌, length, slice_get, Option, None, Some, ◌⊎◌, inl, inr, unwrap_or, arith}
use Rattle.std.proofs.lemmas.List.{length_push}
use Rattle.std.proofs.lemmas.Option.{slice_get_within}
use Rattle.idl_model.specs.Trees.{Path, WrittenType, simple, named, sequence_of, Declaration}
use Rattle.idl_model.specs.Trees as tree
use Rattle.idl_types.specs.Bodies.{steps_below}
use Rattle.idl_types.specs.Steps.{body_at, step_if, step_in, step_of}
use Rattle.typedef_chains.specs.Chains.{LeadWithin}
use Rattle.typedef_chains.specs.declared.step.Step.{Step}

none_or_some : {X : Type 0} {x : X} → None ≡ Some x → ⊥
none_or_some is = cc

same_some : (m n : ℕ) → Some m ≡ Some n → m ≡ n
same_some m n is = cc

module _ (told : Path → Option ℕ) (count : ℕ) (low : (path : Path) (n : ℕ) → told path ≡ Some n → n < count) where
  in_low : (n next : ℕ) (t : WrittenType) → n < count → (step_in told n t).next ≡ Some next → next < count
  unfolding step_in
  in_low n next (simple p s) own is = absurd (none_or_some is)
  in_low n next (named path ts) own is = by_told (told path) refl (same_some (unwrap_or (told path) n) next is)
    where
      by_told : (o : Option ℕ) → told path ≡ o → unwrap_or o n ≡ next → next < count
      by_told None at same = subst (λ m. m < count) same own
      by_told (Some m) at same = subst (λ k. k < count) same (low path m at)
  in_low n next (sequence_of p t) own is = in_low n next t own is

  of_low : (n next : ℕ) (body : Declaration) → n < count → (step_of told n body).next ≡ Some next → next < count
  of_low n next tree.forward own is = absurd (none_or_some is)
  of_low n next (tree.interface base members) own is = absurd (none_or_some is)
  of_low n next (tree.struct base members) own is = absurd (none_or_some is)
  of_low n next (tree.exception base members) own is = absurd (none_or_some is)
  of_low n next (tree.enum items) own is = absurd (none_or_some is)
  of_low n next (tree.constants cs) own is = absurd (none_or_some is)
  of_low n next (tree.typedef t) own is = in_low n next t own is
  of_low n next (tree.new_service base constructors) own is = absurd (none_or_some is)
  of_low n next (tree.old_service members) own is = absurd (none_or_some is)
  of_low n next (tree.new_singleton base) own is = absurd (none_or_some is)
  of_low n next (tree.old_singleton service) own is = absurd (none_or_some is)

  if_low : (n next : ℕ) (o : Option Declaration) → n < count → (step_if told n o).next ≡ Some next → next < count
  if_low n next None own is = absurd (none_or_some is)
  if_low n next (Some body) own is = of_low n next body own is

module _ (told : Path → Option ℕ) (bodies : List Declaration) (table : List (Option ℕ)) where
  pub long_steps : (count : ℕ) → length (steps_below told bodies table count) ≡ count
  unfolding steps_below
  long_steps zero = refl
  long_steps (suc n) =
      let long = length_push (steps_below told bodies table n) (step_if told n (body_at bodies table n)) in
      let rest = long_steps n in
      omega (arith, long, rest)

  at_end : (xs : List Step) (x : Step) (k : ℕ) (s : Step) → slice_get (xs ++ x ∷ []) k ≡ Some s → (slice_get xs k ≡ Some s) ⊎ ((k ≡ length xs) × (x ≡ s))
  at_end [] x zero s at = inr (refl, let same : x ≡ s = cc in same)
  at_end [] x (suc k) s at = absurd (none_or_some at)
  at_end (y ∷ ys) x zero s at = inl at
  at_end (y ∷ ys) x (suc k) s at = later (at_end ys x k s at)
    where
      later : (slice_get ys k ≡ Some s) ⊎ ((k ≡ length ys) × (x ≡ s)) → (slice_get (y ∷ ys) (suc k) ≡ Some s) ⊎ ((suc k ≡ length (y ∷ ys)) × (x ≡ s))
      later (inl old) = inl old
      later (inr (here, same)) = inr (ap suc here, same)

  -- the step at a number is that of what the table has for it
  pub steps_are : (count n : ℕ) (s : Step) → slice_get (steps_below told bodies table count) n ≡ Some s → s ≡ step_if told n (body_at bodies table n)
  unfolding steps_below
  steps_are zero n s at = absurd (none_or_some at)
  steps_are (suc k) n s at = by_end (steps_are k n s) (at_end (steps_below told bodies table k) (step_if told k (body_at bodies table k)) n s at)
    where
      by_end : (slice_get (steps_below told bodies table k) n ≡ Some s → s ≡ step_if told n (body_at bodies table n)) → (slice_get (steps_below told bodies table k) n ≡ Some s) ⊎ ((n ≡ length (steps_below told bodies table k)) × (step_if told k (body_at bodies table k) ≡ s)) → s ≡ step_if told n (body_at bodies table n)
      by_end rest (inl old) = rest old
      by_end rest (inr (here, same)) = sym same ∙ ap (λ m. step_if told m (body_at bodies table m)) (sym (here ∙ long_steps k))

  pub lead_within : (count : ℕ) → ((path : Path) (n : ℕ) → told path ≡ Some n → n < count) → LeadWithin (steps_below told bodies table count)
  lead_within count low node next s at leads =
      let many = long_steps count in
      let own = slice_get_within (steps_below told bodies table count) node s at in
      let right = if_low told count low node next (body_at bodies table node) (omega (arith, own, many)) (ap (λ (x : Step). x.next) (sym (steps_are count node s at)) ∙ leads) in
      omega (arith, right, many)

pub no_steps : (told : Path → Option ℕ) (bodies : List Declaration) (table : List (Option ℕ)) → [] ≡ steps_below told bodies table 0
unfolding steps_below
no_steps told bodies table = refl

pub next_step : (told : Path → Option ℕ) (bodies : List Declaration) (table : List (Option ℕ)) (n : ℕ) (now new : List Step) (s : Step) → now ≡ steps_below told bodies table n → new ≡ now ++ s ∷ []
    → s ≡ step_if told n (body_at bodies table n) → new ≡ steps_below told bodies table (n + 1)
unfolding steps_below
next_step told bodies table n now new s so_far adds is =
    adds ∙ (λ i. so_far i ++ is i ∷ []) ∙ ap (steps_below told bodies table) (let next : suc n ≡ n + 1 = omega arith in next)
