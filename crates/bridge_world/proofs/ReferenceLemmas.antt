-- Whether there is a reference in values, one value after the other.
use Rattle.std.proofs.Common.{◌≡◌, refl, sym, ap, ◌∙◌, ℕ, ◌+◌, ◌<◌, true, false, List, [], ◌∷◌, ◌++◌, length, drop, get_or, is_some}
use Rattle.plan_model.specs.Roots.{next_loose}
use Rattle.uno_model.specs.Values.{Ref, refs, refs_in}
use Rattle.uno_values.proofs.Parts.{part_at}
use Rattle.uno_values.specs.Values.{plain_of, plains_of}
use Rattle.uno_values.specs.declared.value.Value.{Value}

-- behind those of a value without any
skipped : (xs ys : List Ref) → false ≡ is_some (next_loose xs) → is_some (next_loose (xs ++ ys)) ≡ is_some (next_loose ys)
skipped [] ys none = refl
skipped (x ∷ xs) ys none = absurd (cc)

found : (xs ys : List Ref) → true ≡ is_some (next_loose xs) → true ≡ is_some (next_loose (xs ++ ys))
found [] ys some = absurd (cc)
found (x ∷ xs) ys some = refl

module _ (vs : List Value) (i : ℕ) (v : Value) (within : i < length vs) (is : v ≡ get_or vs i v) where
  here : refs_in (plains_of (drop i vs)) ≡ refs (plain_of v) ++ refs_in (plains_of (drop (i + 1) vs))
  unfolding refs_in
  here = ap (λ ws. refs_in (plains_of ws)) (part_at vs i v within is)

  pub none_here : false ≡ is_some (next_loose (refs (plain_of v))) → is_some (next_loose (refs_in (plains_of (drop (i + 1) vs)))) ≡ is_some (next_loose (refs_in (plains_of (drop i vs))))
  none_here none = sym (ap (λ rs. is_some (next_loose rs)) here ∙ skipped (refs (plain_of v)) (refs_in (plains_of (drop (i + 1) vs))) none)

  pub some_here : true ≡ is_some (next_loose (refs (plain_of v))) → true ≡ is_some (next_loose (refs_in (plains_of (drop i vs))))
  some_here some = found (refs (plain_of v)) (refs_in (plains_of (drop (i + 1) vs))) some ∙ sym (ap (λ rs. is_some (next_loose rs)) here)
