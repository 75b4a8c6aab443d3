-- Variables that get another value, begin or go fit their types still.
use Rattle.std.proofs.Common.{◌≡◌, refl, sym, ap, ◌∙◌, ℕ, Bool, true, false, not, ◌&&◌, List, [], ◌∷◌, ◌++◌, Option, None, Some, option_map, if◌then◌else◌}
use Rattle.std.specs.List.{list_all, find, filter}
use Rattle.std.specs.Str.{bytes_eq}
use Rattle.std.proofs.lemmas.Bool.{and_parts}
use mathlib.Core.Path.{subst}
use Rattle.uno_model.specs.Entities.{Entity}
use Rattle.uno_model.specs.Fits.{Fits}
use Rattle.uno_model.specs.Kinds.{Kind}
use Rattle.uno_model.specs.Types.{is_type}
use Rattle.uno_model.specs.Values.{Plain}
use Rattle.uno_model.proofs.Options.{same_some}
use Rattle.plan_model.specs.Contexts.{Scoped}
use Rattle.plan_model.specs.Frames.{Variable}
use Rattle.plan_model.specs.Holdings.{put, without, with_variable}
use Rattle.plan_typing.specs.Scenes.{VariablesFit}
use Rattle.plan_typing.proofs.ValueWords.{found_kind, found_kind_is}

module _ (reg : List Entity) where
  -- another value under a name, which fits the type of the first variable of that name
  pub put_fits : (name : List ℕ) (y : Plain) (xs : List Variable) (ts : List Scoped) (k : Kind) → VariablesFit reg xs ts → found_kind name ts ≡ Some k → Fits reg y k
      → VariablesFit reg (put name y xs) ts
  unfolding VariablesFit put
  put_fits name y [] [] k fit is fits = tt
  put_fits name y [] (t ∷ ts) k fit is fits = absurd fit
  put_fits name y (x ∷ xs) [] k fit is fits = absurd fit
  put_fits name y (x ∷ xs) (t ∷ ts) k fit is fits = by_test (λ to. put_fits name y xs ts k fit.2 to fits) (bytes_eq name t.name) refl is
    where
      by_test : (found_kind name ts ≡ Some k → VariablesFit reg (put name y xs) ts) → (b : Bool) → bytes_eq name t.name ≡ b → found_kind name (t ∷ ts) ≡ Some k
          → VariablesFit reg (put name y (x ∷ xs)) (t ∷ ts)
      by_test later true same to =
          let kind : Some t.kind ≡ Some k = sym (found_kind_is name t ts true same) ∙ to in
          let here : bytes_eq name x.name ≡ true = rw fit.0 same in
          rw here (fit.0, subst (λ j. Fits reg y j) (sym (same_some kind)) fits, fit.2)
      by_test later false other to =
          let here : bytes_eq name x.name ≡ false = rw fit.0 other in
          rw here (fit.0, fit.1, later (sym (found_kind_is name t ts false other) ∙ to))

  -- a new variable
  pub added_fits : (name : List ℕ) (y : Plain) (xs : List Variable) (ts : List Scoped) (k : Kind) → VariablesFit reg xs ts → Fits reg y k
      → VariablesFit reg (with_variable name y xs) (ts ++ record { name = name; kind = k; comes_out = false } ∷ [])
  unfolding VariablesFit
  added_fits name y [] [] k fit fits = (refl, fits, tt)
  added_fits name y [] (t ∷ ts) k fit fits = absurd fit
  added_fits name y (x ∷ xs) [] k fit fits = absurd fit
  added_fits name y (x ∷ xs) (t ∷ ts) k fit fits = (fit.0, fit.1, added_fits name y xs ts k fit.2 fits)

  -- a variable that goes
  pub without_fits : (name : List ℕ) (xs : List Variable) (ts : List Scoped) → VariablesFit reg xs ts
      → VariablesFit reg (without name xs) (filter (λ t. not (bytes_eq name t.name)) ts)
  unfolding VariablesFit
  without_fits name [] [] fit = tt
  without_fits name [] (t ∷ ts) fit = absurd fit
  without_fits name (x ∷ xs) [] fit = absurd fit
  without_fits name (x ∷ xs) (t ∷ ts) fit = by_test (without_fits name xs ts fit.2) (bytes_eq name t.name) refl
    where
      by_test : VariablesFit reg (without name xs) (filter (λ u. not (bytes_eq name u.name)) ts) → (b : Bool) → bytes_eq name t.name ≡ b
          → VariablesFit reg (without name (x ∷ xs)) (filter (λ u. not (bytes_eq name u.name)) (t ∷ ts))
      by_test rest true same =
          let here : bytes_eq name x.name ≡ true = rw fit.0 same in
          rw (here, same) rest
      by_test rest false other =
          let here : bytes_eq name x.name ≡ false = rw fit.0 other in
          rw (here, other) (fit.0, fit.1, rest)

-- ---- the types of names

-- a name that is found is found where more types stand behind
pub found_before : (name : List ℕ) (ts us : List Scoped) (k : Kind) → found_kind name ts ≡ Some k → found_kind name (ts ++ us) ≡ Some k
found_before name [] us k is = absurd (cc)
found_before name (t ∷ ts) us k is = by_test (found_before name ts us k) (bytes_eq name t.name) refl is
  where
    by_test : (found_kind name ts ≡ Some k → found_kind name (ts ++ us) ≡ Some k) → (b : Bool) → bytes_eq name t.name ≡ b → found_kind name (t ∷ ts) ≡ Some k
        → found_kind name (t ∷ (ts ++ us)) ≡ Some k
    by_test later true same to = found_kind_is name t (ts ++ us) true same ∙ (sym (found_kind_is name t ts true same) ∙ to)
    by_test later false other to = found_kind_is name t (ts ++ us) false other ∙ later (sym (found_kind_is name t ts false other) ∙ to)

-- all types are types of the registry
abbrev pub are_types : List Entity → List Scoped → Bool
are_types reg ts = list_all (λ t. is_type reg t.kind) ts

pub found_type : (reg : List Entity) (name : List ℕ) (ts : List Scoped) (k : Kind) → are_types reg ts ≡ true → found_kind name ts ≡ Some k → is_type reg k ≡ true
found_type reg name [] k all is = absurd (cc)
found_type reg name (t ∷ ts) k all is = by_test (found_type reg name ts k (and_parts (is_type reg t.kind) (are_types reg ts) all).1) (bytes_eq name t.name) refl is
  where
    by_test : (found_kind name ts ≡ Some k → is_type reg k ≡ true) → (b : Bool) → bytes_eq name t.name ≡ b → found_kind name (t ∷ ts) ≡ Some k → is_type reg k ≡ true
    by_test later true same to =
        let kind : Some t.kind ≡ Some k = sym (found_kind_is name t ts true same) ∙ to in
        subst (λ j. is_type reg j ≡ true) (same_some kind) (and_parts (is_type reg t.kind) (are_types reg ts) all).0
    by_test later false other to = later (sym (found_kind_is name t ts false other) ∙ to)
