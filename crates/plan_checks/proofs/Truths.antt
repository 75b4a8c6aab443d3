-- Tests that say what a fact says.
use Rattle.std.proofs.Common.{◌≡◌, ℕ, Bool, true, false, List, None, Some, IsTrue, ◌↔◌, refl, sym, ap, ◌∙◌}
use Rattle.plan_model.specs.Contexts.{kind_fits}
use Rattle.uno_model.specs.Codes.{same_kind}
use Rattle.uno_model.specs.Entities.{Entity}
use Rattle.uno_model.specs.Kinds.{Kind, interface_of}
use Rattle.uno_model.specs.Kinds as kd
use Rattle.uno_model.specs.Reaches.{is_base_of}
use Rattle.uno_model.specs.Registry.{IsBaseOf}
use Rattle.uno_model.specs.Sound.{IsSound}
use Rattle.uno_model.proofs.AssignableLaws as law
use Rattle.uno_model.proofs.CodeLaws.{same_kind_told}

-- two tests of one fact answer the same
same_truth : {B : Type 0} (a b : Bool) → (IsTrue a ↔ B) → ((b ≡ true) ↔ B) → a ≡ b
same_truth true true x y = refl
same_truth false false x y = refl
same_truth true false x y = let bad : false ≡ true = y.1 (x.0 refl) in sym bad
same_truth false true x y = x.1 (y.0 refl)

pub base_told : (reg : List Entity) (base name : List ℕ) (answer : Bool) → IsSound reg → (IsTrue answer ↔ IsBaseOf reg base name) → answer ≡ is_base_of reg base name
base_told reg base name answer sound told = same_truth answer (is_base_of reg base name) told (law.base_told reg base name sound.no_circle)

pub kind_told : (k j : Kind) (answer : Bool) → (IsTrue answer ↔ (k ≡ j)) → answer ≡ same_kind k j
kind_told k j answer told = same_truth answer (same_kind k j) told (same_kind_told k j)

pub other_told : (k j : Kind) (answer : Bool) → (IsTrue answer ↔ (j ≡ k)) → answer ≡ same_kind k j
other_told k j answer told = kind_told k j answer ((λ a. sym (told.0 a)), (λ e. told.1 (sym e)))

-- ---- which type fits which, by the interfaces that they are

module _ (reg : List Entity) where
  pub fits_same : (wanted from : Kind) → None ≡ interface_of wanted → same_kind wanted from ≡ kind_fits reg wanted from
  fits_same (kd.interface base) from other = absurd cc
  fits_same wanted from other = refl

  fits_here : (wanted from : Kind) (base name : List ℕ) → Some base ≡ interface_of wanted → Some name ≡ interface_of from → is_base_of reg base name ≡ kind_fits reg wanted from
  fits_here (kd.interface b) (kd.interface n) base name is given =
      let same : base ≡ b = cc in
      let other : name ≡ n = cc in
      rw (same, other) refl
  fits_here (kd.interface b) from base name is given = absurd cc
  fits_here wanted from base name is given = absurd cc

  pub fits_base : (wanted from : Kind) (base name b n : List ℕ) → Some base ≡ interface_of wanted → Some name ≡ interface_of from → b ≡ base → n ≡ name
      → is_base_of reg b n ≡ kind_fits reg wanted from
  fits_base wanted from base name b n is given same other = ap (λ x. is_base_of reg x n) same ∙ ap (is_base_of reg base) other ∙ fits_here wanted from base name is given

  fits_never : (base : List ℕ) (from : Kind) → None ≡ interface_of from → kind_fits reg (kd.interface base) from ≡ same_kind (kd.interface base) from
  fits_never base (kd.interface name) given = absurd cc
  fits_never base from given = refl

  apart : (base : List ℕ) (from : Kind) → None ≡ interface_of from → (b : Bool) → same_kind (kd.interface base) from ≡ b → false ≡ b
  apart base from given true same =
      let both : kd.interface base ≡ from = (same_kind_told (kd.interface base) from).0 same in
      let bad : None ≡ Some base = given ∙ sym (ap interface_of both) in absurd cc
  apart base from given false same = refl

  pub fits_none : (wanted from : Kind) (base : List ℕ) → Some base ≡ interface_of wanted → None ≡ interface_of from → false ≡ kind_fits reg wanted from
  fits_none (kd.interface b) from base is given = apart b from given (same_kind (kd.interface b) from) refl ∙ sym (fits_never b from given)
  fits_none wanted from base is given = absurd cc
