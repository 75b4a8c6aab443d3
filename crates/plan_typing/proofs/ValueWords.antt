-- What a word stands for fits its type.
use Rattle.std.proofs.Common.{◌≡◌, refl, sym, ap, ◌∙◌, ℕ, Bool, true, false, List, [], ◌∷◌, Option, None, Some, option_map, if◌then◌else◌}
use mathlib.Core.Path.{subst}
use Rattle.std.specs.List.{find}
use Rattle.std.specs.Str.{bytes_eq}
use Rattle.uno_model.specs.Entities.{Entity, Field}
use Rattle.uno_model.specs.Fits.{Fits}
use Rattle.uno_model.specs.Kinds.{Kind}
use Rattle.uno_model.specs.Kinds as kd
use Rattle.uno_model.specs.Values as v
use Rattle.uno_model.proofs.Options.{same_some}
use Rattle.plan_model.specs.Contexts.{Scoped}
use Rattle.plan_model.specs.Evaluation.{Scene, value_under, value_of_word}
use Rattle.plan_model.specs.Expressions.{Word, variable, field, own}
use Rattle.plan_model.specs.Frames.{Variable}
use Rattle.plan_typing.specs.Scenes.{VariablesFit, FieldsFit, SceneFits}
use Rattle.plan_typing.specs.Types.{Types, variable_type, field_type, word_type}

-- the first of a name among values stands at the place of the first among types
abbrev pub found_kind : List ℕ → List Scoped → Option Kind
found_kind name ts = option_map (λ x. x.kind) (find (λ x. bytes_eq name x.name) ts)

abbrev pub found_field : List ℕ → List Field → Option Kind
found_field name fs = option_map (λ f. f.kind) (find (λ f. bytes_eq name f.name) fs)

pub found_kind_is : (name : List ℕ) (t : Scoped) (ts : List Scoped) (b : Bool) → bytes_eq name t.name ≡ b
    → found_kind name (t ∷ ts) ≡ (if b then Some t.kind else found_kind name ts)
found_kind_is name t ts true is = rw is refl
found_kind_is name t ts false is = rw is refl

pub found_field_is : (name : List ℕ) (f : Field) (fs : List Field) (b : Bool) → bytes_eq name f.name ≡ b
    → found_field name (f ∷ fs) ≡ (if b then Some f.kind else found_field name fs)
found_field_is name f fs true is = rw is refl
found_field_is name f fs false is = rw is refl

pub variable_fits : (reg : List Entity) (name : List ℕ) (xs : List Variable) (ts : List Scoped) (k : Kind) → VariablesFit reg xs ts → found_kind name ts ≡ Some k
    → Fits reg (value_under name xs) k
unfolding VariablesFit value_under
variable_fits reg name [] [] k fit is = absurd (cc)
variable_fits reg name [] (t ∷ ts) k fit is = absurd fit
variable_fits reg name (x ∷ xs) [] k fit is = absurd fit
variable_fits reg name (x ∷ xs) (t ∷ ts) k fit is = by_test (variable_fits reg name xs ts k fit.2) (bytes_eq name t.name) refl is
  where
    by_test : (found_kind name ts ≡ Some k → Fits reg (value_under name xs) k) → (b : Bool) → bytes_eq name t.name ≡ b → found_kind name (t ∷ ts) ≡ Some k
        → Fits reg (value_under name (x ∷ xs)) k
    by_test later true same to =
        let kind : Some t.kind ≡ Some k = sym (found_kind_is name t ts true same) ∙ to in
        rw (fit.0, same) (subst (λ j. Fits reg x.value j) (same_some kind) fit.1)
    by_test later false other to = rw (fit.0, other) (later (sym (found_kind_is name t ts false other) ∙ to))

pub field_fits : (reg : List Entity) (name : List ℕ) (xs : List Variable) (fs : List Field) (k : Kind) → FieldsFit reg xs fs → found_field name fs ≡ Some k
    → Fits reg (value_under name xs) k
unfolding FieldsFit value_under
field_fits reg name [] [] k fit is = absurd (cc)
field_fits reg name [] (f ∷ fs) k fit is = absurd fit
field_fits reg name (x ∷ xs) [] k fit is = absurd fit
field_fits reg name (x ∷ xs) (f ∷ fs) k fit is = by_test (field_fits reg name xs fs k fit.2) (bytes_eq name f.name) refl is
  where
    by_test : (found_field name fs ≡ Some k → Fits reg (value_under name xs) k) → (b : Bool) → bytes_eq name f.name ≡ b → found_field name (f ∷ fs) ≡ Some k
        → Fits reg (value_under name (x ∷ xs)) k
    by_test later true same to =
        let kind : Some f.kind ≡ Some k = sym (found_field_is name f fs true same) ∙ to in
        rw (fit.0, same) (subst (λ j. Fits reg x.value j) (same_some kind) fit.1)
    by_test later false other to = rw (fit.0, other) (later (sym (found_field_is name f fs false other) ∙ to))

-- of each word
pub word_fits : (reg : List Entity) (s : Scene) (ts : Types) (w : Word) (k : Kind) → SceneFits reg s ts → word_type ts w ≡ Some k → Fits reg (value_of_word s w) k
unfolding variable_type field_type
word_fits reg s ts (variable name) k fit is = variable_fits reg name s.variables ts.variables k fit.variables is
word_fits reg s ts (field name) k fit is = field_fits reg name s.fields ts.fields k fit.fields is
word_fits reg s ts own k fit is = subst (λ j. Fits reg (v.ref s.own) j) (same_some is) fit.own
