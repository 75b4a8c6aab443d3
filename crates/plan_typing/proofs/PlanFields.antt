-- Fields that are found stay found where more are written behind them, and those and parameters are of types of the registry.
use Rattle.std.proofs.Common.{◌≡◌, refl, sym, ap, ◌∙◌, ℕ, Bool, true, false, ◌&&◌, List, [], ◌∷◌, ◌++◌, Option, None, Some, option_map, if◌then◌else◌}
use Rattle.std.specs.List.{AllByRecursion, list_all, find}
use Rattle.std.specs.Str.{bytes_eq}
use Rattle.std.proofs.lemmas.Bool.{and_parts, and_from}
use mathlib.Core.Path.{subst}
use Rattle.uno_model.specs.Entities.{Entity, Field, Param}
use Rattle.uno_model.specs.Kinds.{Kind}
use Rattle.uno_model.specs.Types.{is_type}
use Rattle.uno_model.proofs.Options.{same_some, none_some}
use Rattle.plan_model.specs.Contexts.{parameters}
use Rattle.plan_typing.specs.Statements.{IsTypedField}
use Rattle.plan_typing.proofs.FramePuts.{are_types}
use Rattle.plan_typing.proofs.ValueWords.{found_field, found_field_is}

pub found_field_before : (name : List ℕ) (fs more : List Field) (k : Kind) → found_field name fs ≡ Some k → found_field name (fs ++ more) ≡ Some k
found_field_before name [] more k is = absurd (none_some is)
found_field_before name (f ∷ fs) more k is = by_test (found_field_before name fs more k) (bytes_eq name f.name) refl is
  where
    by_test : (found_field name fs ≡ Some k → found_field name (fs ++ more) ≡ Some k) → (b : Bool) → bytes_eq name f.name ≡ b → found_field name (f ∷ fs) ≡ Some k
        → found_field name (f ∷ (fs ++ more)) ≡ Some k
    by_test later true same to = found_field_is name f (fs ++ more) true same ∙ (sym (found_field_is name f fs true same) ∙ to)
    by_test later false other to = found_field_is name f (fs ++ more) false other ∙ later (sym (found_field_is name f fs false other) ∙ to)

pub found_field_type : (reg : List Entity) (name : List ℕ) (fs : List Field) (k : Kind) → AllByRecursion (IsTypedField reg) fs → found_field name fs ≡ Some k
    → is_type reg k ≡ true
found_field_type reg name [] k all is = absurd (none_some is)
found_field_type reg name (f ∷ fs) k all is = by_test (found_field_type reg name fs k all.1) (bytes_eq name f.name) refl is
  where
    by_test : (found_field name fs ≡ Some k → is_type reg k ≡ true) → (b : Bool) → bytes_eq name f.name ≡ b → found_field name (f ∷ fs) ≡ Some k → is_type reg k ≡ true
    by_test later true same to =
        let kind : Some f.kind ≡ Some k = sym (found_field_is name f fs true same) ∙ to in
        subst (λ j. is_type reg j ≡ true) (same_some kind) all.0
    by_test later false other to = later (sym (found_field_is name f fs false other) ∙ to)

pub params_typed : (reg : List Entity) (ps : List Param) → list_all (λ p. is_type reg p.kind) ps ≡ true → are_types reg (parameters ps) ≡ true
unfolding parameters
params_typed reg [] types = refl
params_typed reg (p ∷ ps) types =
    let parts = and_parts (is_type reg p.kind) (list_all (λ (q : Param). is_type reg q.kind) ps) types in
    and_from (is_type reg p.kind) (are_types reg (parameters ps)) parts.0 (params_typed reg ps parts.1)

-- all of a list, and one more
pub all_and_one : {X : Type 0} (P : X → Type 0) (xs : List X) (x : X) → AllByRecursion P xs → P x → AllByRecursion P (xs ++ x ∷ [])
all_and_one P [] x all one = (one, tt)
all_and_one P (y ∷ ys) x all one = (all.0, all_and_one P ys x all.1 one)
