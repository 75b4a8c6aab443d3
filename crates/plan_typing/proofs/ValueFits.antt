-- The value of an expression that has a type fits it, where what words stand for fits theirs.
use Rattle.std.proofs.Common.{◌≡◌, ◌≢◌, refl, sym, ap, ◌∙◌, ℕ, Bool, true, false, ◌&&◌, List, [], ◌∷◌, Option, None, Some, option_map}
use Rattle.std.specs.Prelude.{IsTrue}
use Rattle.std.specs.List.{list_all}
use Rattle.std.proofs.lemmas.Bool.{and_parts}
use mathlib.Core.Path.{subst}
use Rattle.uno_model.specs.Entities.{Entity}
use Rattle.uno_model.specs.Fits.{Fits, FitEach, FitAll, member_kinds}
use Rattle.uno_model.specs.Kinds.{Kind}
use Rattle.uno_model.specs.Kinds as kd
use Rattle.uno_model.specs.Sound.{IsSound, is_storable}
use Rattle.uno_model.specs.Types.{is_type}
use Rattle.uno_model.specs.Values.{Plain, Plains}
use Rattle.uno_model.specs.Values as v
use Rattle.uno_model.proofs.AllLaws.{each_of_both}
use Rattle.uno_model.proofs.MemberKindLaws.{members_ruled}
use Rattle.uno_model.proofs.Options.{same_some}
use Rattle.urp_model.proofs.FittingLaws.{element_type}
use Rattle.plan_model.specs.Evaluation.{Scene, value_of_word, operated, bytes_of, both_values, value_of, values_of}
use Rattle.plan_model.specs.Expressions.{Expression, Expressions, constant, word, operation, any, tuple, list, bytes, none, more}
use Rattle.plan_typing.specs.Scenes.{SceneFits}
use Rattle.plan_typing.specs.Types.{Types, HasType, HaveTypes, AllHaveType}
use Rattle.plan_typing.proofs.ValueKinds.{fits_wider}
use Rattle.plan_typing.proofs.ValueLaws.{operated_fits, both_there, mapped}
use Rattle.plan_typing.proofs.ValueWords.{word_fits}

-- the members of a struct are of types of the registry
pub member_types : (reg : List Entity) → IsSound reg → (name : List ℕ) → list_all (is_type reg) (member_kinds reg name) ≡ true
member_types reg sound name = (each_of_both is_storable (is_type reg) (member_kinds reg name) (members_ruled reg sound name)).1

module _ (reg : List Entity) (sound : IsSound reg) (s : Scene) (ts : Types) (fit : SceneFits reg s ts) where
  mutual
    unfolding value_of values_of HasType HaveTypes AllHaveType Fits FitEach FitAll

    pub value_fits : (e : Expression) (k : Kind) (x : Plain) → is_type reg k ≡ true → HasType reg ts e k → value_of s e ≡ Some x → Fits reg x k
    value_fits (constant y) k x there typed is = subst (λ z. Fits reg z k) (same_some is) typed.0
    value_fits (word w) k x there typed is =
        subst (λ z. Fits reg z k) (same_some is) (fits_wider reg sound (value_of_word s w) k typed.from there typed.fits (word_fits reg s ts w typed.from fit typed.typed))
    value_fits (operation op a b) k x there typed is =
        let both = both_there (value_of s a) (value_of s b) (operated op) x is in
        operated_fits reg op both.first both.second x k (value_fits a k both.first there typed.1 both.first_is) both.made
    value_fits (any t a) k x there typed is =
        let from = mapped (v.any t) (value_of s a) x is in
        subst (λ z. Fits reg z k) from.is (typed.0, typed.1, typed.2, value_fits a t from.from typed.2 typed.3 from.there)
    value_fits (tuple name es) k x there typed is =
        let from = mapped (v.tuple name) (values_of s es) x is in
        subst (λ z. Fits reg z k) from.is (typed.0, typed.1, each_fits es (member_kinds reg name) from.from (member_types reg sound name) typed.2 from.there)
    value_fits (list t es) k x there typed is =
        let from = mapped (v.list t) (values_of s es) x is in
        subst (λ z. Fits reg z k) from.is
        (typed.0, typed.1, typed.2, all_fit es t from.from (element_type reg t (subst (λ j. is_type reg j ≡ true) typed.0 typed.2)) typed.3 from.there)
    value_fits (bytes es) k x there typed is =
        let from = mapped (λ xs. v.bytes (bytes_of xs)) (values_of s es) x is in
        subst (λ z. Fits reg z k) from.is typed.0

    pub each_fits : (es : Expressions) (ks : List Kind) (xs : Plains) → list_all (is_type reg) ks ≡ true → HaveTypes reg ts es ks → values_of s es ≡ Some xs → FitEach reg xs ks
    each_fits none [] xs there typed is = subst (λ z. FitEach reg z []) (same_some is) tt
    each_fits none (k ∷ ks) xs there typed is = absurd typed
    each_fits (more a es) [] xs there typed is = absurd typed
    each_fits (more a es) (k ∷ ks) xs there typed is =
        let both = both_there (value_of s a) (values_of s es) (λ y ys. Some (v.more y ys)) xs is in
        let types = and_parts (is_type reg k) (list_all (is_type reg) ks) there in
        subst (λ z. FitEach reg z (k ∷ ks)) (same_some both.made)
        (value_fits a k both.first types.0 typed.0 both.first_is, each_fits es ks both.second types.1 typed.1 both.second_is)

    pub all_fit : (es : Expressions) (k : Kind) (xs : Plains) → is_type reg k ≡ true → AllHaveType reg ts es k → values_of s es ≡ Some xs → FitAll reg xs k
    all_fit none k xs there typed is = subst (λ z. FitAll reg z k) (same_some is) tt
    all_fit (more a es) k xs there typed is =
        let both = both_there (value_of s a) (values_of s es) (λ y ys. Some (v.more y ys)) xs is in
        subst (λ z. FitAll reg z k) (same_some both.made)
        (value_fits a k both.first there typed.0 both.first_is, all_fit es k both.second there typed.1 both.second_is)
