-- What a frame takes of an answer fits the types behind its call or query.
use Rattle.std.proofs.Common.{◌≡◌, refl, sym, ap, ◌∙◌, ℕ, Bool, true, false, List, [], ◌∷◌, ◌++◌, Option, None, Some, option_map, if◌then◌else◌}
use Rattle.std.specs.Prelude.{IsTrue}
use mathlib.Core.Path.{subst}
use Rattle.message_model.specs.Calls.{comes, kinds_on, out_kinds}
use Rattle.uno_model.specs.Entities.{Entity, Field, Param}
use Rattle.uno_model.specs.Fits.{Fits, FitEach, IsInterface}
use Rattle.uno_model.specs.Kinds.{Kind}
use Rattle.uno_model.specs.Kinds as kd
use Rattle.uno_model.specs.Reaches.{is_base_of}
use Rattle.uno_model.specs.Sound.{IsSound}
use Rattle.uno_model.specs.Types.{is_type}
use Rattle.uno_model.specs.Values.{Ref, null, Plain, Plains, plains, refs}
use Rattle.uno_model.specs.Values as v
use Rattle.uno_model.specs.declared.way.Way.{Way}
use Rattle.uno_model.specs.declared.way.Way.TheVariants as way
use Rattle.plan_model.specs.Contexts.{Scoped, kind_fits}
use Rattle.plan_model.specs.Expressions.{Argument, into, out, both}
use Rattle.plan_model.specs.Frames.{Variable}
use Rattle.plan_model.specs.Holdings.{Taken, takes, takes_outs, takes_result, takes_answer, takes_reference, reference_of, with_variable}
use Rattle.plan_model.specs.Statements.{Call, Query}
use Rattle.plan_typing.specs.Scenes.{VariablesFit}
use Rattle.plan_typing.specs.Statements.{Gets, ArgumentFits, ArgumentsFit, ResultFits, with_result, with_type}
use Rattle.plan_typing.specs.Types.{Types, variable_type}
use Rattle.plan_typing.proofs.FramePuts.{put_fits, added_fits, found_before, are_types, found_type}
use Rattle.plan_typing.proofs.ValueKinds.{fits_wider}
use Rattle.plan_typing.proofs.ValueWords.{found_kind}

module _ (reg : List Entity) (sound : IsSound reg) where
  -- ---- values that came out

  -- one, for the variable of its argument
  taken_fits : (name : List ℕ) (x : Plain) (t : Taken) (ts : List Scoped) (to k : Kind) → are_types reg ts ≡ true → found_kind name ts ≡ Some to
      → IsTrue (kind_fits reg to k) → Fits reg x k → VariablesFit reg t.variables ts → VariablesFit reg (takes name x t).variables ts
  taken_fits name x t ts to k types found fits value fit =
      put_fits reg name x t.variables ts to fit found (fits_wider reg sound x to k (found_type reg name ts to types found) fits value)

  -- a variable of the very type
  same_taken : (name : List ℕ) (x : Plain) (t : Taken) (ts : List Scoped) (k : Kind) → found_kind name ts ≡ Some k → Fits reg x k → VariablesFit reg t.variables ts
      → VariablesFit reg (takes name x t).variables ts
  same_taken name x t ts k found value fit = put_fits reg name x t.variables ts k fit found value

  -- behind a parameter that comes out stands its value
  comes_fit : (p : Param) (ps : List Param) (xs : List Plain) → comes p.way ≡ true → FitEach reg (plains xs) (kinds_on comes (p ∷ ps))
      → FitEach reg (plains xs) (p.kind ∷ kinds_on comes ps)
  unfolding kinds_on
  comes_fit p ps xs is fit = subst (λ b. FitEach reg (plains xs) (if b then p.kind ∷ kinds_on comes ps else kinds_on comes ps)) is fit

  goes_fit : (p : Param) (ps : List Param) (xs : List Plain) → comes p.way ≡ false → FitEach reg (plains xs) (kinds_on comes (p ∷ ps)) → FitEach reg (plains xs) (kinds_on comes ps)
  unfolding kinds_on
  goes_fit p ps xs is fit = subst (λ b. FitEach reg (plains xs) (if b then p.kind ∷ kinds_on comes ps else kinds_on comes ps)) is fit

  comes_of : (p : Param) (w : Way) → p.way ≡ w → comes p.way ≡ comes w
  comes_of p w is = ap comes is

  pub outs_fit : (tys : Types) (us : List Scoped) (ps : List Param) (args : List Argument) (xs : List Plain) (t : Taken) → are_types reg (tys.variables ++ us) ≡ true
      → ArgumentsFit reg tys ps args → FitEach reg (plains xs) (kinds_on comes ps) → VariablesFit reg t.variables (tys.variables ++ us)
      → VariablesFit reg (takes_outs args xs t).variables (tys.variables ++ us)
  unfolding takes_outs ArgumentsFit FitEach variable_type
  outs_fit tys us [] [] xs t types typed values fit = fit
  outs_fit tys us [] (a ∷ args) xs t types typed values fit = absurd typed
  outs_fit tys us (p ∷ ps) [] xs t types typed values fit = fit
  outs_fit tys us (p ∷ ps) (into a ∷ args) xs t types typed values fit =
      outs_fit tys us ps args xs t types typed.1 (goes_fit p ps xs (comes_of p way.Into typed.0.0) values) fit
  outs_fit tys us (p ∷ ps) (out name ∷ args) [] t types typed values fit = fit
  outs_fit tys us (p ∷ ps) (out name ∷ args) (x ∷ xs) t types typed values fit =
      let here = comes_fit p ps (x ∷ xs) (comes_of p way.Out typed.0.0) values in
      let found = found_before name tys.variables us typed.0.1.to typed.0.1.typed in
      outs_fit tys us ps args xs (takes name x t) types typed.1 here.1
      (taken_fits name x t (tys.variables ++ us) typed.0.1.to p.kind types found typed.0.1.fits here.0 fit)
  outs_fit tys us (p ∷ ps) (both name ∷ args) [] t types typed values fit = fit
  outs_fit tys us (p ∷ ps) (both name ∷ args) (x ∷ xs) t types typed values fit =
      let here = comes_fit p ps (x ∷ xs) (comes_of p way.Both typed.0.0) values in
      outs_fit tys us ps args xs (takes name x t) types typed.1 here.1
      (same_taken name x t (tys.variables ++ us) p.kind (found_before name tys.variables us p.kind typed.0.1) here.0 fit)

  -- ---- what a query takes

  pub reference_fits : (wanted : List ℕ) (x : Plain) → IsInterface reg wanted → Fits reg x kd.any → Fits reg (v.ref (reference_of reg wanted x)) (kd.interface wanted)
  unfolding Fits
  reference_fits wanted (v.any (kd.interface face) (v.ref r)) there fits = by_test (is_base_of reg wanted face) refl
    where
      by_test : (b : Bool) → is_base_of reg wanted face ≡ b → Fits reg (v.ref (reference_of reg wanted (v.any (kd.interface face) (v.ref r)))) (kd.interface wanted)
      by_test true base = rw base (fits_wider reg sound (v.ref r) (kd.interface wanted) (kd.interface face) there base fits.3)
      by_test false other = rw other there
  reference_fits wanted x there fits = there

  pub reference_taken : (tys : Types) (wanted to : List ℕ) (x : Plain) (xs : List Variable) → IsInterface reg wanted → Fits reg x kd.any → VariablesFit reg xs tys.variables
      → VariablesFit reg (takes_reference reg wanted to x xs).variables (with_type to (kd.interface wanted) tys).variables
  unfolding takes_reference
  reference_taken tys wanted to x xs there fits fit =
      added_fits reg to (v.ref (reference_of reg wanted x)) xs tys.variables (kd.interface wanted) fit (reference_fits wanted x there fits)
