-- The text of what came out, parameter by parameter.
use Rattle.std.proofs.Common.{◌≡◌, ◌≢◌, ℕ, ◌+◌, ◌≤◌, Bool, true, false, List, [], ◌∷◌, ◌++◌, length, map, drop, Option, None, Some, option_map, slice_get, codes, refl, sym, ap, ◌∙◌, subst}
use Rattle.std.specs.Prelude.{Result, Ok, Err, IfOk, OnOk}
use Rattle.std.proofs.lemmas.List.{append_assoc, append-nil, drop_all, nil_from_length}
use Rattle.behaviour.proofs.FunctionLemmas.{there, nothing_there}
use Rattle.bridge_model.specs.RootRuns.{outs_text, params_called, statement_params}
use Rattle.literal_model.specs.Literals.{print}
use Rattle.message_model.specs.Calls.{comes, numbered}
use Rattle.plan_model.specs.Calling.{number_in}
use Rattle.plan_model.specs.Statements.{Callee}
use Rattle.plan_types.specs.Statements.{root_statement_of}
use Rattle.plan_types.specs.declared.statement.Call.{Call}
use Rattle.plan_types.specs.declared.statement.RootStatement.{RootStatement}
use Rattle.plan_types.specs.declared.statement.RootStatement.TheVariants as root
use Rattle.type_registry.specs.Functions.{lent_function}
use Rattle.type_registry.specs.declared.function.FunctionRef.{FunctionRef}
use Rattle.uno_model.specs.Entities.{Entity, Param}
use Rattle.uno_model.specs.Functions.{functions_of}
use Rattle.uno_model.specs.Values.{Plain}
use Rattle.uno_values.specs.Values.{plain_of}
use Rattle.uno_values.specs.declared.value.Value.{Value}

-- with no value left nothing is written
no_value_left : (reg : List Entity) (ps : List Param) → outs_text reg ps [] ≡ []
unfolding outs_text
no_value_left reg [] = refl
no_value_left reg (p ∷ ps) = refl

-- and with no parameter left
pub no_param_left : (reg : List Entity) (xs : List Plain) (text : List ℕ) → text ≡ text ++ outs_text reg [] xs
unfolding outs_text
no_param_left reg xs text = sym (append-nil text)

-- ---- one parameter

-- it does not come out
kept_in : (reg : List Entity) (p : Param) (ps : List Param) (xs : List Plain) → comes p.way ≡ false → outs_text reg (p ∷ ps) xs ≡ outs_text reg ps xs
unfolding outs_text
kept_in reg p ps [] is = sym (no_value_left reg ps)
kept_in reg p ps (x ∷ xs) is = rw is refl

pub passed_over : (reg : List Entity) (p : Param) (ps : List Param) (xs : List Plain) (text : List ℕ) → comes p.way ≡ false → text ++ outs_text reg ps xs ≡ text ++ outs_text reg (p ∷ ps) xs
passed_over reg p ps xs text is = ap (λ t. text ++ t) (sym (kept_in reg p ps xs is))

-- no value is left for it
pub lacks_one : (reg : List Entity) (p : Param) (ps : List Param) (vs : List Value) (text : List ℕ) → length vs ≡ 0
    → text ++ outs_text reg ps (map plain_of vs) ≡ text ++ outs_text reg (p ∷ ps) (map plain_of vs)
lacks_one reg p ps vs text none = rw (nil_from_length vs none, no_value_left reg ps, no_value_left reg (p ∷ ps)) refl

-- the first value is its own
abbrev pub out_text : List Entity → Param → Plain → List ℕ
out_text reg p x = codes " " ++ (p.name ++ (codes "=" ++ print reg x))

come_out : (reg : List Entity) (p : Param) (ps : List Param) (x : Plain) (xs : List Plain) → comes p.way ≡ true → outs_text reg (p ∷ ps) (x ∷ xs) ≡ out_text reg p x ++ outs_text reg ps xs
unfolding outs_text
come_out reg p ps x xs is = rw is (simp append_assoc)

pub written : (reg : List Entity) (p : Param) (ps : List Param) (vs rest : List Value) (v : Value) (old new : List ℕ) → comes p.way ≡ true → vs ≡ v ∷ rest → new ≡ old ++ out_text reg p (plain_of v)
    → new ++ outs_text reg ps (map plain_of rest) ≡ old ++ outs_text reg (p ∷ ps) (map plain_of vs)
written reg p ps vs rest v old new comes_out is pushed =
    rw (pushed, is, come_out reg p ps (plain_of v) (map plain_of rest) comes_out) (append_assoc old (out_text reg p (plain_of v)) (outs_text reg ps (map plain_of rest)))

-- ---- all of them

from_ok : {E X : Type 0} (P : X → Type 0) (r : Result X E) (x : X) → r ≡ Ok x → IfOk r P → P x
from_ok P (Ok y) x is p = let one : y ≡ x = cc in subst P one p
from_ok P (Err e) x is p = let bad : ⊥ = cc in absurd bad

-- one parameter more; V is what the values that are left are lent as
pub text_more : {E V : Type 0} (seen : V → List Plain) (r : Result V E) (rest : V) (reg : List Entity) (ps : List Param) (i : ℕ) (p : Param) (found : Option Param) (xs : List Plain) (old new whole : List ℕ)
    → r ≡ Ok rest → found ≡ slice_get ps i → found ≡ Some p → ((qs : List Param) → IfOk r (λ v. new ++ outs_text reg qs (seen v) ≡ old ++ outs_text reg (p ∷ qs) xs))
    → old ++ outs_text reg (drop i ps) xs ≡ whole → new ++ outs_text reg (drop (i + 1) ps) (seen rest) ≡ whole
text_more seen r rest reg ps i p found xs old new whole ok is some step all =
    from_ok (λ v. new ++ outs_text reg (drop (i + 1) ps) (seen v) ≡ old ++ outs_text reg (p ∷ drop (i + 1) ps) xs) r rest ok (step (drop (i + 1) ps))
    ∙ (ap (λ qs. old ++ outs_text reg qs xs) (sym (there ps i p (sym is ∙ some))) ∙ all)

-- no parameter is left
pub text_ended : (reg : List Entity) (ps : List Param) (i : ℕ) (found : Option Param) (xs : List Plain) (old whole : List ℕ) → found ≡ slice_get ps i → found ≡ None
    → old ++ outs_text reg (drop i ps) xs ≡ whole → old ≡ whole
text_ended reg ps i found xs old whole is none all = let here = rw (nothing_there ps i (sym is ∙ none)) at all in no_param_left reg xs old ∙ here

pub text_done : (reg : List Entity) (ps : List Param) (i : ℕ) (xs : List Plain) (old whole : List ℕ) → length ps ≤ i → old ++ outs_text reg (drop i ps) xs ≡ whole → old ≡ whole
text_done reg ps i xs old whole past all = let here = rw (drop_all i ps past) at all in no_param_left reg xs old ∙ here

-- ---- the function that is called

-- a function by a number, which is the one of a callee, has the parameters of what is called
module _ (reg : List Entity) (face owner : List ℕ) (c : Callee) (wanted number : ℕ) (found : Option FunctionRef) where
  called_at : face ≡ owner → wanted ≡ number_in reg face c → number ≡ wanted → option_map lent_function found ≡ slice_get (functions_of reg face) number
      → option_map lent_function found ≡ numbered reg owner (number_in reg owner c)
  unfolding numbered
  called_at same is fits at = at ∙ (ap (slice_get (functions_of reg face)) (fits ∙ is) ∙ ap (λ o. slice_get (functions_of reg o) (number_in reg o c)) same)

  pub outs_of_called : {E : Type 0} (f : FunctionRef) (r : Result Unit E) (xs : List Plain) (old new : List ℕ) → face ≡ owner → wanted ≡ number_in reg face c → number ≡ wanted
      → option_map lent_function found ≡ slice_get (functions_of reg face) number → found ≡ Some f → OnOk r (new ≡ old ++ outs_text reg (lent_function f).params xs)
      → OnOk r (new ≡ old ++ outs_text reg (params_called (numbered reg owner (number_in reg owner c))) xs)
  outs_of_called f r xs old new same is fits at some pushed =
      subst (λ o. OnOk r (new ≡ old ++ outs_text reg (params_called o) xs)) (sym (ap (option_map lent_function) some) ∙ called_at same is fits at) pushed

  pub none_is_called : (xs : List Plain) (text : List ℕ) → face ≡ owner → wanted ≡ number_in reg face c → number ≡ wanted
      → option_map lent_function found ≡ slice_get (functions_of reg face) number → found ≡ None → text ≡ text ++ outs_text reg (params_called (numbered reg owner (number_in reg owner c))) xs
  none_is_called xs text same is fits at none =
      no_param_left reg xs text ∙ ap (λ o. text ++ outs_text reg (params_called o) xs) (sym (ap (option_map lent_function) none) ∙ called_at same is fits at)

-- a statement that is no call has nothing that comes out
pub nothing_called : (reg : List Entity) (s : RootStatement) (xs : List Plain) (text : List ℕ) → ((call : Call) → s ≢ root.Call call) → text ≡ text ++ outs_text reg (statement_params reg (root_statement_of s)) xs
nothing_called reg (root.Ask to wanted name) xs text other = no_param_left reg xs text
nothing_called reg (root.AskInstance to wanted) xs text other = no_param_left reg xs text
nothing_called reg (root.Call call) xs text other = absurd (other call refl)
nothing_called reg (root.Query query) xs text other = no_param_left reg xs text
nothing_called reg (root.Make making) xs text other = no_param_left reg xs text
nothing_called reg (root.Drop name) xs text other = no_param_left reg xs text
nothing_called reg (root.Same left right) xs text other = no_param_left reg xs text
nothing_called reg root.Dispose xs text other = no_param_left reg xs text
