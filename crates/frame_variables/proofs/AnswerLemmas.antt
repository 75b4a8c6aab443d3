-- What came out, argument by argument.
use Rattle.std.proofs.Common.{◌≡◌, ℕ, ◌≤◌, List, [], ◌∷◌, length, map, drop, refl, sym, ap, ◌∙◌}
use Rattle.std.specs.Prelude.{Result, Ok, Err, OnOk, ◌⊎◌}
use Rattle.std.proofs.Common.{inl, inr}
use Rattle.std.proofs.lemmas.List.{drop_all}
use Rattle.plan_model.specs.Expressions as plain
use Rattle.plan_model.specs.Frames.{Variable}
use Rattle.plan_model.specs.Holdings.{Taken, takes_answer, takes_outs, takes_result}
use Rattle.plan_model.specs.Statements.{Call}
use Rattle.plan_types.specs.Expressions.{argument_of}
use Rattle.plan_types.specs.declared.expression.Argument.{Argument}
use Rattle.plan_types.specs.declared.expression.Argument.TheVariants as argument
use Rattle.uno_model.specs.Values.{Plain}
use Rattle.frame_variables.specs.Taking.{takes_first}

-- all arguments have what came out for them
pub outs_done : (args : List Argument) (i : ℕ) (xs : List Plain) (t whole : Taken) → length args ≤ i → takes_outs (map argument_of (drop i args)) xs t ≡ whole → t ≡ whole
unfolding takes_outs
outs_done args i xs t whole past all = rw (drop_all i args past) at all

-- where nothing came out nothing is taken
nothing_out : (args : List plain.Argument) (t : Taken) → takes_outs args [] t ≡ t
unfolding takes_outs
nothing_out [] t = refl
nothing_out (plain.into e ∷ args) t = nothing_out args t
nothing_out (plain.out name ∷ args) t = refl
nothing_out (plain.both name ∷ args) t = refl

-- the value for an argument that gives a name
out_first : (name : List ℕ) (args : List plain.Argument) (xs : List Plain) (t : Taken) → takes_outs args (drop 1 xs) (takes_first name xs t) ≡ takes_outs (plain.out name ∷ args) xs t
unfolding takes_outs
out_first name args [] t = nothing_out args t
out_first name args (x ∷ xs) t = refl

both_first : (name : List ℕ) (args : List plain.Argument) (xs : List Plain) (t : Taken) → takes_outs args (drop 1 xs) (takes_first name xs t) ≡ takes_outs (plain.both name ∷ args) xs t
unfolding takes_outs
both_first name args [] t = nothing_out args t
both_first name args (x ∷ xs) t = refl

names_first : (a : Argument) (name : List ℕ) (args : List plain.Argument) (xs : List Plain) (t : Taken) → (a ≡ argument.Out name) ⊎ (a ≡ argument.Both name)
    → takes_outs args (drop 1 xs) (takes_first name xs t) ≡ takes_outs (argument_of a ∷ args) xs t
names_first a name args xs t (inl is) = out_first name args xs t ∙ ap (λ b. takes_outs (argument_of b ∷ args) xs t) (sym is)
names_first a name args xs t (inr is) = both_first name args xs t ∙ ap (λ b. takes_outs (argument_of b ∷ args) xs t) (sym is)

pub out_taken : {E : Type 0} (r : Result Unit E) (a : Argument) (name : List ℕ) (args : List plain.Argument) (xs new : List Plain) (t after : Taken)
    → (a ≡ argument.Out name) ⊎ (a ≡ argument.Both name) → new ≡ drop 1 xs → OnOk r (after ≡ takes_first name xs t)
    → OnOk r (takes_outs args new after ≡ takes_outs (argument_of a ∷ args) xs t)
out_taken (Err e) a name args xs new t after is rest taken = tt
out_taken (Ok u) a name args xs new t after is rest taken =
    ap (λ ys. takes_outs args ys after) rest ∙ (ap (takes_outs args (drop 1 xs)) taken ∙ names_first a name args xs t is)

-- the result, and then what came out
pub answered : (call : Call) (x : Plain) (outs : List Plain) (xs : List Variable) (mid last : Taken) (args : List plain.Argument) → args ≡ call.arguments
    → mid ≡ takes_result call.to x xs → last ≡ takes_outs args outs mid → last ≡ takes_answer call x outs xs
unfolding takes_answer
answered call x outs xs mid last args same first then = then ∙ (ap (λ bs. takes_outs bs outs mid) same ∙ ap (takes_outs call.arguments outs) first)
