-- What came out, argument by argument.
use Rattle.std.proofs.Common.{◌≡◌, ℕ, ◌≤◌, List, [], ◌∷◌, length, map, drop, refl, sym, ap, ◌∙◌, inl, inr}
use Rattle.std.specs.Prelude.{◌⊎◌}
use Rattle.std.proofs.lemmas.List.{drop_all}
use Rattle.bridge_model.specs.RootRuns.{puts_outs}
use Rattle.plan_model.specs.Expressions as plain
use Rattle.plan_model.specs.Roots.{Run}
use Rattle.plan_types.specs.Expressions.{argument_of}
use Rattle.plan_types.specs.declared.expression.Argument.{Argument}
use Rattle.plan_types.specs.declared.expression.Argument.TheVariants as argument
use Rattle.uno_model.specs.Values.{Plain}
use Rattle.root_runs.specs.Outs.{puts_first}

-- all arguments have what came out for them
pub outs_done : (args : List Argument) (i : ℕ) (xs : List Plain) (r whole : Run) → length args ≤ i → puts_outs (map argument_of (drop i args)) xs r ≡ whole → r ≡ whole
unfolding puts_outs
outs_done args i xs r whole past all = rw (drop_all i args past) at all

-- where nothing came out nothing is put
nothing_out : (args : List plain.Argument) (r : Run) → puts_outs args [] r ≡ r
unfolding puts_outs
nothing_out [] r = refl
nothing_out (plain.into e ∷ args) r = nothing_out args r
nothing_out (plain.out name ∷ args) r = refl
nothing_out (plain.both name ∷ args) r = refl

-- the value for an argument that gives a name
out_first : (name : List ℕ) (args : List plain.Argument) (xs : List Plain) (r : Run) → puts_outs args (drop 1 xs) (puts_first name xs r) ≡ puts_outs (plain.out name ∷ args) xs r
unfolding puts_outs
out_first name args [] r = nothing_out args r
out_first name args (x ∷ xs) r = refl

both_first : (name : List ℕ) (args : List plain.Argument) (xs : List Plain) (r : Run) → puts_outs args (drop 1 xs) (puts_first name xs r) ≡ puts_outs (plain.both name ∷ args) xs r
unfolding puts_outs
both_first name args [] r = nothing_out args r
both_first name args (x ∷ xs) r = refl

names_first : (a : Argument) (name : List ℕ) (args : List plain.Argument) (xs : List Plain) (r : Run) → (a ≡ argument.Out name) ⊎ (a ≡ argument.Both name)
    → puts_outs args (drop 1 xs) (puts_first name xs r) ≡ puts_outs (argument_of a ∷ args) xs r
names_first a name args xs r (inl is) = out_first name args xs r ∙ ap (λ b. puts_outs (argument_of b ∷ args) xs r) (sym is)
names_first a name args xs r (inr is) = both_first name args xs r ∙ ap (λ b. puts_outs (argument_of b ∷ args) xs r) (sym is)

pub out_put : (a : Argument) (name : List ℕ) (args : List plain.Argument) (xs new : List Plain) (r after : Run) → (a ≡ argument.Out name) ⊎ (a ≡ argument.Both name)
    → new ≡ drop 1 xs → after ≡ puts_first name xs r → puts_outs args new after ≡ puts_outs (argument_of a ∷ args) xs r
out_put a name args xs new r after is rest put =
    ap (λ ys. puts_outs args ys after) rest ∙ (ap (puts_outs args (drop 1 xs)) put ∙ names_first a name args xs r is)
