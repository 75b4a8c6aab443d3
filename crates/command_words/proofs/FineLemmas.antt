-- Options that have their numbers have one value at most, and that does not begin with `-`.
use Rattle.std.proofs.Common.{◌≡◌, ℕ, Bool, true, false, List, [], ◌∷◌, Option, None, Some, option_map, refl, arith}
use Rattle.std.specs.Option.{option_and_then}
use Rattle.command_words.specs.Names.{Text, least_of, most_of}
use Rattle.command_words.specs.Numbers.{is_number, number_within, number_of, numbers_of, values_of}
use Rattle.command_words.specs.Parts.{Chosen, begins_with_hyphen}
use Rattle.command_words.specs.ByClap.{IsFine}
use Rattle.command_words.specs.declared.numbers.Numbers.{Numbers}
use Rattle.command_words.specs.declared.option_name.OptionName.{OptionName}
use Rattle.command_words.specs.declared.option_name.OptionName.TheVariants.{Seed, Cut, Threads, Sessions}

-- a number begins with a digit
no_hyphen : (text : Text) → is_number text ≡ true → begins_with_hyphen text ≡ false
unfolding is_number
no_hyphen [] is = refl
no_hyphen (c ∷ cs) is = grind arith

has_number : (least most : ℕ) (text : Text) (n : Option ℕ) → number_within least most text ≡ n → (is_number text ≡ false → n ≡ None)
unfolding number_within
has_number least most text n e bad = grind arith

fine_value : (option : OptionName) (value : Text) (x : Option ℕ) (b : Bool) → is_number value ≡ b → number_of option (value ∷ []) ≡ Some x → begins_with_hyphen value ≡ false
unfolding number_of
fine_value option value x true is e = no_hyphen value is
fine_value option value x false is e =
    let none : number_within (least_of option) (most_of option) value ≡ None = has_number _ _ value _ refl is in
    let bad : ⊥ = refused (rw none at e) in absurd bad
  where
    refused : option_map (λ (n : ℕ). Some n) None ≡ Some x → ⊥
    refused e = cc

pub fine_values : (option : OptionName) (values : List Text) (x : Option ℕ) → number_of option values ≡ Some x → IsFine values
unfolding number_of
fine_values option [] x e = tt
fine_values option (value ∷ []) x e = fine_value option value x (is_number value) refl e
fine_values option (value ∷ next ∷ values) x e = let bad : ⊥ = cc in absurd bad

-- all four have their numbers
pub both_some : {A B : Type 0} (f : A → Option B) (o : Option A) (y : B) → option_and_then f o ≡ Some y → (x : A) × (o ≡ Some x) × (f x ≡ Some y)
both_some f None y e = let bad : ⊥ = cc in absurd bad
both_some f (Some x) y e = (x, refl, e)

last_some : {A B : Type 0} (f : A → B) (o : Option A) (y : B) → option_map f o ≡ Some y → (x : A) × (o ≡ Some x)
last_some f None y e = let bad : ⊥ = cc in absurd bad
last_some f (Some x) y e = (x, refl)

pub all_fine : (choices : List Chosen) (n : Numbers) → numbers_of choices ≡ Some n → (option : OptionName) → IsFine (values_of option choices)
unfolding numbers_of
all_fine choices n e =
    let seed = both_some _ (number_of Seed (values_of Seed choices)) n e in
    let cut = both_some _ (number_of Cut (values_of Cut choices)) n seed.2 in
    let threads = both_some _ (number_of Threads (values_of Threads choices)) n cut.2 in
    let sessions = last_some _ (number_of Sessions (values_of Sessions choices)) n threads.2 in
    each seed.0 seed.1 cut.0 cut.1 threads.0 threads.1 sessions.0 sessions.1
  where
    each : (a : Option ℕ) → number_of Seed (values_of Seed choices) ≡ Some a → (b : Option ℕ) → number_of Cut (values_of Cut choices) ≡ Some b
        → (c : Option ℕ) → number_of Threads (values_of Threads choices) ≡ Some c → (d : Option ℕ) → number_of Sessions (values_of Sessions choices) ≡ Some d
        → (option : OptionName) → IsFine (values_of option choices)
    each a s b c t th d se Seed = fine_values Seed _ a s
    each a s b c t th d se Cut = fine_values Cut _ b c
    each a s b c t th d se Threads = fine_values Threads _ t th
    each a s b c t th d se Sessions = fine_values Sessions _ d se
