-- The number of an option, value by value.
use Rattle.std.proofs.Common.{◌≡◌, ℕ, ◌+◌, ◌<◌, ◌≤◌, true, false, List, [], ◌∷◌, length, drop, get_or, Option, None, Some, refl, sym, ap, ◌∙◌}
use Rattle.std.proofs.lemmas.List.{drop_more, drop_all}
use Rattle.command_words.specs.Names.{Text, is_option, least_of, most_of}
use Rattle.command_words.specs.Numbers.{number_within, number_of, values_of}
use Rattle.command_words.specs.Parts.{Chosen}
use Rattle.command_words.specs.declared.option_name.OptionName.{OptionName}

-- the number of an option where this was found before its other values
abbrev pub number_behind : Option ℕ → OptionName → List Text → Option (Option ℕ)
number_behind None option values = number_of option values
number_behind (Some n) option [] = Some (Some n)
number_behind (Some n) option (value ∷ values) = None

-- a first value was found
pub first_found : (option : OptionName) (value : Text) (values : List Text) (n : ℕ) → number_within (least_of option) (most_of option) value ≡ Some n
    → number_behind (Some n) option values ≡ number_of option (value ∷ values)
unfolding number_of
first_found option value [] n e = rw e refl
first_found option value (v ∷ values) n e = refl

-- no further value may be given, and the first is a number
pub not_found : (found : Option ℕ) (option : OptionName) (value : Text) (values : List Text) → (found ≡ None → number_within (least_of option) (most_of option) value ≡ None)
    → number_behind found option (value ∷ values) ≡ None
unfolding number_of
not_found (Some n) option value values bad = refl
not_found None option value [] bad = rw (bad refl) refl
not_found None option value (v ∷ values) bad = refl

-- the values behind a choice of the option, and of another
pub value_more : (option : OptionName) (c : Chosen) (cs : List Chosen) → is_option c.option option ≡ true → values_of option (c ∷ cs) ≡ c.value ∷ values_of option cs
unfolding values_of
value_more option c cs is = rw is refl

pub value_less : (option : OptionName) (c : Chosen) (cs : List Chosen) → is_option c.option option ≡ false → values_of option (c ∷ cs) ≡ values_of option cs
unfolding values_of
value_less option c cs is = rw is refl

pub nothing_behind : (found : Option ℕ) (option : OptionName) → number_behind found option [] ≡ Some found
unfolding number_of values_of
nothing_behind None option = refl
nothing_behind (Some n) option = refl

module _ (option : OptionName) (cs : List Chosen) (i : ℕ) (found : Option ℕ) (whole : Option (Option ℕ)) (before : number_behind found option (values_of option (drop i cs)) ≡ whole) where
  module _ (c d : Chosen) (within : i < length cs) (is : c ≡ get_or cs i d) where
    next : drop i cs ≡ c ∷ drop (i + 1) cs
    next = drop_more cs i d within ∙ ap (λ e. e ∷ drop (i + 1) cs) (sym is)

    here : number_behind found option (values_of option (c ∷ drop (i + 1) cs)) ≡ whole
    here = ap (λ ds. number_behind found option (values_of option ds)) (sym next) ∙ before

    -- the choice is of another option
    pub passes : is_option c.option option ≡ false → number_behind found option (values_of option (drop (i + 1) cs)) ≡ whole
    passes other = ap (number_behind found option) (sym (value_less option c (drop (i + 1) cs) other)) ∙ here

    with_value : is_option c.option option ≡ true → number_behind found option (c.value ∷ values_of option (drop (i + 1) cs)) ≡ whole
    with_value same = ap (number_behind found option) (sym (value_more option c (drop (i + 1) cs) same)) ∙ here

    -- it is the first of the option, with a number
    pub finds : (n : ℕ) → is_option c.option option ≡ true → found ≡ None → number_within (least_of option) (most_of option) c.value ≡ Some n
        → number_behind (Some n) option (values_of option (drop (i + 1) cs)) ≡ whole
    finds n same none number = first_found option c.value (values_of option (drop (i + 1) cs)) n number
        ∙ ap (λ f. number_behind f option (c.value ∷ values_of option (drop (i + 1) cs))) (sym none) ∙ with_value same

    -- it is a second one, or has no number
    pub refuses : is_option c.option option ≡ true → (found ≡ None → number_within (least_of option) (most_of option) c.value ≡ None) → whole ≡ None
    refuses same bad = sym (with_value same) ∙ not_found found option c.value (values_of option (drop (i + 1) cs)) bad

  -- no choice is left
  pub all_found : length cs ≤ i → whole ≡ Some found
  unfolding values_of
  all_found past = sym before ∙ ap (λ ds. number_behind found option (values_of option ds)) (drop_all i cs past) ∙ nothing_behind found option
