-- Words are taken apart one after the other.
use Rattle.std.proofs.Common.{◌≡◌, ℕ, ◌+◌, ◌<◌, Bool, true, false, not, ◌||◌, cond, List, [], ◌∷◌, ◌++◌, length, map, drop, take, ◌-◌, get_or, ◌≤◌, Option, None, Some, option_map, MatchOption, refl, sym, ap, ◌∙◌, suc, append_assoc, append-nil, arith}
use Rattle.std.specs.Prelude.{Result, Ok, Err, MatchResult, IfOk, IsSome}
use Rattle.std.specs.List.{list_any, before_first, after_first, position_or_len}
use Rattle.std.proofs.lemmas.List.Folds.{list_any_at}
use Rattle.std.proofs.lemmas.List.{take_all}
use Rattle.std.proofs.lemmas.List.Sums.{passes_at_first}
use Rattle.std.specs.Borrow.{Bor}
use Rattle.command_words.specs.Names.{Text, option_named}
use Rattle.command_words.specs.Parts.{Apart, Chosen, apart, onto, joined, with_plain, with_choice, is_end, is_equals, begins_with_hyphen, ends_here}
use Rattle.command_words.specs.declared.option_name.OptionName.{OptionName}
use Rattle.command_words.specs.declared.error.WordsError.{WordsError}
use Rattle.command_words.specs.declared.error.WordsError.TheVariants.{Words}

-- a part that is put before the rest, or behind what there was
pushed_plain : (p : Apart) (word : Text) (o : Option Apart) → option_map (joined p) (option_map (with_plain word) o) ≡ option_map (joined (record { plain = p.plain ++ word ∷ []; choices = p.choices })) o
pushed_plain p word None = refl
pushed_plain p word (Some q) = ap (λ (ws : List Text). Some (record { plain = ws; choices = p.choices ++ q.choices })) (sym (append_assoc p.plain (word ∷ []) q.plain))

pushed_choice : (p : Apart) (option : OptionName) (value : Text) (o : Option Apart)
    → option_map (joined p) (option_map (with_choice option value) o) ≡ option_map (joined (record { plain = p.plain; choices = p.choices ++ record { option = option; value = value } ∷ [] })) o
pushed_choice p option value None = refl
pushed_choice p option value (Some q) =
    ap (λ (cs : List Chosen). Some (record { plain = p.plain ++ q.plain; choices = cs })) (sym (append_assoc p.choices (record { option = option; value = value } ∷ []) q.choices))

-- the value of an option
pub value_taken : (p : Apart) (option : OptionName) (word : Text) (words : List Text)
    → onto p (Some option) (word ∷ words) ≡ onto (record { plain = p.plain; choices = p.choices ++ record { option = option; value = word } ∷ [] }) None words
unfolding apart onto
value_taken p option word words = pushed_choice p option word (apart None words)

-- a plain word
pub plain_taken : (p : Apart) (word : Text) (words : List Text) → is_end word ≡ false → begins_with_hyphen word ≡ false
    → onto p None (word ∷ words) ≡ onto (record { plain = p.plain ++ word ∷ []; choices = p.choices }) None words
unfolding apart onto
plain_taken p word words end hyphen = rw (end, hyphen) (pushed_plain p word (apart None words))

-- an option with its value behind `=`
pub both_taken : (p : Apart) (word : Text) (option : OptionName) (words : List Text) → is_end word ≡ false → begins_with_hyphen word ≡ true → list_any is_equals word ≡ true
    → option_named (before_first is_equals word) ≡ Some option
    → onto p None (word ∷ words) ≡ onto (record { plain = p.plain; choices = p.choices ++ record { option = option; value = after_first is_equals word } ∷ [] }) None words
unfolding apart onto
both_taken p word option words end hyphen has named = rw (end, hyphen, has, named) (pushed_choice p option (after_first is_equals word) (apart None words))

-- an option that waits for its value
pub name_taken : (p : Apart) (word : Text) (option : OptionName) (words : List Text) → is_end word ≡ false → begins_with_hyphen word ≡ true → list_any is_equals word ≡ false
    → option_named word ≡ Some option → onto p None (word ∷ words) ≡ onto p (Some option) words
unfolding apart onto
name_taken p word option words end hyphen none named = rw (end, hyphen, none, named) refl

-- what begins with `-` and names no option is refused
pub no_name : (word : Text) (words : List Text) → is_end word ≡ false → begins_with_hyphen word ≡ true → list_any is_equals word ≡ false → option_named word ≡ None → apart None (word ∷ words) ≡ None
unfolding apart
no_name word words end hyphen none named = rw (end, hyphen, none, named) refl

pub no_option : (word : Text) (words : List Text) → is_end word ≡ false → begins_with_hyphen word ≡ true → list_any is_equals word ≡ true
    → option_named (before_first is_equals word) ≡ None → apart None (word ∷ words) ≡ None
unfolding apart
no_option word words end hyphen has named = rw (end, hyphen, has, named) refl

-- behind `--` all words are plain
pub end_taken : (p : Apart) (word : Text) (words : List Text) → is_end word ≡ true → onto p None (word ∷ words) ≡ Some (record { plain = p.plain ++ words; choices = p.choices })
unfolding apart onto
end_taken p word words end = rw end (ap (λ (cs : List Chosen). Some (record { plain = p.plain ++ words; choices = cs })) (append-nil p.choices))

-- a byte that stands in no place, and in one
none_stands : {X : Type 0} (p : X → Bool) (xs : List X) → position_or_len p xs ≡ length xs → list_any p xs ≡ false
none_stands p [] e = refl
none_stands p (x ∷ xs) e = step (p x) (position_or_len p xs) (length xs) (list_any p xs) e (none_stands p xs)
  where
    step : (b : Bool) (n len : ℕ) (any : Bool) → cond (not b) (1 + n) 0 ≡ suc len → (n ≡ len → any ≡ false) → (b || any) ≡ false
    step true n len any e next = absurd (omega arith)
    step false n len any e next = next (omega arith)

pub no_equals : (word : Text) → position_or_len is_equals word ≡ length word → list_any is_equals word ≡ false
no_equals word e = none_stands is_equals word e

pub some_equals : (word : Text) → position_or_len is_equals word < length word → list_any is_equals word ≡ true
some_equals word within = list_any_at is_equals word (position_or_len is_equals word) 0 within (passes_at_first is_equals word 0 within)

-- the two parts of a word with `=`
pub parts_are : (word : Text) (r : Option (Bor Text × Bor Text)) → MatchOption r (position_or_len is_equals word ≡ length word)
    (λ x. (x.0.now ≡ before_first is_equals word) × (x.1.now ≡ after_first is_equals word) × (position_or_len is_equals word < length word))
    → MatchOption r (list_any is_equals word ≡ false) (λ x. (list_any is_equals word ≡ true) × (x.0.now ≡ before_first is_equals word) × (x.1.now ≡ after_first is_equals word))
parts_are word None e = no_equals word e
parts_are word (Some x) e = (some_equals word e.2, e.0, e.1)

-- a name alone waits for its value, or is refused
pub name_waits : (p : Apart) (word : Text) (r : Result (Option OptionName) WordsError) → is_end word ≡ false → begins_with_hyphen word ≡ true → list_any is_equals word ≡ false
    → MatchResult r (λ now. (now ≡ option_named word) × IsSome now) (λ e. (e ≡ Words) × (option_named word ≡ None))
    → IfOk r (λ now. (words : List Text) → onto p None (word ∷ words) ≡ onto p now words)
name_waits p word (Ok None) end hyphen none waits = let e : false ≡ true = waits.1 in let bad : ⊥ = cc in absurd bad
name_waits p word (Ok (Some option)) end hyphen none waits = λ words. name_taken p word option words end hyphen none (sym waits.0)
name_waits p word (Err e) end hyphen none waits = tt

pub name_refused : (word : Text) (r : Result (Option OptionName) WordsError) → is_end word ≡ false → begins_with_hyphen word ≡ true → list_any is_equals word ≡ false
    → MatchResult r (λ now. (now ≡ option_named word) × IsSome now) (λ e. (e ≡ Words) × (option_named word ≡ None))
    → r ≡ Err Words → (words : List Text) → apart None (word ∷ words) ≡ None
name_refused word (Ok now) end hyphen none waits is = λ words. let bad : ⊥ = cc in absurd bad
name_refused word (Err e) end hyphen none waits is = λ words. no_name word words end hyphen none waits.1

-- the parts with one choice more
pub after_choice : (p q : Apart) (option : OptionName) (value wanted : Text) → q ≡ record { plain = p.plain; choices = p.choices ++ record { option = option; value = value } ∷ [] } → value ≡ wanted
    → {P : List Text → Option Apart} → ((words : List Text) → P words ≡ onto (record { plain = p.plain; choices = p.choices ++ record { option = option; value = wanted } ∷ [] }) None words)
    → (words : List Text) → P words ≡ onto q None words
after_choice p q option value wanted is same made words = rw (is, same) (made words)

-- where no option waits, a word that does not begin with `-` is plain
pub waits_no_more : (p : Apart) (waiting : Option OptionName) (word : Text) (words : List Text) {q : Apart} → ((option : OptionName) → waiting ≡ Some option → ⊥) → ends_here waiting word ≡ false
    → q ≡ record { plain = p.plain ++ word ∷ []; choices = p.choices } → begins_with_hyphen word ≡ false → onto p waiting (word ∷ words) ≡ onto q None words
waits_no_more p (Some option) word words none end is hyphen = absurd (none option refl)
waits_no_more p None word words none end is hyphen = rw is (plain_taken p word words end hyphen)

-- before the first word nothing is taken apart
pub onto_nothing : (p : Apart) (words : List Text) → p ≡ record { plain = []; choices = [] } → onto p None words ≡ apart None words
unfolding onto
onto_nothing p words none = rw none (same (apart None words))
  where
    same : (o : Option Apart) → option_map (λ (q : Apart). record { plain = q.plain; choices = q.choices }) o ≡ o
    same None = refl
    same (Some q) = refl

-- behind the last word
pub waits_still : (p : Apart) (waiting : Option OptionName) (option : OptionName) → waiting ≡ Some option → onto p waiting [] ≡ None
unfolding apart onto
waits_still p waiting option is = rw is refl

pub all_taken : (p : Apart) (waiting : Option OptionName) → waiting ≡ None → onto p waiting [] ≡ Some p
unfolding apart onto
all_taken p waiting is = rw is (ap (λ (cs : List Chosen). Some (record { plain = p.plain ++ []; choices = cs })) (append-nil p.choices) ∙ ap (λ (ws : List Text). Some (record { plain = ws; choices = p.choices })) (append-nil p.plain))

module _ {X : Type 0} (bytes_of : X → Text) (p : Apart) (waiting : Option OptionName) (rest : List X) (whole : Option Apart) (before : onto p waiting (map bytes_of rest) ≡ whole) where
  module _ (x d : X) (word : Text) (some : 1 ≤ length rest) (is : x ≡ get_or rest 0 d) (bytes : word ≡ bytes_of x) where
    first : map bytes_of rest ≡ word ∷ map bytes_of (drop 1 rest)
    first = at rest some is
      where
        at : (xs : List X) → 1 ≤ length xs → x ≡ get_or xs 0 d → map bytes_of xs ≡ word ∷ map bytes_of (drop 1 xs)
        at [] some is = let bad : ⊥ = omega arith in absurd bad
        at (y ∷ ys) some is = ap (λ w. w ∷ map bytes_of ys) (ap bytes_of (sym is) ∙ sym bytes)

    all_behind : (xs : List X) → 1 ≤ length xs → take (length xs - 1) (drop 1 xs) ≡ drop 1 xs
    all_behind [] some = let bad : ⊥ = omega arith in absurd bad
    all_behind (y ∷ ys) some = take_all (length (y ∷ ys) - 1) ys (omega arith)

    -- the next word ends the options
    pub ends_whole : ends_here waiting word ≡ true → whole ≡ Some (record { plain = p.plain ++ map bytes_of (take (length rest - 1) (drop 1 rest)); choices = p.choices })
    ends_whole ends = rw (all_behind rest some) (sym before ∙ ap (onto p waiting) first ∙ ended waiting ends)
      where
        ended : (w : Option OptionName) → ends_here w word ≡ true → onto p w (word ∷ map bytes_of (drop 1 rest)) ≡ Some (record { plain = p.plain ++ map bytes_of (drop 1 rest); choices = p.choices })
        ended None e = end_taken p word (map bytes_of (drop 1 rest)) e
        ended (Some option) e = let bad : ⊥ = cc in absurd bad

    -- it is refused
    pub refused_whole : ((words : List Text) → apart waiting (word ∷ words) ≡ None) → whole ≡ None
    unfolding onto
    refused_whole refused = sym before ∙ ap (onto p waiting) first ∙ ap (option_map (joined p)) (refused (map bytes_of (drop 1 rest)))

  module _ (none : length rest < 1) where
    no_word : map bytes_of rest ≡ []
    no_word = at rest none
      where
        at : (xs : List X) → length xs < 1 → map bytes_of xs ≡ []
        at [] none = refl
        at (y ∷ ys) none = let bad : ⊥ = omega arith in absurd bad

    -- no word is left, and an option waits, or none
    pub waits_whole : (option : OptionName) → waiting ≡ Some option → whole ≡ None
    waits_whole option is = sym before ∙ ap (onto p waiting) no_word ∙ waits_still p waiting option is

    pub taken_whole : waiting ≡ None → whole ≡ Some p
    taken_whole is = sym before ∙ ap (onto p waiting) no_word ∙ all_taken p waiting is
