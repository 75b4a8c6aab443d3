-- What is asked with words that are decided, and then read by clap.
use Rattle.std.proofs.Common.{◌≡◌, ◌∙◌, Bool, true, false, List, [], ◌∷◌, Option, None, Some, option_map, codes, refl, sym, ap, subst}
use Rattle.std.specs.Prelude.{Result, Ok, Err, IsErr, IsErrAnd}
use Rattle.std.specs.Option.{option_and_then}
use Rattle.clap.specs.Matches.{matched_of, raw_values}
use Rattle.clap.specs.Walk.{all_of, rows_of}
use Rattle.clap.specs.declared.parser.matches.Found.{Found}
use Rattle.clap.proofs.WalkLemmas.{raw_values-rows}
use Rattle.command_words.specs.Names.{Text}
use Rattle.command_words.specs.Numbers.{numbers_of}
use Rattle.command_words.specs.Parts.{Apart, apart}
use Rattle.command_words.specs.Forms.{Orders, are_allowed, form_of, numbers_by, order_by}
use Rattle.command_words.specs.Meaning.{Means}
use Rattle.command_words.specs.ByClap.{IsAccepted, Shows, as_row}
use Rattle.command_words.specs.declared.command.Command.{Command}
use Rattle.command_words.specs.declared.command_name.CommandName.{CommandName}
use Rattle.command_words.specs.declared.error.WordsError.{WordsError}
use Rattle.command_words.specs.declared.error.WordsError.TheVariants.{NoMemory, Words}
use Rattle.command_words.specs.declared.numbers.Numbers.{Numbers}
use Rattle.command_words.proofs.FineLemmas.{all_fine, both_some}

-- without numbers nothing is asked
no_order : (name : CommandName) (o : Option Apart) → option_and_then (numbers_by name) o ≡ None → option_and_then (order_by name) o ≡ None
unfolding order_by
no_order name None e = refl
no_order name (Some p) e = rw e refl

pub refused_order : (name : CommandName) (o : Option Apart) (r : Result Command WordsError) (e : WordsError) → IsErr r × IsErrAnd r (λ f. f ≡ e)
    → Means (option_and_then (numbers_by name) o) (Err e) → Orders (option_and_then (order_by name) o) r
refused_order name o (Ok x) e is means = let bad : ⊥ = cc in absurd bad
refused_order name o (Err NoMemory) e is means = tt
refused_order name o (Err Words) e is means = no_order name o (subst (λ f. Means (option_and_then (numbers_by name) o) (Err f)) (sym is.1) means)

numbers_are : (name : CommandName) (p : Apart) (n : Numbers) (b : Bool) → are_allowed name p ≡ b → numbers_by name p ≡ Some n → numbers_of p.choices ≡ Some n
unfolding numbers_by
numbers_are name p n true allowed e = rw allowed at e
numbers_are name p n false allowed e = let none = rw allowed at e in let bad : ⊥ = cc in absurd bad

-- words with numbers are accepted
pub accepted : (name : CommandName) (words : List Text) (n : Numbers) → option_and_then (numbers_by name) (apart None words) ≡ Some n → IsAccepted words
accepted name words n e =
    let parts = both_some (numbers_by name) (apart None words) n e in
    record { whole = parts.0; is = parts.1; fine = all_fine parts.0.choices n (numbers_are name parts.0 n (are_allowed name parts.0) refl parts.2) }

row_is : (plain ws : List Text) → Some plain ≡ as_row ws → plain ≡ ws
row_is plain [] e = let bad : ⊥ = cc in absurd bad
row_is plain (w ∷ ws) e = cc

no_row_is : (ws : List Text) → None ≡ as_row ws → [] ≡ ws
no_row_is [] e = refl
no_row_is (w ∷ ws) e = let bad : ⊥ = cc in absurd bad

order_is : (name : CommandName) (p : Apart) (n : Numbers) → numbers_by name p ≡ Some n → order_by name p ≡ form_of name p.plain n
unfolding order_by
order_is name p n e = rw e refl

module _ (name : CommandName) (words : List Text) (n : Numbers) (f : Found) (r : Result Command WordsError) (numbers : option_and_then (numbers_by name) (apart None words) ≡ Some n)
    (shows : (whole : Apart) → apart None words ≡ Some whole → Shows (rows_of f) whole) where
  ordered : (plain : List Text) → ((ws : List Text) → all_of (codes "words") (rows_of f) ≡ as_row ws → plain ≡ ws) → Orders (form_of name plain n) r → Orders (option_and_then (order_by name) (apart None words)) r
  ordered plain only orders =
      let parts = both_some (numbers_by name) (apart None words) n numbers in
      let same : plain ≡ parts.0.plain = only parts.0.plain (shows parts.0 parts.1).plain in
      let order : option_and_then (order_by name) (apart None words) ≡ form_of name parts.0.plain n = ap (option_and_then (order_by name)) parts.1 ∙ order_is name parts.0 n parts.2 in
      subst (λ o. Orders o r) (sym order) (subst (λ ws. Orders (form_of name ws n) r) same orders)

  pub some_ordered : (plain : List Text) → Some plain ≡ option_map raw_values (matched_of f (codes "words")) → Orders (form_of name plain n) r
      → Orders (option_and_then (order_by name) (apart None words)) r
  some_ordered plain found = ordered plain (λ ws is. row_is plain ws (found ∙ raw_values-rows f (codes "words") ∙ is))

  pub none_ordered : None ≡ option_map raw_values (matched_of f (codes "words")) → Orders (form_of name [] n) r → Orders (option_and_then (order_by name) (apart None words)) r
  none_ordered found = ordered [] (λ ws is. no_row_is ws (found ∙ raw_values-rows f (codes "words") ∙ is))
