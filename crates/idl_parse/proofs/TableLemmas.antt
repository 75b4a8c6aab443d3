-- What is read of the next token by a table of words.
use Rattle.std.proofs.Common.{◌≡◌, ℕ, ◌<◌, Bool, true, false, List, [], ◌∷◌, length, drop, Option, None, Some, Result, Ok, Err}
use Rattle.std.proofs.Common.{refl, sym, ap, subst, arith}
use Rattle.std.proofs.lemmas.Slice.Eq.{bytes_eq-Decides}
use Rattle.std.specs.List.{AllByRecursion}
use Rattle.std.specs.Str.{bytes_eq}
use Rattle.grammar_model.specs.Readings.{next, one, taken, fault}
use Rattle.grammar_model.specs.declared.fault.Fault.{Fault}
use Rattle.grammar_model.specs.declared.fault.Why.TheVariants.{Unexpected}
use Rattle.idl_model.specs.Grammar.{Tokens, of_table}
use Rattle.idl_model.specs.PlacedTokens.{next_word}
use Rattle.idl_text_model.specs.Tokens as token
use Rattle.idl_parse.specs.Flags.{in_table}
use Rattle.idl_parse.specs.Reading.{Fails, unexpected_at}
use Rattle.idl_parse.specs.declared.stop.Stop.{Stop}
use Rattle.uno_model.proofs.Options.{none_some}

-- the next token is the wrong one
pub refused_at : {A : Type 0} (stop : Stop) (toks : Tokens) (read : Result A Fault) → stop ≡ unexpected_at toks → read ≡ Err (fault Unexpected (length toks))
    → Fails stop read
refused_at stop toks read is wrong = subst (λ (k : Stop). Fails k read) (sym is) wrong

module _ {X : Type 0} (rows : List (List ℕ × X)) where
  pub word_read : (toks : Tokens) (x : X) → in_table rows (next_word (next toks)) ≡ Some x → one (λ t. of_table rows t.word) toks ≡ Ok (x, drop 1 toks)
  word_read [] x is = absurd (none_some is)
  word_read (t ∷ ts) x is = ap (λ (o : Option X). taken o (t ∷ ts) ts) is

  pub word_refused : (toks : Tokens) → in_table rows (next_word (next toks)) ≡ None
      → one (λ t. of_table rows t.word) toks ≡ Err (fault Unexpected (length toks))
  word_refused [] is = refl
  word_refused (t ∷ ts) is = ap (λ (o : Option X). taken o (t ∷ ts) ts) is

  pub word_shorter : (toks : Tokens) (x : X) → in_table rows (next_word (next toks)) ≡ Some x → length (drop 1 toks) < length toks
  word_shorter [] x is = absurd (none_some is)
  word_shorter (t ∷ ts) x is = omega arith

-- ---- what no table has

other_word : (first w : List ℕ) → ¬ (w ≡ first) → bytes_eq first w ≡ false
other_word first w other = by_test (bytes_eq first w) refl
  where
    by_test : (b : Bool) → bytes_eq first w ≡ b → bytes_eq first w ≡ false
    by_test true is = absurd (other (sym ((bytes_eq-Decides first w).0 is)))
    by_test false is = is

-- one fact and others behind it, for a list of rows
infixr 40 ◌&◌
abbrev pub ◌&◌ : {A B : Type 0} → A → B → A × B
a & b = (a, b)

pub in_no_row : {X : Type 0} (rows : List (List ℕ × X)) (w : List ℕ) → AllByRecursion (λ row. ¬ (w ≡ row.0)) rows → None ≡ of_table rows (token.quoted w)
in_no_row [] w others = refl
in_no_row (row ∷ rows) w others = rw (other_word row.0 w others.0) (in_no_row rows w others.1)
