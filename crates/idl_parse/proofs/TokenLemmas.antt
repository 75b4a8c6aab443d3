-- What is read of the next token, where it is known; and a word of the grammar or a mark.
use Rattle.std.proofs.Common.{◌≡◌, ◌<◌, true, List, [], ◌∷◌, length, drop, Option, Some, Ok}
use Rattle.std.proofs.Common.{refl, sym, ap, ◌∙◌, arith}
use Rattle.grammar_model.specs.Readings.{next, one, taken}
use Rattle.idl_model.specs.Grammar.{Tokens, terminal_at}
use Rattle.idl_model.specs.PlacedTokens.{is_next}
use Rattle.idl_text_model.specs.Tokens.{Word}
use Rattle.uno_model.proofs.Options.{same_some, none_some}

module _ {T : Type 0} where
  pub one_read : {X : Type 0} (f : T → Option X) (toks : List T) (t : T) (x : X) → next toks ≡ Some t → f t ≡ Some x → one f toks ≡ Ok (x, drop 1 toks)
  one_read f [] t x is takes = absurd (none_some is)
  one_read {X = X} f (s ∷ ts) t x is takes =
      let same : s ≡ t = same_some is in
      let here : f s ≡ Some x = ap f same ∙ takes in
      ap (λ (o : Option X). taken o (s ∷ ts) ts) here

  pub one_taken : {X : Type 0} (f : T → Option X) (toks after : List T) (t : T) (x : X) → Some t ≡ next toks → Some x ≡ f t → after ≡ drop 1 toks
      → one f toks ≡ Ok (x, after)
  one_taken f toks after t x is takes skipped = one_read f toks t x (sym is) (sym takes) ∙ ap (λ k. Ok (x, k)) (sym skipped)

-- ---- a word of the grammar or a mark

pub next_left : (w : Word) (toks : Tokens) → is_next w (next toks) ≡ true → 0 < length toks
next_left w [] is = absurd cc
next_left w (t ∷ ts) is = omega arith

-- one token fewer, where there is one
pub one_shorter : (toks : Tokens) → 0 < length toks → length (drop 1 toks) < length toks
one_shorter [] some = let bad : ⊥ = omega (arith, some) in absurd bad
one_shorter (t ∷ ts) some = omega arith

pub terminal_read : (w : Word) (toks : Tokens) → is_next w (next toks) ≡ true → one (terminal_at w) toks ≡ Ok (tt, drop 1 toks)
terminal_read w [] is = absurd cc
terminal_read w (t ∷ ts) is = rw is refl
