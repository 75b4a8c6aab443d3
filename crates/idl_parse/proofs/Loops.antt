-- A loop of the parser that reads one after the other: how far it has come, and where it ends.
use Rattle.std.proofs.Common.{◌≡◌, ◌<◌, ◌≤◌, Bool, true, false, List, [], ◌∷◌, ◌++◌, length, map, is_none, is_some, Option, None, Some, Result, Ok, Err}
use Rattle.std.proofs.Common.{IsErr}
use Rattle.std.proofs.Common.{refl, sym, ap, subst, ◌∙◌, le_refl, arith}
use Rattle.std.proofs.lemmas.List.{map-append}
use Rattle.std.specs.Result.{IsErrAnd}
use Rattle.grammar_model.proofs.LoopLaws.{begins, reads_on, is_done, goes_wrong}
use Rattle.grammar_model.specs.Loops.{SoFar, with_front}
use Rattle.grammar_model.specs.Readings.{Reads, next, many}
use Rattle.grammar_model.specs.declared.fault.Fault.{Fault}
use Rattle.idl_model.specs.Grammar.{Tokens}
use Rattle.idl_model.specs.PlacedTokens.{PlacedToken}
use Rattle.idl_parse.specs.Reading.{Fails, Gives}
use Rattle.idl_parse.specs.declared.stop.Stop.{Stop}
use Rattle.idl_parse.specs.declared.stop.Stop.TheVariants.{NoMemory, At}

-- these were read since the loop began, and what is left goes on to the whole
pub record Comes {X : Type 0} (c : Option PlacedToken → Bool) (r : Reads PlacedToken X) (total : Result (List X × Tokens) Fault) (front : List X)
    (start rest : Tokens) : Type 0 where
  pub far : SoFar c r total front rest
  pub shorter : length rest ≤ length start

-- a call goes wrong as the call that it hands over does
pub handed_over : {A X : Type 0} (view : A → X) (result : Result A Stop) (stop : Stop) (left : Tokens) (read : Result (X × Tokens) Fault)
    → IsErr result × IsErrAnd result (λ f. f ≡ stop) → Fails stop read → Gives view result left read
handed_over view (Ok x) stop left read is fails = let bad : ⊥ = cc in absurd bad
handed_over view (Err f) stop left read is fails = subst (λ g. Fails g read) (sym is.1) fails

-- whether a token is left
pub there : {A : Type 0} (o : Option A) → false ≡ is_none o → true ≡ is_some o
there None is = let bad : ⊥ = cc in absurd bad
there (Some a) is = refl

pub not_there : {A : Type 0} (o : Option A) → true ≡ is_none o → false ≡ is_some o
not_there None is = refl
not_there (Some a) is = let bad : ⊥ = cc in absurd bad

pub none_left : (toks : Tokens) → true ≡ is_none (next toks) → toks ≡ []
none_left [] is = refl
none_left (t ∷ ts) is = let bad : ⊥ = cc in absurd bad

module _ {X : Type 0} (c : Option PlacedToken → Bool) (r : Reads PlacedToken X) where
  starts : (toks : Tokens) → Comes c r (many c r toks) [] toks toks
  starts toks = record { far = begins c r toks; shorter = le_refl (length toks) }

  pub starts_empty : {A : Type 0} (view : A → X) (xs : List A) (toks : Tokens) → xs ≡ [] → Comes c r (many c r toks) (map view xs) toks toks
  starts_empty view xs toks none = subst (λ (k : List X). Comes c r (many c r toks) k toks toks) (sym (ap (map view) none)) (starts toks)

  -- behind those that were read before
  pub starts_behind : (front : List X) (toks : Tokens) → Comes c r (with_front front (many c r toks)) front toks toks
  starts_behind front toks = record { far = record { fuel = length toks; enough = le_refl (length toks); same = refl }; shorter = le_refl (length toks) }

  pub one_more : {A : Type 0} (view : A → X) (total : Result (List X × Tokens) Fault) (xs ys : List A) (x : A) (start rest behind : Tokens)
      → Comes c r total (map view xs) start rest → true ≡ c (next rest) → r rest ≡ Ok (view x, behind) → length behind < length rest → ys ≡ xs ++ (x ∷ [])
      → Comes c r total (map view ys) start behind
  one_more view total xs ys x start rest behind come on is shorter pushed = record {
    far = subst (λ (k : List X). SoFar c r total k behind) (sym (ap (map view) pushed ∙ map-append view xs (x ∷ [])))
        (reads_on c r total (map view xs) rest behind (view x) come.far (sym on) is shorter);
    shorter = let before = come.shorter in omega arith;
  }

  pub ended : (total : Result (List X × Tokens) Fault) (front : List X) (start rest : Tokens) → Comes c r total front start rest → false ≡ c (next rest)
      → total ≡ Ok (front, rest)
  ended total front start rest come off = is_done c r total front rest come.far (sym off)

  pub fails : (total : Result (List X × Tokens) Fault) (front : List X) (start rest : Tokens) (stop : Stop) → Comes c r total front start rest
      → true ≡ c (next rest) → 0 < length rest → Fails stop (r rest) → Fails stop total
  fails total front start rest NoMemory come on some wrong = tt
  fails total front start rest (At f) come on some wrong = goes_wrong c r total front rest f come.far (sym on) wrong some
