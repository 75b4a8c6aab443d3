-- The tokens of a text, one after the other.
use Rattle.std.proofs.Common.{◌≡◌, ℕ, zero, suc, ◌<◌, ◌-◌, true, false, List, [], ◌∷◌, ◌++◌, length, Result, Ok, Err, IsErr, refl, sym, ap, ◌∙◌, subst, arith}
use Rattle.std.specs.Result.{IsErrAnd}
use Rattle.std.proofs.lemmas.List.{append_assoc, append-nil}
use Rattle.uno_model.specs.Entities.{Entity}
use Rattle.literal_model.specs.Literals.{Bracket, Token}
use Rattle.literal_model.specs.Shapes.{Awaited, Placed, token_at, tokens_at, with_token, is_at_end, behind, opened}
use Rattle.literal_reading.specs.Scanning.{StoppedBy, Scans, with_tokens}
use Rattle.literal_reading.specs.declared.stop.Stop.{Stop}
use Rattle.literal_reading.specs.declared.stop.Stop.TheVariants as stop

-- no tokens in front
pub with_no_tokens : (r : Result (List Placed) ℕ) → with_tokens [] r ≡ r
with_no_tokens (Ok ps) = refl
with_no_tokens (Err left) = refl

with_one_more : (xs : List Placed) (p : Placed) (r : Result (List Placed) ℕ) → with_tokens xs (with_token p r) ≡ with_tokens (xs ++ p ∷ []) r
with_one_more xs p (Ok ps) = ap Ok (sym (append_assoc xs (p ∷ []) ps))
with_one_more xs p (Err left) = refl

pub tokens_end : (n : ℕ) (reg : List Entity) (awaited : Awaited) (outer : List Bracket) (bytes : List ℕ) (xs : List Placed) → 0 < n
    → is_at_end awaited outer bytes ≡ true → with_tokens xs (tokens_at n reg awaited outer bytes) ≡ Ok xs
unfolding tokens_at
tokens_end zero reg awaited outer bytes xs some whole = let bad : ⊥ = omega arith in absurd bad
tokens_end (suc n) reg awaited outer bytes xs some whole = rw whole (ap Ok (append-nil xs))

pub tokens_step : (n : ℕ) (reg : List Entity) (awaited : Awaited) (outer : List Bracket) (bytes : List ℕ) (xs : List Placed) (t : Token) (rest : List ℕ)
    → 0 < n → is_at_end awaited outer bytes ≡ false → token_at reg awaited outer bytes ≡ Ok (t, rest)
    → with_tokens xs (tokens_at n reg awaited outer bytes) ≡ with_tokens (xs ++ record { left = length bytes; token = t } ∷ []) (tokens_at (n - 1) reg (behind t) (opened t outer) rest)
unfolding tokens_at
tokens_step zero reg awaited outer bytes xs t rest some more read = let bad : ⊥ = omega arith in absurd bad
tokens_step (suc n) reg awaited outer bytes xs t rest some more read =
    let fuel : n ≡ suc n - 1 = omega arith in
    let p : Placed = record { left = length bytes; token = t } in
    rw (more, read) (with_one_more xs p (tokens_at n reg (behind t) (opened t outer) rest) ∙ ap (λ m. with_tokens (xs ++ p ∷ []) (tokens_at m reg (behind t) (opened t outer) rest)) fuel)

pub tokens_stop : (n : ℕ) (reg : List Entity) (awaited : Awaited) (outer : List Bracket) (bytes : List ℕ) (xs : List Placed) (left : ℕ) → 0 < n
    → is_at_end awaited outer bytes ≡ false → token_at reg awaited outer bytes ≡ Err left
    → with_tokens xs (tokens_at n reg awaited outer bytes) ≡ Err left
unfolding tokens_at
tokens_stop zero reg awaited outer bytes xs left some more read = let bad : ⊥ = omega arith in absurd bad
tokens_stop (suc n) reg awaited outer bytes xs left some more read = rw (more, read) refl

pub tokens_out : (n : ℕ) (reg : List Entity) (awaited : Awaited) (outer : List Bracket) (bytes : List ℕ) (xs : List Placed) → n ≡ 0
    → with_tokens xs (tokens_at n reg awaited outer bytes) ≡ Err 0
unfolding tokens_at
tokens_out n reg awaited outer bytes xs none = rw none refl

-- want of memory or a bad byte in a token is one in the text
pub scan_stops : (n : ℕ) (reg : List Entity) (awaited : Awaited) (outer : List Bracket) (bytes : List ℕ) (xs : List Placed) (verdict : Result (List Placed) ℕ) (e : Stop) → 0 < n
    → is_at_end awaited outer bytes ≡ false → StoppedBy e (token_at reg awaited outer bytes) → with_tokens xs (tokens_at n reg awaited outer bytes) ≡ verdict → StoppedBy e verdict
scan_stops n reg awaited outer bytes xs verdict stop.NoMemory some more read is = tt
scan_stops n reg awaited outer bytes xs verdict (stop.Bad left) some more read is = sym is ∙ tokens_stop n reg awaited outer bytes xs left some more read

-- the same where a `?` hands it on
pub handed_on : {X Y : Type 0} (view : X → Y) (r : Result X Stop) (e : Stop) (verdict : Result Y ℕ) → IsErr r × IsErrAnd r (λ f. f ≡ e) → StoppedBy e verdict → Scans view r verdict
handed_on view (Ok x) e verdict is stopped = let bad : ⊥ = cc in absurd bad
handed_on view (Err f) e verdict is stopped = subst (λ g. StoppedBy g verdict) (sym is.1) stopped

-- one more token
pub tokens_next : (n m : ℕ) (reg : List Entity) (a b : Awaited) (outer inner : List Bracket) (bytes rest : List ℕ) (xs ys : List Placed) (t : Token) (verdict : Result (List Placed) ℕ)
    → 0 < n → m ≡ n - 1
    → is_at_end a outer bytes ≡ false → token_at reg a outer bytes ≡ Ok (t, rest) → b ≡ behind t → inner ≡ opened t outer → ys ≡ xs ++ record { left = length bytes; token = t } ∷ [] → with_tokens xs (tokens_at n reg a outer bytes) ≡ verdict
    → with_tokens ys (tokens_at m reg b inner rest) ≡ verdict
tokens_next n m reg a b outer inner bytes rest xs ys t verdict some fuel more read next brackets pushed is = rw (fuel, next, brackets, pushed) (sym (tokens_step n reg a outer bytes xs t rest some more read) ∙ is)
