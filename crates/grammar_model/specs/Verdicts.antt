-- What comes of a text by a grammar whose trees have limits: its tree, or the token at which it goes wrong. Readings are not spoken of.
use Rattle.std.specs.Prelude.{◌≡◌, ℕ, Bool, true, false, List, [], ◌∷◌, ◌++◌, length, Result, Ok, Err}
use Rattle.grammar_model.specs.declared.fault.Fault.{Fault}
use Rattle.grammar_model.specs.declared.fault.Why.{Why}
use Rattle.grammar_model.specs.declared.fault.Why.TheVariants.{Unexpected, Nested}
use Rattle.grammar_model.specs.Readings.{next}

-- some text of the grammar begins with these tokens
abbrev pub Begins : {T X : Type 0} → (X → List T → Type 0) → List T → Type 0
Begins {T = T} {X = X} P front = (x : X) × (more : List T) × P x (front ++ more)

-- some text that keeps the limits begins with them
abbrev pub BeginsWithin : {T X : Type 0} → (X → Bool) → (X → List T → Type 0) → List T → Type 0
BeginsWithin {T = T} {X = X} fits P front = (x : X) × (more : List T) × P x (front ++ more) × (fits x ≡ true)

-- up to each mark that opens something there is a text that keeps the limits
abbrev pub OpensWithin : {T X : Type 0} → (T → Bool) → (X → Bool) → (X → List T → Type 0) → List T → Type 0
OpensWithin {T = T} opens fits P front = (a b : List T) (mark : T) → front ≡ a ++ (mark ∷ b) → opens mark ≡ true → BeginsWithin fits P (a ++ (mark ∷ []))

-- the first token after which no text of the grammar begins so, or the end of a text that would have to go on: n tokens are left from there
pub record IsUnexpected {T X : Type 0} (opens : T → Bool) (fits : X → Bool) (P : X → List T → Type 0) (toks : List T) (n : ℕ) : Type 0 where
  pub front : List T
  pub rest : List T
  pub whole : toks ≡ front ++ rest
  pub left : n ≡ length rest
  -- up to there texts go on so
  pub begins : Begins P front
  -- with the next token none does, and at the end none ends
  pub no_other : (x : X) (more : List T) → next more ≡ next rest → ¬ P x (front ++ more)
  -- nothing before it opened too much
  pub within : OpensWithin opens fits P front

-- the first mark that opens something and after which texts of the grammar do begin so, but each of them breaks a limit
pub record IsNested {T X : Type 0} (opens : T → Bool) (fits : X → Bool) (P : X → List T → Type 0) (toks : List T) (n : ℕ) : Type 0 where
  pub front : List T
  pub mark : T
  pub behind : List T
  pub whole : toks ≡ front ++ (mark ∷ behind)
  pub left : n ≡ length (mark ∷ behind)
  pub opening : opens mark ≡ true
  pub begins : Begins P (front ++ (mark ∷ []))
  pub beyond : (x : X) (more : List T) → P x (front ++ (mark ∷ more)) → fits x ≡ false
  pub within : OpensWithin opens fits P front

abbrev pub IsRefused : {T X : Type 0} → (T → Bool) → (X → Bool) → (X → List T → Type 0) → List T → Why → ℕ → Type 0
IsRefused opens fits P toks Unexpected n = IsUnexpected opens fits P toks n
IsRefused opens fits P toks Nested n = IsNested opens fits P toks n

-- what comes of a text
abbrev pub IsVerdict : {T X : Type 0} → (T → Bool) → (X → Bool) → (X → List T → Type 0) → List T → Result X Fault → Type 0
IsVerdict opens fits P toks (Ok x) = P x toks × (fits x ≡ true)
IsVerdict opens fits P toks (Err f) = IsRefused opens fits P toks f.why f.left
