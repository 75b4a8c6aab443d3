-- When a reading agrees with a relation between trees and the tokens that spell them.
use Rattle.std.specs.Prelude.{◌≡◌, ℕ, Bool, true, false, not, ◌⊎◌, List, [], ◌∷◌, ◌++◌, length, Option, Result, Ok, Err}
use Rattle.std.specs.List.{list_all}
use Rattle.grammar_model.specs.declared.fault.Fault.{Fault}
use Rattle.grammar_model.specs.declared.fault.Why.{Why}
use Rattle.grammar_model.specs.declared.fault.Why.TheVariants.{Nested}
use Rattle.grammar_model.specs.Readings.{Reads, next, fault}
use Rattle.grammar_model.specs.Verdicts.{BeginsWithin}

-- what is read of a tree's text: the tree where it keeps the limits, else a mark that opens too much
abbrev pub Outcome : {A : Type 0} → Bool → Result A Fault → A → Type 0
Outcome true read z = read ≡ Ok z
Outcome false read z = (n : ℕ) × (read ≡ Err (fault Nested n))

-- none of these tokens opens anything
abbrev pub opens_none : {T : Type 0} → (T → Bool) → List T → Bool
opens_none opens toks = list_all (λ t. not (opens t)) toks

-- at the last mark that opens something, if there is one, there is a text that keeps the limits
pub record OpenedWithin {T X : Type 0} (opens : T → Bool) (fits : X → Bool) (P : X → List T → Type 0) (front : List T) : Type 0 where
  pub up_to : List T
  pub behind : List T
  pub parts : front ≡ up_to ++ behind
  pub quiet : opens_none opens behind ≡ true
  pub within : (up_to ≡ []) ⊎ BeginsWithin fits P up_to

-- a reading that goes wrong does so for a reason that the relation shows
pub record Halts {T X : Type 0} (opens : T → Bool) (fits : X → Bool) (r : Reads T X) (P : X → List T → Type 0) (why : Why) (toks : List T)
    (n : ℕ) : Type 0 where
  pub front : List T
  pub rest : List T
  pub whole : toks ≡ front ++ rest
  pub left : n ≡ length rest
  -- so it does whatever stands behind the next token
  pub steady : (more : List T) → next more ≡ next rest → r (front ++ more) ≡ Err (fault why (length more))
  -- what was read before can be completed
  pub tree : X
  pub more : List T
  pub viable : P tree (front ++ more)
  -- where one opens too much, texts go on behind it
  pub nested : why ≡ Nested → (t : T) × (after : List T) × (rest ≡ t ∷ after) × (opens t ≡ true) × (x : X) × (tail : List T) × P x (front ++ (t ∷ tail))
  pub opened : OpenedWithin opens fits P front

-- a reading agrees with a relation: opens tells the marks that open something, ends that what spells a tree is over where that token comes next, fits that a
-- tree keeps the limits
pub record Agrees {T X : Type 0} (opens : T → Bool) (ends : X → Option T → Bool) (fits : X → Bool) (r : Reads T X) (P : X → List T → Type 0) : Type 0 where
  -- what is read is spelled, is over there, and keeps the limits
  pub sound : (toks : List T) (x : X) (rest : List T) → r toks ≡ Ok (x, rest)
      → (used : List T) × (toks ≡ used ++ rest) × P x used × (ends x (next rest) ≡ true) × (fits x ≡ true)
  -- what is spelled and is over is read, if it keeps the limits
  pub complete : (x : X) (used rest : List T) → P x used → ends x (next rest) ≡ true → Outcome (fits x) (r (used ++ rest)) (x, rest)
  pub halts : (toks : List T) (why : Why) (n : ℕ) → r toks ≡ Err (fault why n) → Halts opens fits r P why toks n
  -- there is a text at all
  pub some : (x : X) × (used : List T) × P x used
