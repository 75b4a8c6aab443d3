-- When a reader of bytes agrees with a relation between what is read and the bytes that spell it.
use Rattle.std.specs.Prelude.{◌≡◌, ℕ, List, ◌++◌, Result, Ok, Err}
use Rattle.urp_model.specs.declared.fault.Fault.{Fault}
use Rattle.urp_model.specs.declared.fault.Fault.TheVariants.{Bad}
use Rattle.urp_model.specs.declared.reason.Reason.{Reason}

-- a thing and the bytes behind it
abbrev pub pair : {X : Type 0} → X → List ℕ → X × List ℕ
pair x rest = (x, rest)

-- a thing, what the slots mean after it, and the bytes behind it
abbrev pub triple : {X Y : Type 0} → X × Y → List ℕ → X × Y × List ℕ
triple x rest = (x.0, x.1, rest)

-- a reader agrees with what P says of a thing and its bytes; mk puts a thing and the bytes behind it together
pub record Agrees {X A : Type 0} (mk : X → List ℕ → A) (r : List ℕ → Result A Fault) (P : X → List ℕ → Type 0) : Type 0 where
  -- what is read is spelled
  pub sound : (bytes : List ℕ) (a : A) → r bytes ≡ Ok a → (x : X) × (used : List ℕ) × (rest : List ℕ) × (a ≡ mk x rest) × (bytes ≡ used ++ rest) × P x used
  -- what is spelled is read, whatever stands behind it
  pub complete : (x : X) (used rest : List ℕ) → P x used → r (used ++ rest) ≡ Ok (mk x rest)
  -- what breaks the protocol does so however the bytes go on
  pub steady : (bytes more : List ℕ) (reason : Reason) → r bytes ≡ Err (Bad reason) → r (bytes ++ more) ≡ Err (Bad reason)
