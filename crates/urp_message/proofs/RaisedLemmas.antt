-- The type of an exception is judged before its value is read.
use Rattle.std.proofs.Common.{◌≡◌, ℕ, Bool, true, false, List, None, Some, Result, Ok, Err, if◌then◌else◌, refl}
use Rattle.message_model.specs.Calls.{may_raise}
use Rattle.message_model.specs.Messages.{Answer, raised}
use Rattle.message_model.specs.ReadingMessages.{raised_at, exception_at}
use Rattle.uno_model.specs.Entities.{Entity}
use Rattle.uno_model.specs.Functions.{Function}
use Rattle.uno_model.specs.Kinds.{Kind}
use Rattle.urp_model.specs.NamedKinds.{is_any}
use Rattle.urp_model.specs.Parts.{◌>>=◌}
use Rattle.urp_model.specs.Reading.{value_at}
use Rattle.urp_model.specs.ReadingNames.{kind_at}
use Rattle.urp_model.specs.Tables.{Table, Tables, with_types}
use Rattle.urp_model.specs.declared.fault.Fault.{Fault}
use Rattle.urp_model.specs.declared.fault.Fault.TheVariants.{Bad}
use Rattle.urp_model.specs.declared.reason.Reason.{Reason}
use Rattle.urp_model.specs.declared.reason.Reason.TheVariants.{BadAny, BadException}
use Rattle.urp_wire.specs.Gives.{Fails}
use Rattle.urp_wire.specs.declared.error.WireError.{WireError}
use Rattle.urp_wire.specs.declared.error.WireError.TheVariants as error
use Rattle.urp_message.specs.Waiting.{misplaced}

-- what fails, fails whatever is read behind it
failed_on : {A B : Type 0} (e : WireError) (read : Result A Fault) (f : A → Result B Fault) → Fails e read → Fails e (read >>= f)
failed_on error.NoMemory read f fails = tt
failed_on error.Short read f fails = rw fails refl
failed_on (error.Bad reason) read f fails = rw fails refl

-- by the two tests, and whatever is read behind them
by_tests : (any may : Bool) (reason : Reason) (read : Result (Answer × Tables × List ℕ) Fault) → Some reason ≡ (if any then Some BadAny else (if may then None else Some BadException))
    → (if any then Err (Bad BadAny) else (if may then read else Err (Bad BadException))) ≡ Err (Bad reason)
by_tests true may reason read is = let same : reason ≡ BadAny = cc in rw same refl
by_tests false true reason read is = let bad : ⊥ = cc in absurd bad
by_tests false false reason read is = let same : reason ≡ BadException = cc in rw same refl

passed : (any may : Bool) (read : Result (Answer × Tables × List ℕ) Fault) → None ≡ (if any then Some BadAny else (if may then None else Some BadException))
    → (if any then Err (Bad BadAny) else (if may then read else Err (Bad BadException))) ≡ read
passed true may read is = let bad : ⊥ = cc in absurd bad
passed false true read is = refl
passed false false read is = let bad : ⊥ = cc in absurd bad

module _ (reg : List Entity) (f : Function) (s : Tables) (bytes rest : List ℕ) (k : Kind) (types : Table) (named : kind_at reg s.types bytes ≡ Ok (k, types, rest)) where
  pub refused : (reason : Reason) → Some reason ≡ misplaced reg f k → raised_at reg f s bytes ≡ Err (Bad reason)
  unfolding raised_at exception_at
  refused reason is = rw named (by_tests (is_any k) (may_raise reg f k) reason _ is)

  pub allowed : None ≡ misplaced reg f k → raised_at reg f s bytes ≡ (value_at 63 reg k (with_types s types) rest >>= (λ value. Ok (raised k value.0, value.1, value.2)))
  unfolding raised_at exception_at
  allowed is = rw named (passed (is_any k) (may_raise reg f k) _ is)

  pub fails : (e : WireError) → None ≡ misplaced reg f k → Fails e (value_at 63 reg k (with_types s types) rest) → Fails e (raised_at reg f s bytes)
  fails e is failed = rw (allowed is) (failed_on e (value_at 63 reg k (with_types s types) rest) (λ value. Ok (raised k value.0, value.1, value.2)) failed)
