-- What a refusal to read a value says of the values that are spelled at the front of bytes.
use Rattle.std.proofs.Common.{◌≡◌, ℕ, List, ◌++◌, refl}
use Rattle.uno_model.specs.Entities.{Entity}
use Rattle.uno_model.specs.Kinds.{Kind}
use Rattle.uno_model.specs.Sound.{IsSound}
use Rattle.uno_model.specs.Values.{Plain}
use Rattle.urp_model.specs.Agreement.{triple}
use Rattle.urp_model.specs.Reading.{value_at}
use Rattle.urp_model.specs.Spelling.{Spells}
use Rattle.urp_model.specs.Tables.{Tables}
use Rattle.urp_model.specs.declared.reason.Reason.{Reason}
use Rattle.urp_model.proofs.FrontLaws.{triple_maker, none_spelled}
use Rattle.urp_model.proofs.ReadFronts.{no_fault}
use Rattle.urp_model.proofs.ValueLaws.{value_agrees}
use Rattle.urp_wire.specs.Gives.{Fails}
use Rattle.urp_wire.specs.declared.error.WireError.{WireError}
use Rattle.urp_wire.specs.declared.error.WireError.TheVariants as error

module _ (levels : ℕ) (reg : List Entity) (k : Kind) (s : Tables) (sound : IsSound reg) (bytes : List ℕ) where
  -- where a value stands at the front, memory alone is what is wanted
  pub none_else : (e : WireError) → Fails e (value_at levels reg k s bytes)
      → (v : Plain) (used rest : List ℕ) (t : Tables) → Spells levels reg k s v used t → bytes ≡ used ++ rest → e ≡ error.NoMemory
  none_else error.NoMemory fails v used rest t spelled whole = refl
  none_else error.Short fails v used rest t spelled whole = absurd (no_fault (value_agrees levels reg sound.named k s) bytes _ fails v t used rest spelled whole)
  none_else (error.Bad reason) fails v used rest t spelled whole =
      absurd (no_fault (value_agrees levels reg sound.named k s) bytes _ fails v t used rest spelled whole)

  -- where a rule is broken, nothing is spelled, however the bytes go on
  pub broken : (e : WireError) → Fails e (value_at levels reg k s bytes) → (reason : Reason) → e ≡ error.Bad reason
      → (more used rest : List ℕ) (v : Plain) (t : Tables) → Spells levels reg k s v used t → bytes ++ more ≡ used ++ rest → ⊥
  broken error.NoMemory fails reason is more used rest v t spelled whole = cc
  broken error.Short fails reason is more used rest v t spelled whole = cc
  broken (error.Bad other) fails reason is more used rest v t spelled whole =
      none_spelled triple triple_maker (value_agrees levels reg sound.named k s) bytes more used rest other (v, t) fails spelled whole
