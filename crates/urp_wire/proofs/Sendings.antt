-- What was written is read again by those who know the names.
use Rattle.std.proofs.Common.{◌≡◌, ℕ, ◌≤◌, List, ◌++◌, length, drop, Ok}
use Rattle.std.proofs.Math.Seq.{drop-append_seam}
use Rattle.uno_model.specs.Entities.{Entity}
use Rattle.uno_model.specs.Fits.{Fits}
use Rattle.uno_model.specs.Kinds.{Kind}
use Rattle.uno_model.specs.Sound.{IsSound}
use Rattle.uno_model.specs.Values.{Plain, depth}
use Rattle.uno_model.specs.Weights.{weight}
use Rattle.uno_model.specs.Spellable.{IsSpellable}
use Rattle.urp_model.specs.Carried.{carried, AllCorrespond}
use Rattle.urp_model.specs.Reading.{value_at}
use Rattle.urp_model.specs.Tables.{Tables}
use Rattle.urp_model.specs.Writing.{HeldNames, after, spelling}
use Rattle.urp_model.proofs.SentLaws.{value_sent}
use Rattle.urp_model.proofs.SizeLaws.{light_sized}
use Rattle.urp_model.proofs.ValueLaws.{value_agrees}

-- the value is read from what stands behind the bytes that were there
pub read_again : (reg : List Entity) (k : Kind) (v : Plain) (h g : HeldNames) (old new : List ℕ) → IsSound reg → Fits reg v k → depth v ≤ 64 → weight v ≤ 16777216 → IsSpellable v
    → new ≡ old ++ spelling v h → g ≡ after v h → (s : Tables) (rest : List ℕ) → AllCorrespond s h
    → (t : Tables) × (value_at 64 reg k s (drop (length old) new ++ rest) ≡ Ok (carried reg v k, t, rest)) × AllCorrespond t g
read_again reg k v h g old new sound fits deep light ranged bytes names s rest answers =
    let sent = value_sent reg sound.named v 64 k s h deep fits ranged (light_sized reg sound v k fits light) answers in
    let back : drop (length old) new ≡ spelling v h = rw bytes (drop-append_seam old (spelling v h)) in
    (sent.0, rw back ((value_agrees 64 reg sound.named k s).complete (carried reg v k, sent.0) (spelling v h) rest sent.1), rw names sent.2)
