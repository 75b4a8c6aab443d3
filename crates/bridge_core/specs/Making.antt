-- What becomes of a run whose statement makes an object.
use Rattle.std.specs.Prelude.{◌≡◌, ◌++◌, List, ℕ, Bool, true, false, codes}
use Rattle.literal_model.specs.Literals.{print}
use Rattle.uno_model.specs.Entities.{Entity}
use Rattle.uno_model.specs.Values.{Ref}
use Rattle.uno_model.specs.Values as v
use Rattle.plan_model.specs.Roots.{Run}
use Rattle.bridge_model.specs.RootRuns.{adds, line_of, over_with}
use Rattle.uno_values.specs.Values.{plain_of}
use Rattle.bridge_endpoint.specs.declared.answers.Made.{Made}
use Rattle.bridge_endpoint.specs.declared.answers.Made.TheVariants as made
use Rattle.bridge_core.specs.declared.making.Ready.{Ready}

-- all is made beforehand for an object that will be held as this reference
pub record IsReady (reg : List Entity) (before : Run) (r : Ref) (x : Ready) : Type 0 where
  pub new : plain_of x.new ≡ v.ref r
  pub made : x.made ≡ line_of before (codes "returned " ++ print reg (v.ref r))
  pub full : x.full ≡ line_of before (codes "full")

abbrev pub made_run : List Entity → Made → (to : List ℕ) → Ref → Run → Run
made_run reg (made.Made oid) to r before = over_with (codes "returned " ++ print reg (v.ref r)) (adds to (v.ref r) before)
made_run reg made.Full to r before = over_with (codes "full") before
made_run reg m to r before = before

-- whether that is a move
abbrev pub has_made : Made → Bool
has_made (made.Made oid) = true
has_made made.Full = true
has_made m = false

-- it is not that the bridge has ended
abbrev pub IsMade : Made → Type 0
IsMade made.Gone = ⊥
IsMade m = Unit
