-- Whether a line was taken, and what stands where it was.
use Rattle.std.specs.Prelude.{◌≡◌, Bool, true, false, Option, None, Some}

-- what is now is what was to come; or nothing was to come, and what is now says nothing
abbrev pub IsTaken : {X : Type 0} → Bool → X → Option X → Type 0
IsTaken true new owed = owed ≡ Some new
IsTaken false new owed = owed ≡ None
