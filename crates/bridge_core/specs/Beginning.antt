-- What becomes of a run whose statement asked something, by the answer.
use Rattle.std.specs.Prelude.{Bool, true, false, codes}
use Rattle.plan_model.specs.Roots.{Run}
use Rattle.bridge_model.specs.RootRuns.{over_with}
use Rattle.bridge_endpoint.specs.declared.answers.Begun.{Begun}
use Rattle.bridge_endpoint.specs.declared.answers.Begun.TheVariants as begun

-- where the bridge is full the statement is over
abbrev pub began_run : Begun → Run → Run
began_run begun.Full r = over_with (codes "full") r
began_run b r = r

-- whether that is a move
abbrev pub has_begun : Begun → Bool
has_begun begun.Started = true
has_begun begun.Answered = true
has_begun begun.Full = true
has_begun b = false

-- it is not that the bridge has ended, or that the root lacks what it gives
abbrev pub IsBegun : Begun → Type 0
IsBegun begun.NotHeld = ⊥
IsBegun begun.Gone = ⊥
IsBegun b = Unit
