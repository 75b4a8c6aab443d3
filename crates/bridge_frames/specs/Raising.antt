-- What an exception does that goes through a frame.
use Rattle.std.specs.Prelude.{◌≡◌, ℕ, true, false, List, Option, None, Some, Result, Ok, Err}
use Rattle.behaviour.specs.Answers.{raised_of}
use Rattle.message_model.specs.Messages.{Answer}
use Rattle.plan_model.specs.Frames.{Body, Frame}
use Rattle.plan_model.specs.Leaving.{leaving_frame}
use Rattle.uno_model.specs.Values.{Ref}
use Rattle.uno_values.specs.declared.value.AnyValue.{AnyValue}
use Rattle.uno_base.specs.declared.no_memory.NoMemory.{NoMemory}
use Rattle.bridge_model.specs.Calls.{Unwound}
use Rattle.bridge_model.specs.Handing.{after_letting_go, answers_peer, gains_below, hands, hands_over}
use Rattle.bridge_model.specs.References.{refs_of_answer}
use Rattle.bridge_model.specs.Settings.{Setting}
use Rattle.bridge_model.specs.Sides.{Tables}
use Rattle.bridge_tables.specs.EndTables.{EndTables, on_tables}

-- what leaves a frame is sent to the peer that called it, or is for the frame below; these references are let go first
abbrev pub Leaves : Setting → List ℕ → Body → List Frame → List Ref → Answer → EndTables → EndTables → Result (Option AnyValue) NoMemory → Type 0
Leaves g tid b fs held leaving old new (Ok None) = (b.from_peer ≡ true) × (new ≡ on_tables (answers_peer g tid b held leaving) old)
Leaves g tid b fs held leaving old new (Ok (Some left)) = (b.from_peer ≡ false) × (raised_of left ≡ leaving) × (new ≡ on_tables (hands_over g b held (raised_of left) fs) old)
Leaves g tid b fs held leaving old new (Err e) = Unit

-- an exception leaves it
abbrev pub GoesThrough : Setting → List ℕ → Body → List Frame → Answer → EndTables → EndTables → Result (Option AnyValue) NoMemory → Type 0
GoesThrough g tid b fs a old new result = Leaves g tid b fs (refs_of_answer a) (leaving_frame g.registry tid b a) old new result

-- an answer that is here already: the frame below holds what is in it, before it gets it
abbrev pub gives : Setting → List ℕ → Answer → List Frame → Tables → Unwound
gives g tid a fs t = hands g tid a fs (gains_below fs a t)

-- a result that is handed down
abbrev pub handed_down : Setting → List ℕ → Body → Answer → List Frame → Tables → Unwound
handed_down g tid b a fs t = after_letting_go g b (gives g tid a fs t)
