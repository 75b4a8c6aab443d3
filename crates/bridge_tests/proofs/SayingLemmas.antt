-- What may be said behind what may be said.
use Rattle.std.specs.Prelude.{List, [], ◌∷◌, ◌++◌}
use Rattle.bridge_model.specs.Saying.{IsSayable, AreSayable}
use Rattle.message_model.specs.Messages.{Message}
use Rattle.uno_model.specs.Entities.{Entity}

-- a message more
pub sayable_more : (reg : List Entity) (ms : List Message) (m : Message) → AreSayable reg ms → IsSayable reg m → AreSayable reg (ms ++ m ∷ [])
sayable_more reg [] m are is = (is, tt)
sayable_more reg (n ∷ ms) m are is = (are.0, sayable_more reg ms m are.1 is)
