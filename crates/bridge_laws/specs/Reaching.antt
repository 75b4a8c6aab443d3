-- The places that the order of `answer` reaches, and where nothing can be done any more.
use Rattle.std.specs.Prelude.{◌≡◌, ℕ, false, List, [], None, Some}
use Rattle.bridge_model.specs.Answers.{ready_at, may_reap, drained_next}
use Rattle.bridge_model.specs.Orders.{Working, begins_work, root_move, most_drained, works_once}
use Rattle.bridge_model.specs.Settings.{Setting}
use Rattle.bridge_model.specs.Sides.{stands}

-- the beginning, and what is behind one thing more that is done
pub data IsReached (g : Setting) (bytes : List ℕ) : Working → Type 0 where
  at_first : IsReached g bytes (begins_work g bytes)
  at_next : {w next : Working} → IsReached g bytes w → works_once g w ≡ Some next → IsReached g bytes next

-- no method is ready, no root moves, no object may go, no byte waits, and the bridge has ended
pub record IsOver (g : Setting) (w : Working) : Type 0 where
  pub methods : ready_at w.told.side 0 ≡ None
  pub roots : root_move g w.told.side w.runs ≡ None
  pub objects : may_reap g w.told.side ≡ None
  pub bytes : drained_next g most_drained w.told.side ≡ []
  pub ended : stands w.told.side ≡ false
