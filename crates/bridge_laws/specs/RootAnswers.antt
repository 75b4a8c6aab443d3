-- What a root asked for, and which answers fit that.
use Rattle.std.specs.Prelude.{◌≡◌, ℕ, ◌==◌, List, [], ◌∷◌, Option, None, Some, if◌then◌else◌}
use Rattle.message_model.specs.Calls.{numbered}
use Rattle.message_model.specs.Messages.{Answer, returned, raised}
use Rattle.message_model.specs.Sayable.{AnswerFits}
use Rattle.uno_model.specs.Entities.{Entity}
use Rattle.uno_model.specs.Fits.{Fits}
use Rattle.uno_model.specs.Functions.{Function}
use Rattle.uno_model.specs.Kinds as kd
use Rattle.bridge_model.specs.Entries.{Entry, asked, called, queried, took}

-- a reference under an interface, by a name or a query; or the answer of a function of an interface
pub data Asking : Type 0 where
  for_reference : (wanted : List ℕ) → Asking
  for_answer : (face : List ℕ) → (function : ℕ) → Asking

-- what a root asks for whose answer it did not take, behind an entry
abbrev pub asked_by : ℕ → Option Asking → Entry → Option Asking
asked_by n q (asked root name wanted) = if n == root then Some (for_reference wanted) else q
asked_by n q (called root oid face function args) = if n == root then Some (for_answer face function) else q
asked_by n q (queried root oid face wanted) = if n == root then Some (for_reference wanted) else q
asked_by n q (took root) = if n == root then None else q
asked_by n q e = q

-- behind a journal
unfoldable pub asked_behind : ℕ → Option Asking → List Entry → Option Asking
asked_behind n q [] = q
asked_behind n q (e ∷ es) = asked_behind n (asked_by n q e) es

abbrev pub still_asked : ℕ → List Entry → Option Asking
still_asked n es = asked_behind n None es

-- an answer to it: a reference under the interface, or what the function may return; an exception may always come
abbrev pub IsAnswerTo : List Entity → Option Asking → Answer → Type 0
IsAnswerTo reg None a = ⊥
IsAnswerTo reg (Some asking) (raised k x) = Unit
IsAnswerTo reg (Some (for_reference wanted)) (returned x outs) = Fits reg x (kd.interface wanted)
IsAnswerTo reg (Some (for_answer face function)) (returned x outs) = (f : Function) × (numbered reg face function ≡ Some f) × AnswerFits reg f (returned x outs)
