-- What holds of two joined ends behind every history: of each of them, and of the threads and answers that go between them.
use Rattle.std.specs.Prelude.{◌≡◌, ℕ, ◌<◌, ◌↔◌, true, false, not, ◌&&◌, is_some, None, List, ◌∷◌, ◌++◌}
use Rattle.std.specs.List.{AllByRecursion}
use Rattle.message_model.specs.Messages.{Message, Answer, reply}
use Rattle.message_model.specs.Sayable.{arrived}
use Rattle.table_model.specs.Bags.{how_many}
use Rattle.table_model.specs.Pair.{Pair, is_pair}
use Rattle.table_model.specs.Stubs.{stub}
use Rattle.urp_model.specs.declared.reason.Reason.{Reason}
use Rattle.bridge_laws.specs.Counting.{total, one_if, places, releases_of}
use Rattle.bridge_laws.specs.Living.{lives}
use Rattle.bridge_model.specs.Entries.{Entry}
use Rattle.bridge_model.specs.Histories.{Told}
use Rattle.bridge_model.specs.Objects.{object_supports}
use Rattle.bridge_model.specs.Receiving.{refusal}
use Rattle.bridge_model.specs.References.{is_held}
use Rattle.bridge_model.specs.Settings.{Setting, is_own}
use Rattle.bridge_model.specs.Sides.{Outcome, answer, no_memory, answered, stands, state_of}
use Rattle.bridge_model.specs.Sides as side
use Rattle.bridge_model.specs.declared.cause.Cause.{Cause}
use Rattle.bridge_model.specs.declared.cause.Cause.TheVariants as cause
use Rattle.bridge_laws.specs.Telling.{referred}
use Rattle.bridge_laws.specs.Ending.{HasEnd}
use Rattle.world_laws.specs.Calls.{IsAnswerOfCall}
use Rattle.world_laws.specs.Ends.{near_of}
use Rattle.world_laws.specs.Roots.{IsOwn}
use Rattle.world_laws.specs.Serving.{EachServesItsCall}
use Rattle.world_model.specs.Balances.{Balance, Standing}
use Rattle.world_model.specs.Flights.{flight, Follows}
use Rattle.world_model.specs.Threads.{Interlock}
use Rattle.world_model.specs.Worlds.{Settings, of_a, of_b, End, World, Event, entries_of}
use Rattle.world_model.specs.declared.side.Side.{Side}
use Rattle.world_model.specs.declared.side.Side.TheVariants.{A, B}
use Rattle.world_laws.specs.Homes.{ComesAsItself}
use Rattle.world_laws.specs.Proxies.{proxy_pairs}

-- ---- outcomes

-- a cause for which an outcome says that the bridge was disposed: it was, or was at its limit, or its stream ended or failed
abbrev pub MayDispose : Cause → Type 0
MayDispose cause.Disposed = Unit
MayDispose cause.Ended = Unit
MayDispose cause.Failed = Unit
MayDispose (cause.Broken why place) = ⊥
MayDispose cause.Full = Unit
MayDispose cause.NoMemory = ⊥

-- how a root of an end came to its outcome: the answer is its call's own; the end of the bridge with that cause stands in the journal; or want of memory ended it
abbrev pub IsAccounted : Settings → Side → List Event → (root : ℕ) → Outcome → Type 0
IsAccounted g s es root (answer a) = IsOwn g s es root a
IsAccounted g s es root (side.disposed why) = HasEnd (near_of s g) (entries_of s es) why × MayDispose why
IsAccounted g s es root no_memory = HasEnd (near_of s g) (entries_of s es) cause.NoMemory

-- ---- one end

-- a pair is this end's: it has a stub, and the object lives and supports the interface
pub record HasObject (g : Setting) (x : Told) (p : Pair) : Type 0 where
  pub given : is_own g p.oid ≡ true
  pub sent : is_some (stub p x.side.tables.stubs) ≡ true
  pub alive : lives g x.side.tables.objects p.oid ≡ true
  pub supports : object_supports g p.oid p.face x.side.tables.objects ≡ true

-- of one end, with its entries, beside the other one
pub record Keeps (g h : Setting) (es : List Entry) (one other : End) : Type 0 where
  -- what came to the other end is a front of what this one said, as it arrives
  pub follows : Follows g.registry one.now other.now
  pub balance : Balance g one.last other.last
  -- a pair of it has a stub exactly where more was sent of it than was released
  pub stubs : (p : Pair) → is_some (stub p one.last.side.tables.stubs) ≡ true ↔ total (releases_of p) one.last.got < total (places g.registry p) one.last.said
  pub standing : Standing g one.last other.last
  -- it has one proxy for each pair of the other's that it holds, and no other
  pub proxies : (p : Pair) → how_many (is_pair p) (proxy_pairs g one.last.side.tables.holdings) ≡ one_if (not (is_own g p.oid) && is_held p.oid p.face one.last.side.tables)
  -- what the other end holds and did not give is this one's, which has the object
  pub objects : (p : Pair) → is_own h p.oid ≡ false → is_held p.oid p.face other.last.side.tables ≡ true → HasObject g one.last p
  -- the first message in flight to this end is not refused
  pub passes : stands one.now.side ≡ true → (m : Message) (ms : List Message) → flight other.now one.now ≡ m ∷ ms → refusal g one.now.side (arrived g.registry m) ≡ None
  -- the other end never breaks the bridge
  pub unbroken : (why : Reason) (place : ℕ) → HasEnd g es (cause.Broken why place) → ⊥

-- ---- both

pub record BothKeep (g : Settings) (es : List Event) (w : World) : Type 0 where
  pub a : Keeps (of_a g) (of_b g) (entries_of A es) w.a w.b
  pub b : Keeps (of_b g) (of_a g) (entries_of B es) w.b w.a
  -- what comes home with the first message in flight to an end, as its target or in its values, is itself
  pub home_a : stands w.a.now.side ≡ true → (m : Message) (ms : List Message) → flight w.b.now w.a.now ≡ m ∷ ms → AllByRecursion (ComesAsItself g A es w) (referred (arrived g.registry m))
  pub home_b : stands w.b.now.side ≡ true → (m : Message) (ms : List Message) → flight w.a.now w.b.now ≡ m ∷ ms → AllByRecursion (ComesAsItself g B es w) (referred (arrived g.registry m))
  -- each thread goes from end to end, and began at the end that gave its name; one that neither gave is nowhere
  pub threads_a : Interlock (is_own (of_a g)) w.a.last w.b.last
  pub threads_b : Interlock (is_own (of_b g)) w.b.last w.a.last
  -- each method that serves a call of the first end, or of the second, began with the request of that call, which waits still
  pub served_a : EachServesItsCall g A es w
  pub served_b : EachServesItsCall g B es w
  -- each reply in flight is the answer of the call on top of its thread, and that call's own
  pub to_a : (tid face : List ℕ) (function : ℕ) (x : Answer) (front rest : List Message) → flight w.b.last w.a.last ≡ front ++ reply tid face function x ∷ rest → IsAnswerOfCall g A es w tid face function x
  pub to_b : (tid face : List ℕ) (function : ℕ) (x : Answer) (front rest : List Message) → flight w.a.last w.b.last ≡ front ++ reply tid face function x ∷ rest → IsAnswerOfCall g B es w tid face function x
  pub outcomes_a : (root : ℕ) (o : Outcome) → state_of root w.a.now.side.tables.roots ≡ answered o → IsAccounted g A es root o
  pub outcomes_b : (root : ℕ) (o : Outcome) → state_of root w.b.now.side.tables.roots ≡ answered o → IsAccounted g B es root o
