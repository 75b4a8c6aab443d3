-- What two joined ends promise at each moment of their history, told of the end of a side: what comes home is the object that was sent out, an identity and interface has one proxy at most,
-- no live proxy's object is gone while both ends stand, and each outcome is its own call's.
use Rattle.std.specs.Prelude.{◌≡◌, ◌≤◌, ℕ, true, false, List, ◌∷◌, ◌++◌}
use Rattle.std.specs.List.{AllByRecursion}
use Rattle.message_model.specs.Messages.{Message}
use Rattle.message_model.specs.Sayable.{arrived}
use Rattle.table_model.specs.Bags.{how_many}
use Rattle.table_model.specs.Pair.{Pair, is_pair}
use Rattle.bridge_model.specs.References.{is_held}
use Rattle.bridge_model.specs.Settings.{is_own}
use Rattle.bridge_model.specs.Sides.{Outcome, answered, stands, state_of}
use Rattle.bridge_laws.specs.Telling.{referred}
use Rattle.world_laws.specs.Ends.{near, far, near_of, far_of}
use Rattle.world_model.specs.Flights.{flight}
use Rattle.world_model.specs.Worlds.{Settings, World, Event, Runs}
use Rattle.world_model.specs.declared.side.Side.{Side}
use Rattle.world_model.specs.declared.side.Side.TheVariants.{A, B}
use Rattle.world_laws.specs.Homes.{ComesAsItself}
use Rattle.world_laws.specs.Kept.{HasObject, IsAccounted}
use Rattle.world_laws.specs.Proxies.{proxy_pairs}
use Rattle.world_laws.specs.Outcomes.{TellsItsOutcomes}
use Rattle.world_model.specs.Pairs.{Pairing}

-- each identity of this end that comes home, as the target or in the values of the first message on its way here, names the object that was sent out
abbrev pub ComesHome : Settings → Side → List Event → World → Type 0
ComesHome g s es w = stands (near s w).now.side ≡ true → (m : Message) (ms : List Message) → flight (far s w).now (near s w).now ≡ m ∷ ms → AllByRecursion (ComesAsItself g s es w) (referred (arrived g.registry m))

-- an identity and interface has one proxy here at most
abbrev pub HasOneProxy : Settings → Side → World → Type 0
HasOneProxy g s w = (p : Pair) → how_many (is_pair p) (proxy_pairs (near_of s g) (near s w).last.side.tables.holdings) ≤ 1

-- what is held here and was not made here has its object at the other end, where it lives and has a stub; an end that has ended is read as it last stood
abbrev pub HasItsObjects : Settings → Side → World → Type 0
HasItsObjects g s w = (p : Pair) → is_own (near_of s g) p.oid ≡ false → is_held p.oid p.face (near s w).last.side.tables ≡ true → HasObject (far_of s g) (far s w).last p

-- the outcome of a root here is its own call's: that of its method; or it says that the bridge was disposed, or its stream ended or failed, or memory was wanted, and so it was
abbrev pub HasItsOutcomes : Settings → Side → List Event → World → Type 0
HasItsOutcomes g s es w = (root : ℕ) (o : Outcome) → state_of root (near s w).now.side.tables.roots ≡ answered o → IsAccounted g s es root o

-- at a moment, at each end
pub record Promise (g : Settings) (es : List Event) (w : World) : Type 0 where
  pub home : (s : Side) → ComesHome g s es w
  pub one_proxy : (s : Side) → HasOneProxy g s w
  pub alive : (s : Side) → HasItsObjects g s w
  pub own : (s : Side) → HasItsOutcomes g s es w

-- at each moment of what a pair does until it stops; and each outcome that a line tells is that of the very call that its statement made
pub record KeepsPromise (g : Settings) (last : Pairing) : Type 0 where
  pub always : (front behind : List Event) → last.events ≡ front ++ behind → (w : World) → Runs g front w → Promise g front w
  pub told_a : AllByRecursion (TellsItsOutcomes g A last.events) last.runs.a
  pub told_b : AllByRecursion (TellsItsOutcomes g B last.events) last.runs.b
