-- What comes home: an identity of an end that arrives there names the object that was sent out, and did so all the time from its sending on.
use Rattle.std.specs.Prelude.{◌≡◌, ℕ, ◌≤◌, true, List, ◌++◌, Option, None, Some}
use Rattle.table_model.specs.Pair.{pair}
use Rattle.uno_model.specs.Values.{Ref, null, own, peer}
use Rattle.bridge_laws.specs.Counting.{total, places}
use Rattle.bridge_model.specs.Objects.{object_named}
use Rattle.bridge_model.specs.Settings.{is_own}
use Rattle.bridge_model.specs.Sides.{Object}
use Rattle.world_laws.specs.Ends.{near, near_of}
use Rattle.world_model.specs.Offers.{IsHome}
use Rattle.world_model.specs.Worlds.{Settings, World, Event, Runs}
use Rattle.world_model.specs.declared.side.Side.{Side}

-- one object at two times: it has its number, which is given to no other, and its behaviour
abbrev pub IsSameObject : Object → Option Object → Type 0
IsSameObject o None = ⊥
IsSameObject o (Some p) = (p.number ≡ o.number) × (p.behaviour ≡ o.behaviour)

-- an identity that arrives under an interface: it was said under some interface, and names an object that lives and supports the one that arrives; at each time before, behind
-- which it had been said under any, it named that object
pub record IsItself (g : Settings) (s : Side) (es : List Event) (w : World) (oid face : List ℕ) : Type 0 where
  pub home : IsHome (near_of s g) (near s w).now.side.tables oid face
  pub object : Object
  pub named : object_named (near_of s g) oid (near s w).now.side.tables.objects ≡ Some object
  pub written : List ℕ
  pub sent : 1 ≤ total (places g.registry (pair oid written)) (near s w).now.said
  pub since : (before behind : List Event) (v : World) (under : List ℕ) → before ++ behind ≡ es → Runs g before v → 1 ≤ total (places g.registry (pair oid under)) (near s v).now.said
      → IsSameObject object (object_named (near_of s g) oid (near s v).now.side.tables.objects)

-- so is a reference that arrives, if it has an identity of the end
abbrev pub ComesAsItself : Settings → Side → List Event → World → Ref → Type 0
ComesAsItself g s es w null = Unit
ComesAsItself g s es w (own oid face) = is_own (near_of s g) oid ≡ true → IsItself g s es w oid face
ComesAsItself g s es w (peer oid face) = is_own (near_of s g) oid ≡ true → IsItself g s es w oid face
