-- Two ends that are joined: each is fed, in order, a front of what the other drained.
use Rattle.std.specs.Prelude.{◌≡◌, ℕ, Bool, true, false, List, [], ◌∷◌, ◌++◌, length, take, drop, Option, None, Some, if◌then◌else◌}
use Rattle.std.specs.Str.{bytes_eq}
use Rattle.uno_model.specs.Entities.{Entity}
use Rattle.plan_model.specs.Plans.{Plan}
use Rattle.bridge_model.specs.Entries.{Entry}
use Rattle.bridge_model.specs.Histories.{Told, nothing_told, bytes_fed, tells, Leads}
use Rattle.bridge_model.specs.Settings.{Setting, is_own}
use Rattle.bridge_model.specs.Sides.{stands}
use Rattle.world_model.specs.declared.side.Side.{Side}
use Rattle.world_model.specs.declared.side.Side.TheVariants.{A, B}

-- what is an end's own: its tag, and the plan of its objects and roots
pub record Share : Type 0 where
  pub tag : List ℕ
  pub plan : Plan

-- what the two ends are set up with; they have one registry
pub record Settings : Type 0 where
  pub registry : List Entity
  pub a : Share
  pub b : Share

abbrev pub setting_with : List Entity → Share → Setting
setting_with reg s = record { tag = s.tag; registry = reg; plan = s.plan }

abbrev pub of_a : Settings → Setting
of_a g = setting_with g.registry g.a

abbrev pub of_b : Settings → Setting
of_b g = setting_with g.registry g.b

-- what the one gave a name the other did not
abbrev pub AreJoined : (x y : Setting) → Type 0
AreJoined x y = (name : List ℕ) → is_own x name ≡ true → is_own y name ≡ false

-- ---- ends

-- an end as it is, and as it was when it last stood: what is said of two ends reads the second
pub record End : Type 0 where
  pub now : Told
  pub last : Told

abbrev pub at_first : Setting → End
at_first g = record { now = nothing_told g; last = nothing_told g }

abbrev pub moved : End → Told → End
moved e x = record { now = x; last = if stands x.side then x else e.last }

-- an end that has ended is read as it last stood: a front of its entries leads there, and it said and got nothing behind that; one that stands is read as it is
pub record IsAsItStood (g : Setting) (es : List Entry) (e : End) : Type 0 where
  pub before : List Entry
  pub behind : List Entry
  pub journal : es ≡ before ++ behind
  pub leads : Leads g before e.last
  pub up : stands e.last.side ≡ true
  pub said : e.now.said ≡ e.last.said
  pub got : e.now.got ≡ e.last.got
  pub current : stands e.now.side ≡ true → e.last ≡ e.now

abbrev pub moved_by : End → Option Told → Option End
moved_by e None = None
moved_by e (Some x) = Some (moved e x)

-- ---- the world

pub record World : Type 0 where
  pub a : End
  pub b : End

abbrev pub opening_world : Settings → World
opening_world g = record { a = at_first (of_a g); b = at_first (of_b g) }

-- the bytes that the one drained and the other was not fed
unfoldable pub pipe : (from to : Told) → List ℕ
pipe x y = drop (length y.bytes_in) x.bytes_out

-- what an entry feeds is next in the pipe; other entries feed nothing
abbrev pub may_come : (from to : Told) → Entry → Bool
may_come x y e = bytes_eq (bytes_fed e) (take (length (bytes_fed e)) (pipe x y))

-- ---- steps

-- an entry of one of the two
pub record Event : Type 0 where
  pub side : Side
  pub entry : Entry

-- an end after an entry, where the other is as it is; none where it may not stand
unfoldable pub acts : Setting → (one other : End) → Entry → Option End
acts g one other e = if may_come other.now one.now e then moved_by one (tells g one.now e) else None

abbrev pub with_a : World → Option End → Option World
with_a w None = None
with_a w (Some e) = Some (record w { a = e })

abbrev pub with_b : World → Option End → Option World
with_b w None = None
with_b w (Some e) = Some (record w { b = e })

unfoldable pub happens : Settings → World → Event → Option World
happens g w event = at event.side event.entry
  where
    at : Side → Entry → Option World
    at A e = with_a w (acts (of_a g) w.a w.b e)
    at B e = with_b w (acts (of_b g) w.b w.a e)

-- events one after the other; nothing where one of them may not stand
unfoldable pub happen_all : Settings → Option World → List Event → Option World
happen_all g None es = None
happen_all g (Some w) [] = Some w
happen_all g (Some w) (e ∷ es) = happen_all g (happens g w e) es

-- a history leads to a world
abbrev pub Runs : Settings → List Event → World → Type 0
Runs g es w = happen_all g (Some (opening_world g)) es ≡ Some w

-- the entries of one side, in order
abbrev pub is_at : (one which : Side) → Bool
is_at A A = true
is_at B B = true
is_at A B = false
is_at B A = false

unfoldable pub entries_of : Side → List Event → List Entry
entries_of s [] = []
entries_of s (e ∷ es) = if is_at s e.side then e.entry ∷ entries_of s es else entries_of s es
