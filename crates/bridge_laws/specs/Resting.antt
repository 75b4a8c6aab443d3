-- What an entry leaves as it was, beside what its own equation changes.
use Rattle.std.specs.Prelude.{◌≡◌}
use Rattle.bridge_model.specs.Entries.{Entry, fed, ended, failed, asked, called, queried, made, dropped, applied, took, reaped, drained, disposed, full, no_memory}
use Rattle.bridge_model.specs.Sides.{Side}

-- the living objects, and how many were made
pub record SameObjects (s u : Side) : Type 0 where
  pub living : u.tables.objects ≡ s.tables.objects
  pub made : u.tables.objects_made ≡ s.tables.objects_made

-- the stacks, and how many frames began
pub record SameFrames (s u : Side) : Type 0 where
  pub stacks : u.stacks ≡ s.stacks
  pub made : u.tables.frames_made ≡ s.tables.frames_made

-- the messages that are not spelled, and the bytes that are not drained
pub record SameSaid (s u : Side) : Type 0 where
  pub unsaid : u.tables.unsaid ≡ s.tables.unsaid
  pub outgoing : u.outgoing ≡ s.outgoing

-- what came in, the bytes that are not drained, and whether the bridge stands
pub record SameBridge (s u : Side) : Type 0 where
  pub incoming : u.incoming ≡ s.incoming
  pub outgoing : u.outgoing ≡ s.outgoing
  pub cause : u.cause ≡ s.cause

-- who holds what, and what was sent
pub record SamePairs (s u : Side) : Type 0 where
  pub holdings : u.tables.holdings ≡ s.tables.holdings
  pub stubs : u.tables.stubs ≡ s.tables.stubs

-- an end of the bridge
pub record SameAtEnd (s u : Side) : Type 0 where
  pub objects : SameObjects s u
  pub frames : u.tables.frames_made ≡ s.tables.frames_made
  pub said : SameSaid s u

-- a call that a root begins
pub record SameAtCall (s u : Side) : Type 0 where
  pub objects : SameObjects s u
  pub bridge : SameBridge s u

-- a new object of a root
pub record SameAtMaking (s u : Side) : Type 0 where
  pub frames : SameFrames s u
  pub said : SameSaid s u
  pub stubs : u.tables.stubs ≡ s.tables.stubs
  pub roots : u.tables.roots ≡ s.tables.roots
  pub bridge : SameBridge s u

-- a reference that a root lets go
pub record SameAtDropping (s u : Side) : Type 0 where
  pub objects : SameObjects s u
  pub frames : SameFrames s u
  pub roots : u.tables.roots ≡ s.tables.roots
  pub bridge : SameBridge s u

-- an outcome that is taken
pub record SameAtTaking (s u : Side) : Type 0 where
  pub objects : SameObjects s u
  pub frames : SameFrames s u
  pub pairs : SamePairs s u
  pub said : SameSaid s u
  pub bridge : SameBridge s u

-- an object that goes
pub record SameAtReaping (s u : Side) : Type 0 where
  pub made : u.tables.objects_made ≡ s.tables.objects_made
  pub frames : SameFrames s u
  pub roots : u.tables.roots ≡ s.tables.roots
  pub bridge : SameBridge s u

-- bytes that go out
pub record SameAtDraining (s u : Side) : Type 0 where
  pub objects : SameObjects s u
  pub frames : SameFrames s u
  pub pairs : SamePairs s u
  pub roots : u.tables.roots ≡ s.tables.roots
  pub incoming : u.incoming ≡ s.incoming
  pub cause : u.cause ≡ s.cause

-- want of memory
pub record SameWithoutMemory (s u : Side) : Type 0 where
  pub objects : SameObjects s u
  pub frames : u.tables.frames_made ≡ s.tables.frames_made

-- bytes and statements may change all but the bytes that wait to go out
abbrev pub KeepsTheRest : Entry → Side → Side → Type 0
KeepsTheRest (fed b) s u = u.outgoing ≡ s.outgoing
KeepsTheRest ended s u = SameAtEnd s u
KeepsTheRest failed s u = SameAtEnd s u
KeepsTheRest (asked root name wanted) s u = SameAtCall s u
KeepsTheRest (called root oid face function args) s u = SameAtCall s u
KeepsTheRest (queried root oid face wanted) s u = SameAtCall s u
KeepsTheRest (made root behaviour wanted) s u = SameAtMaking s u
KeepsTheRest (dropped root oid face) s u = SameAtDropping s u
KeepsTheRest (applied tid) s u = u.outgoing ≡ s.outgoing
KeepsTheRest (took root) s u = SameAtTaking s u
KeepsTheRest (reaped object) s u = SameAtReaping s u
KeepsTheRest (drained b) s u = SameAtDraining s u
KeepsTheRest disposed s u = SameAtEnd s u
KeepsTheRest full s u = SameAtEnd s u
KeepsTheRest no_memory s u = SameWithoutMemory s u
