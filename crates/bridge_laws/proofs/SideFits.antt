-- A side of which all may be said.
use Rattle.std.specs.Prelude.{ℕ, ◌≤◌, List, None, length}
use Rattle.std.specs.List.{AllByRecursion}
use Rattle.message_model.specs.Arriving.{IsHeard}
use Rattle.message_model.specs.Sayable.{IsThread}
use Rattle.plan_model.specs.Frames.{Stack}
use Rattle.plan_model.specs.Plans.{first_objects}
use Rattle.bridge_laws.specs.Grounded.{AreApart}
use Rattle.bridge_model.specs.Settings.{Setting}
use Rattle.bridge_model.specs.Sides.{Object, Tables, Incoming, Side}
use Rattle.bridge_laws.proofs.FramesFit.{FramesFit}
use Rattle.bridge_laws.proofs.ObjectsFit.{ObjectsFit}
use Rattle.bridge_laws.proofs.TablesFit.{TablesFit}

pub record StackFits (g : Setting) (os : List Object) (x : Stack) : Type 0 where
  pub thread : IsThread x.tid
  pub frames : FramesFit g os None x.frames

-- objects, tables and stacks that fit, what is remembered of the peer's messages, and how many objects were made at most
pub record Sided (g : Setting) (most : ℕ) (t : Tables) (ss : List Stack) (incoming : Incoming) : Type 0 where
  pub os : List Object
  pub made : ℕ
  pub objects : ObjectsFit g os made
  pub tables : TablesFit g os made t
  pub stacks : AllByRecursion (StackFits g os) ss
  pub apart : AreApart ss
  pub heard : IsHeard g.registry incoming.heard
  pub opened : length (first_objects g.plan) ≤ made
  pub counted : made ≤ most

abbrev pub SideFits : Setting → ℕ → Side → Type 0
SideFits g most s = Sided g most s.tables s.stacks s.incoming
