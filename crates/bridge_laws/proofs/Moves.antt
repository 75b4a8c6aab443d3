-- What an effect leaves: objects of which at most one is new, and frames and tables that fit with them.
use Rattle.std.specs.Prelude.{ℕ, suc, ◌≤◌, List, None}
use Rattle.bridge_model.specs.Calls.{Unwound}
use Rattle.bridge_model.specs.Settings.{Setting}
use Rattle.bridge_model.specs.Sides.{Object}
use Rattle.bridge_laws.proofs.FramesFit.{FramesFit}
use Rattle.bridge_laws.proofs.ObjectsFit.{ObjectsFit, Lasts}
use Rattle.bridge_laws.proofs.TablesFit.{TablesFit}

pub record Moves (g : Setting) (os : List Object) (made : ℕ) (u : Unwound) : Type 0 where
  pub now : List Object
  pub count : ℕ
  pub lasts : Lasts g os now
  pub least : made ≤ count
  pub most : count ≤ suc made
  pub objects : ObjectsFit g now count
  pub frames : FramesFit g now None u.frames
  pub tables : TablesFit g now count u.tables
