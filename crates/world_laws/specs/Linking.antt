-- What holds of a history of two ends that are joined, and of the bytes on their way.
use Rattle.std.specs.Prelude.{◌≡◌, ℕ, List, [], ◌++◌, Some}
use Rattle.bridge_model.specs.Histories.{Told, Leads}
use Rattle.bridge_laws.specs.SpellableGiving.{AreGivenByRoots}
use Rattle.bridge_laws.specs.Giving.{RootsGive}
use Rattle.world_laws.specs.Kept.{BothKeep}
use Rattle.world_laws.specs.Ready.{AreReady, BothGiveWell}
use Rattle.world_model.specs.Worlds.{Settings, of_a, of_b, World, pipe, Event, entries_of, happen_all, Runs}
use Rattle.world_model.specs.declared.side.Side.TheVariants.{A, B}
use Rattle.world_laws.specs.Merging.{bytes_in, bytes_out, EachFeedsNext}

-- the ends are ready; what their roots gave can be carried; what was fed was next on its way; and what the one drained is what the other was fed, and what is on its way to it
pub record ArePiped (g : Settings) (es : List Event) (to_a to_b : List ℕ) : Type 0 where
  pub ready : AreReady g
  pub given_a : AreGivenByRoots (entries_of A es)
  pub given_b : AreGivenByRoots (entries_of B es)
  pub comes : EachFeedsNext [] es
  pub piped_a : bytes_out (entries_of B es) ≡ bytes_in (entries_of A es) ++ to_a
  pub piped_b : bytes_out (entries_of A es) ≡ bytes_in (entries_of B es) ++ to_b

-- and each end is where its own entries lead, and its roots gave what they may: as an endpoint knows it of itself
pub record AreTwoEnds (g : Settings) (es : List Event) (x y : Told) (to_a to_b : List ℕ) : Type 0 where
  pub piped : ArePiped g es to_a to_b
  pub leads_a : Leads (of_a g) (entries_of A es) x
  pub leads_b : Leads (of_b g) (entries_of B es) y
  pub gives_a : RootsGive (of_a g) (entries_of A es)
  pub gives_b : RootsGive (of_b g) (entries_of B es)

-- from a world on, events lead to one in which so much was told at each end
pub record LeadsTo (g : Settings) (w : World) (es : List Event) (x y : Told) : Type 0 where
  pub world : World
  pub runs : happen_all g (Some w) es ≡ Some world
  pub a : world.a.now ≡ x
  pub b : world.b.now ≡ y

-- the entries of both are one history of the definition of two joined ends: it leads each of them to where it is; the bytes on their way are those in its pipes; and at each moment
-- of it both keep what two joined ends keep
pub record IsOneHistory (g : Settings) (es : List Event) (x y : Told) (to_a to_b : List ℕ) : Type 0 where
  pub world : World
  pub runs : Runs g es world
  pub a : world.a.now ≡ x
  pub b : world.b.now ≡ y
  pub pipe_a : pipe y x ≡ to_a
  pub pipe_b : pipe x y ≡ to_b
  pub well : BothGiveWell g es
  pub keeps : (front behind : List Event) → es ≡ front ++ behind → (w : World) → Runs g front w → BothKeep g front w
