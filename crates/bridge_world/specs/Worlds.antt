-- What always holds of two ends that are joined: they have one registry; their marks are the places of their entries in one history; and the bytes between them are those that the one
-- drained and the other was not fed, all that was fed having been next of them.
use Rattle.std.specs.Prelude.{◌≡◌, ℕ, List}
use Rattle.bridge_endpoint.specs.Journals.{Endpoint, setting_at}
use Rattle.world_laws.specs.Linking.{ArePiped}
use Rattle.world_laws.specs.Merging.{AreMerged}
use Rattle.bridge_world.specs.Joined.{joined, settings_of}

pub record IsWorld (a b : Endpoint) (to_a to_b : List ℕ) : Type 0 where
  pub registry : (setting_at b).registry ≡ (setting_at a).registry
  pub merged : AreMerged (joined a b).events a.entries b.entries a.stamps b.stamps
  pub piped : ArePiped (settings_of (joined a b)) (joined a b).events to_a to_b
