-- References that are fine: told as own or foreign by their identity, under an interface of the registry, and of an object that lives and supports it.
use Rattle.std.specs.Prelude.{ℕ, Bool, not, ◌&&◌, List}
use Rattle.uno_model.specs.Entities.{Entity}
use Rattle.uno_model.specs.Fits.{is_identity}
use Rattle.uno_model.specs.Kinds as kd
use Rattle.uno_model.specs.Types.{is_type}
use Rattle.uno_model.specs.Values.{Ref, null, own, peer}
use Rattle.bridge_model.specs.Objects.{object_supports}
use Rattle.bridge_model.specs.Settings.{Setting, is_own}
use Rattle.bridge_model.specs.Sides.{Object}
use Rattle.bridge_laws.specs.Counting.{one_if}

-- an identity, and an interface of the registry
unfoldable pub is_well : List Entity → (oid face : List ℕ) → Bool
is_well reg oid face = is_identity oid && is_type reg (kd.interface face)

-- an object of this end, which lives and supports the interface
unfoldable pub is_fine_own : Setting → List Object → (oid face : List ℕ) → Bool
is_fine_own g os oid face = is_own g oid && (is_well g.registry oid face && object_supports g oid face os)

-- an object of the peer's
unfoldable pub is_fine_peer : Setting → (oid face : List ℕ) → Bool
is_fine_peer g oid face = not (is_own g oid) && is_well g.registry oid face

-- 1 for a reference that is not fine
unfoldable pub wrong : Setting → List Object → Ref → ℕ
wrong g os null = 0
wrong g os (own oid face) = one_if (not (is_fine_own g os oid face))
wrong g os (peer oid face) = one_if (not (is_fine_peer g oid face))
