-- Tables of which all may be said: each pair that is held is fine, each that was sent out is supported, and each message that is said can be.
use Rattle.std.specs.Prelude.{◌≡◌, ℕ, Bool, not, ◌||◌, List}
use Rattle.message_model.specs.Messages.{Message}
use Rattle.table_model.specs.Bags.{how_many}
use Rattle.table_model.specs.Holdings.{Holdings}
use Rattle.table_model.specs.Pair.{Pair}
use Rattle.table_model.specs.Stubs.{Stubs}
use Rattle.bridge_model.specs.Objects.{object_supports}
use Rattle.bridge_model.specs.Settings.{Setting}
use Rattle.bridge_model.specs.Sides.{Object, Tables}
use Rattle.bridge_laws.specs.Telling.{AreRightlySaid}
use Rattle.bridge_laws.proofs.Fine.{is_fine_own, is_fine_peer}

abbrev pub is_wrong_pair : Setting → List Object → Pair → Bool
is_wrong_pair g os p = not (is_fine_own g os p.oid p.face || is_fine_peer g p.oid p.face)

unfoldable pub held_wrong : Setting → List Object → Holdings → ℕ
held_wrong g os hs = how_many (λ h. is_wrong_pair g os h.pair) hs

abbrev pub is_unsupported : Setting → List Object → Pair → Bool
is_unsupported g os p = not (object_supports g p.oid p.face os)

unfoldable pub sent_wrong : Setting → List Object → Stubs → ℕ
sent_wrong g os stubs = how_many (λ row. is_unsupported g os row.0) stubs

-- the objects are these, and so many were made
pub record Table (g : Setting) (os : List Object) (made : ℕ) (objects : List Object) (count : ℕ) (hs : Holdings) (stubs : Stubs) (unsaid : List Message) : Type 0 where
  pub same : objects ≡ os
  pub counted : count ≡ made
  pub held : held_wrong g os hs ≡ 0
  pub sent : sent_wrong g os stubs ≡ 0
  pub sayable : AreRightlySaid g unsaid

abbrev pub TablesFit : Setting → List Object → ℕ → Tables → Type 0
TablesFit g os made t = Table g os made t.objects t.objects_made t.holdings t.stubs t.unsaid
