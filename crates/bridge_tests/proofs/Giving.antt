-- What a root may give: its thread is well formed.
use Rattle.std.proofs.Common.{ℕ, ◌≤◌, ◌<◌, ◌^◌, length, arith}
use Rattle.message_model.specs.Sayable.{IsThread}
use Rattle.bridge_model.specs.Settings.{Setting, root_tid}
use Rattle.bridge_laws.proofs.TableLaws.{thread_named}

pub root_thread : (g : Setting) (root : ℕ) → length g.tag ≤ 32 → root < 2 ^ 32 → IsThread (root_tid g root)
root_thread g root short small = thread_named g root short (omega arith)
