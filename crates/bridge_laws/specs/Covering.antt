-- What frames and objects have: each reference in a frame's variables, its own object, and each reference in an object's fields.
use Rattle.std.specs.Prelude.{ℕ, ◌+◌, ◌≤◌, List, [], ◌∷◌}
use Rattle.uno_model.specs.Values.{Ref, null, own, peer}
use Rattle.table_model.specs.Holdings.{Hold, hold, hold_cmp}
use Rattle.table_model.specs.Bags.{how_often}
use Rattle.table_model.specs.Pair.{pair}
use Rattle.table_model.specs.declared.holder.Holder.{Holder}
use Rattle.table_model.specs.declared.holder.Holder.TheVariants as holder
use Rattle.plan_model.specs.Frames.{Frame, base, body, outgoing, Stack}
use Rattle.plan_model.specs.Holdings.{let_go_at_end}
use Rattle.bridge_model.specs.References.{refs_of_values}
use Rattle.bridge_model.specs.Settings.{Setting, own_oid}
use Rattle.bridge_model.specs.Sides.{Object, Side}
use Rattle.bridge_laws.specs.Counting.{total}

-- occurrences of references with a holder
abbrev pub holds_of : Holder → List Ref → List Hold
holds_of h [] = []
holds_of h (null ∷ rs) = holds_of h rs
holds_of h (own oid face ∷ rs) = hold h (pair oid face) ∷ holds_of h rs
holds_of h (peer oid face ∷ rs) = hold h (pair oid face) ∷ holds_of h rs

-- what a method has is what it lets go when it ends
abbrev pub frame_holds : Setting → Frame → List Hold
frame_holds g (base root) = []
frame_holds g (body b) = holds_of (holder.Frame b.number) (let_go_at_end (own_oid g b.object) b)
frame_holds g (outgoing o) = []

abbrev pub object_holds : Object → List Hold
object_holds o = holds_of (holder.Object o.number) (refs_of_values o.fields)

-- how often frames and objects have an occurrence
abbrev pub frames_owe : Setting → Hold → List Frame → ℕ
frames_owe g h fs = total (λ f. how_often hold_cmp h (frame_holds g f)) fs

abbrev pub stacks_owe : Setting → Hold → List Stack → ℕ
stacks_owe g h ss = total (λ s. frames_owe g h s.frames) ss

abbrev pub objects_owe : Hold → List Object → ℕ
objects_owe h os = total (λ o. how_often hold_cmp h (object_holds o)) os

-- the holdings have each occurrence at least as often
abbrev pub AreCovered : Setting → Side → Type 0
AreCovered g s = (h : Hold) → stacks_owe g h s.stacks + objects_owe h s.tables.objects ≤ how_often hold_cmp h s.tables.holdings
