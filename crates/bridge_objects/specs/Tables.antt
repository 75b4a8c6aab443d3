-- What is kept here of the tables of an end.
use Rattle.std.specs.Prelude.{length, List, [], ◌∷◌}
use Rattle.uno_model.specs.Values.{Ref, null, own, peer}
use Rattle.table_model.specs.Holdings.{hold}
use Rattle.table_model.specs.Pair.{pair}
use Rattle.table_model.specs.declared.holder.Holder.{Holder}
use Rattle.plan_model.specs.Plans.{first_objects}
use Rattle.bridge_model.specs.Settings.{Setting, prefix}
use Rattle.bridge_model.specs.Sides.{Tables}
use Rattle.bridge_objects.specs.Kept.{Kept, with_hold, without_hold}

-- what is kept of them
abbrev pub kept_of : Setting → Tables → Kept
kept_of g t = record { prefix = prefix g; first = length (first_objects g.plan); objects = t.objects; objects_made = t.objects_made; holdings = t.holdings; stubs = t.stubs }

-- the tables with what is kept in the place of theirs
abbrev pub with_kept : Kept → Tables → Tables
with_kept k t = record t { objects = k.objects; objects_made = k.objects_made; holdings = k.holdings; stubs = k.stubs }

-- one occurrence more of a reference, and of each of several
abbrev pub gained : Holder → Ref → Kept → Kept
gained h null k = k
gained h (own oid face) k = with_hold (hold h (pair oid face)) k
gained h (peer oid face) k = with_hold (hold h (pair oid face)) k

unfoldable pub gained_all : Holder → List Ref → Kept → Kept
gained_all h [] k = k
gained_all h (r ∷ rs) k = gained_all h rs (gained h r k)

-- one occurrence less
abbrev pub lost : Holder → Ref → Kept → Kept
lost h null k = k
lost h (own oid face) k = without_hold (hold h (pair oid face)) k
lost h (peer oid face) k = without_hold (hold h (pair oid face)) k

unfoldable pub lost_all : Holder → List Ref → Kept → Kept
lost_all h [] k = k
lost_all h (r ∷ rs) k = lost_all h rs (lost h r k)
