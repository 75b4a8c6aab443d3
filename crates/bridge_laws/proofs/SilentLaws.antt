-- A step of a bridge that has ended brings no message and says none.
use Rattle.std.proofs.Common.{◌≡◌, refl, ◌∙◌, ℕ, zero, suc, true, false, not, List, [], ◌∷◌, length, drop, Option, None, Some}
use Rattle.message_model.specs.Messages.{Message}
use Rattle.uno_model.specs.Values.{Ref, null, own, peer}
use Rattle.table_model.specs.declared.holder.Holder.{Holder}
use Rattle.table_model.specs.declared.holder.Holder.TheVariants as holder
use Rattle.plan_model.specs.Frames.{Stack, frames_of}
use Rattle.bridge_model.specs.Ends.{runs_out}
use Rattle.bridge_model.specs.Entries.{Entry, fed, ended, failed, asked, called, queried, made, dropped, applied, took, reaped, drained, disposed, full, no_memory}
use Rattle.bridge_model.specs.Going.{drains, reaps}
use Rattle.bridge_model.specs.Objects.{lowest, without_object}
use Rattle.bridge_model.specs.References.{loses, loses_all, refs_of_values}
use Rattle.bridge_model.specs.Roots.{root_drops, root_takes}
use Rattle.bridge_model.specs.Settings.{Setting, ref_of}
use Rattle.bridge_model.specs.Sides.{Object, Tables, Side, stands}
use Rattle.bridge_model.specs.Steps.{picked, picked_in, reaps_some, does, may, turn, has_entries, is_picked}
use Rattle.bridge_model.specs.declared.cause.Cause.{Cause}
use Rattle.bridge_laws.specs.Ended.{IsQuiet, StaysEnded}
use Rattle.bridge_laws.proofs.EndedLaws.{clash, first_holds, second_holds}

-- ---- what goes silently

lost : (h : Holder) (r : Ref) (t : Tables) → (loses h r t).unsaid ≡ t.unsaid
lost h null t = refl
lost h (own oid face) t = refl
lost h (peer oid face) t = refl

all_lost : (h : Holder) (rs : List Ref) (t : Tables) → (loses_all h rs t).unsaid ≡ t.unsaid
unfolding loses_all
all_lost h [] t = refl
all_lost h (r ∷ rs) t = all_lost h rs (loses h r t) ∙ lost h r t

dropped_silently : (g : Setting) (root : ℕ) (oid face : List ℕ) (s : Side) → stands s ≡ false → (root_drops g root oid face s).tables.unsaid ≡ s.tables.unsaid
unfolding root_drops
dropped_silently g root oid face s is = rw is (lost (holder.Root root) (ref_of g oid face) s.tables)

reaped_silently : (g : Setting) (o : Option Object) (s : Side) → stands s ≡ false → (reaps_some g o s).tables.unsaid ≡ s.tables.unsaid
unfolding reaps
reaped_silently g None s is = refl
reaped_silently g (Some o) s is =
    rw is (all_lost (holder.Object o.number) (refs_of_values o.fields) (record s.tables { objects = without_object o.number s.tables.objects }))

nothing_behind : {X : Type 0} (xs : List X) → drop (length xs) xs ≡ []
nothing_behind [] = refl
nothing_behind (x ∷ xs) = nothing_behind xs

said_nothing : (before after : List Message) → after ≡ before → drop (length before) after ≡ []
said_nothing before after same = rw same (nothing_behind before)

-- ---- steps

no_stack : (tid : List ℕ) (ss : List Stack) → ss ≡ [] → is_picked (picked_in (frames_of tid ss)) ≡ true → ⊥
unfolding frames_of
no_stack tid [] none there = absurd (cc)
no_stack tid (x ∷ ss) none there = absurd (cc)

out_ends : (why : Option Cause) (s : Side) → s.cause ≡ why → stands s ≡ false → stands (runs_out why s) ≡ false
unfolding runs_out
out_ends None s is not_standing = clash (stands s) (rw is refl) not_standing
out_ends (Some why) s is not_standing = refl

no_more : {X : Type 0} (n : ℕ) → drop {A = X} n [] ≡ []
no_more zero = refl
no_more (suc n) = refl

-- nothing is said where all is forgotten
out_silent : (why : Option Cause) (s : Side) → drop (length s.tables.unsaid) (runs_out why s).tables.unsaid ≡ []
unfolding runs_out
out_silent None s = no_more (length s.tables.unsaid)
out_silent (Some why) s = no_more (length s.tables.unsaid)

out_stacks : (why : Option Cause) (s : Side) → s.cause ≡ why → stands s ≡ false → (runs_out why s).stacks ≡ s.stacks
unfolding runs_out
out_stacks None s is not_standing = clash (stands s) (rw is refl) not_standing
out_stacks (Some why) s is not_standing = refl

reaped_ends : (g : Setting) (o : Option Object) (s : Side) → stands s ≡ false → stands (reaps_some g o s) ≡ false
unfolding reaps
reaped_ends g None s is = is
reaped_ends g (Some o) s is = is

reaped_stacks : (g : Setting) (o : Option Object) (s : Side) → (reaps_some g o s).stacks ≡ s.stacks
unfolding reaps
reaped_stacks g None s = refl
reaped_stacks g (Some o) s = refl

-- what has ended stays so
pub stays_ended : (g : Setting) (e : Entry) (s : Side) → IsQuiet s → stands s ≡ false → may g s e ≡ true → StaysEnded (turn e s (does g e s))
unfolding does may picked root_takes root_drops drains
stays_ended g (fed b) s quiet is it = clash (stands s) (first_holds (stands s) _ it) is
stays_ended g ended s quiet is it = clash (stands s) it is
stays_ended g failed s quiet is it = clash (stands s) it is
stays_ended g (asked root name wanted) s quiet is it = clash (stands s) (first_holds (stands s) _ it) is
stays_ended g (called root oid face function args) s quiet is it = clash (stands s) (first_holds (stands s) _ it) is
stays_ended g (queried root oid face wanted) s quiet is it = clash (stands s) (first_holds (stands s) _ it) is
stays_ended g (made root behaviour wanted) s quiet is it = clash (stands s) (first_holds (stands s) _ it) is
stays_ended g (dropped root oid face) s quiet is it =
    record { ended = is; quiet = quiet is; got = refl; said = said_nothing s.tables.unsaid _ (dropped_silently g root oid face s is) }
stays_ended g (applied tid) s quiet is it = absurd (no_stack tid s.stacks (quiet is) (second_holds (not (has_entries s)) _ it))
stays_ended g (took root) s quiet is it = record { ended = is; quiet = quiet is; got = refl; said = nothing_behind s.tables.unsaid }
stays_ended g (reaped object) s quiet is it =
    record {
      ended = reaped_ends g (lowest g s.tables) s is;
      quiet = reaped_stacks g (lowest g s.tables) s ∙ quiet is;
      got = refl;
      said = said_nothing s.tables.unsaid _ (reaped_silently g (lowest g s.tables) s is);
    }
stays_ended g (drained b) s quiet is it = record { ended = is; quiet = quiet is; got = refl; said = refl }
stays_ended g disposed s quiet is it = clash (stands s) it is
stays_ended g full s quiet is it = clash (stands s) (first_holds (stands s) _ it) is
stays_ended g no_memory s quiet is it =
    record {
      ended = out_ends s.cause s refl is;
      quiet = out_stacks s.cause s refl is ∙ quiet is;
      got = refl;
      said = out_silent s.cause s;
    }
