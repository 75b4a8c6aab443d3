-- Room behind each entry: one that takes no memory leaves one place fewer needed, and any other needs no more than it brings.
use Rattle.std.proofs.Common.{◌≡◌, ℕ, suc, ◌+◌, ◌≤◌, ◌<◌, ◌^◌, Bool, true, false, List, length, replicate, refl, ap, arith}
use Rattle.std.proofs.lemmas.Bool.{and_parts, false≢true}
use Rattle.plan_model.specs.Plans.{first_objects}
use Rattle.bridge_model.specs.Entries.{Entry, fed, ended, failed, asked, called, queried, made, dropped, applied, took, reaped, drained, disposed, full, no_memory, counts}
use Rattle.bridge_model.specs.Going.{drains}
use Rattle.bridge_model.specs.Histories.{Told, Leads}
use Rattle.bridge_model.specs.Settings.{Setting}
use Rattle.bridge_model.specs.Sides.{Side, stands, idle}
use Rattle.bridge_model.specs.Steps.{no_objects, opening, may, does, counted}
use Rattle.bridge_model.specs.declared.cause.Cause.TheVariants as cause
use Rattle.bridge_laws.specs.Ended.{IsQuiet}
use Rattle.bridge_laws.specs.Grounded.{HasRoots}
use Rattle.bridge_laws.proofs.RootStateLaws.{stay_makes_all}
use Rattle.bridge_laws.proofs.RootedLaws.{has_roots}
use Rattle.bridge_laws.proofs.StepLaws.{quiet_along}
use Rattle.bridge_laws.proofs.TellingLaws.{all_allowed}
use Rattle.bridge_laws.specs.Room.{root_holds, open_roots, needed, is_free, brought}
use Rattle.bridge_laws.proofs.ByteRoom.{feeds_needed}
use Rattle.bridge_laws.proofs.EntryRoom.{calls_needed, asks_needed, queries_needed, makes_needed, drops_needed, takes_needed, reaps_needed}
use Rattle.bridge_laws.proofs.RootRoom.{open_none}
use Rattle.bridge_laws.proofs.SideRoom.{needed_is, ended_less, out_less, applied_needed}
use Rattle.bridge_laws.proofs.TableRoom.{kept, makes_all_kept}

-- ---- the beginning

nothing_kept : (g : Setting) → kept (no_objects g.plan) ≡ 0
unfolding kept root_holds
nothing_kept g = refl

pub opening_needed : (g : Setting) → needed (opening g) ≡ 2 + length (first_objects g.plan)
unfolding opening
opening_needed g =
    let all = needed_is (opening g) in
    let objects = makes_all_kept g (first_objects g.plan) (no_objects g.plan) in
    let nothing = nothing_kept g in
    let roots : open_roots (opening g).tables.roots ≡ open_roots (replicate (length g.plan.threads) idle) = ap open_roots (stay_makes_all g (first_objects g.plan) (no_objects g.plan)) in
    let none = open_none (length g.plan.threads) in omega arith

-- ---- entries that have their room

pub free_needed : (g : Setting) (s : Side) (e : Entry) → may g s e ≡ true → is_free e ≡ true → suc (needed (does g e s).side) ≤ needed s
unfolding may does
free_needed g s ended is free = ended_less cause.Ended s refl is
free_needed g s failed is free = ended_less cause.Failed s refl is
free_needed g s (dropped root oid face) is free = drops_needed g root oid face s is
free_needed g s (took root) is free = takes_needed root s is
free_needed g s (reaped object) is free = reaps_needed g object s is
free_needed g s disposed is free = ended_less cause.Disposed s refl is
free_needed g s full is free = ended_less cause.Full s refl (and_parts (stands s) _ is).0
free_needed g s no_memory is free = out_less s.cause s refl is
free_needed g s e is free = absurd (false≢true free)

-- ---- other entries

drained_needed : (g : Setting) (n : ℕ) (s : Side) → needed (drains g n s) ≡ needed s
unfolding drains needed
drained_needed g n s = refl

pub entry_needed : (g : Setting) (s : Side) (e : Entry) → length g.plan.threads < 2 ^ 64 → HasRoots g s → IsQuiet s → may g s e ≡ true
    → needed (does g e s).side ≤ needed s + brought g s e
unfolding may does brought
entry_needed g s (fed b) few all quiet is = feeds_needed g few b s (and_parts (stands s) _ is).0 all
entry_needed g s (asked root name wanted) few all quiet is = asks_needed g root name wanted s
entry_needed g s (called root oid face function args) few all quiet is = calls_needed g root oid face function args s
entry_needed g s (queried root oid face wanted) few all quiet is = queries_needed g root oid face wanted s
entry_needed g s (made root behaviour wanted) few all quiet is = makes_needed g root behaviour wanted s
entry_needed g s (applied tid) few all quiet is = applied_needed g tid s quiet all
entry_needed g s (drained b) few all quiet is = let same = drained_needed g (length b) s in omega arith
entry_needed g s ended few all quiet is = let less = free_needed g s ended is refl in omega arith
entry_needed g s failed few all quiet is = let less = free_needed g s failed is refl in omega arith
entry_needed g s (dropped root oid face) few all quiet is = let less = free_needed g s (dropped root oid face) is refl in omega arith
entry_needed g s (took root) few all quiet is = let less = free_needed g s (took root) is refl in omega arith
entry_needed g s (reaped object) few all quiet is = let less = free_needed g s (reaped object) is refl in omega arith
entry_needed g s disposed few all quiet is = let less = free_needed g s disposed is refl in omega arith
entry_needed g s full few all quiet is = let less = free_needed g s full is refl in omega arith
entry_needed g s no_memory few all quiet is = let less = free_needed g s no_memory is refl in omega arith

-- of each history
pub told_needed : (g : Setting) (es : List Entry) (x : Told) (e : Entry) → length g.plan.threads < 2 ^ 64 → Leads g es x → may g x.side e ≡ true
    → needed (does g e x.side).side ≤ needed x.side + brought g x.side e
told_needed g es x e few leads is =
    entry_needed g x.side e few (has_roots g es x (record { roots = (all_allowed g es x leads).roots; few = few }) leads) (quiet_along g es x leads) is

-- ---- the step

counted_by : (e : Entry) (s : Side) (b : Bool) → counts e ≡ b → needed (counted e s) ≡ needed s
unfolding needed
counted_by e s true is = rw is refl
counted_by e s false is = rw is refl

-- that an entry is counted changes nothing of it
pub counted_needed : (e : Entry) (s : Side) → needed (counted e s) ≡ needed s
counted_needed e s = counted_by e s (counts e) refl
