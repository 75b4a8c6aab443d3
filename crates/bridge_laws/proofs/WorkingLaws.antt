-- One step of the order, and where an end stands that works in it.
use Rattle.std.proofs.Common.{◌≡◌, refl, sym, ap, subst, ◌∙◌, ℕ, zero, suc, ◌+◌, true, false, ◌||◌, List, [], ◌∷◌, ◌++◌, length, drop, None, Some, arith}
use Rattle.plan_model.specs.Roots.{Run}
use Rattle.bridge_model.specs.Answers.{ready_at, may_reap, drained_next, next_cut}
use Rattle.bridge_model.specs.Entries.{Entry, fed, ended, applied, reaped, drained, full}
use Rattle.bridge_model.specs.Histories.{Told, tells}
use Rattle.bridge_model.specs.Orders.{Working, begins_work, root_move, enters, or_full, feeds_next, after_draining, drains_next, most_drained, reaps_next, roots_next, applies_next, works_once, goes_on_working, works}
use Rattle.bridge_model.specs.Settings.{Setting}
use Rattle.bridge_model.specs.Sides.{stands}
use Rattle.bridge_model.specs.Steps.{has_entries, has_fed}
use Rattle.bridge_laws.specs.Working.{Reaches, at_first, at_next, AllIsDone, PartIsFed, StandsAt, IsInOrder, IsDone}
use Rattle.bridge_laws.proofs.PartLaws.{behind, part_is_told}

abbrev pub here : Told → List Run → List ℕ → Working
here t runs rest = record { told = t; runs = runs; rest = rest }

-- ---- steps

pub reaches_first : (g : Setting) (bytes : List ℕ) → Reaches g bytes (begins_work g bytes)
reaches_first g bytes = at_first

-- a step more leads on
pub reaches_on : (g : Setting) (bytes : List ℕ) (w v : Working) → Reaches g bytes w → works_once g w ≡ Some v → Reaches g bytes v
reaches_on g bytes w v there is = at_next there is

works_on : (more : ℕ) (g : Setting) (w v : Working) → works_once g w ≡ Some v → works (suc more) g w ≡ works more g v
unfolding works
works_on more g w v is = ap (goes_on_working (works more g) w) is

-- so many steps lead from the beginning to here
record InSteps (g : Setting) (bytes : List ℕ) (w : Working) : Type 0 where
  pub steps : ℕ
  pub leads : (more : ℕ) → works (steps + more) g (begins_work g bytes) ≡ works more g w

one_more : (g : Setting) (bytes : List ℕ) (w v : Working) → InSteps g bytes w → works_once g w ≡ Some v → InSteps g bytes v
one_more g bytes w v there is = record { steps = suc there.steps; leads = λ more. leads_on more }
  where
    leads_on : (more : ℕ) → works (suc there.steps + more) g (begins_work g bytes) ≡ works more g v
    leads_on more =
        let turned : suc there.steps + more ≡ there.steps + suc more = omega arith in
        ap (λ k. works k g (begins_work g bytes)) turned ∙ (there.leads (suc more) ∙ works_on more g w v is)

in_steps : (g : Setting) (bytes : List ℕ) (w : Working) → Reaches g bytes w → InSteps g bytes w
in_steps g bytes w' at_first = record { steps = zero; leads = λ more. let same : zero + more ≡ more = omega arith in ap (λ k. works k g (begins_work g bytes)) same }
in_steps g bytes w' (at_next {w} {next} before is) = one_more g bytes w next (in_steps g bytes w before) is

works_not : (g : Setting) (w : Working) → works_once g w ≡ None → works (suc zero) g w ≡ Some w
unfolding works
works_not g w is = ap (goes_on_working (works zero g) w) is

-- where no step is left, the order is done
pub done_at : (g : Setting) (bytes : List ℕ) (w : Working) → Reaches g bytes w → works_once g w ≡ None → IsDone g bytes w.told
done_at g bytes w there is =
    let counted = in_steps g bytes w there in
    record { steps = counted.steps + suc zero; last = w; works = counted.leads (suc zero) ∙ works_not g w is; told = refl }

-- ---- one thing that is done

enters_where : (g : Setting) (t u : Told) (runs : List Run) (rest : List ℕ) (e : Entry) → tells g t e ≡ Some u → enters g (here t runs rest) e ≡ Some (here u runs rest)
enters_where g t u runs rest e told = rw told refl

pub once_method : (g : Setting) (t u : Told) (runs : List Run) (rest tid : List ℕ) → ready_at t.side 0 ≡ Some tid → tells g t (or_full t.side (applied tid)) ≡ Some u
    → works_once g (here t runs rest) ≡ Some (here u runs rest)
unfolding works_once
once_method g t u runs rest tid ready told = ap (applies_next g (here t runs rest)) ready ∙ enters_where g t u runs rest (or_full t.side (applied tid)) told

pub once_root : (g : Setting) (t u : Told) (runs next : List Run) (rest : List ℕ) (e : Entry) → ready_at t.side 0 ≡ None
    → root_move g t.side runs ≡ Some (record { runs = next; entry = Some e }) → tells g t e ≡ Some u → works_once g (here t runs rest) ≡ Some (here u next rest)
unfolding works_once
once_root g t u runs next rest e ready moves told =
    ap (applies_next g (here t runs rest)) ready ∙ (ap (roots_next g (here t runs rest)) moves ∙ enters_where g t u next rest e told)

pub once_quiet_root : (g : Setting) (t : Told) (runs next : List Run) (rest : List ℕ) → ready_at t.side 0 ≡ None
    → root_move g t.side runs ≡ Some (record { runs = next; entry = None }) → works_once g (here t runs rest) ≡ Some (here t next rest)
unfolding works_once
once_quiet_root g t runs next rest ready moves = ap (applies_next g (here t runs rest)) ready ∙ ap (roots_next g (here t runs rest)) moves

pub once_object : (g : Setting) (t u : Told) (runs : List Run) (rest : List ℕ) (n : ℕ) → ready_at t.side 0 ≡ None → root_move g t.side runs ≡ None
    → may_reap g t.side ≡ Some n → tells g t (reaped n) ≡ Some u → works_once g (here t runs rest) ≡ Some (here u runs rest)
unfolding works_once
once_object g t u runs rest n ready moves lowest told =
    ap (applies_next g (here t runs rest)) ready
    ∙ (ap (roots_next g (here t runs rest)) moves ∙ (ap (reaps_next g (here t runs rest)) lowest ∙ enters_where g t u runs rest (reaped n) told))

once_drain : (g : Setting) (t : Told) (runs : List Run) (rest bytes : List ℕ) → ready_at t.side 0 ≡ None → root_move g t.side runs ≡ None
    → may_reap g t.side ≡ None → drained_next g most_drained t.side ≡ bytes → works_once g (here t runs rest) ≡ drains_next g (here t runs rest) bytes
unfolding works_once
once_drain g t runs rest bytes ready moves lowest waits =
    ap (applies_next g (here t runs rest)) ready
    ∙ (ap (roots_next g (here t runs rest)) moves ∙ (ap (reaps_next g (here t runs rest)) lowest ∙ ap (drains_next g (here t runs rest)) waits))

pub once_bytes : (g : Setting) (t u : Told) (runs : List Run) (rest : List ℕ) (b : ℕ) (bytes : List ℕ) → ready_at t.side 0 ≡ None → root_move g t.side runs ≡ None
    → may_reap g t.side ≡ None → drained_next g most_drained t.side ≡ b ∷ bytes → tells g t (drained (b ∷ bytes)) ≡ Some u
    → works_once g (here t runs rest) ≡ Some (here u runs rest)
once_bytes g t u runs rest b bytes ready moves lowest waits told =
    once_drain g t runs rest (b ∷ bytes) ready moves lowest waits ∙ enters_where g t u runs rest (drained (b ∷ bytes)) told

-- ---- where all of that is done

once_done : (g : Setting) (t : Told) (runs : List Run) (rest : List ℕ) → AllIsDone g t.side runs → works_once g (here t runs rest) ≡ after_draining g (here t runs rest)
once_done g t runs rest done = once_drain g t runs rest [] done.methods done.roots done.objects done.bytes

pub once_over : (g : Setting) (t : Told) (runs : List Run) (rest : List ℕ) → AllIsDone g t.side runs → stands t.side ≡ false → works_once g (here t runs rest) ≡ None
once_over g t runs rest done gone = once_done g t runs rest done ∙ (rw gone refl)

standing_feeds : (g : Setting) (t : Told) (runs : List Run) (rest : List ℕ) → stands t.side ≡ true → after_draining g (here t runs rest) ≡ feeds_next g (here t runs rest) rest
standing_feeds g t runs rest standing = rw standing refl

once_standing : (g : Setting) (t : Told) (runs : List Run) (rest : List ℕ) → AllIsDone g t.side runs → stands t.side ≡ true
    → works_once g (here t runs rest) ≡ feeds_next g (here t runs rest) rest
once_standing g t runs rest done standing = once_done g t runs rest done ∙ standing_feeds g t runs rest standing

pub once_ended : (g : Setting) (t u : Told) (runs : List Run) → AllIsDone g t.side runs → stands t.side ≡ true → tells g t ended ≡ Some u
    → works_once g (here t runs []) ≡ Some (here u runs [])
once_ended g t u runs done standing told = once_standing g t runs [] done standing ∙ enters_where g t u runs [] ended told

full_next : (g : Setting) (t : Told) (runs : List Run) (b : ℕ) (rest : List ℕ) → (has_entries t.side || has_fed t.side) ≡ true
    → feeds_next g (here t runs (b ∷ rest)) (b ∷ rest) ≡ enters g (here t runs (b ∷ rest)) full
full_next g t runs b rest is = rw is refl

pub once_full : (g : Setting) (t u : Told) (runs : List Run) (b : ℕ) (rest : List ℕ) → AllIsDone g t.side runs → stands t.side ≡ true
    → (has_entries t.side || has_fed t.side) ≡ true → tells g t full ≡ Some u → works_once g (here t runs (b ∷ rest)) ≡ Some (here u runs (b ∷ rest))
once_full g t u runs b rest done standing is told =
    once_standing g t runs (b ∷ rest) done standing ∙ (full_next g t runs b rest is ∙ enters_where g t u runs (b ∷ rest) full told)

piece_next : (g : Setting) (t : Told) (runs : List Run) (b : ℕ) (rest : List ℕ) → has_entries t.side ≡ false → has_fed t.side ≡ false
    → feeds_next g (here t runs (b ∷ rest)) (b ∷ rest)
    ≡ enters g (here t runs (drop (length (next_cut t.side (b ∷ rest))) (b ∷ rest))) (fed (next_cut t.side (b ∷ rest)))
piece_next g t runs b rest few less = rw (few, less) refl

-- a piece is fed
pub once_fed : (g : Setting) (t u : Told) (runs : List Run) (b : ℕ) (rest piece : List ℕ) → AllIsDone g t.side runs → stands t.side ≡ true
    → has_entries t.side ≡ false → has_fed t.side ≡ false → next_cut t.side (b ∷ rest) ≡ piece → tells g t (fed piece) ≡ Some u
    → works_once g (here t runs (b ∷ rest)) ≡ Some (here u runs (drop (length piece) (b ∷ rest)))
once_fed g t u runs b rest piece done standing few less is told =
    once_standing g t runs (b ∷ rest) done standing
    ∙ (piece_next g t runs b rest few less
    ∙ (ap (λ c. enters g (here t runs (drop (length c) (b ∷ rest))) (fed c)) is
    ∙ enters_where g t u runs (drop (length piece) (b ∷ rest)) (fed piece) told))

-- ---- where an end stands

-- where the order stands
pub stands_whole : (g : Setting) (bytes : List ℕ) (t : Told) (runs : List Run) (rest : List ℕ) → Reaches g bytes (here t runs rest) → IsInOrder g bytes t runs rest
stands_whole g bytes t runs rest there = record { work = here t runs rest; part = []; reaches = there; roots = refl; left = refl; stands = refl }

-- a step further than where the order stood
pub stands_on : (g : Setting) (bytes : List ℕ) (w : Working) (t : Told) (runs : List Run) (rest : List ℕ) → Reaches g bytes w
    → works_once g w ≡ Some (here t runs rest) → IsInOrder g bytes t runs rest
stands_on g bytes w t runs rest there is = stands_whole g bytes t runs rest (reaches_on g bytes w (here t runs rest) there is)

-- with a part of the next piece
pub stands_in_part : (g : Setting) (bytes : List ℕ) (x t : Told) (runs : List Run) (b : ℕ) (part rest : List ℕ) → Reaches g bytes (here x runs (b ∷ (part ++ rest)))
    → PartIsFed g (here x runs (b ∷ (part ++ rest))) (b ∷ part) t → IsInOrder g bytes t runs rest
stands_in_part g bytes x t runs b part rest there part_fed =
    record { work = here x runs (b ∷ (part ++ rest)); part = b ∷ part; reaches = there; roots = refl; left = refl; stands = part_fed }

is_here : (w : Working) (t : Told) (runs : List Run) (rest : List ℕ) → w.told ≡ t → w.runs ≡ runs → w.rest ≡ rest → w ≡ here t runs rest
is_here w t runs rest told same left = rw (sym told, sym same, sym left) refl

-- the part is what was told since
told_behind : (g : Setting) (w : Working) (part : List ℕ) (t : Told) → PartIsFed g w part t → behind w.told part ≡ t
told_behind g w part t part_fed = part_is_told g w.told t part part_fed.allowed part_fed.ends_nothing part_fed.told

-- a part is fed, and these bytes are left behind it
abbrev pub InPart : Setting → List Run → List ℕ → Told → ℕ → List ℕ → Type 0
InPart g runs rest x b part = PartIsFed g (here x runs (b ∷ (part ++ rest))) (b ∷ part) (behind x (b ∷ part))

-- what holds where the order stands, and behind each part that is fed, holds
pub by_place : {g : Setting} {bytes : List ℕ} {t : Told} {runs : List Run} {rest : List ℕ} (P : Told → Type 0) → IsInOrder g bytes t runs rest
    → (Reaches g bytes (here t runs rest) → P t)
    → ((x : Told) (b : ℕ) (part : List ℕ) → Reaches g bytes (here x runs (b ∷ (part ++ rest))) → InPart g runs rest x b part → P (behind x (b ∷ part))) → P t
by_place {g} {bytes} {t} {runs} {rest} P is whole in_part = of_part is.work is.part is.reaches is.roots is.left is.stands
  where
    of_part : (w : Working) (part : List ℕ) → Reaches g bytes w → w.runs ≡ runs → w.rest ≡ part ++ rest → StandsAt g w part t → P t
    of_part w [] there same left at = whole (subst (Reaches g bytes) (is_here w t runs rest (sym at) same left) there)
    of_part w (b ∷ part) there same left part_fed =
        let place = is_here w w.told runs (b ∷ (part ++ rest)) refl same left in
        let told = told_behind g w (b ∷ part) t part_fed in
        let moved = subst (λ v. PartIsFed g v (b ∷ part) t) place part_fed in
        let again = subst (PartIsFed g (here w.told runs (b ∷ (part ++ rest))) (b ∷ part)) (sym told) moved in
        subst P told (in_part w.told b part (subst (Reaches g bytes) place there) again)
