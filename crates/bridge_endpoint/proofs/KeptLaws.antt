-- One entry more of a journal leads on, and what an endpoint keeps is kept.
use Rattle.std.proofs.Common.{◌≡◌, refl, sym, ap, subst, ◌∙◌, ℕ, suc, ◌+◌, ◌-◌, ◌<◌, ◌≤◌, ◌^◌, Bool, true, false, List, [], ◌∷◌, ◌++◌, length, Option, None, Some, arith, if◌then◌else◌}
use Rattle.std.specs.List.{AllByRecursion}
use Rattle.std.specs.Option.{unwrap_or}
use Rattle.std.proofs.lemmas.List.{length-append}
use Rattle.bridge_journal.specs.Logs.{Log, entered}
use Rattle.bridge_laws.proofs.CountedLaws.{does_counts}
use Rattle.bridge_laws.specs.Grounded.{HasRoots}
use Rattle.bridge_laws.proofs.RootedLaws.{has_roots, is_rooted}
use Rattle.bridge_laws.proofs.StepLaws.{quiet_along}
use Rattle.bridge_laws.proofs.TellingLaws.{all_allowed}
use Rattle.bridge_laws.specs.Ended.{IsQuiet}
use Rattle.bridge_laws.specs.OfPlan.{AreOfPlan}
use Rattle.bridge_laws.specs.Rooted.{waits, IsRooted}
use Rattle.bridge_model.specs.Entries.{Entry, counts}
use Rattle.bridge_model.specs.Histories.{Told, nothing_told, told_more, told_by, tells, tells_all, replay, Leads}
use Rattle.bridge_model.specs.Saying.{AreSayable}
use Rattle.bridge_model.specs.Settings.{Setting, root_tid}
use Rattle.bridge_model.specs.Sides.{Side, state_of}
use Rattle.bridge_model.specs.Steps.{counted, may, does, turn, step}
use Rattle.plan_model.specs.Frames.{frames_of}
use Rattle.bridge_laws.specs.Room.{brought, is_free, needed}
use Rattle.bridge_laws.proofs.StepRoom.{counted_needed, entry_needed, free_needed}
use Rattle.bridge_state.specs.EndSides.{EndSide, IsEndOf, with_side}
use Rattle.bridge_laws.proofs.TypedGiven.{IsGiven}
use Rattle.bridge_laws.proofs.TypedGivenLaws.{is_given, unsaid_sayable}
use Rattle.bridge_laws.specs.Giving.{MayGive, RootsGive}
use Rattle.bridge_endpoint.specs.Kept.{IsKept}
use Rattle.bridge_endpoint.specs.Entering.{IsWithin}
use Rattle.bridge_endpoint.specs.Journals.{Endpoint, seen, setting_at, side_at, told_at}
use Rattle.bridge_setting.specs.Settings.{setting_of}
use Rattle.bridge_setting.specs.declared.setting.Setting.{Setting as Configured}

-- ---- histories

step_is : (g : Setting) (s : Side) (e : Entry) → may g s e ≡ true → step g s e ≡ Some (turn e s (does g e s))
unfolding step
step_is g s e may_it = rw (may_it) refl

tells_is : (g : Setting) (x : Told) (e : Entry) → may g x.side e ≡ true → tells g x e ≡ Some (told_more x e (turn e x.side (does g e x.side)))
tells_is g x e may_it = ap (told_by x e) (step_is g x.side e may_it)

none_tells : (g : Setting) (es : List Entry) (x : Told) → tells_all g None es ≡ Some x → ⊥
unfolding tells_all
none_tells g es x is = cc

-- one entry behind others
tells_on : (g : Setting) (o : Option Told) (es : List Entry) (x : Told) (e : Entry) → tells_all g o es ≡ Some x → tells_all g o (es ++ e ∷ []) ≡ tells g x e
unfolding tells_all
tells_on g None es x e is = absurd (none_tells g es x is)
tells_on g (Some y) [] x e is = let same : y ≡ x = cc in last (tells g y e) ∙ ap (λ z. tells g z e) same
  where
    last : (o : Option Told) → tells_all g o [] ≡ o
    last None = refl
    last (Some z) = refl
tells_on g (Some y) (f ∷ es) x e is = tells_on g (tells g y f) es x e is

pub leads_on : (g : Setting) (es : List Entry) (x : Told) (e : Entry) → Leads g es x → may g x.side e ≡ true → Leads g (es ++ e ∷ []) (told_more x e (turn e x.side (does g e x.side)))
unfolding replay
leads_on g es x e leads may_it = tells_on g (Some (nothing_told g)) es x e leads ∙ tells_is g x e may_it

pub side_led : (e : Endpoint) (x : Told) → Leads (setting_at e) e.entries x → side_at e ≡ x.side
unfolding side_at told_at
side_led e x leads = ap (λ o. (unwrap_or o (nothing_told (setting_at e))).side) leads

-- all of these and one more
pub all_and_one : {A : Type 0} (P : A → Type 0) (xs : List A) (x : A) → AllByRecursion P xs → P x → AllByRecursion P (xs ++ x ∷ [])
all_and_one P [] x all here = (here, tt)
all_and_one P (y ∷ ys) x all here = (all.0, all_and_one P ys x all.1 here)

-- ---- what is kept

counted_most : (e : Entry) (s : Side) (n : ℕ) → s.entries ≤ n → (counted e s).entries ≤ n + 1
counted_most e s n few = by_kind (counts e)
  where
    by_kind : (b : Bool) → (if b then record s { entries = suc s.entries } else s).entries ≤ n + 1
    by_kind true = omega (arith, few)
    by_kind false = omega (arith, few)

one_longer : {A : Type 0} (xs ys : List A) (x : A) → ys ≡ xs ++ x ∷ [] → length ys ≡ length xs + 1
one_longer xs ys x is = ap length is ∙ length-append xs (x ∷ [])

-- an entry that may stand is made, with what it does
pub kept_on : (g : Setting) (roots : ℕ) (e : EndSide) (log : Log) (x : Entry) (f : EndSide) (after : Log) → IsKept g roots e log → may g e.side x ≡ true → MayGive g x
    → f ≡ with_side (counted x (does g x e.side).side) e → after.entries ≡ log.entries ++ x ∷ [] → needed f.side ≤ after.room
    → IsWithin after → IsKept g roots f after
kept_on g roots e log x f after kept may_it gives is entered room within =
    let there : may g kept.told.side x ≡ true = ap (λ s. may g s x) kept.here ∙ may_it in
    record {
      told = told_more kept.told x (turn x kept.told.side (does g x kept.told.side));
      leads = subst (λ es. Leads g es (told_more kept.told x (turn x kept.told.side (does g x kept.told.side)))) (sym entered) (leads_on g log.entries kept.told x kept.leads there);
      here = ap (λ s. counted x (does g x s).side) kept.here ∙ ap (λ y. y.side) (sym is);
      of = subst (IsEndOf g) (sym is) (record { prefix = kept.of.prefix; first = kept.of.first; release = kept.of.release });
      set_up = kept.set_up;
      built_in = kept.built_in;
      tag = kept.tag;
      gives = subst (RootsGive g) (sym entered) (all_and_one (MayGive g) log.entries x kept.gives gives);
      named = kept.named;
      room = room;
      counted = few;
      within = within;
    }
  where
    few : f.side.entries ≤ length after.entries
    few =
        let most = counted_most x (does g x e.side).side (length log.entries) (let same = does_counts g x e.side in let before = kept.counted in omega (arith, same, before)) in
        let here = ap (λ y. y.side.entries) is in
        let long = one_longer log.entries after.entries x entered in
        omega (arith, most, here, long)

-- what holds of the side to which the journal leads
module _ (g : Setting) (roots : ℕ) (e : EndSide) (log : Log) (kept : IsKept g roots e log) where
  pub kept_given : IsGiven g
  kept_given = is_given g kept.set_up.sound kept.built_in kept.set_up.names kept.set_up.rules kept.tag.short

  of_plan : AreOfPlan g log.entries
  of_plan = record { roots = (all_allowed g log.entries kept.told kept.leads).roots; few = kept_given.roots }

  pub kept_rooted : HasRoots g e.side
  kept_rooted = subst (HasRoots g) kept.here (has_roots g log.entries kept.told of_plan kept.leads)

  pub kept_quiet : IsQuiet e.side
  kept_quiet = subst IsQuiet kept.here (quiet_along g log.entries kept.told kept.leads)

  pub kept_sayable : AreSayable g.registry e.side.tables.unsaid
  kept_sayable =
      subst (λ s. AreSayable g.registry s.tables.unsaid) kept.here
      (unsaid_sayable g kept.set_up.sound kept.built_in kept.set_up.names kept.set_up.rules kept.tag.short log.entries kept.told kept.gives kept.leads)

  -- of a root of the plan that is idle
  pub kept_idle : (root : ℕ) → 1 ≤ root → root ≤ length g.plan.threads → waits (state_of root e.side.tables.roots) ≡ false → frames_of (root_tid g root) e.side.stacks ≡ []
  kept_idle root least most quiet =
      let rooted = subst (λ s. IsRooted g s root) kept.here (is_rooted g log.entries kept.told root of_plan kept.leads least most) in
      rooted.quiet.0 quiet

-- the side to which what is seen of the journal leads
pub kept_at : (c : Configured) (roots : ℕ) (e : EndSide) (log : Log) → IsKept (setting_of c) roots e log → side_at (seen c log) ≡ e.side
kept_at c roots e log kept = side_led (seen c log) kept.told kept.leads ∙ kept.here

-- and all that it told
pub leads_at : (c : Configured) (roots : ℕ) (e : EndSide) (log : Log) → IsKept (setting_of c) roots e log → Leads (setting_of c) log.entries (told_at (seen c log))
unfolding told_at
leads_at c roots e log kept = kept.leads ∙ ap (λ x. Some x) (sym (ap (λ o. unwrap_or o (nothing_told (setting_of c))) kept.leads))

-- ---- room

-- there is room for an entry that is free
pub free_room : (g : Setting) (roots : ℕ) (e : EndSide) (log : Log) (x : Entry) → IsKept g roots e log → may g e.side x ≡ true → is_free x ≡ true → 0 < log.room
free_room g roots e log x kept may_it free = let less = free_needed g e.side x may_it free in let room = kept.room in omega (arith, less, room)

-- and it is made in that room
pub free_kept : (g : Setting) (roots : ℕ) (e : EndSide) (log : Log) (x : Entry) (f : EndSide) (after : Log) → IsKept g roots e log → may g e.side x ≡ true → is_free x ≡ true → MayGive g x
    → f ≡ with_side (counted x (does g x e.side).side) e → after ≡ entered x log → IsKept g roots f after
free_kept g roots e log x f after kept may_it free gives is done =
    let some = free_room g roots e log x kept may_it free in
    let left : after.room ≡ log.room - 1 = ap (λ l. l.room) done in
    kept_on g roots e log x f after kept may_it gives is (ap (λ l. l.entries) done)
    (let less = free_needed g e.side x may_it free in
    let same : needed f.side ≡ needed (does g x e.side).side = ap (λ y. needed y.side) is ∙ counted_needed x (does g x e.side).side in
    let room = kept.room in
    omega (arith, less, same, left, room))
    (let long = one_longer log.entries after.entries x (ap (λ l. l.entries) done) in
    let within : IsWithin log = kept.within in
    omega (arith, long, left, within, some))

-- entries are few
pub kept_few : (g : Setting) (roots : ℕ) (e : EndSide) (log : Log) → IsKept g roots e log → e.side.entries < 2 ^ 64 - 1
kept_few g roots e log kept = let counted = kept.counted in let within : IsWithin log = kept.within in omega (arith, counted, within)

-- an entry for which room was taken, with as much as it brings
pub brought_kept : (g : Setting) (roots : ℕ) (e : EndSide) (log : Log) (x : Entry) (f : EndSide) (after : Log) → IsKept g roots e log → may g e.side x ≡ true → MayGive g x
    → f ≡ with_side (counted x (does g x e.side).side) e → after.entries ≡ log.entries ++ x ∷ [] → log.room + brought g e.side x ≤ after.room → IsWithin after
    → IsKept g roots f after
brought_kept g roots e log x f after kept may_it gives is entered most within =
    kept_on g roots e log x f after kept may_it gives is entered
    (let less = entry_needed g e.side x (kept_given g roots e log kept).roots (kept_rooted g roots e log kept) (kept_quiet g roots e log kept) may_it in
    let same : needed f.side ≡ needed (does g x e.side).side = ap (λ y. needed y.side) is ∙ counted_needed x (does g x e.side).side in
    let room = kept.room in
    omega (arith, less, same, most, room))
    within

-- nothing was entered, and there is no less room
pub more_room : (g : Setting) (roots : ℕ) (e : EndSide) (log after : Log) → IsKept g roots e log → after.entries ≡ log.entries → log.room ≤ after.room → IsWithin after
    → IsKept g roots e after
more_room g roots e log after kept same most within =
    record {
      told = kept.told;
      leads = subst (λ es. Leads g es kept.told) (sym same) kept.leads;
      here = kept.here;
      of = kept.of;
      set_up = kept.set_up;
      built_in = kept.built_in;
      tag = kept.tag;
      gives = subst (RootsGive g) (sym same) kept.gives;
      named = kept.named;
      room = (let room = kept.room in omega (arith, room, most));
      counted = (let long = ap length same in let counted = kept.counted in omega (arith, long, counted));
      within = within;
    }
