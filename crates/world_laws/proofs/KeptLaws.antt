-- What two joined ends keep behind every history: the laws of runs by messages, put together.
use Rattle.std.proofs.Common.{◌≡◌, refl, sym, ap, ◌∙◌, subst, ℕ, Bool, true, false, List, [], ◌∷◌, ◌++◌, Option, None, Some, if◌then◌else◌}
use Rattle.std.proofs.lemmas.Bool.{true≢false}
use Rattle.urp_model.specs.declared.reason.Reason.{Reason}
use Rattle.bridge_model.specs.Entries.{Entry}
use Rattle.bridge_model.specs.Histories.{Told, told_more, Leads}
use Rattle.bridge_model.specs.Settings.{Setting}
use Rattle.bridge_model.specs.Sides.{Outcome, answer, no_memory, answered, state_of}
use Rattle.bridge_model.specs.Sides as side
use Rattle.bridge_model.specs.declared.cause.Cause.{Cause}
use Rattle.bridge_model.specs.declared.cause.Cause.TheVariants as cause
use Rattle.bridge_laws.proofs.DebtLaws.{stub_where}
use Rattle.bridge_laws.specs.Ending.{HasEnd}
use Rattle.bridge_laws.proofs.CauseLaws.{disposed_has_end, memory_has_end}
use Rattle.world_laws.proofs.RootAnswers.{own_a, own_b}
use Rattle.world_laws.proofs.RunAnswers.{answer_a, answer_b}
use Rattle.world_laws.proofs.ServedRuns.{each_serves_a, each_serves_b}
use Rattle.world_model.specs.Meetings.{Meets}
use Rattle.world_model.specs.Readings.{is_broken}
use Rattle.world_model.specs.Worlds.{Settings, of_a, of_b, World, opening_world, Event, happens, happen_all, Runs, is_at, entries_of}
use Rattle.world_model.specs.declared.side.Side.{Side}
use Rattle.world_model.specs.declared.side.Side.TheVariants.{A, B}
use Rattle.world_laws.proofs.HeldLives.{supports_a, supports_b, there_a, there_b}
use Rattle.world_laws.proofs.InterlockLaws.{interlock, interlock_second}
use Rattle.world_laws.proofs.JoinedLaws.{joined}
use Rattle.world_laws.proofs.LastLaws.{both_last, meets_linked}
use Rattle.world_laws.proofs.RefusedLaws.{passes_a, passes_b}
use Rattle.world_laws.proofs.RunLaws.{leads_push, both_lead}
use Rattle.world_laws.proofs.SaidLaws.{given_a, given_b, fit, all_names, both_well}
use Rattle.world_laws.proofs.WorldLaws.{balance, paired_there, paired_back, standing_a, standing_b}
use Rattle.world_laws.specs.Kept.{MayDispose, IsAccounted, Keeps, BothKeep}
use Rattle.world_laws.specs.Ready.{AreReady, BothGiveWell}
use Rattle.world_laws.proofs.CarriedLaws.{well_front, whole_met}
use Rattle.world_laws.proofs.HomeLaws.{home_as_itself_a, home_as_itself_b}
use Rattle.world_laws.proofs.ProxyLaws.{one_proxy}

-- ---- a front of a history

-- the events up to an entry of one side
record Split (s : Side) (es : List Event) (entries : List Entry) : Type 0 where
  front : List Event
  rest : List Event
  journal : front ++ rest ≡ es
  entries_are : entries_of s front ≡ entries

module _ (s : Side) (e : Entry) (later : List Entry) where
  split_by : (x : Event) (es : List Event) (b : Bool) → is_at s x.side ≡ b → (before : List Entry) → (if b then x.entry ∷ entries_of s es else entries_of s es) ≡ before ++ e ∷ later
      → ((fs : List Entry) → entries_of s es ≡ fs ++ e ∷ later → Split s es (fs ++ e ∷ [])) → Split s (x ∷ es) (before ++ e ∷ [])
  unfolding entries_of
  split_by x es true at [] is more =
      let head : x.entry ≡ e = cc in
      record { front = x ∷ []; rest = es; journal = refl; entries_are = ap (λ c. if c then x.entry ∷ [] else []) at ∙ ap (λ z. z ∷ []) head }
  split_by x es true at (f ∷ fs) is more =
      let head : x.entry ≡ f = cc in
      let tail : entries_of s es ≡ fs ++ e ∷ later = cc in
      let k = more fs tail in
      record {
        front = x ∷ k.front;
        rest = k.rest;
        journal = ap (λ zs. x ∷ zs) k.journal;
        entries_are = ap (λ c. if c then x.entry ∷ entries_of s k.front else entries_of s k.front) at ∙ (λ i. head i ∷ k.entries_are i);
      }
  split_by x es false at before is more =
      let k = more before is in
      record {
        front = x ∷ k.front;
        rest = k.rest;
        journal = ap (λ zs. x ∷ zs) k.journal;
        entries_are = ap (λ c. if c then x.entry ∷ entries_of s k.front else entries_of s k.front) at ∙ k.entries_are;
      }

  no_entry : {X : Type 0} (before : List Entry) → [] ≡ before ++ e ∷ later → X
  no_entry [] is = absurd (cc)
  no_entry (f ∷ before) is = absurd (cc)

  split : (es : List Event) (before : List Entry) → entries_of s es ≡ before ++ e ∷ later → Split s es (before ++ e ∷ [])
  unfolding entries_of
  split [] before is = no_entry before is
  split (x ∷ es) before is = split_by x es (is_at s x.side) refl before is (λ fs more. split es fs more)

-- the world behind a front
pub record Reached (g : Settings) (o : Option World) (front : List Event) : Type 0 where
  pub at : World
  pub to : happen_all g o front ≡ Some at

nowhere : {X : Type 0} (g : Settings) (es : List Event) (w : World) → happen_all g None es ≡ Some w → X
unfolding happen_all
nowhere g [] w is = absurd (cc)
nowhere g (e ∷ es) w is = absurd (cc)

pub reached : (g : Settings) (o : Option World) (front rest : List Event) (w : World) → happen_all g o (front ++ rest) ≡ Some w → Reached g o front
unfolding happen_all
reached g None front rest w to = nowhere g (front ++ rest) w to
reached g (Some v) [] rest w to = record { at = v; to = refl }
reached g (Some v) (e ∷ front) rest w to = let k = reached g (happens g v e) front rest w to in record { at = k.at; to = k.to }

-- ---- no bridge is broken

same_told : (x y : Told) → Some x ≡ Some y → x ≡ y
same_told x y is = cc

-- an end that an entry broke would be seen broken behind it
not_broken : (g : Setting) (es : List Entry) (x : Told) (why : Reason) (place : ℕ) (h : HasEnd g es (cause.Broken why place)) → Leads g (h.before ++ h.entry ∷ []) x → is_broken x.side.cause ≡ false → ⊥
not_broken g es x why place h leads whole =
    let same = same_told x (told_more h.stood h.entry h.turn) (sym leads ∙ leads_push g h.before h.entry h.stood h.turn h.leads h.does) in
    true≢false (sym (ap is_broken (ap (λ (z : Told). z.side.cause) same ∙ h.cause)) ∙ whole)

module _ (g : Settings) (ready : AreReady g) (es : List Event) (well : BothGiveWell g es) (w : World) (runs : Runs g es w) where
  pub unbroken_a : (why : Reason) (place : ℕ) → HasEnd (of_a g) (entries_of A es) (cause.Broken why place) → ⊥
  unbroken_a why place h =
      let k = split A h.entry h.later es h.before h.journal in
      let r = reached g (Some (opening_world g)) k.front k.rest w (subst (λ fs. Runs g fs w) (sym k.journal) runs) in
      let is = whole_met g ready k.front (well_front g k.front k.rest es k.journal well) r.at r.to in
      not_broken (of_a g) (entries_of A es) r.at.a.now why place h (subst (λ fs. Leads (of_a g) fs r.at.a.now) k.entries_are (both_lead g k.front r.at is.met).a) is.whole_a

  pub unbroken_b : (why : Reason) (place : ℕ) → HasEnd (of_b g) (entries_of B es) (cause.Broken why place) → ⊥
  unbroken_b why place h =
      let k = split B h.entry h.later es h.before h.journal in
      let r = reached g (Some (opening_world g)) k.front k.rest w (subst (λ fs. Runs g fs w) (sym k.journal) runs) in
      let is = whole_met g ready k.front (well_front g k.front k.rest es k.journal well) r.at r.to in
      not_broken (of_b g) (entries_of B es) r.at.b.now why place h (subst (λ fs. Leads (of_b g) fs r.at.b.now) k.entries_are (both_lead g k.front r.at is.met).b) is.whole_b

-- ---- outcomes

may_dispose : (g : Setting) (es : List Entry) (why : Cause) → ((r : Reason) (place : ℕ) → HasEnd g es (cause.Broken r place) → ⊥) → HasEnd g es why → (why ≡ cause.NoMemory → ⊥) → MayDispose why
may_dispose g es cause.Disposed unbroken ends other = tt
may_dispose g es cause.Ended unbroken ends other = tt
may_dispose g es cause.Failed unbroken ends other = tt
may_dispose g es (cause.Broken r place) unbroken ends other = unbroken r place ends
may_dispose g es cause.Full unbroken ends other = tt
may_dispose g es cause.NoMemory unbroken ends other = other refl

module _ (g : Settings) (ready : AreReady g) (es : List Event) (well : BothGiveWell g es) (w : World) (runs : Runs g es w) where
  accounted_a : Meets g es w → (root : ℕ) (o : Outcome) → state_of root w.a.now.side.tables.roots ≡ answered o → IsAccounted g A es root o
  accounted_a met root (answer a) is = own_a g ready.up es w met well.gives root a is
  accounted_a met root (side.disposed why) is =
      let h = disposed_has_end (of_a g) (entries_of A es) w.a.now root why (both_lead g es w met).a is in
      (h.0, may_dispose (of_a g) (entries_of A es) why (unbroken_a g ready es well w runs) h.0 h.1)
  accounted_a met root no_memory is = memory_has_end (of_a g) (entries_of A es) w.a.now root (both_lead g es w met).a is

  accounted_b : Meets g es w → (root : ℕ) (o : Outcome) → state_of root w.b.now.side.tables.roots ≡ answered o → IsAccounted g B es root o
  accounted_b met root (answer a) is = own_b g ready.up es w met well.gives root a is
  accounted_b met root (side.disposed why) is =
      let h = disposed_has_end (of_b g) (entries_of B es) w.b.now root why (both_lead g es w met).b is in
      (h.0, may_dispose (of_b g) (entries_of B es) why (unbroken_b g ready es well w runs) h.0 h.1)
  accounted_b met root no_memory is = memory_has_end (of_b g) (entries_of B es) w.b.now root (both_lead g es w met).b is

-- ---- both ends

module _ (g : Settings) (ready : AreReady g) (es : List Event) (well : BothGiveWell g es) (w : World) (runs : Runs g es w) where
  keeps_a : Keeps (of_a g) (of_b g) (entries_of A es) w.a w.b
  keeps_a =
      let up = ready.up in
      let gives = well.gives in
      let met = (whole_met g ready es well w runs).met in
      let said = both_well g up es w met gives in
      record {
        follows = (meets_linked g es w met).there;
        balance = balance _ _ _ _ w.a.last w.b.last (paired_there g (fit g up) es w met said);
        stubs = λ p. let last = (both_last g es w met).a in stub_where (of_a g) last.before w.a.last p last.leads last.up;
        standing = λ p mine. standing_a g (fit g up) es w met said p mine (all_names (of_b g) (entries_of B es) gives.b);
        proxies = one_proxy (of_a g) w.a.last.side.tables;
        objects = λ p foreign held.
            let is = there_a g up es w met gives p foreign held in
            record { given = is.given; sent = is.owed; alive = is.lives_there; supports = supports_a g up es w met gives p is.given held };
        passes = passes_a g up es w met gives;
        unbroken = unbroken_a g ready es well w runs;
      }

  keeps_b : Keeps (of_b g) (of_a g) (entries_of B es) w.b w.a
  keeps_b =
      let up = ready.up in
      let gives = well.gives in
      let met = (whole_met g ready es well w runs).met in
      let said = both_well g up es w met gives in
      record {
        follows = (meets_linked g es w met).back;
        balance = balance _ _ _ _ w.b.last w.a.last (paired_back g (fit g up) es w met said);
        stubs = λ p. let last = (both_last g es w met).b in stub_where (of_b g) last.before w.b.last p last.leads last.up;
        standing = λ p mine. standing_b g (fit g up) es w met said p mine (all_names (of_a g) (entries_of A es) gives.a);
        proxies = one_proxy (of_b g) w.b.last.side.tables;
        objects = λ p foreign held.
            let is = there_b g up es w met gives p foreign held in
            record { given = is.given; sent = is.owed; alive = is.lives_there; supports = supports_b g up es w met gives p is.given held };
        passes = passes_b g up es w met gives;
        unbroken = unbroken_b g ready es well w runs;
      }

  all_keep : BothKeep g es w
  all_keep =
      let met = (whole_met g ready es well w runs).met in
      let apart = joined g ready.up in
      let few = (given_a g ready.up).roots in
      let also = (given_b g ready.up).roots in
      record {
        a = keeps_a;
        b = keeps_b;
        home_a = home_as_itself_a g ready es well w runs met;
        home_b = home_as_itself_b g ready es well w runs met;
        threads_a = interlock g apart few also es w met;
        threads_b = interlock_second g apart few also es w met;
        served_a = each_serves_a g apart few also es w met;
        served_b = each_serves_b g apart few also es w met;
        to_a = answer_a g apart few also es w met;
        to_b = answer_b g apart few also es w met;
        outcomes_a = accounted_a g ready es well w runs met;
        outcomes_b = accounted_b g ready es well w runs met;
      }

pub both_keep : (g : Settings) → AreReady g → (es : List Event) → BothGiveWell g es → (w : World) → Runs g es w → BothKeep g es w
both_keep g ready es well w runs = all_keep g ready es well w runs
