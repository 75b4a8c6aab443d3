-- Entries of both ends that each end replays, where what was fed was next on its way, are a history of the definition of two joined ends.
use Rattle.std.proofs.Common.{◌≡◌, refl, sym, ap, ◌∙◌, subst, ℕ, Bool, true, false, List, [], ◌∷◌, ◌++◌, length, take, drop, Option, None, Some, if◌then◌else◌}
use Rattle.std.proofs.lemmas.List.{append_assoc, append-nil}
use Rattle.std.proofs.lemmas.Slice.Eq.{bytes_eq-Decides}
use Rattle.std.specs.List.{AllByRecursion}
use Rattle.std.specs.Str.{IsUtf8}
use Rattle.table_model.specs.Pair.{Pair}
use Rattle.plan_model.specs.Roots.{Run}
use Rattle.bridge_model.specs.Entries.{Entry}
use Rattle.bridge_model.specs.Feeding.{ends_part}
use Rattle.bridge_model.specs.Histories.{Told, nothing_told, bytes_fed, bytes_drained, told_more, told_by, tells, tells_all, replay, Leads}
use Rattle.bridge_model.specs.References.{is_held}
use Rattle.bridge_model.specs.RootRuns.{root_moves, StandsFor}
use Rattle.bridge_model.specs.RootRuns as roots
use Rattle.bridge_model.specs.Settings.{Setting, is_own}
use Rattle.bridge_model.specs.Sides.{Outcome, answered, stands, state_of}
use Rattle.bridge_model.specs.Steps.{Turn, step}
use Rattle.bridge_laws.specs.SpellableGiving.{IsGivenByRoot}
use Rattle.bridge_laws.specs.Holding.{MessageGoes}
use Rattle.bridge_laws.proofs.RunSpelling.{run_gives_where}
use Rattle.bridge_laws.specs.Giving.{RootsGive}
use Rattle.world_laws.specs.Kept.{BothKeep, HasObject, IsAccounted}
use Rattle.world_laws.specs.Ready.{BothGiveWell}
use Rattle.world_laws.proofs.CarriedLaws.{spells_a, spells_b, got_goes_a, got_goes_b, well_front, whole_met}
use Rattle.world_laws.proofs.KeptLaws.{both_keep}
use Rattle.world_model.specs.Readings.{is_broken}
use Rattle.world_model.specs.Worlds.{Settings, of_a, of_b, End, World, opening_world, moved, moved_by, pipe, may_come, acts, with_a, with_b, Event, happens, happen_all, entries_of}
use Rattle.world_model.specs.declared.side.Side.{Side}
use Rattle.world_model.specs.declared.side.Side.TheVariants.{A, B}
use Rattle.world_laws.proofs.InterlockLaws.{both_current}
use Rattle.world_laws.proofs.RunLaws.{IsMet, a_pushed, a_same, b_pushed, b_same}
use Rattle.world_laws.specs.Linking.{ArePiped, AreTwoEnds, LeadsTo, IsOneHistory}
use Rattle.world_laws.specs.Merging.{event_at, bytes_in, bytes_out, FeedsNext, EachFeedsNext}
use Rattle.world_laws.proofs.GoingOn.{bytes_in_more, bytes_out_more, way_a, way_b}

-- what an entry tells feeds and drains its bytes
record FeedsAndDrains (x : Told) (e : Entry) (z : Told) : Type 0 where
  fed : z.bytes_in ≡ x.bytes_in ++ bytes_fed e
  drained : z.bytes_out ≡ x.bytes_out ++ bytes_drained e

same_told : (x y : Told) → ◌≡◌ {A = Option Told} (Some x) (Some y) → x ≡ y
same_told x y is = cc

by_turn : (x : Told) (e : Entry) (o : Option Turn) (z : Told) → told_by x e o ≡ Some z → FeedsAndDrains x e z
by_turn x e None z is = absurd (cc)
by_turn x e (Some u) z is = subst (FeedsAndDrains x e) (same_told (told_more x e u) z is) (record { fed = refl; drained = refl })

untold : {X : Type 0} (g : Setting) (es : List Entry) (x : Told) → tells_all g None es ≡ Some x → X
unfolding tells_all
untold g [] x is = absurd (cc)
untold g (e ∷ es) x is = absurd (cc)

told_so : (g : Setting) (x y : Told) → tells_all g (Some x) [] ≡ Some y → x ≡ y
unfolding tells_all
told_so g x y is = same_told x y is

-- ---- an end acts

if_true : {X : Type 0} (b : Bool) (x y : X) → b ≡ true → (if b then x else y) ≡ x
if_true true x y is = refl
if_true false x y is = absurd (cc)

-- where what is fed is next in the pipe
acts_so : (g : Setting) (one other : End) (e : Entry) (z : Told) → bytes_fed e ≡ take (length (bytes_fed e)) (pipe other.now one.now) → tells g one.now e ≡ Some z → acts g one other e ≡ Some (moved one z)
unfolding acts
acts_so g one other e z next told =
    if_true (may_come other.now one.now e) (moved_by one (tells g one.now e)) None
    ((bytes_eq-Decides (bytes_fed e) (take (length (bytes_fed e)) (pipe other.now one.now))).1 next)
    ∙ ap (moved_by one) told

a_happens : (g : Settings) (w : World) (e : Entry) (after : End) → acts (of_a g) w.a w.b e ≡ Some after → happens g w (event_at A e) ≡ Some (record w { a = after })
unfolding happens
a_happens g w e after is = ap (with_a w) is

b_happens : (g : Settings) (w : World) (e : Entry) (after : End) → acts (of_b g) w.b w.a e ≡ Some after → happens g w (event_at B e) ≡ Some (record w { b = after })
unfolding happens
b_happens g w e after is = ap (with_b w) is

-- ---- a history

-- the bytes of both ends are those of the entries
record HasBytes (w : World) (es : List Event) : Type 0 where
  in_a : w.a.now.bytes_in ≡ bytes_in (entries_of A es)
  out_a : w.a.now.bytes_out ≡ bytes_out (entries_of A es)
  in_b : w.b.now.bytes_in ≡ bytes_in (entries_of B es)
  out_b : w.b.now.bytes_out ≡ bytes_out (entries_of B es)

piped : (x y : Told) (came went : List ℕ) → y.bytes_in ≡ came → x.bytes_out ≡ went → pipe x y ≡ drop (length came) went
unfolding pipe
piped x y came went into out = ap (λ s. drop (length s) x.bytes_out) into ∙ ap (drop (length came)) out

happens_first : (g : Settings) (w v : World) (e : Event) (es : List Event) (x y : Told) → happens g w e ≡ Some v → LeadsTo g v es x y → LeadsTo g w (e ∷ es) x y
unfolding happen_all
happens_first g w v e es x y to on = record { world = on.world; runs = ap (λ o. happen_all g o es) to ∙ on.runs; a = on.a; b = on.b }

-- so do the rest of the entries behind one that is told
abbrev LeadOn : Settings → (front es : List Event) → (x y : Told) → Type 0
LeadOn g front es x y = (w : World) → HasBytes w front → EachFeedsNext front es → tells_all (of_a g) (Some w.a.now) (entries_of A es) ≡ Some x → tells_all (of_b g) (Some w.b.now) (entries_of B es) ≡ Some y → LeadsTo g w es x y

a_first : (g : Settings) (front es : List Event) (e : Entry) (x y : Told) → LeadOn g (front ++ event_at A e ∷ []) es x y → (w : World) → HasBytes w front → FeedsNext front (event_at A e) → EachFeedsNext (front ++ event_at A e ∷ []) es
    → (o : Option Told) → tells (of_a g) w.a.now e ≡ o → tells_all (of_a g) o (entries_of A es) ≡ Some x → tells_all (of_b g) (Some w.b.now) (entries_of B es) ≡ Some y → LeadsTo g w (event_at A e ∷ es) x y
a_first g front es e x y on w has next comes None told to_x to_y = untold (of_a g) (entries_of A es) x to_x
a_first g front es e x y on w has next comes (Some z) told to_x to_y =
    let v : World = record w { a = moved w.a z } in
    let bytes = by_turn w.a.now e (step (of_a g) w.a.now.side e) z told in
    let in_pipe = next ∙ ap (take (length (bytes_fed e))) (sym (piped w.b.now w.a.now (bytes_in (entries_of A front)) (bytes_out (entries_of B front)) has.in_a has.out_b)) in
    happens_first g w v (event_at A e) es x y (a_happens g w e (moved w.a z) (acts_so (of_a g) w.a w.b e z in_pipe told))
    (on v (record {
      in_a = bytes.fed ∙ (ap (λ s. s ++ bytes_fed e) has.in_a ∙ sym (ap bytes_in (a_pushed front e) ∙ bytes_in_more (entries_of A front) e));
      out_a = bytes.drained ∙ (ap (λ s. s ++ bytes_drained e) has.out_a ∙ sym (ap bytes_out (a_pushed front e) ∙ bytes_out_more (entries_of A front) e));
      in_b = has.in_b ∙ ap bytes_in (sym (b_same front e));
      out_b = has.out_b ∙ ap bytes_out (sym (b_same front e));
    }) comes to_x to_y)

b_first : (g : Settings) (front es : List Event) (e : Entry) (x y : Told) → LeadOn g (front ++ event_at B e ∷ []) es x y → (w : World) → HasBytes w front → FeedsNext front (event_at B e) → EachFeedsNext (front ++ event_at B e ∷ []) es
    → (o : Option Told) → tells (of_b g) w.b.now e ≡ o → tells_all (of_a g) (Some w.a.now) (entries_of A es) ≡ Some x → tells_all (of_b g) o (entries_of B es) ≡ Some y → LeadsTo g w (event_at B e ∷ es) x y
b_first g front es e x y on w has next comes None told to_x to_y = untold (of_b g) (entries_of B es) y to_y
b_first g front es e x y on w has next comes (Some z) told to_x to_y =
    let v : World = record w { b = moved w.b z } in
    let bytes = by_turn w.b.now e (step (of_b g) w.b.now.side e) z told in
    let in_pipe = next ∙ ap (take (length (bytes_fed e))) (sym (piped w.a.now w.b.now (bytes_in (entries_of B front)) (bytes_out (entries_of A front)) has.in_b has.out_a)) in
    happens_first g w v (event_at B e) es x y (b_happens g w e (moved w.b z) (acts_so (of_b g) w.b w.a e z in_pipe told))
    (on v (record {
      in_a = has.in_a ∙ ap bytes_in (sym (a_same front e));
      out_a = has.out_a ∙ ap bytes_out (sym (a_same front e));
      in_b = bytes.fed ∙ (ap (λ s. s ++ bytes_fed e) has.in_b ∙ sym (ap bytes_in (b_pushed front e) ∙ bytes_in_more (entries_of B front) e));
      out_b = bytes.drained ∙ (ap (λ s. s ++ bytes_drained e) has.out_b ∙ sym (ap bytes_out (b_pushed front e) ∙ bytes_out_more (entries_of B front) e));
    }) comes to_x to_y)

one_first : (g : Settings) (front es : List Event) (s : Side) (e : Entry) (x y : Told) → LeadOn g (front ++ event_at s e ∷ []) es x y → LeadOn g front (event_at s e ∷ es) x y
unfolding EachFeedsNext tells_all entries_of
one_first g front es A e x y on w has comes to_x to_y = a_first g front es e x y on w has comes.0 comes.1 (tells (of_a g) w.a.now e) refl to_x to_y
one_first g front es B e x y on w has comes to_x to_y = b_first g front es e x y on w has comes.0 comes.1 (tells (of_b g) w.b.now e) refl to_x to_y

lead_on : (g : Settings) (front es : List Event) (x y : Told) → LeadOn g front es x y
unfolding happen_all entries_of
lead_on g front [] x y w has comes to_x to_y = record { world = w; runs = refl; a = told_so (of_a g) w.a.now x to_x; b = told_so (of_b g) w.b.now y to_y }
lead_on g front (e ∷ es) x y w has comes to_x to_y = one_first g front es e.side e.entry x y (lead_on g (front ++ e ∷ []) es x y) w has comes to_x to_y

-- entries that both ends replay are a history, where what was fed was next
pub history_leads : (g : Settings) (es : List Event) (x y : Told) → EachFeedsNext [] es → Leads (of_a g) (entries_of A es) x → Leads (of_b g) (entries_of B es) y → LeadsTo g (opening_world g) es x y
unfolding replay bytes_in bytes_out entries_of
history_leads g es x y comes to_x to_y = lead_on g [] es x y (opening_world g) (record { in_a = refl; out_a = refl; in_b = refl; out_b = refl }) comes to_x to_y

-- ---- what holds of it

-- the roots of both give what they may, and it can be carried
pub gives_well : (g : Settings) (es : List Event) (to_a to_b : List ℕ) → ArePiped g es to_a to_b → RootsGive (of_a g) (entries_of A es) → RootsGive (of_b g) (entries_of B es) → BothGiveWell g es
gives_well g es to_a to_b piped a b = record { gives = record { a = a; b = b }; a = piped.given_a; b = piped.given_b }

-- the bytes that a journal told are those of its entries
record HasTold (x : Told) (es : List Entry) (z : Told) : Type 0 where
  fed : z.bytes_in ≡ x.bytes_in ++ bytes_in es
  drained : z.bytes_out ≡ x.bytes_out ++ bytes_out es

one_told : (x : Told) (e : Entry) (u : Told) (es : List Entry) (z : Told) → FeedsAndDrains x e u → HasTold u es z → HasTold x (e ∷ es) z
unfolding bytes_in bytes_out
one_told x e u es z first rest =
    record {
      fed = rest.fed ∙ (ap (λ s. s ++ bytes_in es) first.fed ∙ append_assoc x.bytes_in (bytes_fed e) (bytes_in es));
      drained = rest.drained ∙ (ap (λ s. s ++ bytes_out es) first.drained ∙ append_assoc x.bytes_out (bytes_drained e) (bytes_out es));
    }

told_first : (g : Setting) (x : Told) (e : Entry) (es : List Entry) (z : Told) → ((u : Told) → tells_all g (Some u) es ≡ Some z → HasTold u es z) → (o : Option Told) → tells g x e ≡ o → tells_all g o es ≡ Some z → HasTold x (e ∷ es) z
told_first g x e es z rest None to is = untold g es z is
told_first g x e es z rest (Some u) to is = one_told x e u es z (by_turn x e (step g x.side e) u to) (rest u is)

has_told : (g : Setting) (x : Told) (es : List Entry) (z : Told) → tells_all g (Some x) es ≡ Some z → HasTold x es z
unfolding tells_all bytes_in bytes_out
has_told g x [] z is =
    let same = same_told x z is in
    record { fed = ap (λ (t : Told). t.bytes_in) (sym same) ∙ sym (append-nil x.bytes_in); drained = ap (λ (t : Told). t.bytes_out) (sym same) ∙ sym (append-nil x.bytes_out) }
has_told g x (e ∷ es) z is = told_first g x e es z (λ u to. has_told g u es z to) (tells g x e) refl is

pub in_told : (g : Setting) (es : List Entry) (x : Told) → Leads g es x → x.bytes_in ≡ bytes_in es
unfolding replay
in_told g es x leads = (has_told g (nothing_told g) es x leads).fed

pub out_told : (g : Setting) (es : List Entry) (x : Told) → Leads g es x → x.bytes_out ≡ bytes_out es
unfolding replay
out_told g es x leads = (has_told g (nothing_told g) es x leads).drained

-- the law of two joined ends holds at each moment
pub one_history : (g : Settings) (es : List Event) (x y : Told) (to_a to_b : List ℕ) → AreTwoEnds g es x y to_a to_b → IsOneHistory g es x y to_a to_b
one_history g es x y to_a to_b ends =
    let led = history_leads g es x y ends.piped.comes ends.leads_a ends.leads_b in
    let well = gives_well g es to_a to_b ends.piped ends.gives_a ends.gives_b in
    record {
      world = led.world;
      runs = led.runs;
      a = led.a;
      b = led.b;
      pipe_a = piped y x (bytes_in (entries_of A es)) (bytes_out (entries_of B es)) (in_told (of_a g) (entries_of A es) x ends.leads_a) (out_told (of_b g) (entries_of B es) y ends.leads_b) ∙ way_a g es to_a to_b ends.piped;
      pipe_b = piped x y (bytes_in (entries_of B es)) (bytes_out (entries_of A es)) (in_told (of_b g) (entries_of B es) y ends.leads_b) (out_told (of_a g) (entries_of A es) x ends.leads_a) ∙ way_b g es to_a to_b ends.piped;
      well = well;
      keeps = λ front behind split w runs. both_keep g ends.piped.ready front (well_front g front behind es (sym split) well) w runs;
    }

module _ (g : Settings) (es : List Event) (x y : Told) (to_a to_b : List ℕ) (ends : AreTwoEnds g es x y to_a to_b) where
  pub history : IsOneHistory g es x y to_a to_b
  history = one_history g es x y to_a to_b ends

  -- now
  pub keep_now : BothKeep g es history.world
  keep_now = history.keeps es [] (sym (append-nil es)) history.world history.runs

  met_now : IsMet g es history.world
  met_now = whole_met g ends.piped.ready es history.well history.world history.runs

  -- no entry broke an end
  pub whole_a : is_broken x.side.cause ≡ false
  whole_a = ap (λ (t : Told). is_broken t.side.cause) (sym history.a) ∙ met_now.whole_a

  pub whole_b : is_broken y.side.cause ≡ false
  whole_b = ap (λ (t : Told). is_broken t.side.cause) (sym history.b) ∙ met_now.whole_b

  -- what an end that stands holds of its open block ends no block
  pub part_a : stands x.side ≡ true → ends_part x.side.incoming.held ≡ false
  part_a up =
      ap (λ (t : Told). ends_part t.side.incoming.held) (sym history.a)
      ∙ (met_now.back.read (ap (λ (t : Told). stands t.side) history.a ∙ up)).part

  pub part_b : stands y.side ≡ true → ends_part y.side.incoming.held ≡ false
  part_b up =
      ap (λ (t : Told). ends_part t.side.incoming.held) (sym history.b)
      ∙ (met_now.there.read (ap (λ (t : Told). stands t.side) history.b ∙ up)).part

  -- each got what can be carried
  pub goes_a : AllByRecursion MessageGoes x.got
  goes_a = subst (λ (t : Told). AllByRecursion MessageGoes t.got) history.a (got_goes_a g ends.piped.ready es history.world met_now.met history.well)

  pub goes_b : AllByRecursion MessageGoes y.got
  goes_b = subst (λ (t : Told). AllByRecursion MessageGoes t.got) history.b (got_goes_b g ends.piped.ready es history.world met_now.met history.well)

  -- an end that stands is as it last stood
  last_a : stands x.side ≡ true → history.world.a.last ≡ x
  last_a up = (both_current g es history.world met_now.met).a (ap (λ (t : Told). stands t.side) history.a ∙ up) ∙ history.a

  last_b : stands y.side ≡ true → history.world.b.last ≡ y
  last_b up = (both_current g es history.world met_now.met).b (ap (λ (t : Told). stands t.side) history.b ∙ up) ∙ history.b

  -- what the other end holds has its object
  pub object_a : stands x.side ≡ true → stands y.side ≡ true → (p : Pair) → is_own (of_b g) p.oid ≡ false → is_held p.oid p.face y.side.tables ≡ true → HasObject (of_a g) x p
  object_a up also p foreign held =
      subst (λ (t : Told). HasObject (of_a g) t p) (last_a up) (keep_now.a.objects p foreign (ap (λ (t : Told). is_held p.oid p.face t.side.tables) (last_b also) ∙ held))

  pub object_b : stands x.side ≡ true → stands y.side ≡ true → (p : Pair) → is_own (of_a g) p.oid ≡ false → is_held p.oid p.face x.side.tables ≡ true → HasObject (of_b g) y p
  object_b up also p foreign held =
      subst (λ (t : Told). HasObject (of_b g) t p) (last_b also) (keep_now.b.objects p foreign (ap (λ (t : Told). is_held p.oid p.face t.side.tables) (last_a up) ∙ held))

  -- each outcome is its call's own, or an end is told by it
  pub outcome_a : (root : ℕ) (o : Outcome) → state_of root x.side.tables.roots ≡ answered o → IsAccounted g A es root o
  outcome_a root o is = keep_now.outcomes_a root o (ap (λ (t : Told). state_of root t.side.tables.roots) history.a ∙ is)

  pub outcome_b : (root : ℕ) (o : Outcome) → state_of root y.side.tables.roots ≡ answered o → IsAccounted g B es root o
  outcome_b root o is = keep_now.outcomes_b root o (ap (λ (t : Told). state_of root t.side.tables.roots) history.b ∙ is)

  -- what a run that stands enters next can be carried
  pub given_next_a : (r next : Run) (e : Entry) → StandsFor (of_a g) (entries_of A es) r → IsUtf8 r.instance → root_moves (of_a g) x.side r ≡ roots.moved next (Some e) → IsGivenByRoot e
  given_next_a r next e stand text is = run_gives_where (of_a g) (spells_a g ends.piped.ready) (entries_of A es) x r next e ends.piped.given_a ends.leads_a goes_a stand text is

  pub given_next_b : (r next : Run) (e : Entry) → StandsFor (of_b g) (entries_of B es) r → IsUtf8 r.instance → root_moves (of_b g) y.side r ≡ roots.moved next (Some e) → IsGivenByRoot e
  given_next_b r next e stand text is = run_gives_where (of_b g) (spells_b g ends.piped.ready) (entries_of B es) y r next e ends.piped.given_b ends.leads_b goes_b stand text is
