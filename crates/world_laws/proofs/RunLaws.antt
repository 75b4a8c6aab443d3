-- Histories of a world: on bytes each is a run of messages, and each end replays its own entries.
use Rattle.std.proofs.Common.{◌≡◌, refl, sym, ap, subst, ◌∙◌, Bool, true, false, List, [], ◌∷◌, ◌++◌, Option, None, Some, if◌then◌else◌}
use Rattle.std.proofs.lemmas.List.{append_assoc, append-nil}
use Rattle.message_model.specs.Said.{spoken_after, spell}
use Rattle.message_model.specs.WritingMessages.{after_messages, bodies_spelling}
use Rattle.message_model.proofs.StreamLaws.{agree_at_first}
use Rattle.uno_model.specs.Sound.{IsSound}
use Rattle.bridge_model.specs.Entries.{Entry}
use Rattle.bridge_model.specs.Histories.{Told, nothing_told, told_more, told_by, tells, tells_all, replay, Leads}
use Rattle.bridge_model.specs.Settings.{Setting}
use Rattle.bridge_model.specs.Steps.{Turn, turn, step, does, opening}
use Rattle.bridge_laws.proofs.FrontLaws.{drained_front}
use Rattle.world_model.specs.Meetings.{Moves, Meets, begins, a_moves, b_moves}
use Rattle.world_model.specs.Readings.{IsRead, IsSynced, MayAllArrive, is_broken}
use Rattle.world_model.specs.Worlds.{Settings, of_a, of_b, End, World, opening_world, acts, with_a, with_b, Event, happens, happen_all, Runs, is_at, entries_of}
use Rattle.world_model.specs.declared.side.Side.{Side}
use Rattle.world_model.specs.declared.side.Side.TheVariants.{A, B}
use Rattle.world_laws.proofs.PieceFronts.{no_end_in_nothing}
use Rattle.world_laws.proofs.SyncedLaws.{acted, step_is, one_step}

-- ---- one end

nowhere : (g : Setting) (es : List Entry) (x : Told) → tells_all g None es ≡ Some x → ⊥
unfolding tells_all
nowhere g [] x is = absurd (cc)
nowhere g (e ∷ es) x is = absurd (cc)

told_push : (g : Setting) (o : Option Told) (es : List Entry) (e : Entry) (x z : Told) → tells_all g o es ≡ Some x → tells g x e ≡ Some z → tells_all g o (es ++ e ∷ []) ≡ Some z
unfolding tells_all
told_push g None es e x z to more = absurd (nowhere g es x to)
told_push g (Some y) [] e x z to more = last_one (tells g y e) (subst (λ w. tells g w e ≡ Some z) (sym (same_told y x to)) more)
  where
    same_told : (y x : Told) → Some y ≡ Some x → y ≡ x
    same_told y x is = cc

    last_one : (o : Option Told) → o ≡ Some z → tells_all g o [] ≡ Some z
    last_one None is = absurd (cc)
    last_one (Some w) is = is
told_push g (Some y) (f ∷ es) e x z to more = told_push g (tells g y f) es e x z to more

pub leads_push : (g : Setting) (es : List Entry) (e : Entry) (x : Told) (u : Turn) → Leads g es x → step g x.side e ≡ Some u → Leads g (es ++ e ∷ []) (told_more x e u)
unfolding replay
leads_push g es e x u to is = told_push g (Some (nothing_told g)) es e x (told_more x e u) to (ap (told_by x e) is)

-- an event on bytes is an entry more
pub acts_leads : (g : Setting) (es : List Entry) (one other after : End) (e : Entry) → Leads g es one.now → acts g one other e ≡ Some after → Leads g (es ++ e ∷ []) after.now
acts_leads g es one other after e leads to =
    let a = acted g one other e after to in
    subst (λ (z : End). Leads g (es ++ e ∷ []) z.now) (sym a.becomes) (leads_push g es e one.now (turn e one.now.side (does g e one.now.side)) leads (step_is g one.now.side e a.can))

-- the entries of one side, with one event more
push_if : (b : Bool) (x : Entry) (more rest longer : List Entry) → longer ≡ rest ++ more → (if b then x ∷ longer else longer) ≡ (if b then x ∷ rest else rest) ++ more
push_if true x more rest longer is = ap (λ es. x ∷ es) is
push_if false x more rest longer is = is

-- of two histories, one behind the other
pub entries_both : (s : Side) (es fs : List Event) → entries_of s (es ++ fs) ≡ entries_of s es ++ entries_of s fs
unfolding entries_of
entries_both s [] fs = refl
entries_both s (e ∷ es) fs = push_if (is_at s e.side) e.entry (entries_of s fs) (entries_of s es) (entries_of s (es ++ fs)) (entries_both s es fs)

entries_push : (s : Side) (es : List Event) (e : Event) → entries_of s (es ++ e ∷ []) ≡ entries_of s es ++ entries_of s (e ∷ [])
unfolding entries_of
entries_push s [] e = refl
entries_push s (f ∷ es) e = push_if (is_at s f.side) f.entry (if is_at s e.side then e.entry ∷ [] else []) (entries_of s es) (entries_of s (es ++ e ∷ [])) (entries_push s es e)

pub a_pushed : (es : List Event) (e : Entry) → entries_of A (es ++ record { side = A; entry = e } ∷ []) ≡ entries_of A es ++ e ∷ []
unfolding entries_of
a_pushed es e = entries_push A es (record { side = A; entry = e })

pub a_same : (es : List Event) (e : Entry) → entries_of A (es ++ record { side = B; entry = e } ∷ []) ≡ entries_of A es
unfolding entries_of
a_same es e = entries_push A es (record { side = B; entry = e }) ∙ append-nil (entries_of A es)

pub b_pushed : (es : List Event) (e : Entry) → entries_of B (es ++ record { side = B; entry = e } ∷ []) ≡ entries_of B es ++ e ∷ []
unfolding entries_of
b_pushed es e = entries_push B es (record { side = B; entry = e })

pub b_same : (es : List Event) (e : Entry) → entries_of B (es ++ record { side = A; entry = e } ∷ []) ≡ entries_of B es
unfolding entries_of
b_same es e = entries_push B es (record { side = A; entry = e }) ∙ append-nil (entries_of B es)

-- ---- runs of messages

-- both ends replay their entries
pub record BothLead (g : Settings) (es : List Event) (w : World) : Type 0 where
  pub a : Leads (of_a g) (entries_of A es) w.a.now
  pub b : Leads (of_b g) (entries_of B es) w.b.now

leads_on : (g : Setting) (es es' : List Entry) (e : Entry) (one other after : End) → es' ≡ es ++ e ∷ [] → Moves g one other e after → Leads g es one.now → Leads g es' after.now
leads_on g es es' e one other after is m leads =
    subst (λ fs. Leads g fs after.now) (sym is)
    (subst (λ (z : End). Leads g (es ++ e ∷ []) z.now) (sym m.becomes) (leads_push g es e one.now m.turn leads m.does))

pub both_lead : (g : Settings) (es : List Event) (w : World) → Meets g es w → BothLead g es w
unfolding replay tells_all entries_of
both_lead g es w begins = record { a = refl; b = refl }
both_lead g es' w' (a_moves es w e after met m) =
    let before = both_lead g es w met in
    record { a = leads_on (of_a g) (entries_of A es) _ e w.a w.b after (a_pushed es e) m before.a; b = subst (λ fs. Leads (of_b g) fs w.b.now) (sym (b_same es e)) before.b }
both_lead g es' w' (b_moves es w e after met m) =
    let before = both_lead g es w met in
    record { a = subst (λ fs. Leads (of_a g) fs w.a.now) (sym (a_same es e)) before.a; b = leads_on (of_b g) (entries_of B es) _ e w.b w.a after (b_pushed es e) m before.b }

-- ---- histories on bytes

-- a run of messages, of which the bytes were fed so
pub record IsMet (g : Settings) (es : List Event) (w : World) : Type 0 where
  pub met : Meets g es w
  pub there : IsSynced g.registry w.a.now w.b.now
  pub back : IsSynced g.registry w.b.now w.a.now
  pub whole_a : is_broken w.a.now.side.cause ≡ false
  pub whole_b : is_broken w.b.now.side.cause ≡ false

nothing_read : (x y : Setting) → IsRead x.registry (nothing_told x) (nothing_told y)
unfolding opening spell spoken_after after_messages bodies_spelling
nothing_read x y = record { front = []; rest = []; said = refl; got = refl; bytes = refl; part = no_end_in_nothing; heard = agree_at_first }

first_whole : (g : Setting) → is_broken (nothing_told g).side.cause ≡ false
unfolding opening
first_whole g = refl

nothing_synced : (x y : Setting) → IsSynced x.registry (nothing_told x) (nothing_told y)
nothing_synced x y = record { pipe = []; piped = refl; follows = record { front = []; rest = []; said = refl; got = refl }; read = λ up. nothing_read x y }

-- the first message in flight may come wherever messages alone lead to by a front of a history
abbrev pub AllMayArrive : Settings → List Event → Type 0
AllMayArrive g es = (front rest : List Event) (w : World) → front ++ rest ≡ es → Meets g front w → MayAllArrive g w

same_world : (v w : World) → Some v ≡ Some w → w ≡ v
same_world v w is = cc

a_met : (g : Settings) → IsSound g.registry → (es : List Event) (w : World) (e : Entry) → IsMet g es w → MayAllArrive g w → (o : Option End) → o ≡ acts (of_a g) w.a w.b e → (v : World)
    → with_a w o ≡ Some v → IsMet g (es ++ record { side = A; entry = e } ∷ []) v
a_met g sound es w e is all None acts_so v to = absurd (cc)
a_met g sound es w e is all (Some after) acts_so v to =
    let front = drained_front (of_b g) (entries_of B es) w.b.now (both_lead g es w is.met).b in
    let one = one_step (of_a g) w.a w.b e after sound (sym acts_so) is.back is.there all.light_b front.0 front.1 all.to_a in
    subst (IsMet g (es ++ record { side = A; entry = e } ∷ [])) (sym (same_world (record { a = after; b = w.b }) v to))
    (record { met = a_moves es w e after is.met one.moves; there = one.out; back = one.into; whole_a = one.whole is.whole_a; whole_b = is.whole_b })

b_met : (g : Settings) → IsSound g.registry → (es : List Event) (w : World) (e : Entry) → IsMet g es w → MayAllArrive g w → (o : Option End) → o ≡ acts (of_b g) w.b w.a e → (v : World)
    → with_b w o ≡ Some v → IsMet g (es ++ record { side = B; entry = e } ∷ []) v
b_met g sound es w e is all None acts_so v to = absurd (cc)
b_met g sound es w e is all (Some after) acts_so v to =
    let front = drained_front (of_a g) (entries_of A es) w.a.now (both_lead g es w is.met).a in
    let one = one_step (of_b g) w.b w.a e after sound (sym acts_so) is.there is.back all.light_a front.0 front.1 all.to_b in
    subst (IsMet g (es ++ record { side = B; entry = e } ∷ [])) (sym (same_world (record { a = w.a; b = after }) v to))
    (record { met = b_moves es w e after is.met one.moves; there = one.into; back = one.out; whole_a = is.whole_a; whole_b = one.whole is.whole_b })

event_met : (g : Settings) → IsSound g.registry → (es : List Event) (w : World) (s : Side) (e : Entry) → IsMet g es w → MayAllArrive g w → (v : World)
    → happens g w (record { side = s; entry = e }) ≡ Some v → IsMet g (es ++ record { side = s; entry = e } ∷ []) v
unfolding happens
event_met g sound es w A e is all v to = a_met g sound es w e is all (acts (of_a g) w.a w.b e) refl v to
event_met g sound es w B e is all v to = b_met g sound es w e is all (acts (of_b g) w.b w.a e) refl v to

all_met : (g : Settings) → IsSound g.registry → (whole : List Event) → AllMayArrive g whole → (done : List Event) (o : Option World) → ((w : World) → o ≡ Some w → IsMet g done w) → (es : List Event)
    → done ++ es ≡ whole → (v : World) → happen_all g o es ≡ Some v → IsMet g whole v
unfolding happen_all
all_met g sound whole arrive done None fine es is v to = absurd (cc)
all_met g sound whole arrive done (Some w) fine [] is v to = subst (λ fs. IsMet g fs v) (sym (append-nil done) ∙ is) (fine v to)
all_met g sound whole arrive done (Some w) fine (e ∷ es) is v to =
    let met = fine w refl in
    all_met g sound whole arrive (done ++ e ∷ []) (happens g w e) (λ u so. event_met g sound done w e.side e.entry met (arrive done (e ∷ es) w is met.met) u so) es
    (append_assoc done (e ∷ []) es ∙ is) v to

-- every history on bytes is a run of messages
pub runs_meet : (g : Settings) → IsSound g.registry → (es : List Event) → AllMayArrive g es → (w : World) → Runs g es w → IsMet g es w
runs_meet g sound es arrive w runs =
    all_met g sound es arrive [] (Some (opening_world g)) (λ v is. subst (IsMet g []) (sym (same_world (opening_world g) v is))
    (record { met = begins; there = nothing_synced (of_a g) (of_b g); back = nothing_synced (of_b g) (of_a g); whole_a = first_whole (of_a g); whole_b = first_whole (of_b g) })) es refl w runs
