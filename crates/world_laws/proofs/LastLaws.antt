-- Runs of messages: what came is the front of what was said; and each end as it was when it last stood had said and got all that it ever did.
use Rattle.std.proofs.Common.{◌≡◌, refl, sym, ap, subst, ◌∙◌, ◌⊎◌, inl, inr, Bool, true, false, ◌&&◌, List, [], ◌∷◌, ◌++◌, Some, if◌then◌else◌}
use Rattle.std.specs.List.{list_all}
use Rattle.std.proofs.lemmas.Bool.{and_parts}
use Rattle.std.proofs.lemmas.List.{append_assoc, append-nil}
use Rattle.message_model.specs.Sayable.{arrived}
use Rattle.uno_model.specs.Entities.{Entity}
use Rattle.bridge_model.specs.Entries.{Entry}
use Rattle.bridge_model.specs.Histories.{Told, told_more, tells_all, replay, Leads}
use Rattle.bridge_model.specs.Settings.{Setting}
use Rattle.bridge_model.specs.Sides.{Side, stands}
use Rattle.bridge_model.specs.Steps.{Turn, step, opening}
use Rattle.bridge_laws.proofs.Replays.{of_step}
use Rattle.bridge_laws.proofs.StandingLaws.{same_standing}
use Rattle.bridge_laws.proofs.StepLaws.{ended_along}
use Rattle.world_model.specs.Flights.{Follows, AreLinked, IsNext}
use Rattle.world_model.specs.Meetings.{Moves, Meets, begins, a_moves, b_moves}
use Rattle.world_model.specs.Worlds.{Settings, of_a, of_b, End, at_first, moved, World, Event, entries_of}
use Rattle.world_model.specs.declared.side.Side.TheVariants.{A, B}
use Rattle.world_laws.proofs.FlightLaws.{flight_is}
use Rattle.world_laws.proofs.ReadingLaws.{map_push}
use Rattle.world_laws.proofs.RunLaws.{leads_push, a_pushed, a_same, b_pushed, b_same, both_lead}
use Rattle.world_laws.proofs.StepReading.{end_silent}

-- ---- messages

said_on : (reg : List Entity) (x y : Told) (e : Entry) (u : Turn) → Follows reg x y → Follows reg (told_more x e u) y
said_on reg x y e u f = record { front = f.front; rest = f.rest ++ u.said; said = ap (λ ms. ms ++ u.said) f.said ∙ append_assoc f.front f.rest u.said; got = f.got }

comes_on : (reg : List Entity) (x y : Told) (e : Entry) (u : Turn) (f : Follows reg x y) → IsNext reg f.rest u.got → Follows reg x (told_more y e u)
comes_on reg x y e u f (inl none) = record { front = f.front; rest = f.rest; said = f.said; got = (ap (λ ms. y.got ++ ms) none ∙ append-nil y.got) ∙ f.got }
comes_on reg x y e u f (inr (m, ms, rest, one)) =
    record {
      front = f.front ++ m ∷ [];
      rest = ms;
      said = f.said ∙ (ap (λ zs. f.front ++ zs) rest ∙ sym (append_assoc f.front (m ∷ []) ms));
      got = ap (λ zs. y.got ++ zs) one ∙ (ap (λ zs. zs ++ arrived reg m ∷ []) f.got ∙ sym (map_push (arrived reg) f.front m));
    }

linked_on : (g : Setting) (one other after : End) (e : Entry) → Moves g one other e after → AreLinked g.registry one.now other.now → AreLinked g.registry after.now other.now
linked_on g one other after e m linked =
    subst (λ (z : End). AreLinked g.registry z.now other.now) (sym m.becomes)
    (record {
      there = said_on g.registry one.now other.now e m.turn linked.there;
      back = comes_on g.registry other.now one.now e m.turn linked.back (subst (λ ms. IsNext g.registry ms m.turn.got) (flight_is g.registry other.now one.now linked.back) m.comes);
    })

turned : (reg : List Entity) (x y : Told) → AreLinked reg x y → AreLinked reg y x
turned reg x y l = record { there = l.back; back = l.there }

-- what came is a front of what was said, both ways
pub meets_linked : (g : Settings) (es : List Event) (w : World) → Meets g es w → AreLinked g.registry w.a.now w.b.now
meets_linked g es w begins =
    record { there = record { front = []; rest = []; said = refl; got = refl }; back = record { front = []; rest = []; said = refl; got = refl } }
meets_linked g es' w' (a_moves es w e after met m) = linked_on (of_a g) w.a w.b after e m (meets_linked g es w met)
meets_linked g es' w' (b_moves es w e after met m) =
    turned g.registry after.now w.a.now (linked_on (of_b g) w.b w.a after e m (turned g.registry w.a.now w.b.now (meets_linked g es w met)))

-- ---- as it last stood

-- an end as it last stood, to which a front of its entries leads
pub record LastStood (g : Setting) (es : List Entry) (e : End) : Type 0 where
  pub before : List Entry
  pub behind : List Entry
  pub journal : es ≡ before ++ behind
  pub leads : Leads g before e.last
  pub up : stands e.last.side ≡ true
  pub said : e.now.said ≡ e.last.said
  pub got : e.now.got ≡ e.last.got
  pub within : (test : Entry → Bool) → list_all test es ≡ true → list_all test before ≡ true

all_front : (test : Entry → Bool) (es : List Entry) (e : Entry) → list_all test (es ++ e ∷ []) ≡ true → list_all test es ≡ true
all_front test [] e all = refl
all_front test (f ∷ es) e all = and_both (test f) (list_all test es) (and_parts (test f) (list_all test (es ++ e ∷ [])) all).0 (all_front test es e (and_parts (test f) (list_all test (es ++ e ∷ [])) all).1)
  where
    and_both : (a b : Bool) → a ≡ true → b ≡ true → (a && b) ≡ true
    and_both true b p q = q
    and_both false b p q = absurd (cc)

got_nothing : (u : Turn) → stands u.side ≡ false → (u.got ≡ []) ⊎ (stands u.side ≡ true) → u.got ≡ []
got_nothing u down (inl none) = none
got_nothing u down (inr up) = absurd (cc)

said_nothing : (g : Setting) (s : Side) (e : Entry) (u : Turn) → stands s ≡ true → step g s e ≡ Some u → stands u.side ≡ false → u.got ≡ [] → u.said ≡ []
said_nothing g s e u up is =
    of_step g s e u (λ v. stands v.side ≡ false → v.got ≡ [] → v.said ≡ []) (λ can down none. end_silent g e s up (sym (same_standing g e s) ∙ down) none) is

quiet_at_end : (g : Setting) (es : List Entry) (x : Told) (e : Entry) (u : Turn) → Leads g es x → step g x.side e ≡ Some u → stands u.side ≡ false → u.got ≡ [] → (b : Bool) → stands x.side ≡ b → u.said ≡ []
quiet_at_end g es x e u leads is down none true up = said_nothing g x.side e u up is down none
quiet_at_end g es x e u leads is down none false up = (ended_along g es x e u leads up is).said

last_by : (g : Setting) (es : List Entry) (one : End) (e : Entry) (u : Turn) → Leads g es one.now → step g one.now.side e ≡ Some u → (u.got ≡ []) ⊎ (stands u.side ≡ true) → LastStood g es one
    → (b : Bool) → stands u.side ≡ b → LastStood g (es ++ e ∷ []) (moved one (told_more one.now e u))
last_by g es one e u leads is whole last true up =
    subst (λ z. LastStood g (es ++ e ∷ []) (record { now = told_more one.now e u; last = if z then told_more one.now e u else one.last })) (sym up)
    (record { before = es ++ e ∷ []; behind = []; journal = sym (append-nil (es ++ e ∷ [])); leads = leads_push g es e one.now u leads is; up = up; said = refl; got = refl; within = λ test all. all })
last_by g es one e u leads is whole last false down =
    let none = got_nothing u down whole in
    let quiet = quiet_at_end g es one.now e u leads is down none (stands one.now.side) refl in
    subst (λ z. LastStood g (es ++ e ∷ []) (record { now = told_more one.now e u; last = if z then told_more one.now e u else one.last })) (sym down)
    (record {
      before = last.before;
      behind = last.behind ++ e ∷ [];
      journal = ap (λ fs. fs ++ e ∷ []) last.journal ∙ append_assoc last.before last.behind (e ∷ []);
      leads = last.leads;
      up = last.up;
      said = (ap (λ ms. one.now.said ++ ms) quiet ∙ append-nil one.now.said) ∙ last.said;
      got = (ap (λ ms. one.now.got ++ ms) none ∙ append-nil one.now.got) ∙ last.got;
      within = λ test all. last.within test (all_front test es e all);
    })

last_on : (g : Setting) (es es' : List Entry) (one other after : End) (e : Entry) → es' ≡ es ++ e ∷ [] → Moves g one other e after → Leads g es one.now → LastStood g es one → LastStood g es' after
last_on g es es' one other after e is m leads last =
    subst (λ fs. LastStood g fs after) (sym is)
    (subst (LastStood g (es ++ e ∷ [])) (sym m.becomes) (last_by g es one e m.turn leads m.does m.whole last (stands m.turn.side) refl))

pub record BothLast (g : Settings) (es : List Event) (w : World) : Type 0 where
  pub a : LastStood (of_a g) (entries_of A es) w.a
  pub b : LastStood (of_b g) (entries_of B es) w.b

first_stood : (g : Setting) → LastStood g [] (at_first g)
unfolding replay tells_all opening
first_stood g = record { before = []; behind = []; journal = refl; leads = refl; up = refl; said = refl; got = refl; within = λ test all. all }

pub both_last : (g : Settings) (es : List Event) (w : World) → Meets g es w → BothLast g es w
unfolding entries_of
both_last g es w begins = record { a = first_stood (of_a g); b = first_stood (of_b g) }
both_last g es' w' (a_moves es w e after met m) =
    let before = both_last g es w met in
    record {
      a = last_on (of_a g) (entries_of A es) _ w.a w.b after e (a_pushed es e) m (both_lead g es w met).a before.a;
      b = subst (λ fs. LastStood (of_b g) fs w.b) (sym (b_same es e)) before.b;
    }
both_last g es' w' (b_moves es w e after met m) =
    let before = both_last g es w met in
    record {
      a = subst (λ fs. LastStood (of_a g) fs w.a) (sym (a_same es e)) before.a;
      b = last_on (of_b g) (entries_of B es) _ w.b w.a after e (b_pushed es e) m (both_lead g es w met).b before.b;
    }

-- ---- both as they last stood

linked_at : (reg : List Entity) (x y u v : Told) → x.said ≡ u.said → x.got ≡ u.got → y.said ≡ v.said → y.got ≡ v.got → AreLinked reg x y → AreLinked reg u v
linked_at reg x y u v p q r s l =
    record {
      there = record { front = l.there.front; rest = l.there.rest; said = sym p ∙ l.there.said; got = sym s ∙ l.there.got };
      back = record { front = l.back.front; rest = l.back.rest; said = sym r ∙ l.back.said; got = sym q ∙ l.back.got };
    }

pub last_linked : (g : Settings) (es : List Event) (w : World) → Meets g es w → AreLinked g.registry w.a.last w.b.last
last_linked g es w met =
    let last = both_last g es w met in
    linked_at g.registry w.a.now w.b.now w.a.last w.b.last last.a.said last.a.got last.b.said last.b.got (meets_linked g es w met)
