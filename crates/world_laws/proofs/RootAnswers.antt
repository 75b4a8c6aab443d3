-- In every run each answer of a root is its call's own: the entry that gave it is found in the run, and what a message gave is the reply to the call on top of the root's thread.
use Rattle.std.proofs.Common.{◌≡◌, refl, sym, ap, subst, ◌∙◌, ℕ, true, inl, inr, List, [], ◌∷◌, ◌++◌, Some, ◌⊎◌}
use Rattle.message_model.specs.Calls.{numbered}
use Rattle.message_model.specs.Messages.{Message, Answer, raised, reply}
use Rattle.message_model.specs.Sayable.{answer_arrived, arrived}
use Rattle.plan_model.specs.Frames.{outgoing, frames_of}
use Rattle.uno_model.specs.Kinds.{Kind}
use Rattle.uno_model.specs.Values.{Plain}
use Rattle.bridge_model.specs.Entries.{Entry, fed}
use Rattle.bridge_model.specs.Histories.{Told, Leads}
use Rattle.bridge_model.specs.Receiving.{below_top}
use Rattle.bridge_model.specs.References.{home_answer}
use Rattle.bridge_model.specs.Settings.{Setting}
use Rattle.bridge_model.specs.Sides.{answer, answered, Side, stands, state_of}
use Rattle.bridge_model.specs.Steps.{Turn, step}
use Rattle.bridge_laws.proofs.Replays.{of_step}
use Rattle.bridge_laws.proofs.StandingLaws.{stood, same_standing}
use Rattle.bridge_laws.specs.Givings.{Gives, IsGiven}
use Rattle.bridge_laws.specs.Outcomes.{for_root, fate_of_message, handed_down}
use Rattle.bridge_laws.specs.Raising.{call_of, CallMayRaise, MayAnswer}
use Rattle.bridge_laws.proofs.AnswerGivenLaws.{answer_given}
use Rattle.bridge_laws.proofs.RaisingLaws.{reply_raises}
use Rattle.world_model.specs.Flights.{flight, Follows}
use Rattle.world_model.specs.Meetings.{Meets}
use Rattle.world_model.specs.Sayings.{IsWellSaid, AreWellSaid}
use Rattle.world_model.specs.Setups.{AreSetUp, BothGive}
use Rattle.world_model.specs.Worlds.{Settings, of_a, of_b, World, Event, entries_of}
use Rattle.world_model.specs.declared.side.Side as which_side
use Rattle.world_model.specs.declared.side.Side.TheVariants.{A, B}
use Rattle.world_laws.proofs.FlightLaws.{flight_is}
use Rattle.world_laws.proofs.HistoryLaws.{front_gives_both}
use Rattle.world_laws.proofs.InterlockLaws.{both_current}
use Rattle.world_laws.proofs.JoinedLaws.{joined}
use Rattle.world_laws.proofs.LastLaws.{meets_linked}
use Rattle.world_laws.proofs.RunLaws.{both_lead}
use Rattle.world_laws.proofs.SaidLaws.{given_a, given_b, both_well}
use Rattle.world_laws.specs.Calls.{IsHanded}
use Rattle.world_laws.specs.Ends.{near}
use Rattle.world_laws.specs.Roots.{IsAnsweredAcross, MayGet, of_its_call, IsOwn}
use Rattle.world_laws.proofs.GivenAcross.{ByReply, message_gave, gave_raised, same_raised, answers_well}
use Rattle.world_laws.proofs.HandedLaws.{handed_a, handed_b}
use Rattle.world_laws.proofs.RunEntries.{MadeA, made_a, MadeB, made_b}

-- ---- one end

same_told : (x y : Told) → Some x ≡ Some y → x ≡ y
same_told x y is = cc

same_turn : (u v : Turn) → Some u ≡ Some v → u ≡ v
same_turn u v is = cc

stood_before : (g : Setting) (s : Side) (e : Entry) (u : Turn) → step g s e ≡ Some u → stands u.side ≡ true → stands s ≡ true
stood_before g s e u is = of_step g s e u (λ v. stands v.side ≡ true → stands s ≡ true) (λ can up. stood g e s can (sym (same_standing g e s) ∙ up)) is

came_up : (got : List Message) (m : Message) (s : Side) → (got ≡ []) ⊎ (stands s ≡ true) → got ≡ m ∷ [] → stands s ≡ true
came_up got m s (inl none) one = let bad : [] ≡ m ∷ [] = sym none ∙ one in absurd (cc)
came_up got m s (inr up) one = up

all_behind : (g : Setting) (front rest : List Message) → AreWellSaid g (front ++ rest) → AreWellSaid g rest
all_behind g [] rest all = all
all_behind g (m ∷ front) rest all = all_behind g front rest all.1

-- the first message in flight was said
first_said : (g : Setting) (x y : Told) → Follows g.registry x y → AreWellSaid g x.said → (m : Message) (ms : List Message) → flight x y ≡ m ∷ ms → IsWellSaid g m
first_said g x y f all m ms flies =
    (subst (AreWellSaid g) (sym (flight_is g.registry x y f) ∙ flies) (all_behind g f.front f.rest (subst (AreWellSaid g) f.said all))).0

-- ---- what a reply does

-- the frames of its thread, with the call that it answers
fate_below : (g : Settings) (s : which_side.Side) (es : List Event) (w : World) (u : Turn) (tid face : List ℕ) (function : ℕ) (said : Answer) (h : IsHanded g s es w u tid face function said) → (near s w).last ≡ (near s w).now
    → below_top (frames_of tid (near s w).now.side.stacks) ≡ h.answer.below
fate_below g s es w u tid face function said h same = ap (λ (x : Told). below_top (frames_of tid x.side.stacks)) (sym same) ∙ ap below_top h.answer.top

top_now : (g : Settings) (s : which_side.Side) (es : List Event) (w : World) (u : Turn) (tid face : List ℕ) (function : ℕ) (said : Answer) (h : IsHanded g s es w u tid face function said) → (near s w).last ≡ (near s w).now
    → frames_of tid (near s w).now.side.stacks ≡ outgoing h.answer.call ∷ h.answer.below
top_now g s es w u tid face function said h same = ap (λ (x : Told). frames_of tid x.side.stacks) (sym same) ∙ h.answer.top

module _ (g : Settings) (up : AreSetUp g) where
  -- ---- the first end

  handed_so_a : (es : List Event) (before : List Entry) (b : List ℕ) (k : MadeA g es before (fed b)) (root : ℕ) (a : Answer)
      (r : ByReply (of_a g) k.world.a.now.side (flight k.world.b.now k.world.a.now) k.move.turn.got root a) → IsHanded g A k.front k.world k.move.turn r.tid r.face r.function r.said
  handed_so_a es before b k root a r =
      handed_a g (joined g up) (given_a g up).roots (given_b g up).roots k.front k.world k.met (fed b) k.after k.move (came_up k.move.turn.got _ k.move.turn.side k.move.whole r.one) r.tid r.face r.function r.said r.rest r.flies r.one

  current_a : (es : List Event) (before : List Entry) (b : List ℕ) (k : MadeA g es before (fed b)) (root : ℕ) (a : Answer)
      (r : ByReply (of_a g) k.world.a.now.side (flight k.world.b.now k.world.a.now) k.move.turn.got root a) → k.world.a.last ≡ k.world.a.now
  current_a es before b k root a r =
      (both_current g k.front k.world k.met).a (stood_before (of_a g) k.world.a.now.side (fed b) k.move.turn k.move.does (came_up k.move.turn.got _ k.move.turn.side k.move.whole r.one))

  across_a : (es : List Event) (before : List Entry) (b : List ℕ) (k : MadeA g es before (fed b)) (root : ℕ) (a : Answer)
      (r : ByReply (of_a g) k.world.a.now.side (flight k.world.b.now k.world.a.now) k.move.turn.got root a) → IsAnsweredAcross g A es root a
  unfolding arrived fate_of_message
  across_a es before b k root a r =
      let h = handed_so_a es before b k root a r in
      let below = fate_below g A k.front k.world k.move.turn r.tid r.face r.function r.said h (current_a es before b k root a r) in
      record {
        front = k.front;
        bytes = b;
        later = k.rest;
        run = k.run;
        before = k.world;
        met = k.met;
        turn = k.move.turn;
        does = k.move.does;
        tid = r.tid;
        face = r.face;
        function = r.function;
        said = r.said;
        handed = h;
        given = r.given;
        fate =
            h.down
            ∙ (ap (λ fs. handed_down g.registry r.tid (home_answer (of_a g) (answer_arrived g.registry (numbered g.registry r.face r.function) r.said)) fs) (sym below) ∙ r.fate);
        same = r.same;
      }

  raised_a : (es : List Event) (before : List Entry) (b : List ℕ) (k : MadeA g es before (fed b)) (root : ℕ) (a : Answer)
      (r : ByReply (of_a g) k.world.a.now.side (flight k.world.b.now k.world.a.now) k.move.turn.got root a) → BothGive g es → (kind : Kind) (x : Plain) → a ≡ raised kind x → MayGet (of_a g) root kind k.world.a.now.side
  unfolding arrived fate_of_message
  raised_a es before b k root a r gives kind x is =
      let h = handed_so_a es before b k root a r in
      let same = current_a es before b k root a r in
      let below = fate_below g A k.front k.world k.move.turn r.tid r.face r.function r.said h same in
      let well = both_well g up k.front k.world k.met (front_gives_both g k.front (record { side = A; entry = fed b } ∷ k.rest) es (sym k.run) gives) in
      let may = (first_said (of_b g) k.world.b.now k.world.a.now (meets_linked g k.front k.world k.met).back well.b (reply r.tid r.face r.function r.said) r.rest r.flies).may in
      let arrival = home_answer (of_a g) (answer_arrived g.registry (numbered g.registry r.face r.function) r.said) in
      let answers : MayAnswer g.registry h.answer.call.face h.answer.call.function arrival =
      answers_well g.registry (of_a g) r.face h.answer.call.face r.function h.answer.call.function (numbered g.registry r.face r.function) may.0 r.said h.answer.same_face h.answer.same_function may.1.found may.3 in
      of_its_call r.tid
      (subst (λ fs. CallMayRaise g.registry (call_of root fs) kind) (sym (top_now g A k.front k.world k.move.turn r.tid r.face r.function r.said h same))
      (reply_raises g.registry r.tid arrival h.answer.call h.answer.below root kind x answers
      (ap (handed_down g.registry r.tid arrival) (sym below) ∙ (r.fate ∙ ap (for_root root) (same_raised (of_a g) (state_of root k.world.a.now.side.tables.roots) r.given kind x (sym r.same ∙ is))))))

  -- where the entry is a piece, its message was a reply
  piece_across_a : (es : List Event) (before : List Entry) (root : ℕ) (a : Answer) (e : Entry) (b : List ℕ) → e ≡ fed b → (k : MadeA g es before e)
      → Gives (of_a g) k.world.a.now.side root a e k.move.turn.got → IsAnsweredAcross g A es root a
  piece_across_a es before root a e b is =
      subst (λ z. (k : MadeA g es before z) → Gives (of_a g) k.world.a.now.side root a z k.move.turn.got → IsAnsweredAcross g A es root a) (sym is)
      (λ k gave. across_a es before b k root a (message_gave (of_a g) k.world.a.now.side root a (fed b) k.move.turn.got (flight k.world.b.now k.world.a.now) gave k.move.comes b refl))

  piece_raised_a : (es : List Event) (before : List Entry) (root : ℕ) (a : Answer) (e : Entry) (b : List ℕ) → e ≡ fed b → (k : MadeA g es before e)
      → Gives (of_a g) k.world.a.now.side root a e k.move.turn.got → BothGive g es → (kind : Kind) (x : Plain) → a ≡ raised kind x → MayGet (of_a g) root kind k.world.a.now.side
  piece_raised_a es before root a e b is =
      subst (λ z. (k : MadeA g es before z) → Gives (of_a g) k.world.a.now.side root a z k.move.turn.got → BothGive g es → (kind : Kind) (x : Plain) → a ≡ raised kind x → MayGet (of_a g) root kind k.world.a.now.side)
      (sym is)
      (λ k gave. raised_a es before b k root a (message_gave (of_a g) k.world.a.now.side root a (fed b) k.move.turn.got (flight k.world.b.now k.world.a.now) gave k.move.comes b refl))

  -- what was told before the entry is what the end was told in the run
  told_a : (es : List Event) (root : ℕ) (a : Answer) (h : IsGiven (of_a g) (entries_of A es) root a) (k : MadeA g es h.before h.entry) → h.told ≡ k.world.a.now
  told_a es root a h k =
      same_told h.told k.world.a.now (sym h.leads ∙ subst (λ fs. Leads (of_a g) fs k.world.a.now) k.entries (both_lead g k.front k.world k.met).a)

  gave_a : (es : List Event) (root : ℕ) (a : Answer) (h : IsGiven (of_a g) (entries_of A es) root a) (k : MadeA g es h.before h.entry) → Gives (of_a g) k.world.a.now.side root a h.entry k.move.turn.got
  gave_a es root a h k =
      let told = told_a es root a h k in
      let turn = same_turn h.turn k.move.turn (sym h.does ∙ (ap (λ (t : Told). step (of_a g) t.side h.entry) told ∙ k.move.does)) in
      subst (λ (t : Told). Gives (of_a g) t.side root a h.entry k.move.turn.got) told (subst (λ (u : Turn). Gives (of_a g) h.told.side root a h.entry u.got) turn h.gives)

  pub own_a : (es : List Event) (w : World) → Meets g es w → BothGive g es → (root : ℕ) (a : Answer) → state_of root w.a.now.side.tables.roots ≡ answered (answer a) → IsOwn g A es root a
  own_a es w met gives root a is =
      let h = answer_given (of_a g) (entries_of A es) w.a.now root a (both_lead g es w met).a is in
      let k = made_a g es w met h.before h.later h.entry h.journal in
      let gave = gave_a es root a h k in
      record {
        given = h;
        across = λ b fed_is. piece_across_a es h.before root a h.entry b fed_is k gave;
        raises = λ kind x same.
            subst (λ (t : Told). MayGet (of_a g) root kind t.side) (sym (told_a es root a h k))
            (gave_raised (of_a g) k.world.a.now.side root a h.entry k.move.turn.got gave kind x same (λ b fed_is. piece_raised_a es h.before root a h.entry b fed_is k gave gives kind x same));
      }

  -- ---- the second end

  handed_so_b : (es : List Event) (before : List Entry) (b : List ℕ) (k : MadeB g es before (fed b)) (root : ℕ) (a : Answer)
      (r : ByReply (of_b g) k.world.b.now.side (flight k.world.a.now k.world.b.now) k.move.turn.got root a) → IsHanded g B k.front k.world k.move.turn r.tid r.face r.function r.said
  handed_so_b es before b k root a r =
      handed_b g (joined g up) (given_a g up).roots (given_b g up).roots k.front k.world k.met (fed b) k.after k.move (came_up k.move.turn.got _ k.move.turn.side k.move.whole r.one) r.tid r.face r.function r.said r.rest r.flies r.one

  current_b : (es : List Event) (before : List Entry) (b : List ℕ) (k : MadeB g es before (fed b)) (root : ℕ) (a : Answer)
      (r : ByReply (of_b g) k.world.b.now.side (flight k.world.a.now k.world.b.now) k.move.turn.got root a) → k.world.b.last ≡ k.world.b.now
  current_b es before b k root a r =
      (both_current g k.front k.world k.met).b (stood_before (of_b g) k.world.b.now.side (fed b) k.move.turn k.move.does (came_up k.move.turn.got _ k.move.turn.side k.move.whole r.one))

  across_b : (es : List Event) (before : List Entry) (b : List ℕ) (k : MadeB g es before (fed b)) (root : ℕ) (a : Answer)
      (r : ByReply (of_b g) k.world.b.now.side (flight k.world.a.now k.world.b.now) k.move.turn.got root a) → IsAnsweredAcross g B es root a
  unfolding arrived fate_of_message
  across_b es before b k root a r =
      let h = handed_so_b es before b k root a r in
      let below = fate_below g B k.front k.world k.move.turn r.tid r.face r.function r.said h (current_b es before b k root a r) in
      record {
        front = k.front;
        bytes = b;
        later = k.rest;
        run = k.run;
        before = k.world;
        met = k.met;
        turn = k.move.turn;
        does = k.move.does;
        tid = r.tid;
        face = r.face;
        function = r.function;
        said = r.said;
        handed = h;
        given = r.given;
        fate =
            h.down
            ∙ (ap (λ fs. handed_down g.registry r.tid (home_answer (of_b g) (answer_arrived g.registry (numbered g.registry r.face r.function) r.said)) fs) (sym below) ∙ r.fate);
        same = r.same;
      }

  raised_b : (es : List Event) (before : List Entry) (b : List ℕ) (k : MadeB g es before (fed b)) (root : ℕ) (a : Answer)
      (r : ByReply (of_b g) k.world.b.now.side (flight k.world.a.now k.world.b.now) k.move.turn.got root a) → BothGive g es → (kind : Kind) (x : Plain) → a ≡ raised kind x → MayGet (of_b g) root kind k.world.b.now.side
  unfolding arrived fate_of_message
  raised_b es before b k root a r gives kind x is =
      let h = handed_so_b es before b k root a r in
      let same = current_b es before b k root a r in
      let below = fate_below g B k.front k.world k.move.turn r.tid r.face r.function r.said h same in
      let well = both_well g up k.front k.world k.met (front_gives_both g k.front (record { side = B; entry = fed b } ∷ k.rest) es (sym k.run) gives) in
      let may = (first_said (of_a g) k.world.a.now k.world.b.now (meets_linked g k.front k.world k.met).there well.a (reply r.tid r.face r.function r.said) r.rest r.flies).may in
      let arrival = home_answer (of_b g) (answer_arrived g.registry (numbered g.registry r.face r.function) r.said) in
      let answers : MayAnswer g.registry h.answer.call.face h.answer.call.function arrival =
      answers_well g.registry (of_b g) r.face h.answer.call.face r.function h.answer.call.function (numbered g.registry r.face r.function) may.0 r.said h.answer.same_face h.answer.same_function may.1.found may.3 in
      of_its_call r.tid
      (subst (λ fs. CallMayRaise g.registry (call_of root fs) kind) (sym (top_now g B k.front k.world k.move.turn r.tid r.face r.function r.said h same))
      (reply_raises g.registry r.tid arrival h.answer.call h.answer.below root kind x answers
      (ap (handed_down g.registry r.tid arrival) (sym below) ∙ (r.fate ∙ ap (for_root root) (same_raised (of_b g) (state_of root k.world.b.now.side.tables.roots) r.given kind x (sym r.same ∙ is))))))

  -- where the entry is a piece, its message was a reply
  piece_across_b : (es : List Event) (before : List Entry) (root : ℕ) (a : Answer) (e : Entry) (b : List ℕ) → e ≡ fed b → (k : MadeB g es before e)
      → Gives (of_b g) k.world.b.now.side root a e k.move.turn.got → IsAnsweredAcross g B es root a
  piece_across_b es before root a e b is =
      subst (λ z. (k : MadeB g es before z) → Gives (of_b g) k.world.b.now.side root a z k.move.turn.got → IsAnsweredAcross g B es root a) (sym is)
      (λ k gave. across_b es before b k root a (message_gave (of_b g) k.world.b.now.side root a (fed b) k.move.turn.got (flight k.world.a.now k.world.b.now) gave k.move.comes b refl))

  piece_raised_b : (es : List Event) (before : List Entry) (root : ℕ) (a : Answer) (e : Entry) (b : List ℕ) → e ≡ fed b → (k : MadeB g es before e)
      → Gives (of_b g) k.world.b.now.side root a e k.move.turn.got → BothGive g es → (kind : Kind) (x : Plain) → a ≡ raised kind x → MayGet (of_b g) root kind k.world.b.now.side
  piece_raised_b es before root a e b is =
      subst (λ z. (k : MadeB g es before z) → Gives (of_b g) k.world.b.now.side root a z k.move.turn.got → BothGive g es → (kind : Kind) (x : Plain) → a ≡ raised kind x → MayGet (of_b g) root kind k.world.b.now.side)
      (sym is)
      (λ k gave. raised_b es before b k root a (message_gave (of_b g) k.world.b.now.side root a (fed b) k.move.turn.got (flight k.world.a.now k.world.b.now) gave k.move.comes b refl))

  -- what was told before the entry is what the end was told in the run
  told_b : (es : List Event) (root : ℕ) (a : Answer) (h : IsGiven (of_b g) (entries_of B es) root a) (k : MadeB g es h.before h.entry) → h.told ≡ k.world.b.now
  told_b es root a h k =
      same_told h.told k.world.b.now (sym h.leads ∙ subst (λ fs. Leads (of_b g) fs k.world.b.now) k.entries (both_lead g k.front k.world k.met).b)

  gave_b : (es : List Event) (root : ℕ) (a : Answer) (h : IsGiven (of_b g) (entries_of B es) root a) (k : MadeB g es h.before h.entry) → Gives (of_b g) k.world.b.now.side root a h.entry k.move.turn.got
  gave_b es root a h k =
      let told = told_b es root a h k in
      let turn = same_turn h.turn k.move.turn (sym h.does ∙ (ap (λ (t : Told). step (of_b g) t.side h.entry) told ∙ k.move.does)) in
      subst (λ (t : Told). Gives (of_b g) t.side root a h.entry k.move.turn.got) told (subst (λ (u : Turn). Gives (of_b g) h.told.side root a h.entry u.got) turn h.gives)

  pub own_b : (es : List Event) (w : World) → Meets g es w → BothGive g es → (root : ℕ) (a : Answer) → state_of root w.b.now.side.tables.roots ≡ answered (answer a) → IsOwn g B es root a
  own_b es w met gives root a is =
      let h = answer_given (of_b g) (entries_of B es) w.b.now root a (both_lead g es w met).b is in
      let k = made_b g es w met h.before h.later h.entry h.journal in
      let gave = gave_b es root a h k in
      record {
        given = h;
        across = λ b fed_is. piece_across_b es h.before root a h.entry b fed_is k gave;
        raises = λ kind x same.
            subst (λ (t : Told). MayGet (of_b g) root kind t.side) (sym (told_b es root a h k))
            (gave_raised (of_b g) k.world.b.now.side root a h.entry k.move.turn.got gave kind x same (λ b fed_is. piece_raised_b es h.before root a h.entry b fed_is k gave gives kind x same));
      }
