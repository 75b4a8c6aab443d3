-- What is taken back of an answer leaves what lasts as it was.
use Rattle.std.proofs.Common.{◌≡◌, ℕ, Bool, true, false, if◌then◌else◌, List, [], ◌∷◌, ◌++◌, Option, None, Some, option_map, refl, sym, ap, ◌∙◌}
use Rattle.std.specs.Prelude.{codes}
use Rattle.message_model.specs.Calls.{numbered, may_raise}
use Rattle.message_model.specs.Messages.{Answer, returned, raised, reply}
use Rattle.message_model.specs.Sayable.{message_weight}
use Rattle.uno_model.specs.BuiltIn.{runtime_exception_name}
use Rattle.uno_model.specs.Entities.{Entity}
use Rattle.uno_model.specs.Functions.{Function}
use Rattle.uno_model.specs.Kinds.{Kind, name_of}
use Rattle.uno_model.specs.Kinds as kd
use Rattle.uno_model.specs.Values.{Ref, null, peer, Plain}
use Rattle.uno_model.specs.Values as v
use Rattle.table_model.specs.declared.holder.Holder.TheVariants as holder
use Rattle.plan_model.specs.Frames.{Body, Frame, base, body, outgoing}
use Rattle.plan_model.specs.Evaluation.{is_deep, is_heavy}
use Rattle.plan_model.specs.Leaving.{answer_depth, as_declared, caused, leaving, leaving_frame, message_of, runtime_raised, sendable}
use Rattle.plan_model.specs.declared.runtime_cause.RuntimeCause.TheVariants.{TooDeep, TooLarge}
use Rattle.bridge_model.specs.Calls.{Unwound, unwound}
use Rattle.bridge_model.specs.Handing.{gains_below, goes_on_with, hands, hands_from_peer, hands_over, takes_below, statement_at, taken_by, answers_peer}
use Rattle.bridge_model.specs.References.{gains_all, refs_of_answer}
use Rattle.bridge_model.specs.Settings.{Setting}
use Rattle.bridge_model.specs.Sides.{RootState, idle, waits_call, waits_query, answered, Tables, state_of}
use Rattle.bridge_tables.specs.EndTables.{EndTables, lasting, lasts, with_tables}
use Rattle.bridge_tables.proofs.LastingLemmas.{frame_gains_all, frame_lets_go_all}
use Rattle.bridge_frames.specs.Answered.{gets_all, root_answered, root_in, root_reached, taken_back}
use Rattle.bridge_frames.specs.Unwinding.{tables_by}
use Rattle.bridge_frames.proofs.HandingLemmas.{hands_on, hands_peer}
use Rattle.bridge_frames.proofs.LastingLemmas.{frame_ends, peer_answered}
use Rattle.bridge_frames.proofs.RootBackLemmas.{below_taken, root_back}

-- ---- what leaves a frame that ends with an exception

pub record IsRaised (a : Answer) : Type 0 where
  pub kind : Kind
  pub value : Plain
  pub is : a ≡ raised kind value

raised_by : (b : Bool) (a c : Answer) → IsRaised a → IsRaised c → IsRaised (if b then a else c)
raised_by true a c one other = one
raised_by false a c one other = other

runtime : (message : List ℕ) → IsRaised (runtime_raised message)
runtime message = record { kind = kd.exception runtime_exception_name; value = v.tuple runtime_exception_name (v.more (v.str message) (v.more (v.ref null) v.none)); is = refl }

declared : (reg : List Entity) (f : Function) (k : Kind) (x : Plain) → IsRaised (as_declared reg f (raised k x))
declared reg f k x =
    raised_by (may_raise reg f k) (raised k x) (runtime_raised (codes "undeclared " ++ name_of k)) (record { kind = k; value = x; is = refl }) (runtime (codes "undeclared " ++ name_of k))

sent : (tid face : List ℕ) (number : ℕ) (a : Answer) → IsRaised a → IsRaised (sendable tid face number a)
sent tid face number a is =
    raised_by (is_heavy (message_weight (reply tid face number a))) (caused TooLarge) (if is_deep (answer_depth a) then caused TooDeep else a) (runtime (message_of TooLarge))
    (raised_by (is_deep (answer_depth a)) (caused TooDeep) a (runtime (message_of TooDeep)) is)

leaves_by : (reg : List Entity) (tid : List ℕ) (b : Body) (k : Kind) (x : Plain) (f : Option Function) → numbered reg b.face b.function ≡ f → IsRaised (leaving_frame reg tid b (raised k x))
unfolding leaving_frame leaving
leaves_by reg tid b k x None is = rw is (record { kind = k; value = x; is = refl })
leaves_by reg tid b k x (Some f) is = rw is (sent tid b.face b.function (as_declared reg f (raised k x)) (declared reg f k x))

-- an exception leaves it, which may be another one
pub leaves : (reg : List Entity) (tid : List ℕ) (b : Body) (k : Kind) (x : Plain) → IsRaised (leaving_frame reg tid b (raised k x))
leaves reg tid b k x = leaves_by reg tid b k x (numbered reg b.face b.function) refl

-- ---- which root is reached

reached_by : (b : Bool) (x y : Option ℕ) → x ≡ y → (if b then None else x) ≡ (if b then None else y)
reached_by true x y same = refl
reached_by false x y same = same

pub same_reached : (k j : Kind) (x y : Plain) (fs : List Frame) → root_reached (raised k x) fs ≡ root_reached (raised j y) fs
unfolding root_reached
same_reached k j x y [] = refl
same_reached k j x y (base root ∷ fs) = refl
same_reached k j x y (outgoing o ∷ fs) = refl
same_reached k j x y (body b ∷ fs) = reached_by b.from_peer (root_reached (raised k x) fs) (root_reached (raised j y) fs) (same_reached k j x y fs)

pub peer_reached : (k : Kind) (x : Plain) (b : Body) (fs : List Frame) → b.from_peer ≡ true → root_reached (raised k x) (body b ∷ fs) ≡ None
unfolding root_reached
peer_reached k x b fs is = ap (λ c. if c then None else root_reached (raised k x) fs) is

pub below_reached : (k j : Kind) (x y : Plain) (b : Body) (fs : List Frame) → b.from_peer ≡ false → root_reached (raised k x) (body b ∷ fs) ≡ root_reached (raised j y) fs
unfolding root_reached
below_reached k j x y b fs is = ap (λ c. if c then None else root_reached (raised k x) fs) is ∙ same_reached k j x y fs

gets_raised : (s : RootState) (k j : Kind) (x y : Plain) → gets_all s (raised k x) ≡ gets_all s (raised j y)
unfolding gets_all
gets_raised idle k j x y = refl
gets_raised waits_call k j x y = refl
gets_raised (waits_query wanted) k j x y = refl
gets_raised (answered o) k j x y = refl

-- ---- handing

-- what is taken back of what was handed leaves what lasts as these tables have it
abbrev pub LeavesNothing : Setting → List ℕ → Answer → List Frame → Tables → Tables → EndTables → Type 0
LeavesNothing g tid a fs t u e = lasting (taken_back (root_answered t.roots a fs) (tables_by (hands g tid a fs u) e)) ≡ lasting (with_tables t e)

module _ (g : Setting) (tid : List ℕ) (e : EndTables) where
  nothing_left : (a : Answer) (fs : List Frame) (t u : Tables) (w : Unwound) → root_reached a fs ≡ None → hands g tid a fs u ≡ w → lasts w.tables ≡ lasts t → LeavesNothing g tid a fs t u e
  nothing_left a fs t u w none does same =
      (λ i. lasting (taken_back (option_map (root_in t.roots) (none i)) (tables_by (does i) e))) ∙ ap (λ l. with_tables l e) same

  -- the frame at the top held what is in the answer
  frame_held : (b : Body) (a : Answer) (t u : Tables) → lasts u ≡ lasts (gains_all (holder.Frame b.number) (refs_of_answer a) t) → lasts u ≡ lasts t
  frame_held b a t u same = same ∙ frame_gains_all b.number (refs_of_answer a) t

  went_on : (b : Body) (x : Plain) (outs : List Plain) (fs : List Frame) (t : Tables) → lasts (goes_on_with g b x outs fs t).tables ≡ lasts t
  unfolding goes_on_with
  went_on b x outs fs t = frame_lets_go_all b.number g (taken_by g (statement_at g t.objects b) x outs b.variables).let_go t

  -- an exception goes through a method: it is sent, or goes on below
  through_back : (k : Kind) (x : Plain) (b : Body) (fs : List Frame) (t u : Tables) (c : Bool) → b.from_peer ≡ c → lasts u ≡ lasts t
      → ((root : ℕ) → root_reached (raised k x) (body b ∷ fs) ≡ Some root → gets_all (state_of root t.roots) (raised k x) ≡ true)
      → (((root : ℕ) → root_reached (leaving_frame g.registry tid b (raised k x)) fs ≡ Some root → gets_all (state_of root u.roots) (leaving_frame g.registry tid b (raised k x)) ≡ true)
      → LeavesNothing g tid (leaving_frame g.registry tid b (raised k x)) fs u (hands_over g b (refs_of_answer (raised k x)) (leaving_frame g.registry tid b (raised k x)) fs u) e)
      → LeavesNothing g tid (raised k x) (body b ∷ fs) t u e
  through_back k x b fs t u true is same gets below =
      let left : Answer = leaving_frame g.registry tid b (raised k x) in
      nothing_left (raised k x) (body b ∷ fs) t u (unwound fs (answers_peer g tid b (refs_of_answer (raised k x)) left u)) (peer_reached k x b fs is) (hands_peer g tid k x b fs u is)
      (peer_answered g tid b (refs_of_answer (raised k x)) left u ∙ same)
  through_back k x b fs t u false is same gets below =
      let left : Answer = leaving_frame g.registry tid b (raised k x) in
      let away = leaves g.registry tid b k x in
      let roots : t.roots ≡ u.roots = sym (ap (λ v. v.roots) same) in
      let reached : root_reached (raised k x) (body b ∷ fs) ≡ root_reached left fs = below_reached k away.kind x away.value b fs is ∙ ap (λ a. root_reached a fs) (sym away.is) in
      (λ i. lasting (taken_back (option_map (root_in (roots i)) (reached i)) (tables_by (hands_on g tid k x b fs u is i) e)))
      ∙ below
      (λ root found. (λ i. gets_all (state_of root (sym roots i)) (away.is i)) ∙ gets_raised (state_of root t.roots) away.kind k away.value x ∙ gets root (reached ∙ found))
      ∙ ap (λ l. with_tables l e) same

  pub hands_back : (a : Answer) (fs : List Frame) (t u : Tables) → lasts u ≡ lasts (gains_below fs a t)
      → ((root : ℕ) → root_reached a fs ≡ Some root → gets_all (state_of root t.roots) a ≡ true) → LeavesNothing g tid a fs t u e
  unfolding hands root_reached
  hands_back a [] t u same gets = nothing_left a [] t u (unwound [] u) refl refl same
  hands_back a (outgoing o ∷ fs) t u same gets = nothing_left a (outgoing o ∷ fs) t u (unwound (outgoing o ∷ fs) u) refl refl same
  hands_back a (base root ∷ fs) t u same gets = ap (λ l. with_tables l e) (root_back g root a t u (gets root refl) same)
  hands_back (returned x outs) (body b ∷ fs) t u same gets =
      nothing_left (returned x outs) (body b ∷ fs) t u (goes_on_with g b x outs fs u) refl refl (went_on b x outs fs u ∙ frame_held b (returned x outs) t u same)
  hands_back (raised k x) (body b ∷ fs) t u same gets =
      let left : Answer = leaving_frame g.registry tid b (raised k x) in
      let extra : List Ref = refs_of_answer (raised k x) in
      through_back k x b fs t u b.from_peer refl (frame_held b (raised k x) t u same) gets (hands_back left fs u (hands_over g b extra left fs u) (frame_ends g b extra (gains_below fs left u)))

-- what is taken back of an answer of the peer leaves what lasts as it was
pub from_peer_back : (g : Setting) (tid : List ℕ) (a : Answer) (fs : List Frame) (e now : EndTables) (root : Option (ℕ × RootState)) → root ≡ root_answered e.tables.roots a fs
    → now ≡ tables_by (hands_from_peer g tid a fs e.tables) e → ((n : ℕ) → root_reached a fs ≡ Some n → gets_all (state_of n e.tables.roots) a ≡ true) → lasting (taken_back root now) ≡ lasting e
unfolding hands_from_peer
from_peer_back g tid a fs e now root told does gets = (λ i. lasting (taken_back (told i) (does i))) ∙ hands_back g tid e a fs e.tables (takes_below g fs a e.tables) (below_taken g fs a e.tables) gets
