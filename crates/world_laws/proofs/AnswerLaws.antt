-- What the entry that says a reply ends: a statement's fate, or that of the one message that came.
use Rattle.std.proofs.Common.{◌≡◌, refl, sym, ap, subst, ◌∙◌, ℕ, inl, inr, Bool, true, false, not, List, [], ◌∷◌, ◌++◌, Option, None, Some, if◌then◌else◌}
use Rattle.std.proofs.lemmas.Bool.{and_parts}
use Rattle.std.proofs.lemmas.List.{append-nil}
use Rattle.message_model.specs.Messages.{Message, Answer, request, release, reply}
use Rattle.message_model.specs.Sayable.{arrived}
use Rattle.uno_model.specs.Entities.{Entity}
use Rattle.plan_model.specs.Frames.{Stack}
use Rattle.bridge_model.specs.Applying.{effect_at}
use Rattle.bridge_model.specs.Entries.{Entry, fed, ended, failed, asked, called, queried, made, dropped, applied, took, reaped, drained, disposed, full, no_memory}
use Rattle.bridge_model.specs.Histories.{Told, Leads}
use Rattle.bridge_model.specs.Settings.{Setting}
use Rattle.bridge_model.specs.Sides.{Tables, Side, stands}
use Rattle.bridge_model.specs.Steps.{Picked, picked, is_picked, has_entries, Turn, step, may}
use Rattle.bridge_laws.proofs.Replays.{of_step}
use Rattle.bridge_laws.specs.Hearings.{Hears, rests, breaks, hears}
use Rattle.bridge_laws.specs.Outcomes.{Fate, nothing, for_root, for_method, for_peer, fate_of, replies, replies_by, replies_of_message, may_reply}
use Rattle.bridge_laws.proofs.ApplyingFates.{statement_answered}
use Rattle.bridge_laws.proofs.ServingLaws.{piece_heard, entry_mute}
use Rattle.bridge_laws.proofs.NoReplyLaws.{replies_append}
use Rattle.world_model.specs.Flights.{IsNext}
use Rattle.world_laws.specs.Calls.{EndsSo, by_statement, by_message}
use Rattle.world_laws.proofs.CrossingLaws.{alone}

-- ---- replies among messages

among : (tid face : List ℕ) (function : ℕ) (a : Answer) (front rest : List Message) → replies (front ++ reply tid face function a ∷ rest) ≡ replies front ++ reply tid face function a ∷ replies rest
unfolding replies
among tid face function a front rest = replies_append front (reply tid face function a ∷ rest)

none_among : {X : Type 0} (front rest : List Message) (m : Message) → [] ≡ front ++ m ∷ rest → X
none_among [] rest m is = absurd (cc)
none_among (k ∷ front) rest m is = absurd (cc)

-- ---- a statement

same_reply : (k tid f face : List ℕ) (n function : ℕ) (c a : Answer) → reply k f n c ≡ reply tid face function a → (k ≡ tid) × (f ≡ face) × (n ≡ function) × (c ≡ a)
same_reply k tid f face n function c a is = (cc, cc, cc, cc)

by_fate : (g : Setting) (s : Side) (k tid face : List ℕ) (function : ℕ) (a : Answer) (p : Picked) (u : Turn) (h : Fate) (front rest : List Message) → picked k s ≡ Some p
    → fate_of g k p.method p.below (effect_at g k p.method p.below s.tables) s.tables ≡ h → replies_by k h ≡ front ++ reply tid face function a ∷ rest → EndsSo g s tid face function a (applied k) u
by_fate g s k tid face function a p u nothing front rest at is says = none_among front rest _ says
by_fate g s k tid face function a p u (for_root n c) front rest at is says = none_among front rest _ says
by_fate g s k tid face function a p u (for_method b below x outs) front rest at is says = none_among front rest _ says
by_fate g s k tid face function a p u (for_peer b below c) front rest at is says =
    let one = alone (reply k b.face b.function c) (reply tid face function a) front rest says in
    let same = same_reply k tid b.face face b.function function c a one.1 in
    subst (λ z. EndsSo g s tid face function a (applied z) u) (sym same.0)
    (by_statement u p (subst (λ z. picked z s ≡ Some p) same.0 at) b below
    (subst (λ z. fate_of g z p.method p.below (effect_at g z p.method p.below s.tables) s.tables ≡ for_peer b below a) same.0 (is ∙ ap (for_peer b below) same.3)) same.1 same.2)

statement_ends : (g : Setting) (s : Side) (k tid face : List ℕ) (function : ℕ) (a : Answer) (u : Turn) (front rest : List Message) (o : Option Picked) → picked k s ≡ o → is_picked o ≡ true → step g s (applied k) ≡ Some u
    → stands u.side ≡ true → replies u.said ≡ front ++ reply tid face function a ∷ rest → EndsSo g s tid face function a (applied k) u
statement_ends g s k tid face function a u front rest None at some is up says = absurd (cc)
statement_ends g s k tid face function a u front rest (Some p) at some is up says =
    let answered = statement_answered g s k p u at is up in
    by_fate g s k tid face function a p u (fate_of g k p.method p.below (effect_at g k p.method p.below s.tables) s.tables) front rest at refl (sym answered.said ∙ says)

can_apply : (g : Setting) (s : Side) (k : List ℕ) (u : Turn) → step g s (applied k) ≡ Some u → is_picked (picked k s) ≡ true
unfolding may
can_apply g s k u is = of_step g s (applied k) u (λ v. is_picked (picked k s) ≡ true) (λ can. (and_parts (not (has_entries s)) (is_picked (picked k s)) can).1) is

-- ---- a piece

pub chain_none : (g : Setting) (t : Tables) (ss : List Stack) (ms rs : List Message) (z : Side) → Hears g t ss ms rs z → ms ≡ [] → rs ≡ []
chain_none g t' ss' ms' rs' z' (rests z) none = refl
chain_none g t' ss' ms' rs' z' (breaks s why place) none = refl
chain_none g t' ss' ms' rs' end' (hears t ss m z ms rs end got later) none = absurd (cc)

same_first : (m k : Message) (ms : List Message) → m ∷ ms ≡ k ∷ [] → (m ≡ k) × (ms ≡ [])
same_first m k ms is = (cc, cc)

chain_one : (g : Setting) (t : Tables) (ss : List Stack) (ms rs : List Message) (z : Side) (k : Message) → Hears g t ss ms rs z → ms ≡ k ∷ [] → rs ≡ replies_of_message g t ss k
chain_one g t' ss' ms' rs' z' k (rests z) one = absurd (cc)
chain_one g t' ss' ms' rs' z' k (breaks s why place) one = absurd (cc)
chain_one g t' ss' ms' rs' end' k (hears t ss m z ms rs end got later) one =
    let both = same_first m k ms one in
    ap (λ xs. replies_of_message g t ss m ++ xs) (chain_none g z.tables z.stacks ms rs end later both.1)
    ∙ (append-nil (replies_of_message g t ss m) ∙ ap (replies_of_message g t ss) both.0)

no_reply_more : (tid face : List ℕ) (function : ℕ) (a : Answer) (t : Tables) (m : Message) (g : Setting) (ss : List Stack) (front rest : List Message)
    → replies_of_message g t ss m ≡ front ++ reply tid face function a ∷ rest → replies_of_message g t ss m ≡ reply tid face function a ∷ []
unfolding replies_of_message
no_reply_more tid face function a t (release k oid f) g ss front rest is = none_among front rest _ is
no_reply_more tid face function a t (request k oid f n args) g ss front rest is = by_zero _ _ is
  where
    by_zero : (b : Bool) (r : Message) → (if b then r ∷ [] else []) ≡ front ++ reply tid face function a ∷ rest → (if b then r ∷ [] else []) ≡ reply tid face function a ∷ []
    by_zero true r is = let one = alone r (reply tid face function a) front rest is in ap (λ z. z ∷ []) one.1
    by_zero false r is = none_among front rest _ is
no_reply_more tid face function a t (reply k f n c) g ss front rest is = by_fate_of _ is
  where
    by_fate_of : (h : Fate) → replies_by k h ≡ front ++ reply tid face function a ∷ rest → replies_by k h ≡ reply tid face function a ∷ []
    by_fate_of nothing is = none_among front rest _ is
    by_fate_of (for_root n c) is = none_among front rest _ is
    by_fate_of (for_method b below x outs) is = none_among front rest _ is
    by_fate_of (for_peer b below c) is = let one = alone (reply k b.face b.function c) (reply tid face function a) front rest is in ap (λ z. z ∷ []) one.1

piece_ends : (g : Setting) (reg : List Entity) (es : List Entry) (x : Told) (b tid face : List ℕ) (function : ℕ) (a : Answer) (u : Turn) (flying front rest : List Message) → Leads g es x → step g x.side (fed b) ≡ Some u
    → IsNext reg flying u.got → replies u.said ≡ front ++ reply tid face function a ∷ rest → EndsSo g x.side tid face function a (fed b) u
piece_ends g reg es x b tid face function a u flying front rest leads is (inl none) says =
    let chain = piece_heard g es x b u leads is in
    none_among front rest _ (sym (chain_none g x.side.tables x.side.stacks u.got (replies u.said) u.side chain none) ∙ says)
piece_ends g reg es x b tid face function a u flying front rest leads is (inr (m, ms, flies, one)) says =
    let chain = piece_heard g es x b u leads is in
    let only = chain_one g x.side.tables x.side.stacks u.got (replies u.said) u.side (arrived reg m) chain one in
    by_message b u (arrived reg m) one (no_reply_more tid face function a x.side.tables (arrived reg m) g x.side.stacks front rest (sym only ∙ says))

-- ---- an entry

muted : (g : Setting) (s : Side) (e : Entry) (u : Turn) (tid face : List ℕ) (function : ℕ) (a : Answer) (front rest : List Message) → step g s e ≡ Some u → may_reply e ≡ false
    → replies u.said ≡ front ++ reply tid face function a ∷ rest → EndsSo g s tid face function a e u
muted g s e u tid face function a front rest is none says = none_among front rest _ (sym (entry_mute g s e u is none) ∙ says)

entry_ends : (g : Setting) (reg : List Entity) (es : List Entry) (x : Told) (e : Entry) (tid face : List ℕ) (function : ℕ) (a : Answer) (u : Turn) (flying front rest : List Message) → Leads g es x
    → step g x.side e ≡ Some u → stands u.side ≡ true → IsNext reg flying u.got → replies u.said ≡ front ++ reply tid face function a ∷ rest → EndsSo g x.side tid face function a e u
entry_ends g reg es x (fed b) tid face function a u flying front rest leads is up next says = piece_ends g reg es x b tid face function a u flying front rest leads is next says
entry_ends g reg es x (applied k) tid face function a u flying front rest leads is up next says =
    statement_ends g x.side k tid face function a u front rest (picked k x.side) refl (can_apply g x.side k u is) is up says
entry_ends g reg es x ended tid face function a u flying front rest leads is up next says = muted g x.side ended u tid face function a front rest is refl says
entry_ends g reg es x failed tid face function a u flying front rest leads is up next says = muted g x.side failed u tid face function a front rest is refl says
entry_ends g reg es x (asked n name wanted) tid face function a u flying front rest leads is up next says = muted g x.side (asked n name wanted) u tid face function a front rest is refl says
entry_ends g reg es x (called n oid k f args) tid face function a u flying front rest leads is up next says = muted g x.side (called n oid k f args) u tid face function a front rest is refl says
entry_ends g reg es x (queried n oid k wanted) tid face function a u flying front rest leads is up next says = muted g x.side (queried n oid k wanted) u tid face function a front rest is refl says
entry_ends g reg es x (made n behaviour wanted) tid face function a u flying front rest leads is up next says = muted g x.side (made n behaviour wanted) u tid face function a front rest is refl says
entry_ends g reg es x (dropped n oid k) tid face function a u flying front rest leads is up next says = muted g x.side (dropped n oid k) u tid face function a front rest is refl says
entry_ends g reg es x (took n) tid face function a u flying front rest leads is up next says = muted g x.side (took n) u tid face function a front rest is refl says
entry_ends g reg es x (reaped n) tid face function a u flying front rest leads is up next says = muted g x.side (reaped n) u tid face function a front rest is refl says
entry_ends g reg es x (drained b) tid face function a u flying front rest leads is up next says = muted g x.side (drained b) u tid face function a front rest is refl says
entry_ends g reg es x disposed tid face function a u flying front rest leads is up next says = muted g x.side disposed u tid face function a front rest is refl says
entry_ends g reg es x full tid face function a u flying front rest leads is up next says = muted g x.side full u tid face function a front rest is refl says
entry_ends g reg es x no_memory tid face function a u flying front rest leads is up next says = muted g x.side no_memory u tid face function a front rest is refl says

-- a reply among what an entry says
pub reply_ends : (g : Setting) (reg : List Entity) (es : List Entry) (x : Told) (e : Entry) (tid face : List ℕ) (function : ℕ) (a : Answer) (u : Turn) (flying front rest : List Message) → Leads g es x
    → step g x.side e ≡ Some u → stands u.side ≡ true → IsNext reg flying u.got → u.said ≡ front ++ reply tid face function a ∷ rest → EndsSo g x.side tid face function a e u
reply_ends g reg es x e tid face function a u flying front rest leads is up next says =
    entry_ends g reg es x e tid face function a u flying (replies front) (replies rest) leads is up next (ap replies says ∙ among tid face function a front rest)
