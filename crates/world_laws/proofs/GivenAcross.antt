-- What gave a root its answer at one end: a message that did so was a reply, which came alone; and which exception it may be.
use Rattle.std.proofs.Common.{◌≡◌, refl, sym, ap, subst, ◌∙◌, ◌⊎◌, inl, inr, ℕ, List, [], ◌∷◌, ◌++◌, Option, Some}
use Rattle.std.specs.Prelude.{IsTrue}
use Rattle.message_model.specs.Calls.{numbered, may_raise}
use Rattle.message_model.specs.Messages.{Message, Answer, returned, raised, request, release, reply}
use Rattle.message_model.specs.Sayable.{AnswerFits, answer_arrived, arrived}
use Rattle.plan_model.specs.Frames.{Frame, base, body, outgoing, Stack, frames_of}
use Rattle.uno_model.specs.Entities.{Entity}
use Rattle.uno_model.specs.Functions.{Function}
use Rattle.uno_model.specs.Kinds.{Kind}
use Rattle.uno_model.specs.Values.{Plain}
use Rattle.bridge_model.specs.Applying.{effect_at}
use Rattle.bridge_model.specs.Ends.{ends_by}
use Rattle.bridge_model.specs.Entries.{Entry, fed}
use Rattle.bridge_model.specs.References.{home_answer}
use Rattle.bridge_model.specs.Settings.{Setting}
use Rattle.bridge_model.specs.Sides.{RootState, idle, waits_call, waits_query, answered, Tables, Side, state_of}
use Rattle.bridge_model.specs.Steps.{Picked, picked_in, picked}
use Rattle.bridge_laws.specs.Givings.{Gives, by_statement, by_message, before_asking, before_calling, before_querying, at_once}
use Rattle.bridge_laws.specs.Hearings.{Hears, rests, breaks, hears}
use Rattle.bridge_laws.specs.Outcomes.{Fate, nothing, for_root, fate_of, fate_of_message, handed_down, root_outcome}
use Rattle.bridge_laws.specs.Raising.{call_of, CallMayRaise, MayAnswer}
use Rattle.bridge_laws.proofs.RaisingLaws.{statement_raises}
use Rattle.world_model.specs.Flights.{IsNext}
use Rattle.world_laws.specs.Roots.{MayGet, of_its_call, before_it_began}
use Rattle.world_laws.proofs.CrossingLaws.{alone}

-- ---- a message

-- a reply came alone, and its answer went to the root
pub record ByReply (g : Setting) (s : Side) (flying got : List Message) (root : ℕ) (a : Answer) : Type 0 where
  pub tid : List ℕ
  pub face : List ℕ
  pub function : ℕ
  pub said : Answer
  pub rest : List Message
  pub flies : flying ≡ reply tid face function said ∷ rest
  pub one : got ≡ arrived g.registry (reply tid face function said) ∷ []
  pub given : Answer
  pub fate : fate_of_message g s.stacks (arrived g.registry (reply tid face function said)) ≡ for_root root given
  pub same : a ≡ root_outcome g (state_of root s.tables.roots) given

no_cell : {X Y : Type 0} (front : List X) (x : X) (rest : List X) → [] ≡ front ++ x ∷ rest → Y
no_cell [] x rest is = absurd (cc)
no_cell (y ∷ front) x rest is = absurd (cc)

-- behind no messages all is as it was, or the bridge has ended
chain_at : (g : Setting) (t : Tables) (ss : List Stack) (ms rs : List Message) (z : Side) → Hears g t ss ms rs z → ms ≡ [] → ((z.tables ≡ t) × (z.stacks ≡ ss)) ⊎ (z.stacks ≡ [])
unfolding ends_by
chain_at g t' ss' ms' rs' z' (rests z) none = inl (refl, refl)
chain_at g t' ss' ms' rs' z' (breaks s why place) none = inr refl
chain_at g t' ss' ms' rs' end' (hears t ss m z ms rs end got later) none = absurd (cc)

nobody : (g : Setting) (m : Message) → fate_of_message g [] m ≡ nothing
unfolding fate_of_message handed_down frames_of
nobody g (release tid oid face) = refl
nobody g (request tid oid face function args) = refl
nobody g (reply tid face function a) = refl

not_for_root : {X : Type 0} (root : ℕ) (a : Answer) (h : Fate) → h ≡ nothing → h ≡ for_root root a → X
not_for_root root a h none is = let bad : nothing ≡ for_root root a = sym none ∙ is in absurd (cc)

is_reply : (g : Setting) (s : Side) (flying got : List Message) (root : ℕ) (a c : Answer) (n : Message) (rest : List Message) → flying ≡ n ∷ rest → got ≡ arrived g.registry n ∷ []
    → fate_of_message g s.stacks (arrived g.registry n) ≡ for_root root c → a ≡ root_outcome g (state_of root s.tables.roots) c → ByReply g s flying got root a
unfolding arrived fate_of_message
is_reply g s flying got root a c (release tid oid face) rest flies one fate same = absurd (cc)
is_reply g s flying got root a c (request tid oid face function args) rest flies one fate same = absurd (cc)
is_reply g s flying got root a c (reply tid face function said) rest flies one fate same =
    record { tid = tid; face = face; function = function; said = said; rest = rest; flies = flies; one = one; given = c; fate = fate; same = same }

by_chain : (g : Setting) (s z : Side) (flying got : List Message) (root : ℕ) (a c : Answer) (n m : Message) (rest : List Message) → flying ≡ n ∷ rest → got ≡ arrived g.registry n ∷ [] → arrived g.registry n ≡ m
    → ((z.tables ≡ s.tables) × (z.stacks ≡ s.stacks)) ⊎ (z.stacks ≡ []) → fate_of_message g z.stacks m ≡ for_root root c → a ≡ root_outcome g (state_of root z.tables.roots) c → ByReply g s flying got root a
by_chain g s z flying got root a c n m rest flies one is (inl (tables, stacks)) fate same =
    let back = sym stacks in
    is_reply g s flying got root a c n rest flies one ((λ i. fate_of_message g (back i) (is i)) ∙ fate) (same ∙ ap (λ (t : Tables). root_outcome g (state_of root t.roots) c) tables)
by_chain g s z flying got root a c n m rest flies one is (inr none) fate same = not_for_root root c (fate_of_message g z.stacks m) (ap (λ ss. fate_of_message g ss m) none ∙ nobody g m) fate

by_next : (g : Setting) (s z : Side) (flying got before later rs : List Message) (root : ℕ) (a c : Answer) (m : Message) → IsNext g.registry flying got → Hears g s.tables s.stacks before rs z → got ≡ before ++ m ∷ later
    → fate_of_message g z.stacks m ≡ for_root root c → a ≡ root_outcome g (state_of root z.tables.roots) c → ByReply g s flying got root a
by_next g s z flying got before later rs root a c m (inl none) chain is fate same = no_cell before m later (sym none ∙ is)
by_next g s z flying got before later rs root a c m (inr (n, rest, flies, one)) chain is fate same =
    let only = alone (arrived g.registry n) m before later (sym one ∙ is) in
    by_chain g s z flying got root a c n m rest flies one only.1 (chain_at g s.tables s.stacks before rs z chain only.0) fate same

pub message_gave : (g : Setting) (s : Side) (root : ℕ) (a : Answer) (e : Entry) (got flying : List Message) → Gives g s root a e got → IsNext g.registry flying got → (b : List ℕ) → e ≡ fed b → ByReply g s flying got root a
message_gave g s root a e' got' flying (by_statement got tid p at c fate same) next b is = absurd (cc)
message_gave g s root a e' got' flying (by_message got bytes before rs z chain m later comes c fate same) next b is = by_next g s z flying got before later rs root a c m next chain comes fate same
message_gave g s root a e' got' flying (before_asking got name wanted why refused same) next b is = absurd (cc)
message_gave g s root a e' got' flying (before_calling got oid face function args why refused same) next b is = absurd (cc)
message_gave g s root a e' got' flying (before_querying got oid face wanted why refused same) next b is = absurd (cc)
message_gave g s root a e' got' flying (at_once got oid face wanted mine same) next b is = absurd (cc)

-- ---- exceptions

pub same_raised : (g : Setting) (x : RootState) (c : Answer) (k : Kind) (v : Plain) → root_outcome g x c ≡ raised k v → c ≡ raised k v
same_raised g idle c k v is = is
same_raised g waits_call c k v is = is
same_raised g (waits_query wanted) (returned y outs) k v is = absurd (cc)
same_raised g (waits_query wanted) (raised j y) k v is = is
same_raised g (answered o) c k v is = is

picked_there : (fs : List Frame) (p : Picked) → picked_in fs ≡ Some p → fs ≡ body p.method ∷ p.below
picked_there [] p is = absurd (cc)
picked_there (base n ∷ fs) p is = absurd (cc)
picked_there (outgoing o ∷ fs) p is = absurd (cc)
picked_there (body b ∷ fs) p is = let same : p ≡ record { method = b; below = fs } = cc in ap (λ (q : Picked). body q.method ∷ q.below) (sym same)

by_statement_raised : (g : Setting) (s : Side) (root : ℕ) (a c : Answer) (tid : List ℕ) (p : Picked) (k : Kind) (x : Plain) → picked tid s ≡ Some p
    → fate_of g tid p.method p.below (effect_at g tid p.method p.below s.tables) s.tables ≡ for_root root c → a ≡ root_outcome g (state_of root s.tables.roots) c → a ≡ raised k x → MayGet g root k s
unfolding picked
by_statement_raised g s root a c tid p k x at fate same is =
    let raises = statement_raises g tid p.method p.below s.tables root k x (fate ∙ ap (for_root root) (same_raised g (state_of root s.tables.roots) c k x (sym same ∙ is))) in
    of_its_call tid (subst (λ fs. CallMayRaise g.registry (call_of root fs) k) (sym (picked_there (frames_of tid s.stacks) p at)) raises)

refused_so : (j k : Kind) (x y : Plain) → raised j y ≡ raised k x → k ≡ j
refused_so j k x y is = cc

no_exception : {X : Type 0} (y : Plain) (outs : List Plain) (k : Kind) (x : Plain) → returned y outs ≡ raised k x → X
no_exception y outs k x is = absurd (cc)

-- an exception that a root got, where what a message gave is known
pub gave_raised : (g : Setting) (s : Side) (root : ℕ) (a : Answer) (e : Entry) (got : List Message) → Gives g s root a e got → (k : Kind) (x : Plain) → a ≡ raised k x → ((b : List ℕ) → e ≡ fed b → MayGet g root k s)
    → MayGet g root k s
gave_raised g s root a e' got' (by_statement got tid p at c fate same) k x is more = by_statement_raised g s root a c tid p k x at fate same is
gave_raised g s root a e' got' (by_message got bytes before rs z chain m later comes c fate same) k x is more = more bytes refl
gave_raised g s root a e' got' (before_asking got name wanted why refused same) k x is more = before_it_began (refused_so _ k x _ (sym same ∙ is))
gave_raised g s root a e' got' (before_calling got oid face function args why refused same) k x is more = before_it_began (refused_so _ k x _ (sym same ∙ is))
gave_raised g s root a e' got' (before_querying got oid face wanted why refused same) k x is more = before_it_began (refused_so _ k x _ (sym same ∙ is))
gave_raised g s root a e' got' (at_once got oid face wanted mine same) k x is more = no_exception _ _ k x (sym same ∙ is)

-- ---- replies that may be said

same_function : (f h : Function) → Some f ≡ Some h → f ≡ h
same_function f h is = cc

arrives_well : (reg : List Entity) (h : Setting) (face : List ℕ) (number : ℕ) (o : Option Function) (f : Function) (said : Answer) → numbered reg face number ≡ Some f → AnswerFits reg f said
    → MayAnswer reg face number (home_answer h (answer_arrived reg o said))
unfolding home_answer
arrives_well reg h face number o f (returned y outs) found fits = tt
arrives_well reg h face number o f (raised k y) found fits = λ z is. subst (λ q. IsTrue (may_raise reg q k)) (same_function f z (sym found ∙ is)) fits.0

-- the call that it answers has the interface and function of the reply
pub answers_well : (reg : List Entity) (h : Setting) (face call_face : List ℕ) (number call_number : ℕ) (o : Option Function) (f : Function) (said : Answer) → call_face ≡ face → call_number ≡ number
    → numbered reg face number ≡ Some f → AnswerFits reg f said → MayAnswer reg call_face call_number (home_answer h (answer_arrived reg o said))
answers_well reg h face call_face number call_number o f said same_face same_number found fits =
    let a = home_answer h (answer_arrived reg o said) in
    subst (λ n. MayAnswer reg call_face n a) (sym same_number) (subst (λ z. MayAnswer reg z number a) (sym same_face) (arrives_well reg h face number o f said found fits))
