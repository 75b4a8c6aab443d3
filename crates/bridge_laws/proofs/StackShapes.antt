-- The stacks of an end, in the words of specs/Stacks, from what is kept of them along a history.
use Rattle.std.proofs.Common.{◌≡◌, refl, sym, subst, ℕ, ◌<◌, ◌^◌, Bool, true, false, List, [], ◌∷◌, length, None, Some, if◌then◌else◌}
use Rattle.std.proofs.lemmas.Bool.{and_parts}
use Rattle.plan_model.specs.Frames.{Body, Frame, base, body, outgoing, Stack, frames_of, first_frame}
use Rattle.bridge_laws.specs.Rooted.{bottom}
use Rattle.bridge_laws.specs.Grounded.{is_caller, is_awaited, begins, may_stand_on, is_stack, is_running, began, AreApart, Thread, nothing, of_root, of_peer}
use Rattle.bridge_laws.proofs.RootedLaws.{has_roots}
use Rattle.bridge_laws.proofs.TellingLaws.{all_allowed}
use Rattle.bridge_model.specs.Histories.{Told, Leads}
use Rattle.bridge_model.specs.Entries.{Entry}
use Rattle.bridge_model.specs.Settings.{Setting}
use Rattle.bridge_model.specs.Sides.{Side}
use Rattle.bridge_laws.proofs.HistoryLaws.{always_apart}
use Rattle.bridge_laws.specs.Stacks as of
use Rattle.bridge_laws.specs.Stacks.{MayCall, MayBeCalledBack, MethodStandsOn, StandsOn, AreStacked, IsUnderWay, IsThread, HaveOneEach}

-- ---- frames

calls_from : (fs : List Frame) → is_caller (first_frame fs) ≡ true → MayCall fs
calls_from [] is = absurd (cc)
calls_from (base root ∷ fs) is = tt
calls_from (body b ∷ fs) is = tt
calls_from (outgoing o ∷ fs) is = absurd (cc)

called_back : (fs : List Frame) → is_awaited (first_frame fs) ≡ true → MayBeCalledBack fs
called_back [] is = tt
called_back (base root ∷ fs) is = absurd (cc)
called_back (body b ∷ fs) is = absurd (cc)
called_back (outgoing o ∷ fs) is = tt

nothing_below : (fs : List Frame) → begins (first_frame fs) ≡ true → fs ≡ []
nothing_below [] is = refl
nothing_below (f ∷ fs) is = absurd (cc)

method_stands : (p : Bool) (fs : List Frame) → (if p then is_awaited (first_frame fs) else is_caller (first_frame fs)) ≡ true → MethodStandsOn p fs
method_stands true fs is = called_back fs is
method_stands false fs is = calls_from fs is

frame_stands : (f : Frame) (fs : List Frame) → may_stand_on f (first_frame fs) ≡ true → StandsOn f fs
frame_stands (base root) fs is = nothing_below fs is
frame_stands (body b) fs is = method_stands b.from_peer fs is
frame_stands (outgoing o) fs is = calls_from fs is

are_stacked : (fs : List Frame) → is_stack fs ≡ true → AreStacked fs
unfolding is_stack
are_stacked [] is = tt
are_stacked (f ∷ fs) is = let parts = and_parts (may_stand_on f (first_frame fs)) (is_stack fs) is in (frame_stands f fs parts.0, are_stacked fs parts.1)

under_way : (fs : List Frame) → is_running (first_frame fs) ≡ true → IsUnderWay fs
under_way [] is = absurd (cc)
under_way (base root ∷ fs) is = absurd (cc)
under_way (body b ∷ fs) is = tt
under_way (outgoing o ∷ fs) is = tt

-- ---- who began a stack

began_here : (root : ℕ) (fs : List Frame) → began fs ≡ Some root → bottom fs ≡ Some (base root)
began_here root [] is = absurd (cc)
began_here root (base r ∷ []) is = cc
began_here root (body b ∷ []) is = absurd (cc)
began_here root (outgoing o ∷ []) is = absurd (cc)
began_here root (f ∷ (h ∷ fs)) is = began_here root (h ∷ fs) is

-- a method of the peer's is at the bottom
record IsPeers (fs : List Frame) : Type 0 where
  first : Body
  theirs : first.from_peer ≡ true
  at : bottom fs ≡ Some (body first)

first_by : (b : Body) (p : Bool) → b.from_peer ≡ p → (if p then is_awaited None else is_caller None) ≡ true → b.from_peer ≡ true
first_by b true is stands = is
first_by b false is stands = absurd (cc)

began_there : (f : Frame) (fs : List Frame) → is_stack (f ∷ fs) ≡ true → began (f ∷ fs) ≡ None → IsPeers (f ∷ fs)
unfolding is_stack
began_there (base root) [] is none = absurd (cc)
began_there (body b) [] is none = record { first = b; theirs = first_by b b.from_peer refl (and_parts (may_stand_on (body b) None) true is).0; at = refl }
began_there (outgoing o) [] is none = absurd (cc)
began_there f (h ∷ fs) is none =
    let k = began_there h fs (and_parts (may_stand_on f (Some h)) (is_stack (h ∷ fs)) is).1 none in record { first = k.first; theirs = k.theirs; at = k.at }

peers_stack : (fs : List Frame) → is_running (first_frame fs) ≡ true → is_stack fs ≡ true → began fs ≡ None → IsPeers fs
peers_stack [] live is none = absurd (cc)
peers_stack (f ∷ fs) live is none = began_there f fs is none

-- ---- threads

is_thread : (g : Setting) (s : Side) (tid : List ℕ) (fs : List Frame) → Thread g s.tables.roots tid fs → IsThread g s tid fs
is_thread g s tid fs (nothing none free) = subst (IsThread g s tid) (sym none) of.without_stack
is_thread g s tid fs (of_root root least most is waiting live from) =
    let parts = and_parts (is_running (first_frame fs)) (is_stack fs) live in
    of.of_root fs root least most is waiting (began_here root fs from) (under_way fs parts.0) (are_stacked fs parts.1)
is_thread g s tid fs (of_peer theirs live from) =
    let parts = and_parts (is_running (first_frame fs)) (is_stack fs) live in
    let k = peers_stack fs parts.0 parts.1 from in
    of.of_peer fs theirs k.first k.theirs k.at (under_way fs parts.0) (are_stacked fs parts.1)

one_each : (ss : List Stack) → AreApart ss → HaveOneEach ss
unfolding AreApart
one_each [] apart = tt
one_each (s ∷ ss) apart = (apart.0, one_each ss apart.1)

pub threads_are : (g : Setting) (es : List Entry) (x : Told) → length g.plan.threads < 2 ^ 64 → Leads g es x → (tid : List ℕ) → IsThread g x.side tid (frames_of tid x.side.stacks)
threads_are g es x few leads tid =
    is_thread g x.side tid (frames_of tid x.side.stacks) ((has_roots g es x (record { roots = (all_allowed g es x leads).roots; few = few }) leads).each tid)

pub stacks_are_apart : (g : Setting) (es : List Entry) (x : Told) → Leads g es x → HaveOneEach x.side.stacks
stacks_are_apart g es x leads = one_each x.side.stacks (always_apart g es x leads)
