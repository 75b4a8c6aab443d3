-- The call that waits on a thread is the one at the top of its stack.
use Rattle.std.proofs.Common.{◌≡◌, refl, sym, ap, subst, ◌∙◌, ℕ, Bool, true, false, ◌||◌, List, [], ◌∷◌, ◌++◌, Option, None, Some, option_map, if◌then◌else◌}
use Rattle.std.specs.List.{list_any}
use Rattle.std.specs.Map.{lookup}
use Rattle.std.specs.Str.{bytes_eq}
use Rattle.std.proofs.lemmas.Slice.Eq.{bytes_eq-Decides}
use Rattle.std.proofs.lemmas.Bool.{true≢false}
use Rattle.message_model.specs.Calls.{Waiting, Waits, waiting}
use Rattle.plan_model.specs.Frames.{Frame, base, body, outgoing, Outgoing, Stack, is_of, frames_of, first_frame, outgoing_in, answerable}
use Rattle.call_stacks.specs.WaitingCalls.{call_of, HaveOwnTids}
use Rattle.bridge_model.specs.Stacks.{wait_of, waits_of}

-- a thread without a stack waits for nothing
skips : (tid other : List ℕ) (o : Option Outgoing) (rest : Waits) → bytes_eq tid other ≡ false → lookup (bytes_eq tid) (wait_of other o ++ rest) ≡ lookup (bytes_eq tid) rest
skips tid other None rest differ = refl
skips tid other (Some o) rest differ = rw (differ) refl

or_parts : (p q : Bool) → (p || q) ≡ false → (p ≡ false) × (q ≡ false)
or_parts true q is = absurd (true≢false is)
or_parts false q is = (refl, is)

none_waits : (tid : List ℕ) (ss : List Stack) → list_any (is_of tid) ss ≡ false → waiting tid (waits_of ss) ≡ None
unfolding waits_of
none_waits tid [] none = refl
none_waits tid (s ∷ ss) none =
    let parts = or_parts (is_of tid s) (list_any (is_of tid) ss) none in
    skips tid s.tid (outgoing_in (first_frame s.frames)) (waits_of ss) parts.0 ∙ none_waits tid ss parts.1

-- the stack of a thread tells what it waits for
found : (tid other : List ℕ) (o : Option Outgoing) (rest : Waits) → bytes_eq tid other ≡ true → lookup (bytes_eq tid) rest ≡ None
    → lookup (bytes_eq tid) (wait_of other o ++ rest) ≡ option_map call_of o
found tid other None rest same none = none
found tid other (Some o) rest same none = rw (same) refl

at_first : (tid : List ℕ) (s : Stack) (ss : List Stack) (b : Bool) → is_of tid s ≡ b → list_any (is_of s.tid) ss ≡ false
    → (waiting tid (waits_of ss) ≡ option_map call_of (answerable tid ss))
    → lookup (bytes_eq tid) (wait_of s.tid (outgoing_in (first_frame s.frames)) ++ waits_of ss) ≡ option_map call_of (outgoing_in (first_frame (if b then s.frames else frames_of tid ss)))
at_first tid s ss true is own later =
    let same : s.tid ≡ tid = sym ((bytes_eq-Decides tid s.tid).0 is) in
    found tid s.tid (outgoing_in (first_frame s.frames)) (waits_of ss) is (none_waits tid ss (subst (λ t. list_any (is_of t) ss ≡ false) same own))
at_first tid s ss false is own later = skips tid s.tid (outgoing_in (first_frame s.frames)) (waits_of ss) is ∙ later

pub waits_at_top : (tid : List ℕ) (ss : List Stack) → HaveOwnTids ss → waiting tid (waits_of ss) ≡ option_map call_of (answerable tid ss)
unfolding waits_of frames_of
waits_at_top tid [] own = refl
waits_at_top tid (s ∷ ss) own = at_first tid s ss (is_of tid s) refl own.0 (waits_at_top tid ss own.1)
