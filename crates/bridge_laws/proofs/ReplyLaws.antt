-- A reply that is read answers the call on top of its thread: it has that call's interface and function.
use Rattle.std.proofs.Common.{◌≡◌, refl, sym, ap, ◌∙◌, subst, ℕ, Bool, true, false, cond, ◌==◌, ◌&&◌, not, if◌then◌else◌, List, [], ◌∷◌, ◌++◌, Option, None, Some, Result, Ok, Err, IfOk}
use Rattle.std.specs.Str.{bytes_eq}
use Rattle.std.proofs.lemmas.Slice.Eq.{bytes_eq-Decides}
use Rattle.uno_model.specs.Entities.{Entity}
use Rattle.uno_model.specs.Functions.{Function}
use Rattle.urp_model.specs.Parts.{◌>>=◌, judged, byte_at}
use Rattle.urp_model.specs.Reading.{members_at, value_at}
use Rattle.urp_model.specs.ReadingNames.{tid_at}
use Rattle.urp_model.specs.Tables.{with_tids}
use Rattle.urp_model.specs.declared.fault.Fault.{Fault}
use Rattle.urp_model.specs.declared.reason.Reason.TheVariants.{NobodyWaits, NotInterface, UnknownFunction}
use Rattle.message_model.specs.Calls.{acquire_number, release_number, numbered, argument_kinds, Waiting, Waits, waiting}
use Rattle.message_model.specs.Headers.{Heard, Opening, Target, has, new_tid_flag, exception_flag}
use Rattle.message_model.specs.Messages.{Message, reply}
use Rattle.uno_model.specs.Kinds.{interface_of}
use Rattle.message_model.specs.ReadingMessages.{new_or_last_at, opening_at, target_at, answer_at, release_at, arguments_at, call_at, asked_at, request_at, awaited, reply_at, opens_reply, message_at}
use Rattle.plan_model.specs.Frames.{Frame, base, body, outgoing, Outgoing, Stack, frames_of, first_frame, outgoing_in}
use Rattle.bridge_model.specs.Stacks.{wait_of, waits_of}
use Rattle.bridge_laws.specs.Grounded.{AreApart}
use Rattle.bridge_laws.specs.Hearings.{IsOnTop}

-- ---- reading

abbrev pub IsMet : Waits → Message → Type 0
IsMet waits (reply tid face function a) = waiting tid waits ≡ Some (record { face = face; function = function })
IsMet waits m = Unit {0}

abbrev ReadsMet : Waits → Result (Message × Heard × List ℕ) Fault → Type 0
ReadsMet waits r = IfOk r (λ read. IsMet waits read.0)

bind_met : {A : Type 0} (waits : Waits) (r : Result A Fault) (next : A → Result (Message × Heard × List ℕ) Fault) → ((x : A) → r ≡ Ok x → ReadsMet waits (next x))
    → ReadsMet waits (r >>= next)
bind_met waits (Ok x) next each = each x refl
bind_met waits (Err fault) next each = tt

either_met : (waits : Waits) (b : Bool) (r s : Result (Message × Heard × List ℕ) Fault) → ReadsMet waits r → ReadsMet waits s → ReadsMet waits (if b then r else s)
either_met waits true r s p q = p
either_met waits false r s p q = q

unjudged : {X : Type 0} (o : Option X) (x : X) → judged NobodyWaits o ≡ Ok x → o ≡ Some x
unjudged None x is = absurd (cc)
unjudged (Some y) x is = cc

awaited_met : (reg : List Entity) (o : Option Waiting) (call : Waiting × Function) → awaited reg o ≡ Some call → o ≡ Some call.0
awaited_met reg None call is = absurd (cc)
awaited_met reg (Some w) call is = by_function (numbered reg w.face w.function) refl
  where
    some_same : {X : Type 0} (x y : X) → ◌≡◌ {A = Option X} (Some x) (Some y) → x ≡ y
    some_same x y e = cc

    none_some : {X : Type 0} {x : X} → ◌≡◌ {A = Option X} None (Some x) → ⊥
    none_some e = cc

    by_function : (f : Option Function) → numbered reg w.face w.function ≡ f → Some w ≡ Some call.0
    by_function None none = absurd (none_some (rw none at is))
    by_function (Some f) found = ap (λ (x : Waiting × Function). Some x.0) (some_same (w, f) call (rw found at is))

reply_met : (reg : List Entity) (waits : Waits) (heard : Heard) (flags : ℕ) (bytes : List ℕ) → ReadsMet waits (reply_at reg waits heard flags bytes)
unfolding reply_at
reply_met reg waits heard flags bytes =
    bind_met waits (new_or_last_at (has new_tid_flag flags) heard.last.tid tid_at heard.tables.tids bytes) _
    (λ tid is. bind_met waits (judged NobodyWaits (awaited reg (waiting tid.0 waits))) _
    (λ call found. bind_met waits (answer_at (has exception_flag flags) reg call.1 (with_tids heard.tables tid.1) tid.2) _ (λ answer got. awaited_met reg (waiting tid.0 waits) call (unjudged (awaited reg (waiting tid.0 waits)) call found))))

release_met : (waits : Waits) (answered : Bool) (face : List ℕ) (target : Target) (heard : Heard) (bytes : List ℕ) → ReadsMet waits (release_at answered face target heard bytes)
unfolding release_at
release_met waits true face target heard bytes = tt
release_met waits false face target heard bytes = tt

arguments_met : (waits : Waits) (reg : List Entity) (f : Function) (face : List ℕ) (function : ℕ) (target : Target) (heard : Heard) (bytes : List ℕ)
    → ReadsMet waits (arguments_at reg f face function target heard bytes)
unfolding arguments_at
arguments_met waits reg f face function target heard bytes = bind_met waits (members_at (value_at 64 reg) (argument_kinds f) heard.tables bytes) _ (λ args is. tt)

call_met : (waits : Waits) (reg : List Entity) (opening : Opening) (face : List ℕ) (target : Target) (heard : Heard) (bytes : List ℕ)
    → ReadsMet waits (call_at reg opening face target heard bytes)
unfolding call_at
call_met waits reg opening face target heard bytes =
    bind_met waits (judged UnknownFunction (numbered reg face opening.function)) _
    (λ f is. either_met waits (f.oneway && not opening.answered) _ _ tt (arguments_met waits reg f face opening.function target heard bytes))

asked_met : (waits : Waits) (reg : List Entity) (opening : Opening) (face : List ℕ) (target : Target) (heard : Heard) (bytes : List ℕ)
    → ReadsMet waits (asked_at reg opening face target heard bytes)
unfolding asked_at
asked_met waits reg opening face target heard bytes =
    either_met waits (opening.function == release_number) _ _ (release_met waits opening.answered face target heard bytes)
    (either_met waits (opening.function == acquire_number) _ _ tt (call_met waits reg opening face target heard bytes))

request_met : (waits : Waits) (reg : List Entity) (heard : Heard) (first : ℕ) (bytes : List ℕ) → ReadsMet waits (request_at reg heard first bytes)
unfolding request_at
request_met waits reg heard first bytes =
    bind_met waits (opening_at first bytes) _
    (λ opening is. bind_met waits (target_at reg opening.0 heard opening.1) _
    (λ target found. bind_met waits (judged NotInterface (interface_of target.0.kind)) _ (λ face faced. asked_met waits reg opening.0 face target.0 target.1 target.2)))

reads_met : (reg : List Entity) (waits : Waits) (heard : Heard) (bytes : List ℕ) → ReadsMet waits (message_at reg waits heard bytes)
unfolding message_at
reads_met reg waits heard bytes =
    bind_met waits (byte_at bytes) _
    (λ first is. either_met waits (opens_reply first.0) _ _ (reply_met reg waits heard first.0 first.1) (request_met waits reg heard first.0 first.1))

got_of : {X : Type 0} (P : X → Type 0) (r : Result X Fault) (x : X) → IfOk r P → r ≡ Ok x → P x
got_of P (Ok y) x fine is = subst P (cc) fine
got_of P (Err fault) x fine is = absurd (cc)

pub read_met : (reg : List Entity) (waits : Waits) (heard : Heard) (bytes : List ℕ) (read : Message × Heard × List ℕ) → message_at reg waits heard bytes ≡ Ok read → IsMet waits read.0
read_met reg waits heard bytes read is = got_of (λ (read : Message × Heard × List ℕ). IsMet waits read.0) (message_at reg waits heard bytes) read (reads_met reg waits heard bytes) is

-- ---- who waits

-- frames with the call on top for which a thread waits
pub record Calls (w : Waiting) (fs : List Frame) : Type 0 where
  pub call : Outgoing
  pub below : List Frame
  pub all : fs ≡ outgoing call ∷ below
  pub same : record { face = call.face; function = call.function } ≡ w

outgoing_top : (fs : List Frame) (o : Outgoing) (w : Waiting) → outgoing_in (first_frame fs) ≡ Some o → record { face = o.face; function = o.function } ≡ w → Calls w fs
outgoing_top [] o w is same = absurd (cc)
outgoing_top (base root ∷ fs) o w is same = absurd (cc)
outgoing_top (body b ∷ fs) o w is same = absurd (cc)
outgoing_top (outgoing c ∷ fs) o w is same = record { call = c; below = fs; all = refl; same = ap (λ (x : Outgoing). record { face = x.face; function = x.function }) (some_same c o is) ∙ same }
  where
    some_same : (x y : Outgoing) → ◌≡◌ {A = Option Outgoing} (Some x) (Some y) → x ≡ y
    some_same x y e = cc

no_call : (w : Waiting) (fs : List Frame) → fs ≡ [] → Calls w fs → ⊥
no_call w fs none calls = let bad : outgoing calls.call ∷ calls.below ≡ [] = sym calls.all ∙ none in absurd (cc)

found_call : (tid : List ℕ) (w v : Waiting) (s : Stack) (ss : List Stack) (b : Bool) → bytes_eq tid s.tid ≡ b → (v ≡ w → Calls w s.frames)
    → (waiting tid (waits_of ss) ≡ Some w → Calls w (frames_of tid ss)) → waiting tid ((s.tid, v) ∷ waits_of ss) ≡ Some w
    → Calls w (if b then s.frames else frames_of tid ss)
found_call tid w v s ss true is here behind there = here (some_same v w (subst (λ c. cond c (Some v) (waiting tid (waits_of ss)) ≡ Some w) is there))
  where
    some_same : (x y : Waiting) → ◌≡◌ {A = Option Waiting} (Some x) (Some y) → x ≡ y
    some_same x y e = cc
found_call tid w v s ss false is here behind there = behind (subst (λ c. cond c (Some v) (waiting tid (waits_of ss)) ≡ Some w) is there)

-- no other stack is of its thread
passed_call : (tid : List ℕ) (w : Waiting) (s : Stack) (ss : List Stack) (b : Bool) → bytes_eq tid s.tid ≡ b → frames_of s.tid ss ≡ [] → Calls w (frames_of tid ss)
    → Calls w (if b then s.frames else frames_of tid ss)
passed_call tid w s ss true is none calls =
    absurd (no_call w (frames_of tid ss) (ap (λ name. frames_of name ss) ((bytes_eq-Decides tid s.tid).0 is) ∙ none) calls)
passed_call tid w s ss false is none calls = calls

call_step : (tid : List ℕ) (w : Waiting) (s : Stack) (ss : List Stack) (o : Option Outgoing) → outgoing_in (first_frame s.frames) ≡ o → frames_of s.tid ss ≡ []
    → (waiting tid (waits_of ss) ≡ Some w → Calls w (frames_of tid ss)) → waiting tid (wait_of s.tid o ++ waits_of ss) ≡ Some w
    → Calls w (if bytes_eq tid s.tid then s.frames else frames_of tid ss)
call_step tid w s ss None is none behind there = passed_call tid w s ss (bytes_eq tid s.tid) refl none (behind there)
call_step tid w s ss (Some o) is none behind there =
    found_call tid w (record { face = o.face; function = o.function }) s ss (bytes_eq tid s.tid) refl (outgoing_top s.frames o w is) behind there

waits_calls : (tid : List ℕ) (w : Waiting) (ss : List Stack) → AreApart ss → waiting tid (waits_of ss) ≡ Some w → Calls w (frames_of tid ss)
unfolding waits_of frames_of AreApart
waits_calls tid w [] apart there = absurd (cc)
waits_calls tid w (s ∷ ss) apart there = call_step tid w s ss (outgoing_in (first_frame s.frames)) refl apart.0 (λ behind. waits_calls tid w ss apart.1 behind) there

-- the call for which a thread waits is on top of it
pub waits_on_top : (tid face : List ℕ) (function : ℕ) (ss : List Stack) → AreApart ss → waiting tid (waits_of ss) ≡ Some (record { face = face; function = function }) → IsOnTop tid face function ss
waits_on_top tid face function ss apart there =
    let c = waits_calls tid (record { face = face; function = function }) ss apart there in
    record { call = c.call; below = c.below; top = c.all; same_face = ap (λ (w : Waiting). w.face) c.same; same_function = ap (λ (w : Waiting). w.function) c.same }
