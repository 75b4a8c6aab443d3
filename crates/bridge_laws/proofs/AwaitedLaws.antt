-- A reply that is read is one for which its thread waits, and a thread that waits has a call that went out at its top.
use Rattle.std.proofs.Common.{◌≡◌, refl, sym, ap, ◌∙◌, subst, ℕ, Bool, true, false, cond, ◌==◌, ◌&&◌, not, if◌then◌else◌, List, [], ◌∷◌, ◌++◌, is_some, Option, None, Some, Result, Ok, Err, IfOk}
use Rattle.std.specs.Str.{bytes_eq}
use Rattle.std.proofs.lemmas.Slice.Eq.{bytes_eq-Decides}
use Rattle.uno_model.specs.Entities.{Entity}
use Rattle.uno_model.specs.Functions.{Function}
use Rattle.urp_model.specs.Parts.{◌>>=◌, judged, byte_at}
use Rattle.urp_model.specs.Reading.{members_at, value_at}
use Rattle.urp_model.specs.ReadingNames.{tid_at}
use Rattle.urp_model.specs.Tables.{with_tids}
use Rattle.urp_model.specs.declared.fault.Fault.{Fault}
use Rattle.urp_model.specs.declared.reason.Reason.TheVariants.{NobodyWaits, NotInterface, UnknownFunction}
use Rattle.message_model.specs.Calls.{acquire_number, release_number, numbered, argument_kinds, Waiting, Waits, waiting}
use Rattle.message_model.specs.Headers.{Heard, Opening, Target, has, new_tid_flag, exception_flag}
use Rattle.message_model.specs.Messages.{Message, reply}
use Rattle.uno_model.specs.Kinds.{interface_of}
use Rattle.message_model.specs.ReadingMessages.{new_or_last_at, opening_at, target_at, answer_at, release_at, arguments_at, call_at, asked_at, request_at, awaited, reply_at, opens_reply, message_at}
use Rattle.plan_model.specs.Frames.{Frame, base, body, outgoing, Outgoing, Stack, frames_of, first_frame, outgoing_in}
use Rattle.bridge_model.specs.Stacks.{wait_of, waits_of}
use Rattle.bridge_laws.specs.Grounded.{AreApart}

-- ---- reading

-- a reply is one for which its thread waits
abbrev pub IsAwaited : Waits → Message → Type 0
IsAwaited waits (reply tid face function a) = is_some (waiting tid waits) ≡ true
IsAwaited waits m = Unit {0}

abbrev ReadsAwaited : Waits → Result (Message × Heard × List ℕ) Fault → Type 0
ReadsAwaited waits r = IfOk r (λ read. IsAwaited waits read.0)

-- what is read behind a part
bind_awaited : {A : Type 0} (waits : Waits) (r : Result A Fault) (next : A → Result (Message × Heard × List ℕ) Fault) → ((x : A) → r ≡ Ok x → ReadsAwaited waits (next x))
    → ReadsAwaited waits (r >>= next)
bind_awaited waits (Ok x) next each = each x refl
bind_awaited waits (Err fault) next each = tt

either_awaited : (waits : Waits) (b : Bool) (r s : Result (Message × Heard × List ℕ) Fault) → ReadsAwaited waits r → ReadsAwaited waits s → ReadsAwaited waits (if b then r else s)
either_awaited waits true r s p q = p
either_awaited waits false r s p q = q

awaited_some : (reg : List Entity) (o : Option Waiting) (call : Waiting × Function) → judged NobodyWaits (awaited reg o) ≡ Ok call → is_some o ≡ true
awaited_some reg None call is = absurd (cc)
awaited_some reg (Some w) call is = refl

reply_awaited : (reg : List Entity) (waits : Waits) (heard : Heard) (flags : ℕ) (bytes : List ℕ) → ReadsAwaited waits (reply_at reg waits heard flags bytes)
unfolding reply_at
reply_awaited reg waits heard flags bytes =
    bind_awaited waits (new_or_last_at (has new_tid_flag flags) heard.last.tid tid_at heard.tables.tids bytes) _
    (λ tid is. bind_awaited waits (judged NobodyWaits (awaited reg (waiting tid.0 waits))) _ (λ call found. bind_awaited waits (answer_at (has exception_flag flags) reg call.1 (with_tids heard.tables tid.1) tid.2) _ (λ answer got. awaited_some reg (waiting tid.0 waits) call found)))

release_awaited : (waits : Waits) (answered : Bool) (face : List ℕ) (target : Target) (heard : Heard) (bytes : List ℕ) → ReadsAwaited waits (release_at answered face target heard bytes)
unfolding release_at
release_awaited waits true face target heard bytes = tt
release_awaited waits false face target heard bytes = tt

arguments_awaited : (waits : Waits) (reg : List Entity) (f : Function) (face : List ℕ) (function : ℕ) (target : Target) (heard : Heard) (bytes : List ℕ)
    → ReadsAwaited waits (arguments_at reg f face function target heard bytes)
unfolding arguments_at
arguments_awaited waits reg f face function target heard bytes = bind_awaited waits (members_at (value_at 64 reg) (argument_kinds f) heard.tables bytes) _ (λ args is. tt)

call_awaited : (waits : Waits) (reg : List Entity) (opening : Opening) (face : List ℕ) (target : Target) (heard : Heard) (bytes : List ℕ)
    → ReadsAwaited waits (call_at reg opening face target heard bytes)
unfolding call_at
call_awaited waits reg opening face target heard bytes =
    bind_awaited waits (judged UnknownFunction (numbered reg face opening.function)) _
    (λ f is. either_awaited waits (f.oneway && not opening.answered) _ _ tt (arguments_awaited waits reg f face opening.function target heard bytes))

asked_awaited : (waits : Waits) (reg : List Entity) (opening : Opening) (face : List ℕ) (target : Target) (heard : Heard) (bytes : List ℕ)
    → ReadsAwaited waits (asked_at reg opening face target heard bytes)
unfolding asked_at
asked_awaited waits reg opening face target heard bytes =
    either_awaited waits (opening.function == release_number) _ _ (release_awaited waits opening.answered face target heard bytes)
    (either_awaited waits (opening.function == acquire_number) _ _ tt (call_awaited waits reg opening face target heard bytes))

request_awaited : (waits : Waits) (reg : List Entity) (heard : Heard) (first : ℕ) (bytes : List ℕ) → ReadsAwaited waits (request_at reg heard first bytes)
unfolding request_at
request_awaited waits reg heard first bytes =
    bind_awaited waits (opening_at first bytes) _
    (λ opening is. bind_awaited waits (target_at reg opening.0 heard opening.1) _
    (λ target found. bind_awaited waits (judged NotInterface (interface_of target.0.kind)) _ (λ face faced. asked_awaited waits reg opening.0 face target.0 target.1 target.2)))

reads_awaited : (reg : List Entity) (waits : Waits) (heard : Heard) (bytes : List ℕ) → ReadsAwaited waits (message_at reg waits heard bytes)
unfolding message_at
reads_awaited reg waits heard bytes =
    bind_awaited waits (byte_at bytes) _
    (λ first is. either_awaited waits (opens_reply first.0) _ _ (reply_awaited reg waits heard first.0 first.1) (request_awaited waits reg heard first.0 first.1))

got_of : {X : Type 0} (P : X → Type 0) (r : Result X Fault) (x : X) → IfOk r P → r ≡ Ok x → P x
got_of P (Ok y) x fine is = subst P (cc) fine
got_of P (Err fault) x fine is = absurd (cc)

pub read_awaited : (reg : List Entity) (waits : Waits) (heard : Heard) (bytes : List ℕ) (read : Message × Heard × List ℕ) → message_at reg waits heard bytes ≡ Ok read → IsAwaited waits read.0
read_awaited reg waits heard bytes read is = got_of (λ (read : Message × Heard × List ℕ). IsAwaited waits read.0) (message_at reg waits heard bytes) read (reads_awaited reg waits heard bytes) is

-- ---- who waits

-- frames with a call that went out at their top
pub record Calls (fs : List Frame) : Type 0 where
  pub call : Outgoing
  pub below : List Frame
  pub all : fs ≡ outgoing call ∷ below

outgoing_top : (fs : List Frame) (o : Outgoing) → outgoing_in (first_frame fs) ≡ Some o → Calls fs
outgoing_top [] o is = absurd (cc)
outgoing_top (base root ∷ fs) o is = absurd (cc)
outgoing_top (body b ∷ fs) o is = absurd (cc)
outgoing_top (outgoing c ∷ fs) o is = record { call = c; below = fs; all = refl }

no_call : (fs : List Frame) → fs ≡ [] → Calls fs → ⊥
no_call fs none calls = let bad : outgoing calls.call ∷ calls.below ≡ [] = sym calls.all ∙ none in absurd (cc)

found_call : (tid : List ℕ) (w : Waiting) (s : Stack) (ss : List Stack) (b : Bool) → bytes_eq tid s.tid ≡ b → Calls s.frames
    → (is_some (waiting tid (waits_of ss)) ≡ true → Calls (frames_of tid ss)) → is_some (waiting tid ((s.tid, w) ∷ waits_of ss)) ≡ true
    → Calls (if b then s.frames else frames_of tid ss)
found_call tid w s ss true is here behind there = here
found_call tid w s ss false is here behind there = behind (subst (λ c. is_some (cond c (Some w) (waiting tid (waits_of ss))) ≡ true) is there)

-- no other stack is of its thread
passed_call : (tid : List ℕ) (s : Stack) (ss : List Stack) (b : Bool) → bytes_eq tid s.tid ≡ b → frames_of s.tid ss ≡ [] → Calls (frames_of tid ss)
    → Calls (if b then s.frames else frames_of tid ss)
passed_call tid s ss true is none calls =
    absurd (no_call (frames_of tid ss) (ap (λ name. frames_of name ss) ((bytes_eq-Decides tid s.tid).0 is) ∙ none) calls)
passed_call tid s ss false is none calls = calls

call_step : (tid : List ℕ) (s : Stack) (ss : List Stack) (o : Option Outgoing) → outgoing_in (first_frame s.frames) ≡ o → frames_of s.tid ss ≡ []
    → (is_some (waiting tid (waits_of ss)) ≡ true → Calls (frames_of tid ss)) → is_some (waiting tid (wait_of s.tid o ++ waits_of ss)) ≡ true
    → Calls (if bytes_eq tid s.tid then s.frames else frames_of tid ss)
call_step tid s ss None is none behind there = passed_call tid s ss (bytes_eq tid s.tid) refl none (behind there)
call_step tid s ss (Some o) is none behind there =
    found_call tid (record { face = o.face; function = o.function }) s ss (bytes_eq tid s.tid) refl (outgoing_top s.frames o is) behind there

-- a thread that waits has a call that went out at its top
pub waits_calls : (tid : List ℕ) (ss : List Stack) → AreApart ss → is_some (waiting tid (waits_of ss)) ≡ true → Calls (frames_of tid ss)
unfolding waits_of frames_of AreApart
waits_calls tid [] apart there = absurd (cc)
waits_calls tid (s ∷ ss) apart there = call_step tid s ss (outgoing_in (first_frame s.frames)) refl apart.0 (λ behind. waits_calls tid ss apart.1 behind) there
