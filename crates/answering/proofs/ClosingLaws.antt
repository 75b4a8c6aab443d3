-- One entry more: what it tells, and that a bridge which has ended says no more.
use Rattle.std.proofs.Common.{◌≡◌, refl, sym, ap, ◌∙◌, ℕ, suc, Bool, true, false, not, List, [], ◌∷◌, ◌++◌, length, take, Option, None, Some, arith}
use Rattle.std.proofs.lemmas.Bool.{false≢true, true≢false}
use Rattle.std.proofs.lemmas.List.{append_assoc, append-nil, append_cancel_left, drop_all}
use Rattle.message_model.specs.Said.{spell}
use Rattle.plan_model.specs.Frames.{Stack, frames_of}
use Rattle.bridge_laws.proofs.EndedLaws.{clash, first_holds, second_holds}
use Rattle.bridge_laws.proofs.FrontLaws.{drained_and_waiting}
use Rattle.bridge_laws.proofs.Replays.{of_step}
use Rattle.bridge_laws.proofs.RestLaws.{rest_kept}
use Rattle.bridge_laws.proofs.StepLaws.{ended_along}
use Rattle.bridge_laws.specs.Ended.{StaysEnded}
use Rattle.bridge_laws.specs.Resting.{KeepsTheRest}
use Rattle.bridge_model.specs.Answers.{drained_next}
use Rattle.bridge_model.specs.Ends.{ends_by}
use Rattle.bridge_model.specs.Entries.{Entry, fed, ended, failed, asked, called, queried, made, dropped, applied, took, reaped, drained, disposed, full, no_memory}
use Rattle.bridge_model.specs.Going.{waiting_bytes}
use Rattle.bridge_model.specs.Histories.{Told, nothing_told, bytes_drained, told_more, told_by, tells, tells_all, replay, Leads}
use Rattle.bridge_model.specs.Orders.{most_drained}
use Rattle.bridge_model.specs.Settings.{Setting}
use Rattle.bridge_model.specs.Sides.{Side, stands, stands_by}
use Rattle.bridge_model.specs.Steps.{Turn, turn, step, may, does, picked, picked_in, is_picked, has_entries, is_no_memory}
use Rattle.bridge_model.specs.declared.cause.Cause.{Cause}
use Rattle.bridge_model.specs.declared.cause.Cause.TheVariants as why
use Rattle.answering.specs.Turning.{IsClosed}

-- ---- histories

none_tells : (g : Setting) (es : List Entry) (t : Told) → tells_all g None es ≡ Some t → ⊥
unfolding tells_all
none_tells g es t is = cc

-- one entry behind others
tells_on : (g : Setting) (o : Option Told) (es : List Entry) (t : Told) (e : Entry) → tells_all g o es ≡ Some t → tells_all g o (es ++ e ∷ []) ≡ tells g t e
unfolding tells_all
tells_on g None es t e is = absurd (none_tells g es t is)
tells_on g (Some y) [] t e is = let same : y ≡ t = cc in last (tells g y e) ∙ ap (λ z. tells g z e) same
  where
    last : (o : Option Told) → tells_all g o [] ≡ o
    last None = refl
    last (Some z) = refl
tells_on g (Some y) (f ∷ es) t e is = tells_on g (tells g y f) es t e is

-- where one entry more leads, it was told
pub tells_one : (g : Setting) (es : List Entry) (t u : Told) (e : Entry) → Leads g es t → Leads g (es ++ e ∷ []) u → tells g t e ≡ Some u
unfolding replay
tells_one g es t u e before after = sym (tells_on g (Some (nothing_told g)) es t e before) ∙ after

-- the turn of an entry
pub record HasTurn (g : Setting) (t u : Told) (e : Entry) : Type 0 where
  pub turn : Turn
  pub is : step g t.side e ≡ Some turn
  pub told : u ≡ told_more t e turn

pub turn_of : (g : Setting) (t u : Told) (e : Entry) → tells g t e ≡ Some u → HasTurn g t u e
turn_of g t u e to = of_turn (step g t.side e) refl to
  where
    of_turn : (o : Option Turn) → step g t.side e ≡ o → told_by t e o ≡ Some u → HasTurn g t u e
    of_turn None is told = absurd (cc)
    of_turn (Some v) is told = record { turn = v; is = is; told = cc }

pub drained_by : (g : Setting) (t u : Told) (e : Entry) → tells g t e ≡ Some u → u.bytes_out ≡ t.bytes_out ++ bytes_drained e
drained_by g t u e to = ap (λ z. z.bytes_out) (turn_of g t u e to).told

-- ---- what has ended

-- memory was wanted
abbrev pub is_lack : Entry → Bool
is_lack no_memory = true
is_lack e = false

no_stack : (tid : List ℕ) (ss : List Stack) → ss ≡ [] → is_picked (picked_in (frames_of tid ss)) ≡ false
unfolding frames_of
no_stack tid ss none = ap (λ z. is_picked (picked_in (frames_of tid z))) none

cause_kept : (g : Setting) (s v : Side) (e : Entry) → stands s ≡ false → s.stacks ≡ [] → is_lack e ≡ false → may g s e ≡ true → KeepsTheRest e s v → v.cause ≡ s.cause
unfolding may picked
cause_kept g s v (fed b) gone quiet plain ok rest = clash (stands s) (first_holds (stands s) _ ok) gone
cause_kept g s v ended gone quiet plain ok rest = clash (stands s) ok gone
cause_kept g s v failed gone quiet plain ok rest = clash (stands s) ok gone
cause_kept g s v (asked root name wanted) gone quiet plain ok rest = rest.bridge.cause
cause_kept g s v (called root oid face function args) gone quiet plain ok rest = rest.bridge.cause
cause_kept g s v (queried root oid face wanted) gone quiet plain ok rest = rest.bridge.cause
cause_kept g s v (made root behaviour wanted) gone quiet plain ok rest = rest.bridge.cause
cause_kept g s v (dropped root oid face) gone quiet plain ok rest = rest.bridge.cause
cause_kept g s v (applied tid) gone quiet plain ok rest =
    clash (is_picked (picked_in (frames_of tid s.stacks))) (second_holds (not (has_entries s)) _ ok) (no_stack tid s.stacks quiet)
cause_kept g s v (took root) gone quiet plain ok rest = rest.bridge.cause
cause_kept g s v (reaped object) gone quiet plain ok rest = rest.bridge.cause
cause_kept g s v (drained b) gone quiet plain ok rest = rest.cause
cause_kept g s v disposed gone quiet plain ok rest = clash (stands s) ok gone
cause_kept g s v full gone quiet plain ok rest = clash (stands s) (first_holds (stands s) _ ok) gone
cause_kept g s v no_memory gone quiet plain ok rest = absurd (true≢false plain)

may_where : (g : Setting) (s : Side) (e : Entry) (v : Turn) → step g s e ≡ Some v → may g s e ≡ true
may_where g s e v is = of_step g s e v (λ x. may g s e ≡ true) (λ ok. ok) is

pub stays_ended : (g : Setting) (es : List Entry) (t u : Told) (e : Entry) → Leads g es t → tells g t e ≡ Some u → stands t.side ≡ false → stands u.side ≡ false
stays_ended g es t u e leads to gone =
    let has = turn_of g t u e to in
    ap (λ z. stands z.side) has.told ∙ (ended_along g es t e has.turn leads gone has.is).ended

-- ---- what is closed

nothing_front : (d w : List ℕ) → d ++ w ≡ [] → d ≡ []
nothing_front [] w none = refl
nothing_front (b ∷ d) w none = absurd (cc)

nothing_more : (a d w : List ℕ) → (a ++ d) ++ w ≡ a → d ≡ []
nothing_more a d w is = nothing_front d w (append_cancel_left a (d ++ w) [] (sym (append_assoc a d w) ∙ (is ∙ sym (append-nil a))))

has_memory : (c : Option Cause) → c ≡ Some why.Ended → is_no_memory c ≡ false
has_memory c is = ap is_no_memory is

closed_gone : (g : Setting) (t : Told) → IsClosed g t → stands t.side ≡ false
closed_gone g t closed = ap stands_by closed.cause

-- a bridge that is closed stays so, and nothing more goes out
pub closed_on : (g : Setting) (es fs : List Entry) (t u : Told) (e : Entry) → Leads g es t → Leads g fs u → tells g t e ≡ Some u → is_lack e ≡ false → IsClosed g t
    → IsClosed g u × (u.bytes_out ≡ t.bytes_out)
closed_on g es fs t u e before after to plain closed = (record { cause = cause; quiet = quiet; all = ap (spell g.registry) said ∙ (closed.all ∙ sym out) }, out)
  where
    has : HasTurn g t u e
    has = turn_of g t u e to

    stays : StaysEnded has.turn
    stays = ended_along g es t e has.turn before (closed_gone g t closed) has.is

    cause : u.side.cause ≡ Some why.Ended
    cause =
        ap (λ z. z.side.cause) has.told
        ∙ (cause_kept g t.side has.turn.side e (closed_gone g t closed) closed.quiet plain (may_where g t.side e has.turn has.is) (rest_kept g t.side e has.turn has.is) ∙ closed.cause)

    quiet : u.side.stacks ≡ []
    quiet = ap (λ z. z.side.stacks) has.told ∙ stays.quiet

    said : u.said ≡ t.said
    said = ap (λ z. z.said) has.told ∙ (ap (λ z. t.said ++ z) stays.said ∙ append-nil t.said)

    drains : u.bytes_out ≡ t.bytes_out ++ bytes_drained e
    drains = drained_by g t u e to

    none : bytes_drained e ≡ []
    none =
        nothing_more t.bytes_out (bytes_drained e) (waiting_bytes g u.side)
        (ap (λ z. z ++ waiting_bytes g u.side) (sym drains) ∙ (drained_and_waiting g fs u after (has_memory u.side.cause cause) ∙ (ap (spell g.registry) said ∙ closed.all)))

    out : u.bytes_out ≡ t.bytes_out
    out = drains ∙ (ap (λ z. t.bytes_out ++ z) none ∙ append-nil t.bytes_out)

-- ---- the end of the input

-- it ends the bridge, and says nothing
record IsEnded (v : Turn) : Type 0 where
  pub cause : v.side.cause ≡ Some why.Ended
  pub quiet : v.side.stacks ≡ []
  pub said : v.said ≡ []

ended_turn : (g : Setting) (s : Side) (v : Turn) → step g s ended ≡ Some v → IsEnded v
unfolding does ends_by
ended_turn g s v is =
    of_step g s ended v IsEnded
    (λ ok. record { cause = refl; quiet = refl; said = drop_all (length s.tables.unsaid) s.tables.unsaid (omega arith) }) is

take_none : (n : ℕ) (bytes : List ℕ) → take (suc n) bytes ≡ [] → bytes ≡ []
take_none n [] is = refl
take_none n (b ∷ bytes) is = absurd (cc)

none_waits : (g : Setting) (s : Side) → is_no_memory s.cause ≡ false → drained_next g most_drained s ≡ [] → waiting_bytes g s ≡ []
unfolding drained_next
none_waits g s memory none = take_none 65535 (waiting_bytes g s) (rw memory at none)

standing_memory : (c : Option Cause) → stands_by c ≡ true → is_no_memory c ≡ false
standing_memory None up = refl
standing_memory (Some c) up = absurd (false≢true up)

-- where nothing waited the bridge is closed, and nothing more goes out
pub closed_by_end : (g : Setting) (es : List Entry) (t u : Told) → Leads g es t → stands t.side ≡ true → drained_next g most_drained t.side ≡ [] → tells g t ended ≡ Some u
    → IsClosed g u × (u.bytes_out ≡ t.bytes_out)
closed_by_end g es t u leads up none to = (
  record {
    cause = ap (λ z. z.side.cause) has.told ∙ ended_so.cause;
    quiet = ap (λ z. z.side.stacks) has.told ∙ ended_so.quiet;
    all = ap (spell g.registry) said ∙ (all ∙ sym out);
  },
  out,
)
  where
    has : HasTurn g t u ended
    has = turn_of g t u ended to

    ended_so : IsEnded has.turn
    ended_so = ended_turn g t.side has.turn has.is

    said : u.said ≡ t.said
    said = ap (λ z. z.said) has.told ∙ (ap (λ z. t.said ++ z) ended_so.said ∙ append-nil t.said)

    out : u.bytes_out ≡ t.bytes_out
    out = drained_by g t u ended to ∙ append-nil t.bytes_out

    memory : is_no_memory t.side.cause ≡ false
    memory = standing_memory t.side.cause up

    all : spell g.registry t.said ≡ t.bytes_out
    all = sym (drained_and_waiting g es t leads memory) ∙ (ap (λ z. t.bytes_out ++ z) (none_waits g t.side memory none) ∙ append-nil t.bytes_out)
