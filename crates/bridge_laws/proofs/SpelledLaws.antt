-- Along every history the bytes that came spell what was got.
use Rattle.std.proofs.Common.{◌≡◌, refl, sym, ap, ◌∙◌, subst, ℕ, ◌<◌, Bool, true, false, not, ◌&&◌, List, [], ◌∷◌, ◌++◌, length, Option, None, Some, arith}
use Rattle.std.proofs.lemmas.Bool.{and_parts}
use Rattle.std.proofs.lemmas.List.{append_assoc, append-nil}
use Rattle.message_model.specs.Headers.{nothing_heard}
use Rattle.message_model.specs.Messages.{Message}
use Rattle.message_model.specs.ReadingStreams.{joined}
use Rattle.message_model.specs.Streams.{SpellsBody, SpellsStream}
use Rattle.message_model.proofs.StreamLaws.{stream_more}
use Rattle.uno_model.specs.Sound.{IsSound}
use Rattle.urp_model.specs.Blocks.{spell_block, AreBytes}
use Rattle.urp_model.specs.declared.reason.Reason.{Reason}
use Rattle.urp_model.proofs.SpellableLaws.{bytes_front, bytes_back}
use Rattle.plan_model.specs.Asking.{Effect, lets, sets, sets_field, drops, skips, calls, queries, makes, disposes, creates, returns, raises}
use Rattle.bridge_model.specs.Applying.{effect_at}
use Rattle.bridge_model.specs.Ends.{ends_by, runs_out}
use Rattle.bridge_model.specs.Entries.{Entry, fed, ended, failed, asked, called, queried, made, dropped, applied, took, reaped, drained, disposed, full, no_memory}
use Rattle.bridge_model.specs.Feeding.{Hearing, feeds, ends_part, header_fault, block_stands}
use Rattle.bridge_model.specs.Histories.{Told, nothing_told, bytes_fed, told_more, told_by, tells, tells_all, replay, Leads}
use Rattle.bridge_model.specs.Settings.{Setting}
use Rattle.bridge_model.specs.Sides.{Side, stands, stands_by}
use Rattle.bridge_model.specs.Steps.{Turn, turn, step, may, does, has_entries, may_feed, Picked, picked, applies_effect, applies_picked, opening}
use Rattle.bridge_model.specs.declared.cause.Cause.{Cause}
use Rattle.bridge_model.specs.declared.cause.Cause.TheVariants as cause
use Rattle.bridge_laws.proofs.PieceLaws.{MayFeed, fed_is}
use Rattle.bridge_laws.proofs.Replays.{of_step}
use Rattle.bridge_laws.proofs.RestLaws.{rest_kept}
use Rattle.bridge_laws.specs.Ending.{HasEnd}
use Rattle.bridge_laws.proofs.HistoryLaws.{leads_push}
use Rattle.bridge_laws.specs.Spelled.{nothing, no_block, a_block, waits_along, IsSpelled}
use Rattle.bridge_laws.proofs.FedLaws.{IsHeld, IsBlockGot, IsFedSo, as_part, as_block, as_broken, fed_so}

-- ---- entries that bring nothing

-- nothing comes, and a bridge that stands behind it stood before it, with what came in
record IsQuiet (s : Side) (u : Turn) : Type 0 where
  got : u.got ≡ []
  kept : stands u.side ≡ true → (stands s ≡ true) × (u.side.incoming ≡ s.incoming)

ends_it : (s : Side) (u : Turn) → u.got ≡ [] → stands u.side ≡ false → IsQuiet s u
ends_it s u none down = record { got = none; kept = λ on. absurd (cc) }

keeps_it : (s : Side) (u : Turn) → u.got ≡ [] → u.side.cause ≡ s.cause → u.side.incoming ≡ s.incoming → IsQuiet s u
keeps_it s u none same came = record { got = none; kept = λ on. (sym (ap stands_by same) ∙ on, came) }

-- how a statement leaves the bridge
data IsLeft (s z : Side) : Type 0 where
  as_it_was : z.cause ≡ s.cause → z.incoming ≡ s.incoming → IsLeft s z
  ended_now : stands z ≡ false → IsLeft s z

effect_leaves : (g : Setting) (tid : List ℕ) (p : Picked) (e : Effect) (s : Side) → IsLeft s (applies_effect g tid p e s)
unfolding ends_by
effect_leaves g tid p (lets x) s = as_it_was refl refl
effect_leaves g tid p (sets x) s = as_it_was refl refl
effect_leaves g tid p (sets_field x) s = as_it_was refl refl
effect_leaves g tid p (drops name) s = as_it_was refl refl
effect_leaves g tid p skips s = as_it_was refl refl
effect_leaves g tid p (calls target function args to) s = as_it_was refl refl
effect_leaves g tid p (queries target wanted to) s = as_it_was refl refl
effect_leaves g tid p (makes behaviour face to) s = as_it_was refl refl
effect_leaves g tid p disposes s = ended_now refl
effect_leaves g tid p (creates name args) s = as_it_was refl refl
effect_leaves g tid p (returns x outs) s = as_it_was refl refl
effect_leaves g tid p (raises k x) s = as_it_was refl refl

picked_leaves : (g : Setting) (tid : List ℕ) (p : Option Picked) (s : Side) → IsLeft s (applies_picked g tid p s)
picked_leaves g tid None s = as_it_was refl refl
picked_leaves g tid (Some p) s = effect_leaves g tid p (effect_at g tid p.method p.below s.tables) s

left_quiet : (s z : Side) (u : Turn) → u.got ≡ [] → u.side.cause ≡ z.cause → u.side.incoming ≡ z.incoming → IsLeft s z → IsQuiet s u
left_quiet s z u none same came (as_it_was cause_is incoming_is) = keeps_it s u none (same ∙ cause_is) (came ∙ incoming_is)
left_quiet s z u none same came (ended_now down) = ends_it s u none (ap stands_by same ∙ down)

runs_out_ends : (why : Option Cause) (s : Side) → stands (runs_out why s) ≡ false
unfolding runs_out ends_by
runs_out_ends None s = refl
runs_out_ends (Some why) s = refl

abbrev is_fed : Entry → Bool
is_fed (fed b) = true
is_fed e = false

quiet : (g : Setting) (s : Side) (e : Entry) → is_fed e ≡ false → may g s e ≡ true → IsQuiet s (turn e s (does g e s))
unfolding does ends_by step
quiet g s (fed b) other is = absurd (cc)
quiet g s ended other is = ends_it s (turn ended s (does g ended s)) refl refl
quiet g s failed other is = ends_it s (turn failed s (does g failed s)) refl refl
quiet g s (asked root name wanted) other is =
    let k = rest_kept g s (asked root name wanted) (turn (asked root name wanted) s (does g (asked root name wanted) s)) (rw (is) refl) in keeps_it s _ refl k.bridge.cause k.bridge.incoming
quiet g s (called root oid face function args) other is =
    let k = rest_kept g s (called root oid face function args) (turn (called root oid face function args) s (does g (called root oid face function args) s)) (rw (is) refl) in
    keeps_it s _ refl k.bridge.cause k.bridge.incoming
quiet g s (queried root oid face wanted) other is =
    let k = rest_kept g s (queried root oid face wanted) (turn (queried root oid face wanted) s (does g (queried root oid face wanted) s)) (rw (is) refl) in keeps_it s _ refl k.bridge.cause k.bridge.incoming
quiet g s (made root behaviour wanted) other is =
    let k = rest_kept g s (made root behaviour wanted) (turn (made root behaviour wanted) s (does g (made root behaviour wanted) s)) (rw (is) refl) in keeps_it s _ refl k.bridge.cause k.bridge.incoming
quiet g s (dropped root oid face) other is =
    let k = rest_kept g s (dropped root oid face) (turn (dropped root oid face) s (does g (dropped root oid face) s)) (rw (is) refl) in keeps_it s _ refl k.bridge.cause k.bridge.incoming
quiet g s (applied tid) other is = left_quiet s (applies_picked g tid (picked tid s) s) (turn (applied tid) s (does g (applied tid) s)) refl refl refl (picked_leaves g tid (picked tid s) s)
quiet g s (took root) other is =
    let k = rest_kept g s (took root) (turn (took root) s (does g (took root) s)) (rw (is) refl) in keeps_it s _ refl k.bridge.cause k.bridge.incoming
quiet g s (reaped object) other is =
    let k = rest_kept g s (reaped object) (turn (reaped object) s (does g (reaped object) s)) (rw (is) refl) in keeps_it s _ refl k.bridge.cause k.bridge.incoming
quiet g s (drained b) other is =
    let k = rest_kept g s (drained b) (turn (drained b) s (does g (drained b) s)) (rw (is) refl) in keeps_it s _ refl k.cause k.incoming
quiet g s disposed other is = ends_it s (turn disposed s (does g disposed s)) refl refl
quiet g s full other is = ends_it s (turn full s (does g full s)) refl refl
quiet g s no_memory other is = ends_it s (turn no_memory s (does g no_memory s)) refl (runs_out_ends s.cause s)

no_bytes : (e : Entry) → is_fed e ≡ false → bytes_fed e ≡ []
no_bytes (fed b) other = absurd (cc)
no_bytes ended other = refl
no_bytes failed other = refl
no_bytes (asked root name wanted) other = refl
no_bytes (called root oid face function args) other = refl
no_bytes (queried root oid face wanted) other = refl
no_bytes (made root behaviour wanted) other = refl
no_bytes (dropped root oid face) other = refl
no_bytes (applied tid) other = refl
no_bytes (took root) other = refl
no_bytes (reaped object) other = refl
no_bytes (drained b) other = refl
no_bytes disposed other = refl
no_bytes full other = refl
no_bytes no_memory other = refl

-- ---- bytes and blocks

joined_push : (blocks : List (List Message)) (ms : List Message) → joined (blocks ++ ms ∷ []) ≡ joined blocks ++ ms
unfolding joined
joined_push [] ms = append-nil ms
joined_push (ns ∷ blocks) ms = ap (λ zs. ns ++ zs) (joined_push blocks ms) ∙ sym (append_assoc ns (joined blocks) ms)

nothing_open : ends_part [] ≡ false
unfolding ends_part header_fault block_stands
nothing_open = refl

-- ---- one entry more

-- no bytes of a journal broke the bridge
abbrev pub IsUnbroken : Setting → List Entry → Type 0
IsUnbroken g es = (why : Reason) (place : ℕ) → HasEnd g es (cause.Broken why place) → ⊥

abbrev next : Setting → Told → Entry → Told
next g x e = told_more x e (turn e x.side (does g e x.side))

module _ (g : Setting) (es : List Entry) (x : Told) (leads : Leads g es x) (fine : IsSpelled g es x) where
  step_there : (e : Entry) → may g x.side e ≡ true → step g x.side e ≡ Some (turn e x.side (does g e x.side))
  unfolding step
  step_there e is = rw (is) refl

  quiet_on : (e : Entry) → is_fed e ≡ false → may g x.side e ≡ true → IsSpelled g (es ++ e ∷ []) (next g x e)
  quiet_on e other is =
      let q = quiet g x.side e other is in
      record {
        waits = fine.waits;
        blocks = fine.blocks;
        brought = no_block es e x (turn e x.side (does g e x.side)) fine.waits fine.blocks fine.brought leads (step_there e is) q.got;
        got = (ap (λ ms. x.got ++ ms) q.got ∙ append-nil x.got) ∙ fine.got;
        whole = fine.whole;
        part = fine.part;
        came = (ap (λ b. x.bytes_in ++ b) (no_bytes e other) ∙ append-nil x.bytes_in) ∙ fine.came;
        after = fine.after;
        spelled = fine.spelled;
        unended = fine.unended;
        held = λ on. let before = q.kept on in let is_so = fine.held before.0 in (ap (λ i. i.held) before.1 ∙ is_so.0, ap (λ i. i.heard) before.1 ∙ is_so.1);
      }

  module _ (b : List ℕ) (is : may g x.side (fed b) ≡ true) (up : stands x.side ≡ true) where
    abbrev y : Hearing
    y = does g (fed b) x.side

    held_is : x.side.incoming.held ≡ fine.part
    held_is = (fine.held up).0

    heard_is : x.side.incoming.heard ≡ fine.after
    heard_is = (fine.held up).1

    came_so : x.bytes_in ++ b ≡ fine.whole ++ (x.side.incoming.held ++ b)
    came_so = ap (λ t. t ++ b) (fine.came ∙ ap (λ t. fine.whole ++ t) (sym held_is)) ∙ append_assoc fine.whole x.side.incoming.held b

    part_on : IsHeld b x.side y → IsSpelled g (es ++ fed b ∷ []) (next g x (fed b))
    part_on q =
        record {
          waits = fine.waits;
          blocks = fine.blocks;
          brought = no_block es (fed b) x (turn (fed b) x.side y) fine.waits fine.blocks fine.brought leads (step_there (fed b) is) q.got;
          got = (ap (λ ms. x.got ++ ms) q.got ∙ append-nil x.got) ∙ fine.got;
          whole = fine.whole;
          part = x.side.incoming.held ++ b;
          came = came_so;
          after = fine.after;
          spelled = fine.spelled;
          unended = q.unended;
          held = λ on. (q.held, q.heard ∙ heard_is);
        }

    not_none : (ms : List Message) → 0 < length ms → ms ≡ [] → ⊥
    not_none [] some none = omega arith
    not_none (m ∷ ms) some none = absurd (cc)

    block_on : IsBlockGot g b x.side y → IsSpelled g (es ++ fed b ∷ []) (next g x (fed b))
    block_on q =
        record {
          waits = fine.waits ++ waits_along g x.side y.got ∷ [];
          blocks = fine.blocks ++ y.got ∷ [];
          brought = a_block es (fed b) x (turn (fed b) x.side y) fine.waits fine.blocks fine.brought leads (step_there (fed b) is) (not_none y.got q.block.some);
          got = ap (λ ms. ms ++ y.got) fine.got ∙ sym (joined_push fine.blocks y.got);
          whole = fine.whole ++ spell_block (length y.got) q.body;
          part = [];
          came = came_so ∙ (ap (λ t. fine.whole ++ t) q.whole ∙ sym (append-nil (fine.whole ++ spell_block (length y.got) q.body)));
          after = y.side.incoming.heard;
          spelled = stream_more g.registry fine.waits fine.whole nothing_heard fine.after y.side.incoming.heard fine.blocks (waits_along g x.side y.got) y.got q.body fine.spelled q.block
              (subst (λ h. SpellsBody g.registry (waits_along g x.side y.got) q.body h y.got y.side.incoming.heard) heard_is q.spelled);
          unended = nothing_open;
          held = λ on. (q.held, refl);
        }

    fed_by : (whole later : List Entry) → whole ≡ es ++ fed b ∷ later → IsUnbroken g whole → IsFedSo g b x.side y → IsSpelled g (es ++ fed b ∷ []) (next g x (fed b))
    fed_by whole later journal unbroken (as_part q) = part_on q
    fed_by whole later journal unbroken (as_block q) = block_on q
    fed_by whole later journal unbroken (as_broken q) =
        absurd (unbroken q.0 q.1 (record {
          before = es;
          entry = fed b;
          later = later;
          journal = journal;
          stood = x;
          leads = leads;
          up = up;
          turn = turn (fed b) x.side y;
          does = step_there (fed b) is;
          cause = q.2;
          ends = (q.0, q.1, refl);
        }))

  may_fed_is : (b : List ℕ) → may g x.side (fed b) ≡ true → (stands x.side ≡ true) × MayFeed b x.side.incoming.place x.side.incoming.held
  unfolding may
  may_fed_is b is =
      let parts = and_parts (stands x.side) (not (has_entries x.side) && may_feed b x.side.incoming) is in
      (parts.0, fed_is b x.side.incoming (and_parts (not (has_entries x.side)) (may_feed b x.side.incoming) parts.1).1)

  does_fed : (b : List ℕ) → does g (fed b) x.side ≡ feeds g b x.side
  unfolding does
  does_fed b = refl

  fed_on : IsSound g.registry → (b : List ℕ) (whole later : List Entry) → whole ≡ es ++ fed b ∷ later → IsUnbroken g whole → AreBytes (x.bytes_in ++ b) → may g x.side (fed b) ≡ true
      → IsSpelled g (es ++ fed b ∷ []) (next g x (fed b))
  fed_on sound b whole later journal unbroken bytes is =
      let parts = may_fed_is b is in
      let held = bytes_back fine.whole (x.side.incoming.held ++ b) (subst AreBytes (came_so b is parts.0) bytes) in
      fed_by b is parts.0 whole later journal unbroken (subst (IsFedSo g b x.side) (sym (does_fed b)) (fed_so g sound b x.side held parts.1))

  next_on : IsSound g.registry → (e : Entry) (whole later : List Entry) → whole ≡ es ++ e ∷ later → IsUnbroken g whole → AreBytes (x.bytes_in ++ bytes_fed e) → may g x.side e ≡ true
      → IsSpelled g (es ++ e ∷ []) (next g x e)
  next_on sound (fed b) whole later journal unbroken bytes is = fed_on sound b whole later journal unbroken bytes is
  next_on sound ended whole later journal unbroken bytes is = quiet_on ended refl is
  next_on sound failed whole later journal unbroken bytes is = quiet_on failed refl is
  next_on sound (asked root name wanted) whole later journal unbroken bytes is = quiet_on (asked root name wanted) refl is
  next_on sound (called root oid face function args) whole later journal unbroken bytes is = quiet_on (called root oid face function args) refl is
  next_on sound (queried root oid face wanted) whole later journal unbroken bytes is = quiet_on (queried root oid face wanted) refl is
  next_on sound (made root behaviour wanted) whole later journal unbroken bytes is = quiet_on (made root behaviour wanted) refl is
  next_on sound (dropped root oid face) whole later journal unbroken bytes is = quiet_on (dropped root oid face) refl is
  next_on sound (applied tid) whole later journal unbroken bytes is = quiet_on (applied tid) refl is
  next_on sound (took root) whole later journal unbroken bytes is = quiet_on (took root) refl is
  next_on sound (reaped object) whole later journal unbroken bytes is = quiet_on (reaped object) refl is
  next_on sound (drained b) whole later journal unbroken bytes is = quiet_on (drained b) refl is
  next_on sound disposed whole later journal unbroken bytes is = quiet_on disposed refl is
  next_on sound full whole later journal unbroken bytes is = quiet_on full refl is
  next_on sound no_memory whole later journal unbroken bytes is = quiet_on no_memory refl is

-- ---- histories

same_told : (x y : Told) → Some x ≡ Some y → x ≡ y
same_told x y is = cc

same_turn : (u v : Turn) → Some u ≡ Some v → u ≡ v
same_turn u v is = cc

-- bytes that came later stand behind those that came before
grown_by : (g : Setting) (x : Told) (e : Entry) (o : Option Told) (es : List Entry) (y : Told) → o ≡ tells g x e
    → ((z : Told) → o ≡ Some z → tells_all g (Some z) es ≡ Some y → (more : List ℕ) × (y.bytes_in ≡ z.bytes_in ++ more))
    → tells_all g o es ≡ Some y → (more : List ℕ) × (y.bytes_in ≡ (x.bytes_in ++ bytes_fed e) ++ more)
unfolding tells_all
grown_by g x e None [] y is more to = absurd (cc)
grown_by g x e None (f ∷ es) y is more to = absurd (cc)
grown_by g x e (Some z) es y is more to =
    let k = more z refl to in (k.0, k.1 ∙ ap (λ b. b ++ k.0) (told_bytes (step g x.side e) (sym is)))
  where
    told_bytes : (u : Option Turn) → told_by x e u ≡ Some z → z.bytes_in ≡ x.bytes_in ++ bytes_fed e
    told_bytes None at = absurd (cc)
    told_bytes (Some u) at = ap (λ (w : Told). w.bytes_in) (sym (same_told (told_more x e u) z at))

grown : (g : Setting) (x : Told) (es : List Entry) (y : Told) → tells_all g (Some x) es ≡ Some y → (more : List ℕ) × (y.bytes_in ≡ x.bytes_in ++ more)
unfolding tells_all
grown g x [] y to = ([], ap (λ (w : Told). w.bytes_in) (sym (same_told x y to)) ∙ sym (append-nil x.bytes_in))
grown g x (e ∷ es) y to =
    let k = grown_by g x e (tells g x e) es y refl (λ z is on. grown g z es y on) to in (bytes_fed e ++ k.0, k.1 ∙ append_assoc x.bytes_in (bytes_fed e) k.0)

-- a step that is there
record IsDone (g : Setting) (x : Told) (e : Entry) (z : Told) : Type 0 where
  can : may g x.side e ≡ true
  is : z ≡ next g x e

done_by : (g : Setting) (x : Told) (e : Entry) (o : Option Turn) → o ≡ step g x.side e → (z : Told) → told_by x e o ≡ Some z → IsDone g x e z
done_by g x e None is z to = absurd (cc)
done_by g x e (Some u) is z to =
    of_step g x.side e u (λ v. z ≡ told_more x e v → IsDone g x e z) (λ can same. record { can = can; is = same }) (sym is) (sym (same_told (told_more x e u) z to))

no_more_told : {X : Type 0} (g : Setting) (es : List Entry) (y : Told) → tells_all g None es ≡ Some y → X
unfolding tells_all
no_more_told g [] y to = absurd (cc)
no_more_told g (e ∷ es) y to = absurd (cc)

module _ (g : Setting) (sound : IsSound g.registry) (whole : List Entry) (unbroken : IsUnbroken g whole) (y : Told) (bytes : AreBytes y.bytes_in) where
  behind_entry : (x : Told) (e : Entry) (before es : List Entry) → Leads g before x → IsSpelled g before x → before ++ e ∷ es ≡ whole → (o : Option Told) → o ≡ tells g x e
      → ((z : Told) → Leads g (before ++ e ∷ []) z → IsSpelled g (before ++ e ∷ []) z → tells_all g (Some z) es ≡ Some y → IsSpelled g whole y) → tells_all g o es ≡ Some y → IsSpelled g whole y
  behind_entry x e before es leads fine journal None is more to = no_more_told g es y to
  behind_entry x e before es leads fine journal (Some z) is more to =
      let now = done_by g x e (step g x.side e) refl z (sym is) in
      let later = grown g z es y to in
      let came : AreBytes z.bytes_in = bytes_front z.bytes_in later.0 (subst AreBytes later.1 bytes) in
      let all : AreBytes (x.bytes_in ++ bytes_fed e) = subst (λ (w : Told). AreBytes w.bytes_in) now.is came in
      more z
      (subst (Leads g (before ++ e ∷ [])) (sym now.is) (leads_push g before e x (turn e x.side (does g e x.side)) leads (step_there g before x leads fine e now.can)))
      (subst (IsSpelled g (before ++ e ∷ [])) (sym now.is) (next_on g before x leads fine sound e whole es (sym journal) unbroken all now.can))
      to

  along : (es before : List Entry) (x : Told) → Leads g before x → IsSpelled g before x → before ++ es ≡ whole → tells_all g (Some x) es ≡ Some y → IsSpelled g whole y
  unfolding tells_all
  along [] before x leads fine journal to =
      subst (λ fs. IsSpelled g fs y) (sym (append-nil before) ∙ journal) (subst (IsSpelled g before) (same_told x y to) fine)
  along (e ∷ es) before x leads fine journal to =
      behind_entry x e before es leads fine journal (tells g x e) refl
      (λ z leads_on fine_on on. along es (before ++ e ∷ []) z leads_on fine_on (append_assoc before (e ∷ []) es ∙ journal) on) to

first_spelled : (g : Setting) → IsSpelled g [] (nothing_told g)
unfolding opening SpellsStream joined
first_spelled g =
    record {
      waits = [];
      blocks = [];
      brought = nothing;
      got = refl;
      whole = [];
      part = [];
      came = refl;
      after = nothing_heard;
      spelled = (refl, refl);
      unended = nothing_open;
      held = λ on. (refl, refl);
    }

first_leads : (g : Setting) → Leads g [] (nothing_told g)
unfolding replay tells_all
first_leads g = refl

pub spelled : (g : Setting) (es : List Entry) (x : Told) → IsSound g.registry → Leads g es x → AreBytes x.bytes_in → IsUnbroken g es → IsSpelled g es x
unfolding replay
spelled g es x sound leads bytes unbroken = along g sound es unbroken x bytes es [] (nothing_told g) (first_leads g) (first_spelled g) refl leads
