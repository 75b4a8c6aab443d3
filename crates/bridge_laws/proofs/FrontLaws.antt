-- What was drained is a front of what was said, and all of it with what waits until want of memory: each entry but a drain only says more, and a drain takes the next bytes that wait.
use Rattle.std.proofs.Common.{◌≡◌, refl, sym, subst, ◌∙◌, ℕ, Bool, true, false, not, ◌&&◌, List, [], ◌∷◌, ◌++◌, length, drop, Option, None, Some}
use Rattle.std.proofs.lemmas.Bool.{and_parts}
use Rattle.std.proofs.lemmas.List.{append_assoc, append-nil}
use Rattle.message_model.specs.Messages.{Message}
use Rattle.message_model.specs.Said.{spoken_after, spell}
use Rattle.message_model.specs.WritingMessages.{messages_spelling}
use Rattle.message_model.proofs.SaidLaws.{spell_append}
use Rattle.uno_model.specs.Entities.{Entity}
use Rattle.plan_model.specs.Frames.{Stack, frames_of}
use Rattle.bridge_model.specs.Entries.{Entry, fed, ended, failed, asked, called, queried, made, dropped, applied, took, reaped, drained, disposed, full, no_memory}
use Rattle.bridge_model.specs.Going.{waiting_bytes, drains, are_next, reaps}
use Rattle.bridge_model.specs.Histories.{Told, nothing_told, Leads}
use Rattle.bridge_model.specs.Objects.{lowest}
use Rattle.bridge_model.specs.Roots.{root_drops, root_takes}
use Rattle.bridge_model.specs.Settings.{Setting}
use Rattle.bridge_model.specs.Sides.{Object, Outgoing, nothing_goes, Side, stands_by, stands}
use Rattle.bridge_model.specs.Steps.{picked, picked_in, is_picked, has_entries, opening, no_objects, may, reaps_some, does, is_no_memory, is_some_bytes}
use Rattle.bridge_model.specs.declared.cause.Cause.{Cause}
use Rattle.bridge_model.specs.declared.cause.Cause.TheVariants as cause
use Rattle.plan_model.specs.Plans.{first_objects}
use Rattle.bridge_laws.proofs.GrowsLaws.{keeps_makes_all}
use Rattle.bridge_laws.proofs.Replays.{IsKept, along_replay}
use Rattle.bridge_laws.proofs.SpellingLaws.{waiting, IsSpelled, spelled_on, spelled_drained}
use Rattle.bridge_laws.specs.Ended.{IsQuiet}
use Rattle.bridge_laws.proofs.EndedLaws.{clash, first_holds, second_holds, does_quiet}
use Rattle.bridge_laws.proofs.SpeakingLaws.{SaysMore, out_is_cause, says_ends_by, says_feeds, says_picked, says_reaps, says_calls, says_queries, says_asks, says_makes, says_drops, says_takes}

-- ---- want of memory

standing_has_memory : {X : Type 0} (c : Option Cause) → stands_by c ≡ true → is_no_memory c ≡ true → X
standing_has_memory None is out = absurd (cc)
standing_has_memory (Some c) is out = absurd (cc)

out_reaps : (g : Setting) (o : Option Object) (s : Side) → is_no_memory s.cause ≡ true → is_no_memory (reaps_some g o s).cause ≡ true
unfolding reaps
out_reaps g None s is = is
out_reaps g (Some o) s is = is

no_stack : (tid : List ℕ) (ss : List Stack) → ss ≡ [] → is_picked (picked_in (frames_of tid ss)) ≡ true → ⊥
unfolding frames_of
no_stack tid [] none there = absurd (cc)
no_stack tid (x ∷ ss) none there = absurd (cc)

not_standing : (c : Option Cause) → is_no_memory c ≡ true → stands_by c ≡ false
not_standing None is = absurd (cc)
not_standing (Some c) is = refl

-- it stays the cause
stays_out : (g : Setting) (e : Entry) (s : Side) → IsQuiet s → may g s e ≡ true → is_no_memory s.cause ≡ true → is_no_memory (does g e s).side.cause ≡ true
unfolding does may picked root_drops root_takes drains
stays_out g (fed b) s quiet ok out = standing_has_memory s.cause (first_holds (stands s) _ ok) out
stays_out g ended s quiet ok out = standing_has_memory s.cause ok out
stays_out g failed s quiet ok out = standing_has_memory s.cause ok out
stays_out g (asked root name wanted) s quiet ok out = standing_has_memory s.cause (first_holds (stands s) _ ok) out
stays_out g (called root oid face function args) s quiet ok out = standing_has_memory s.cause (first_holds (stands s) _ ok) out
stays_out g (queried root oid face wanted) s quiet ok out = standing_has_memory s.cause (first_holds (stands s) _ ok) out
stays_out g (made root behaviour wanted) s quiet ok out = standing_has_memory s.cause (first_holds (stands s) _ ok) out
stays_out g (dropped root oid face) s quiet ok out = out
stays_out g (applied tid) s quiet ok out = absurd (no_stack tid s.stacks (quiet (not_standing s.cause out)) (second_holds (not (has_entries s)) _ ok))
stays_out g (took root) s quiet ok out = out
stays_out g (reaped object) s quiet ok out = out_reaps g (lowest g s.tables) s out
stays_out g (drained b) s quiet ok out = out
stays_out g disposed s quiet ok out = standing_has_memory s.cause ok out
stays_out g full s quiet ok out = standing_has_memory s.cause (first_holds (stands s) _ ok) out
stays_out g no_memory s quiet ok out = out_is_cause s.cause s

-- so where it is not the cause, it was not before
had_memory : (g : Setting) (e : Entry) (s : Side) → IsQuiet s → may g s e ≡ true → is_no_memory (does g e s).side.cause ≡ false → is_no_memory s.cause ≡ false
had_memory g e s quiet ok later = of_before (is_no_memory s.cause) refl
  where
    of_before : (b : Bool) → is_no_memory s.cause ≡ b → is_no_memory s.cause ≡ false
    of_before true is = clash (is_no_memory (does g e s).side.cause) (stays_out g e s quiet ok is) later
    of_before false is = is

not_true : (b : Bool) → not b ≡ true → b ≡ false
not_true true is = absurd (cc)
not_true false is = refl

-- ---- histories

-- what was drained is a front of what was said, and all of it with what waits, but after want of memory
record IsFront (reg : List Entity) (out : List ℕ) (s : Side) (said : List Message) : Type 0 where
  pub quiet : IsQuiet s
  pub whole : is_no_memory s.cause ≡ false → IsSpelled reg out s.tables.unsaid s.outgoing said
  pub front : (rest : List ℕ) × (spell reg said ≡ out ++ rest)

front_behind : (out rest all new : List ℕ) → all ≡ out ++ rest → all ++ new ≡ (out ++ []) ++ (rest ++ new)
front_behind out rest all new is = rw (append-nil out, is) (simp append_assoc)

front_on : (reg : List Entity) (out : List ℕ) (said new : List Message) → (rest : List ℕ) × (spell reg said ≡ out ++ rest)
    → (rest : List ℕ) × (spell reg (said ++ new) ≡ (out ++ []) ++ rest)
front_on reg out said new front =
    (front.0 ++ messages_spelling reg new (spoken_after reg said), spell_append reg said new ∙ front_behind out front.0 (spell reg said) (messages_spelling reg new (spoken_after reg said)) front.1)

-- it stays so where more is said
front_more : (reg : List Entity) (out : List ℕ) (s t : Side) (said : List Message) → IsFront reg out s said → IsQuiet t
    → (is_no_memory t.cause ≡ false → is_no_memory s.cause ≡ false) → SaysMore s t
    → IsFront reg (out ++ []) t (said ++ drop (length s.tables.unsaid) t.tables.unsaid)
front_more reg out s t said fine quiet memory more =
    record {
      quiet = quiet;
      whole = λ left. spelled_on reg out s.tables.unsaid t.tables.unsaid s.outgoing t.outgoing said (fine.whole (memory left)) more;
      front = front_on reg out said (drop (length s.tables.unsaid) t.tables.unsaid) fine.front;
    }

-- and at want of memory
front_out : (reg : List Entity) (out : List ℕ) (s t : Side) (said : List Message) → IsFront reg out s said → IsQuiet t → is_no_memory t.cause ≡ true
    → IsFront reg (out ++ []) t (said ++ drop (length s.tables.unsaid) t.tables.unsaid)
front_out reg out s t said fine quiet is =
    record {
      quiet = quiet;
      whole = λ left. clash (is_no_memory t.cause) is left;
      front = front_on reg out said (drop (length s.tables.unsaid) t.tables.unsaid) fine.front;
    }

front_of_whole : (reg : List Entity) (out : List ℕ) (unsaid : List Message) (o : Outgoing) (said : List Message) → IsSpelled reg out unsaid o said
    → (rest : List ℕ) × (spell reg said ≡ out ++ rest)
front_of_whole reg out unsaid o said is = (waiting reg unsaid o, sym is.bytes)

abbrev IsFrontOf : Setting → Told → Type 0
IsFrontOf g x = IsFront g.registry x.bytes_out x.side x.said

nothing_spelled : (g : Setting) → IsFrontOf g (nothing_told g)
unfolding opening spell spoken_after
nothing_spelled g =
    let quiet = keeps_makes_all g (first_objects g.plan) (no_objects g.plan) in
    let whole = subst (λ ms. IsSpelled g.registry [] ms nothing_goes []) (sym quiet.said) (record { bytes = refl; spoken = refl }) in
    record { quiet = λ is_not. refl; whole = λ left. whole; front = (spell g.registry [], refl) }

-- each entry but a drain and want of memory says more
front_kept : (g : Setting) → IsKept g (IsFrontOf g)
unfolding does may drains are_next waiting_bytes
front_kept g x (fed b) fine ok =
    front_more g.registry x.bytes_out x.side _ x.said fine (does_quiet g (fed b) x.side fine.quiet ok) (had_memory g (fed b) x.side fine.quiet ok) (says_feeds g b x.side)
front_kept g x ended fine ok =
    front_more g.registry x.bytes_out x.side _ x.said fine (does_quiet g ended x.side fine.quiet ok) (had_memory g ended x.side fine.quiet ok) (says_ends_by cause.Ended x.side)
front_kept g x failed fine ok =
    front_more g.registry x.bytes_out x.side _ x.said fine (does_quiet g failed x.side fine.quiet ok) (had_memory g failed x.side fine.quiet ok) (says_ends_by cause.Failed x.side)
front_kept g x (asked root name wanted) fine ok =
    front_more g.registry x.bytes_out x.side _ x.said fine (does_quiet g (asked root name wanted) x.side fine.quiet ok) (had_memory g (asked root name wanted) x.side fine.quiet ok) (says_asks g root name wanted x.side)
front_kept g x (called root oid face function args) fine ok =
    front_more g.registry x.bytes_out x.side _ x.said fine (does_quiet g (called root oid face function args) x.side fine.quiet ok) (had_memory g (called root oid face function args) x.side fine.quiet ok) (says_calls g root oid face function args x.side)
front_kept g x (queried root oid face wanted) fine ok =
    front_more g.registry x.bytes_out x.side _ x.said fine (does_quiet g (queried root oid face wanted) x.side fine.quiet ok) (had_memory g (queried root oid face wanted) x.side fine.quiet ok) (says_queries g root oid face wanted x.side)
front_kept g x (made root behaviour wanted) fine ok =
    front_more g.registry x.bytes_out x.side _ x.said fine (does_quiet g (made root behaviour wanted) x.side fine.quiet ok) (had_memory g (made root behaviour wanted) x.side fine.quiet ok) (says_makes g root behaviour wanted x.side)
front_kept g x (dropped root oid face) fine ok =
    front_more g.registry x.bytes_out x.side _ x.said fine (does_quiet g (dropped root oid face) x.side fine.quiet ok) (had_memory g (dropped root oid face) x.side fine.quiet ok) (says_drops g root oid face x.side)
front_kept g x (applied tid) fine ok =
    front_more g.registry x.bytes_out x.side _ x.said fine (does_quiet g (applied tid) x.side fine.quiet ok) (had_memory g (applied tid) x.side fine.quiet ok) (says_picked g tid (picked tid x.side) x.side)
front_kept g x (took root) fine ok =
    front_more g.registry x.bytes_out x.side _ x.said fine (does_quiet g (took root) x.side fine.quiet ok) (had_memory g (took root) x.side fine.quiet ok) (says_takes root x.side)
front_kept g x (reaped object) fine ok =
    front_more g.registry x.bytes_out x.side _ x.said fine (does_quiet g (reaped object) x.side fine.quiet ok) (had_memory g (reaped object) x.side fine.quiet ok) (says_reaps g (lowest g x.side.tables) x.side)
front_kept g x (drained b) fine ok =
    let parts = and_parts (is_some_bytes b) (not (is_no_memory x.side.cause) && are_next g b x.side) ok in
    let next = and_parts (not (is_no_memory x.side.cause)) (are_next g b x.side) parts.1 in
    let whole = spelled_drained g.registry x.bytes_out b x.side.tables.unsaid x.side.outgoing x.said (fine.whole (not_true (is_no_memory x.side.cause) next.0)) next.1 in
    record { quiet = does_quiet g (drained b) x.side fine.quiet ok; whole = λ left. whole; front = front_of_whole g.registry _ _ _ _ whole }
front_kept g x disposed fine ok =
    front_more g.registry x.bytes_out x.side _ x.said fine (does_quiet g disposed x.side fine.quiet ok) (had_memory g disposed x.side fine.quiet ok) (says_ends_by cause.Disposed x.side)
front_kept g x full fine ok =
    front_more g.registry x.bytes_out x.side _ x.said fine (does_quiet g full x.side fine.quiet ok) (had_memory g full x.side fine.quiet ok) (says_ends_by cause.Full x.side)
front_kept g x no_memory fine ok =
    front_out g.registry x.bytes_out x.side _ x.said fine (does_quiet g no_memory x.side fine.quiet ok) (out_is_cause x.side.cause x.side)

-- over every history
are_fronts : (g : Setting) (es : List Entry) (x : Told) → Leads g es x → IsFrontOf g x
are_fronts g es x leads = along_replay g (IsFrontOf g) (nothing_spelled g) (front_kept g) es x leads

pub drained_and_waiting : (g : Setting) (es : List Entry) (x : Told) → Leads g es x → is_no_memory x.side.cause ≡ false
    → x.bytes_out ++ waiting_bytes g x.side ≡ spell g.registry x.said
unfolding waiting_bytes
drained_and_waiting g es x leads left = ((are_fronts g es x leads).whole left).bytes

pub drained_front : (g : Setting) (es : List Entry) (x : Told) → Leads g es x → (rest : List ℕ) × (spell g.registry x.said ≡ x.bytes_out ++ rest)
drained_front g es x leads = (are_fronts g es x leads).front
