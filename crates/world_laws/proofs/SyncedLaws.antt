-- A step of a world on bytes is one of its messages: what came stays a front of what was said, in bytes and in messages.
use Rattle.std.proofs.Common.{◌≡◌, refl, sym, ap, subst, ◌∙◌, ℕ, inl, inr, Bool, true, false, not, ◌&&◌, List, [], ◌∷◌, ◌++◌, length, take, drop, Option, None, Some, if◌then◌else◌}
use Rattle.std.specs.Str.{bytes_eq}
use Rattle.std.proofs.lemmas.Bool.{and_parts}
use Rattle.std.proofs.lemmas.List.{append_assoc, append-nil, drop_at, take-append-drop}
use Rattle.std.proofs.lemmas.Slice.Eq.{bytes_eq-Decides}
use Rattle.message_model.specs.Messages.{Message}
use Rattle.message_model.specs.Said.{spoken_after, spell, AreLight}
use Rattle.message_model.specs.Sayable.{MemoriesCorrespond}
use Rattle.uno_model.specs.Entities.{Entity}
use Rattle.uno_model.specs.Sound.{IsSound}
use Rattle.bridge_model.specs.Entries.{Entry, fed}
use Rattle.bridge_model.specs.Feeding.{ends_part}
use Rattle.bridge_model.specs.Histories.{Told, told_more, told_by, tells, bytes_fed, bytes_drained}
use Rattle.bridge_model.specs.Settings.{Setting}
use Rattle.bridge_model.specs.Sides.{Incoming, Side, stands}
use Rattle.bridge_model.specs.Steps.{Turn, turn, step, may, does, has_entries, may_feed}
use Rattle.bridge_laws.proofs.Replays.{of_step}
use Rattle.bridge_laws.proofs.StandingLaws.{stood, same_standing}
use Rattle.world_model.specs.Flights.{flight}
use Rattle.world_model.specs.Meetings.{Moves}
use Rattle.world_model.specs.Readings.{IsRead, MayArrive, IsSynced}
use Rattle.world_model.specs.Worlds.{End, moved, moved_by, pipe, may_come, acts}
use Rattle.world_model.specs.Readings.{is_broken}
use Rattle.world_laws.proofs.BrokenLaws.{turn_whole, standing_whole}
use Rattle.world_laws.proofs.ReadingLaws.{piece_read}
use Rattle.world_laws.proofs.StepReading.{feeds_some, turn_keeps, turn_brings, no_bytes}

-- ---- what an event is

-- an entry that may stand, whose bytes are next
pub record Acted (g : Setting) (one other : End) (e : Entry) (after : End) : Type 0 where
  pub can : may g one.now.side e ≡ true
  pub comes : may_come other.now one.now e ≡ true
  pub becomes : after ≡ moved one (told_more one.now e (turn e one.now.side (does g e one.now.side)))

same_end : (a b : End) → Some a ≡ Some b → b ≡ a
same_end a b is = cc

told_so : (g : Setting) (one other : End) (e : Entry) (after : End) → may_come other.now one.now e ≡ true → (o : Option Turn) → o ≡ step g one.now.side e
    → moved_by one (told_by one.now e o) ≡ Some after → Acted g one other e after
told_so g one other e after comes None is to = absurd (cc)
told_so g one other e after comes (Some u) is to =
    of_step g one.now.side e u (λ v. moved_by one (told_by one.now e (Some v)) ≡ Some after → Acted g one other e after)
    (λ can there. record { can = can; comes = comes; becomes = same_end (moved one (told_more one.now e (turn e one.now.side (does g e one.now.side)))) after there }) (sym is) to

acted_if : (g : Setting) (one other : End) (e : Entry) (after : End) (b : Bool) → may_come other.now one.now e ≡ b → (if b then moved_by one (tells g one.now e) else None) ≡ Some after
    → Acted g one other e after
acted_if g one other e after true comes to = told_so g one other e after comes (step g one.now.side e) refl to
acted_if g one other e after false comes to = absurd (cc)

pub acted : (g : Setting) (one other : End) (e : Entry) (after : End) → acts g one other e ≡ Some after → Acted g one other e after
unfolding acts
acted g one other e after to = acted_if g one other e after (may_come other.now one.now e) refl to

pub step_is : (g : Setting) (s : Side) (e : Entry) → may g s e ≡ true → step g s e ≡ Some (turn e s (does g e s))
unfolding step
step_is g s e can = rw can refl

-- ---- what is said more

-- where the one says and drains more
says_on : (reg : List Entity) (x y : Told) (e : Entry) (u : Turn) → IsSynced reg x y → IsSynced reg (told_more x e u) y
says_on reg x y e u synced =
    record {
      pipe = synced.pipe ++ bytes_drained e;
      piped = ap (λ s. s ++ bytes_drained e) synced.piped ∙ append_assoc y.bytes_in synced.pipe (bytes_drained e);
      follows = record {
        front = synced.follows.front;
        rest = synced.follows.rest ++ u.said;
        said = ap (λ ms. ms ++ u.said) synced.follows.said ∙ append_assoc synced.follows.front synced.follows.rest u.said;
        got = synced.follows.got;
      };
      read = λ up. reads_on (synced.read up);
    }
  where
    reads_on : IsRead reg x y → IsRead reg (told_more x e u) y
    reads_on r =
        record {
          front = r.front;
          rest = r.rest ++ u.said;
          said = ap (λ ms. ms ++ u.said) r.said ∙ append_assoc r.front r.rest u.said;
          got = r.got;
          bytes = r.bytes;
          part = r.part;
          heard = r.heard;
        }

-- ---- where nothing is fed

keeps_read : (reg : List Entity) (x y : Told) (e : Entry) (u : Turn) → u.got ≡ [] → bytes_fed e ≡ [] → u.side.incoming ≡ y.side.incoming → IsRead reg x y → IsRead reg x (told_more y e u)
keeps_read reg x y e u none no_bytes same r =
    record {
      front = r.front;
      rest = r.rest;
      said = r.said;
      got = (ap (λ ms. y.got ++ ms) none ∙ append-nil y.got) ∙ r.got;
      bytes = (ap (λ s. y.bytes_in ++ s) no_bytes ∙ append-nil y.bytes_in) ∙ (r.bytes ∙ ap (λ (i : Incoming). spell reg r.front ++ i.held) (sym same));
      part = subst (λ (i : Incoming). ends_part i.held ≡ false) (sym same) r.part;
      heard = subst (λ (i : Incoming). MemoriesCorrespond i.heard (spoken_after reg r.front)) (sym same) r.heard;
    }

keeps_on : (reg : List Entity) (x y : Told) (e : Entry) (u : Turn) → u.got ≡ [] → bytes_fed e ≡ [] → (stands u.side ≡ true → (stands y.side ≡ true) × (u.side.incoming ≡ y.side.incoming))
    → IsSynced reg x y → IsSynced reg x (told_more y e u)
keeps_on reg x y e u none no_bytes kept synced =
    record {
      pipe = synced.pipe;
      piped = synced.piped ∙ ap (λ s. s ++ synced.pipe) (sym (ap (λ s. y.bytes_in ++ s) no_bytes ∙ append-nil y.bytes_in));
      follows = record {
        front = synced.follows.front;
        rest = synced.follows.rest;
        said = synced.follows.said;
        got = (ap (λ ms. y.got ++ ms) none ∙ append-nil y.got) ∙ synced.follows.got;
      };
      read = λ up. keeps_read reg x y e u none no_bytes (kept up).1 (synced.read (kept up).0);
    }

-- ---- a step

pub record OneStep (g : Setting) (one other after : End) (e : Entry) : Type 0 where
  pub moves : Moves g one other e after
  pub into : IsSynced g.registry other.now after.now
  pub out : IsSynced g.registry after.now other.now
  pub whole : is_broken one.now.side.cause ≡ false → is_broken after.now.side.cause ≡ false

as_moved : (g : Setting) (one other after : End) (e : Entry) → (x : End) → after ≡ x → OneStep g one other x e → OneStep g one other after e
as_moved g one other after e x is was = subst (λ z. OneStep g one other z e) (sym is) was

other_step : (g : Setting) (one other : End) (e : Entry) → feeds_some e ≡ false → may g one.now.side e ≡ true → IsSynced g.registry other.now one.now → IsSynced g.registry one.now other.now
    → OneStep g one other (moved one (told_more one.now e (turn e one.now.side (does g e one.now.side)))) e
other_step g one other e feeds can into out =
    let s = one.now.side in
    let u = turn e s (does g e s) in
    let none = turn_brings g e s feeds in
    record {
      moves = record { turn = u; does = step_is g s e can; comes = inl none; whole = inl none; becomes = refl };
      into = keeps_on g.registry other.now one.now e u none (no_bytes e feeds)
          (λ up. (stood g e s can (sym (same_standing g e s) ∙ up), turn_keeps g e s feeds up)) into;
      out = says_on g.registry one.now other.now e u out;
      whole = turn_whole g e s feeds;
    }

-- ---- a piece

next_bytes : (b p : List ℕ) → bytes_eq b (take (length b) p) ≡ true → p ≡ b ++ drop (length b) p
next_bytes b p is = sym (take-append-drop (length b) p) ∙ ap (λ s. s ++ drop (length b) p) (sym ((bytes_eq-Decides b (take (length b) p)).0 is))

piped_so : (x y : Told) (p : List ℕ) → x.bytes_out ≡ y.bytes_in ++ p → pipe x y ≡ p
unfolding pipe
piped_so x y p is = ap (drop (length y.bytes_in)) is ∙ drop_at y.bytes_in p (length y.bytes_in) refl

fed_step : (g : Setting) (one other : End) (b : List ℕ) → IsSound g.registry → may g one.now.side (fed b) ≡ true → may_come other.now one.now (fed b) ≡ true
    → IsSynced g.registry other.now one.now → IsSynced g.registry one.now other.now → AreLight other.now.said → (rest : List ℕ) → spell g.registry other.now.said ≡ other.now.bytes_out ++ rest
    → ((m : Message) (ms : List Message) → flight other.now one.now ≡ m ∷ ms → MayArrive g one.now m) → stands one.now.side ≡ true
    → OneStep g one other (moved one (told_more one.now (fed b) (turn (fed b) one.now.side (does g (fed b) one.now.side)))) (fed b)
fed_step g one other b sound can comes into out light rest fronts arrives up =
    let x = other.now in
    let y = one.now in
    let u = turn (fed b) y.side (does g (fed b) y.side) in
    let q = drop (length b) into.pipe in
    let next = next_bytes b into.pipe (subst (λ s. bytes_eq b (take (length b) s) ≡ true) (piped_so x y into.pipe into.piped) comes) in
    let piped : x.bytes_out ≡ (y.bytes_in ++ b) ++ q = into.piped ∙ (ap (λ s. y.bytes_in ++ s) next ∙ sym (append_assoc y.bytes_in b q)) in
    let is : spell g.registry x.said ≡ (y.bytes_in ++ b) ++ (q ++ rest) = fronts ∙ (ap (λ s. s ++ rest) piped ∙ append_assoc (y.bytes_in ++ b) q rest) in
    let on = piece_read g x y b (q ++ rest) (into.read up) sound light can is arrives in
    record {
      moves = record { turn = u; does = step_is g y.side (fed b) can; comes = on.comes; whole = inr on.up; becomes = refl };
      into = record {
        pipe = q;
        piped = piped;
        follows = record { front = on.read.front; rest = on.read.rest; said = on.read.said; got = on.read.got };
        read = λ stands_on. on.read;
      };
      out = says_on g.registry y x (fed b) u out;
      whole = λ before. standing_whole (does g (fed b) y.side).side on.up;
    }

fed_stands : (g : Setting) (s : Side) (b : List ℕ) → may g s (fed b) ≡ true → stands s ≡ true
unfolding may
fed_stands g s b can = (and_parts (stands s) (not (has_entries s) && may_feed b s.incoming) can).0

step_by : (g : Setting) (one other : End) (e : Entry) → IsSound g.registry → may g one.now.side e ≡ true → may_come other.now one.now e ≡ true
    → IsSynced g.registry other.now one.now → IsSynced g.registry one.now other.now → AreLight other.now.said → (rest : List ℕ) → spell g.registry other.now.said ≡ other.now.bytes_out ++ rest
    → (stands one.now.side ≡ true → (m : Message) (ms : List Message) → flight other.now one.now ≡ m ∷ ms → MayArrive g one.now m)
    → OneStep g one other (moved one (told_more one.now e (turn e one.now.side (does g e one.now.side)))) e
step_by g one other (fed b) sound can comes into out light rest fronts arrives =
    let up = fed_stands g one.now.side b can in fed_step g one other b sound can comes into out light rest fronts (arrives up) up
step_by g one other e sound can comes into out light rest fronts arrives = other_step g one other e refl can into out

-- an event of a world on bytes is a step of its messages
pub one_step : (g : Setting) (one other : End) (e : Entry) (after : End) → IsSound g.registry → acts g one other e ≡ Some after
    → IsSynced g.registry other.now one.now → IsSynced g.registry one.now other.now → AreLight other.now.said → (rest : List ℕ) → spell g.registry other.now.said ≡ other.now.bytes_out ++ rest
    → (stands one.now.side ≡ true → (m : Message) (ms : List Message) → flight other.now one.now ≡ m ∷ ms → MayArrive g one.now m) → OneStep g one other after e
one_step g one other e after sound to into out light rest fronts arrives =
    let a = acted g one other e after to in
    as_moved g one other after e _ a.becomes (step_by g one other e sound a.can a.comes into out light rest fronts arrives)
