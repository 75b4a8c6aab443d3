-- Where turns lead: each thing that is done first, and turns one after the other.
use Rattle.std.proofs.Common.{◌≡◌, refl, sym, ap, subst, ◌∙◌, ℕ, Bool, true, false, List, [], ◌∷◌, ◌++◌, length, drop, Option, None, Some, ◌||◌, if◌then◌else◌}
use Rattle.std.proofs.KnownBytes.{Appends-nil, Appends-trans}
use Rattle.std.proofs.lemmas.List.{append_assoc, append-nil, append_cancel_left}
use Rattle.std.specs.Io.KnownBytes.{Appends}
use Rattle.plan_model.specs.Roots.{Run}
use Rattle.uno_io.specs.Fronts.{AppendsFront}
use Rattle.bridge_model.specs.Answers.{next_cut}
use Rattle.bridge_model.specs.Entries.{Entry, fed, ended, applied, reaped, drained, full}
use Rattle.bridge_model.specs.Histories.{Told, tells, Leads}
use Rattle.bridge_model.specs.Orders.{or_full}
use Rattle.bridge_model.specs.Settings.{Setting}
use Rattle.bridge_model.specs.Sides.{stands}
use Rattle.bridge_model.specs.Steps.{has_entries, has_fed}
use Rattle.bridge_laws.specs.Working.{AllIsDone, IsInOrder}
use Rattle.bridge_laws.proofs.FeedingLaws.{feeding_keeps, end_keeps}
use Rattle.bridge_laws.proofs.WorkingOrderLaws.{method_keeps, root_keeps, quiet_root_keeps, object_keeps, bytes_keep, full_keeps}
use Rattle.answering.specs.Doing.{First, of_method, of_root, of_object, of_bytes, bytes_with, Feeds, Closes}
use Rattle.answering.specs.Turning.{IsClosed, Turns, Halts, Answers, HaltsIn}
use Rattle.answering.proofs.ClosingLaws.{is_lack, drained_by, stays_ended, closed_on, closed_by_end}
use Rattle.answering.proofs.RootLaws.{move_is_plain, entry_is_plain, lack_is_other}

-- ---- what was taken

pub front_all : (old new : Option (List ℕ)) (out : List ℕ) → Appends old new out → AppendsFront old new out
front_all old new out taken = record { front = out; rest = []; split = sym (append-nil out); grown = taken }

pub front_behind : (old mid new : Option (List ℕ)) (out more : List ℕ) → Appends old mid out → AppendsFront mid new more → AppendsFront old new (out ++ more)
front_behind old mid new out more taken front =
    record {
      front = out ++ front.front;
      rest = front.rest;
      split = ap (λ z. out ++ z) front.split ∙ sym (append_assoc out front.front front.rest);
      grown = Appends-trans old mid new out front.front taken front.grown;
    }

out_behind : (a b c out more : List ℕ) → b ≡ a ++ out → c ≡ b ++ more → c ≡ a ++ (out ++ more)
out_behind a b c out more first second = second ∙ (ap (λ z. z ++ more) first ∙ append_assoc a out more)

nothing_added : (a b out : List ℕ) → b ≡ a ++ out → b ≡ a → out ≡ []
nothing_added a b out more same = append_cancel_left a out [] (sym more ∙ (same ∙ sym (append-nil a)))

-- ---- turns one after the other

pub no_turn : (g : Setting) (t : Told) (runs : List Run) (out : Option (List ℕ)) → Turns g t t runs runs out out
no_turn g t runs out =
    record {
      order = λ b rest is. is;
      ended = λ gone. gone;
      closed = λ is. (is, refl);
      out = [];
      more = sym (append-nil t.bytes_out);
      taken = Appends-nil out;
    }

pub turns_on : {g : Setting} {t u v : Told} {runs next later : List Run} {old mid new : Option (List ℕ)} → Turns g t u runs next old mid → Turns g u v next later mid new
    → Turns g t v runs later old new
turns_on {g} {t} {u} {v} {runs} {next} {later} {old} {mid} {new} first second =
    record {
      order = λ b rest is. second.order b rest (first.order b rest is);
      ended = λ gone. second.ended (first.ended gone);
      closed = λ is. ((second.closed (first.closed is).0).0, (second.closed (first.closed is).0).1 ∙ (first.closed is).1);
      out = first.out ++ second.out;
      more = out_behind t.bytes_out u.bytes_out v.bytes_out first.out second.out first.more second.more;
      taken = Appends-trans old mid new first.out second.out first.taken second.taken;
    }

pub halts_here : (g : Setting) (t : Told) (runs : List Run) (out : Option (List ℕ)) → Halts g t runs out out
halts_here g t runs out =
    record {
      told = t;
      next = runs;
      order = λ b rest is. is;
      closed = λ is. refl;
      out = [];
      more = sym (append-nil t.bytes_out);
      taken = front_all out out [] (Appends-nil out);
    }

pub halts_behind : {g : Setting} {t u : Told} {runs next : List Run} {old mid new : Option (List ℕ)} → Turns g t u runs next old mid → Halts g u next mid new → Halts g t runs old new
halts_behind {g} {t} {u} {runs} {next} {old} {mid} {new} first halts =
    record {
      told = halts.told;
      next = halts.next;
      order = λ b rest is. halts.order b rest (first.order b rest is);
      closed = λ is. halts.closed (first.closed is).0 ∙ (first.closed is).1;
      out = first.out ++ halts.out;
      more = out_behind t.bytes_out u.bytes_out halts.told.bytes_out first.out halts.out first.more halts.more;
      taken = front_behind old mid new first.out halts.out first.taken halts.taken;
    }

-- ---- the first thing that can be done

-- an entry more was told, where there is one
abbrev pub IsTold : Setting → Told → Told → Option Entry → Type 0
IsTold g t u None = u ≡ t
IsTold g t u (Some e) = tells g t e ≡ Some u

-- what it keeps
record IsKept (g : Setting) (t u : Told) (runs next : List Run) : Type 0 where
  pub order : (b rest : List ℕ) → IsInOrder g b t runs rest → IsInOrder g b u next rest
  pub ended : stands t.side ≡ false → stands u.side ≡ false
  pub closed : IsClosed g t → IsClosed g u × (u.bytes_out ≡ t.bytes_out)

-- nothing is told
quiet_kept : (g : Setting) (t u : Told) (runs next : List Run) → u ≡ t → ((b rest : List ℕ) → IsInOrder g b t runs rest → IsInOrder g b t next rest)
    → IsKept g t u runs next
quiet_kept g t u runs next same order = subst (λ z. IsKept g t z runs next) (sym same) (record { order = order; ended = λ gone. gone; closed = λ is. (is, refl) })

full_plain : (b : Bool) (tid : List ℕ) → is_lack (if b then full else applied tid) ≡ false
full_plain true tid = refl
full_plain false tid = refl

out_with : (g : Setting) (t u : Told) (x : Option Entry) → IsTold g t u x → u.bytes_out ≡ t.bytes_out ++ bytes_with x
out_with g t u None told = ap (λ z. z.bytes_out) told ∙ sym (append-nil t.bytes_out)
out_with g t u (Some e) told = drained_by g t u e told

module _ (g : Setting) (es fs : List Entry) (t u : Told) (before : Leads g es t) (after : Leads g fs u) where
  entry_kept : (runs next : List Run) (e : Entry) → tells g t e ≡ Some u → is_lack e ≡ false
      → ((b rest : List ℕ) → IsInOrder g b t runs rest → IsInOrder g b u next rest) → IsKept g t u runs next
  entry_kept runs next e to plain order =
      record { order = order; ended = stays_ended g es t u e before to; closed = closed_on g es fs t u e before after to plain }

  first_kept : {runs next : List Run} {x : Option Entry} → First g t.side runs next x → IsTold g t u x → IsKept g t u runs next
  first_kept {runs} (of_method tid ready) told =
      entry_kept runs runs (or_full t.side (applied tid)) told (full_plain (has_entries t.side) tid) (λ b rest is. method_keeps g b t u runs rest is tid ready told)
  first_kept {runs} (of_root ready next None moves) told =
      quiet_kept g t u runs next told (λ b rest is. quiet_root_keeps g b t runs next rest is ready moves)
  first_kept {runs} (of_root ready next (Some e) moves) told =
      entry_kept runs next e told (lack_is_other e (entry_is_plain e (move_is_plain g t.side runs _ moves))) (λ b rest is. root_keeps g b t u runs next rest is ready e moves told)
  first_kept {runs} (of_object ready still n goes) told =
      entry_kept runs runs (reaped n) told refl (λ b rest is. object_keeps g b t u runs rest is ready still n goes told)
  first_kept {runs} (of_bytes ready still kept c more waits) told =
      entry_kept runs runs (drained (c ∷ more)) told refl (λ b rest is. bytes_keep g b t u runs rest is ready still kept c more waits told)

  -- it is a turn, where what goes out with it is taken
  pub first_turns : {runs next : List Run} {x : Option Entry} {old new : Option (List ℕ)} → First g t.side runs next x → IsTold g t u x → Appends old new (bytes_with x)
      → Turns g t u runs next old new
  first_turns {runs} {next} {x} first told taken =
      let kept = first_kept first told in
      record { order = kept.order; ended = kept.ended; closed = kept.closed; out = bytes_with x; more = out_with g t u x told; taken = taken }

  -- or a front of it
  pub first_halts : {runs next : List Run} {x : Option Entry} {old new : Option (List ℕ)} → First g t.side runs next x → IsTold g t u x → AppendsFront old new (bytes_with x)
      → Halts g t runs old new
  first_halts {runs} {next} {x} first told taken =
      let kept = first_kept first told in
      record { told = u; next = next; order = kept.order; closed = λ is. (kept.closed is).1; out = bytes_with x; more = out_with g t u x told; taken = taken }

-- ---- feeding

-- a front of a piece, up to where it may be cut
pub cut_feeds : (g : Setting) (t u : Told) (b : ℕ) (piece : List ℕ) → stands t.side ≡ true → has_entries t.side ≡ false → has_fed t.side ≡ false
    → tells g t (fed (next_cut t.side (b ∷ piece))) ≡ Some u → Feeds g t u (b ∷ piece) (drop (length (next_cut t.side (b ∷ piece))) (b ∷ piece))
cut_feeds g t u b piece up few less told =
    record {
      order = λ bytes more runs done is. feeding_keeps g bytes t u runs b piece more is done up few less told;
      out = drained_by g t u (fed (next_cut t.side (b ∷ piece))) told ∙ append-nil t.bytes_out;
    }

-- a limit
pub full_feeds : (g : Setting) (t u : Told) (b : ℕ) (piece : List ℕ) → stands t.side ≡ true → (has_entries t.side || has_fed t.side) ≡ true → tells g t full ≡ Some u
    → Feeds g t u (b ∷ piece) (b ∷ piece)
full_feeds g t u b piece up limit told =
    record {
      order = λ bytes more runs done is. full_keeps g bytes t u runs b (piece ++ more) is done up limit told;
      out = drained_by g t u full told ∙ append-nil t.bytes_out;
    }

-- ---- a piece

pub whole_piece : (g : Setting) (t : Told) (runs : List Run) (piece : List ℕ) (out : Option (List ℕ)) → Answers g t t runs runs piece piece out out
whole_piece g t runs piece out = record { order = λ b more is. is; out = []; more = sym (append-nil t.bytes_out); taken = Appends-nil out }

pub fed_on : {g : Setting} {t u v w : Told} {runs next later : List Run} {piece rest left : List ℕ} {old mid new : Option (List ℕ)} → Answers g t u runs next piece rest old mid
    → AllIsDone g u.side next → Feeds g u v rest left → Turns g v w next later mid new → Answers g t w runs later piece left old new
fed_on {g} {t} {u} {v} {w} {runs} {next} {later} {piece} {rest} {left} {old} {mid} {new} so done feeds turns =
    record {
      order = λ b more is. turns.order b (left ++ more) (feeds.order b more next done (so.order b more is));
      out = so.out ++ turns.out;
      more = out_behind t.bytes_out v.bytes_out w.bytes_out so.out turns.out (feeds.out ∙ so.more) turns.more;
      taken = Appends-trans old mid new so.out turns.out so.taken turns.taken;
    }

pub piece_halts : {g : Setting} {t u : Told} {runs next : List Run} {piece rest : List ℕ} {old new : Option (List ℕ)} → Answers g t u runs next piece rest old new
    → HaltsIn g t runs piece old new
piece_halts {g} {t} {u} {runs} {next} {piece} {rest} {old} {new} so =
    record { told = u; next = next; left = rest; order = so.order; out = so.out; more = so.more; taken = front_all old new so.out so.taken }

pub fed_halts : {g : Setting} {t u v : Told} {runs next : List Run} {piece rest left : List ℕ} {old mid new : Option (List ℕ)} → Answers g t u runs next piece rest old mid
    → AllIsDone g u.side next → Feeds g u v rest left → Halts g v next mid new → HaltsIn g t runs piece old new
fed_halts {g} {t} {u} {v} {runs} {next} {piece} {rest} {left} {old} {mid} {new} so done feeds halts =
    record {
      told = halts.told;
      next = halts.next;
      left = left;
      order = λ b more is. halts.order b (left ++ more) (feeds.order b more next done (so.order b more is));
      out = so.out ++ halts.out;
      more = out_behind t.bytes_out v.bytes_out halts.told.bytes_out so.out halts.out (feeds.out ∙ so.more) halts.more;
      taken = front_behind old mid new so.out halts.out so.taken halts.taken;
    }

-- ---- the end of the input

-- the bridge is closed by it
pub record HasClosed (g : Setting) (t u : Told) (runs : List Run) : Type 0 where
  pub order : (bytes : List ℕ) → IsInOrder g bytes t runs [] → IsInOrder g bytes u runs []
  pub closed : IsClosed g u
  pub out : u.bytes_out ≡ t.bytes_out

pub has_closed : (g : Setting) (es : List Entry) (t u : Told) (runs : List Run) → Leads g es t → AllIsDone g t.side runs → stands t.side ≡ true → tells g t ended ≡ Some u
    → HasClosed g t u runs
has_closed g es t u runs leads done up told =
    let end = closed_by_end g es t u leads up done.bytes told in
    record { order = λ b is. end_keeps g b t u runs is done up told; closed = end.0; out = end.1 }

-- and all is done behind it: nothing more was taken
pub closes : {g : Setting} {t u v : Told} {runs next : List Run} {old new : Option (List ℕ)} → HasClosed g t u runs → Turns g u v runs next old new → AllIsDone g v.side next
    → Closes g t v runs next
closes {g} {t} {u} {v} {runs} {next} end turns done =
    record { order = λ b is. turns.order b [] (end.order b is); done = done; out = (turns.closed end.closed).1 ∙ end.out }

pub closing_takes : {g : Setting} {t u v : Told} {runs next : List Run} {old new : Option (List ℕ)} → HasClosed g t u runs → Turns g u v runs next old new → Appends old new []
closing_takes {g} {t} {u} {v} {runs} {next} {old} {new} end turns =
    subst (Appends old new) (nothing_added u.bytes_out v.bytes_out turns.out turns.more (turns.closed end.closed).1) turns.taken

pub closing_halts : {g : Setting} {t u : Told} {runs : List Run} {old new : Option (List ℕ)} → HasClosed g t u runs → Halts g u runs old new → AppendsFront old new []
closing_halts {g} {t} {u} {runs} {old} {new} end halts =
    subst (AppendsFront old new) (nothing_added u.bytes_out halts.told.bytes_out halts.out halts.more (halts.closed end.closed)) halts.taken
