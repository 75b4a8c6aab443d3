-- What is paid when a message is received: each reference to the peer's objects that it brings.
use Rattle.std.proofs.Common.{◌≡◌, ℕ, ◌+◌, Bool, true, false, not, ◌==◌, if◌then◌else◌, List, ◌∷◌, Some, Ok, refl, sym, ap, ◌∙◌, subst, arith}
use Rattle.message_model.specs.Headers.{Heard}
use Rattle.message_model.specs.Messages.{Message, Answer, request, release, reply}
use Rattle.uno_model.specs.Values.{Ref, null, own, peer, Plain}
use Rattle.table_model.specs.Holdings.{Hold, Holdings}
use Rattle.table_model.specs.Pair.{Pair}
use Rattle.table_model.specs.Stubs.{Stubs}
use Rattle.table_model.specs.declared.holder.Holder.{Holder}
use Rattle.plan_model.specs.Frames.{Frame, outgoing, frames_of}
use Rattle.bridge_model.specs.Calls.{Unwound, serves}
use Rattle.bridge_model.specs.Feeding.{remembers}
use Rattle.bridge_model.specs.Handing.{holder_of, hands_from_peer}
use Rattle.bridge_model.specs.Receiving.{answers_at_once, below_top, requested, receives}
use Rattle.bridge_model.specs.References.{says, refs_of_values, refs_of_answer, each_home, home_answer}
use Rattle.bridge_model.specs.Settings.{Setting, is_own, ref_of, at_home, is_told}
use Rattle.bridge_model.specs.Sides.{Side, on_tables}
use Rattle.bridge_model.specs.Stacks.{waits_of, with_unwound}
use Rattle.bridge_laws.specs.Counting.{total, one_if, is_peers, brings}
use Rattle.bridge_laws.proofs.ApplyingLaws.{serves_covers}
use Rattle.bridge_laws.proofs.ApplyingCountLaws.{serves_free}
use Rattle.bridge_laws.proofs.AwaitedLaws.{IsAwaited, read_awaited, Calls, waits_calls}
use Rattle.bridge_laws.proofs.FrameCountLaws.{frames_count, stacks_count, objects_count, IsFree, outgoing_counts, hands_from_peer_free}
use Rattle.bridge_laws.proofs.HandingLaws.{FramesCover, frames_have, outgoing_more, hands_from_peer_covers}
use Rattle.bridge_laws.proofs.HearingLaws.{reads}
use Rattle.bridge_laws.proofs.HomeLaws.{at_home_counts, each_home_counts, home_answer_counts}
use Rattle.bridge_laws.proofs.OccurrenceLaws.{Covers}
use Rattle.bridge_laws.proofs.PaidApplyingLaws.{serves_pays}
use Rattle.bridge_laws.proofs.PaidHandingLaws.{pays_reply, hands_from_peer_pays}
use Rattle.bridge_laws.proofs.PayingLaws.{peers, stray, strays, Pays, pays_same, Paid}
use Rattle.bridge_laws.proofs.SeatLaws.{is_seated, are_seated, Seat, puts_seated, frames_seated, below_seat, below_seated, serves_seated, from_peer_seated}
use Rattle.bridge_laws.proofs.SideLaws.{SideCovers, apart, thread_covers, unwound_covers}
use Rattle.bridge_laws.proofs.StackCountLaws.{thread_counts, puts_count}
use Rattle.bridge_laws.proofs.ThreadStackLaws.{apart_put}
use Rattle.bridge_laws.specs.Grounded.{AreApart}
use Rattle.bridge_laws.proofs.Sums.{total_none}

-- ---- what payment rests on

-- what frames and objects have is held, and told right; calls that went out stand on frames that hold; no thread has two stacks
pub record InOrder (g : Setting) (s : Side) : Type 0 where
  pub covered : (h : Hold) → SideCovers g h s
  pub free : stacks_count (stray g) s.stacks + objects_count (stray g) s.tables.objects ≡ 0
  pub seated : are_seated s.stacks ≡ true
  pub apart : AreApart s.stacks

-- other frames in the place of a thread's
pub unwound_in_order : (g : Setting) (tid : List ℕ) (u : Unwound) (s : Side) → ((h : Hold) → FramesCover g h (apart g h tid s.stacks) u) → IsFree (stray g) u
    → is_seated u.frames ≡ true → InOrder g s → InOrder g (with_unwound tid u s)
unwound_in_order g tid u s covers free seated order =
    record {
      covered = λ h. unwound_covers g tid u h s (covers h);
      free = let put = puts_count (stray g) tid u.frames s.stacks in let before = order.free in omega arith;
      seated = puts_seated tid u.frames s.stacks seated order.seated;
      apart = apart_put tid u.frames s.stacks order.apart;
    }

-- ---- what arrives

home_step : (g : Setting) (oid face : List ℕ) (b : Bool) → is_own g oid ≡ b → stray g (if b then own oid face else peer oid face) ≡ 0
unfolding stray is_told
home_step g oid face true is = ap (λ b. one_if (not b)) is
home_step g oid face false is = ap (λ b. one_if (not (not b))) is

pub ref_told : (g : Setting) (oid face : List ℕ) → stray g (ref_of g oid face) ≡ 0
unfolding ref_of
ref_told g oid face = home_step g oid face (is_own g oid) refl

null_told : (g : Setting) → stray g null ≡ 0
unfolding stray is_told
null_told g = refl

home_told : (g : Setting) (r : Ref) → stray g (at_home g r) ≡ 0
home_told g null = null_told g
home_told g (own oid face) = ref_told g oid face
home_told g (peer oid face) = ref_told g oid face

homes_told : (g : Setting) (rs : List Ref) → total (at_home_counts (stray g) g) rs ≡ 0
homes_told g rs = total_none (at_home_counts (stray g) g) (home_told g) rs

home_peers : (g : Setting) (p : Pair) (rs : List Ref) → total (at_home_counts (peers p) g) rs ≡ total (λ r. one_if (is_peers p (at_home g r))) rs
unfolding peers
home_peers g p rs = refl

-- ---- a message

pub paid_as : {p : Pair} {got more : ℕ} {a b : List Message} {x y : Holdings} → got ≡ more → Paid p got a b x y → Paid p more a b x y
paid_as {p} {got} {more} {a} {b} {x} {y} same paid = subst (λ n. Paid p n a b x y) same paid

-- what is paid, and all is in order behind it
pub record Settles (g : Setting) (p : Pair) (got : ℕ) (s s' : Side) : Type 0 where
  pub pays : Pays p got s.tables s'.tables
  pub order : InOrder g s'

-- other tables with the same objects and holdings
says_in_order : (g : Setting) (m : Message) (s : Side) → InOrder g s → InOrder g (on_tables (says g m) s)
unfolding says
says_in_order g m s order = record { covered = order.covered; free = order.free; seated = order.seated; apart = order.apart }

stubs_in_order : (g : Setting) (stubs : Stubs) (s : Side) → InOrder g s → InOrder g (on_tables (λ t. record t { stubs = stubs }) s)
stubs_in_order g stubs s order = record { covered = order.covered; free = order.free; seated = order.seated; apart = order.apart }

-- what is remembered changes nothing of that
pub remembers_in_order : (g : Setting) (heard : Heard) (s : Side) → InOrder g s → InOrder g (remembers heard s)
remembers_in_order g heard s order = record { covered = order.covered; free = order.free; seated = order.seated; apart = order.apart }

release_brings : (g : Setting) (p : Pair) (tid oid face : List ℕ) → brings g p (release tid oid face) ≡ 0
unfolding brings total
release_brings g p tid oid face = refl

request_brings : (g : Setting) (p : Pair) (tid oid face : List ℕ) (function : ℕ) (args : List Plain) (b : Bool) → (function == 0) ≡ b
    → brings g p (request tid oid face function args) ≡ (if b then 0 else total (peers p) (refs_of_values (each_home g args)))
unfolding brings total
request_brings g p tid oid face function args true is = rw is refl
request_brings g p tid oid face function args false is = rw is (sym (each_home_counts (peers p) g args ∙ home_peers g p (refs_of_values args)))

reply_brings : (g : Setting) (p : Pair) (tid face : List ℕ) (function : ℕ) (a : Answer) → brings g p (reply tid face function a) ≡ total (peers p) (refs_of_answer (home_answer g a))
unfolding brings
reply_brings g p tid face function a = sym (home_answer_counts (peers p) g a ∙ home_peers g p (refs_of_answer a))

args_told : (g : Setting) (args : List Plain) → strays g (refs_of_values (each_home g args)) ≡ 0
args_told g args = each_home_counts (stray g) g args ∙ homes_told g (refs_of_values args)

pub answer_told : (g : Setting) (a : Answer) → strays g (refs_of_answer (home_answer g a)) ≡ 0
answer_told g a = home_answer_counts (stray g) g a ∙ homes_told g (refs_of_answer a)

module _ (g : Setting) (p : Pair) (foreign : is_own g p.oid ≡ false) where
  serves_in_order : (tid oid face : List ℕ) (function : ℕ) (args : List Plain) (s : Side) → InOrder g s
      → InOrder g (with_unwound tid (serves g oid face function (each_home g args) (frames_of tid s.stacks) s.tables) s)
  serves_in_order tid oid face function args s order =
      let told = args_told g args in
      let thread = thread_counts (stray g) tid s.stacks in
      let before = order.free in
      unwound_in_order g tid (serves g oid face function (each_home g args) (frames_of tid s.stacks) s.tables) s
      (λ h. serves_covers g oid face function (each_home g args) (frames_of tid s.stacks) h (apart g h tid s.stacks) s.tables (thread_covers g tid h s (order.covered h)))
      (serves_free (stray g) g oid face function (each_home g args) (frames_of tid s.stacks) s.tables (omega arith))
      (serves_seated g oid face function (each_home g args) (frames_of tid s.stacks) s.tables (frames_seated tid s.stacks order.seated))
      order

  request_step : (tid oid face : List ℕ) (function : ℕ) (args : List Plain) (s : Side) (b : Bool) → InOrder g s
      → Settles g p (if b then 0 else total (peers p) (refs_of_values (each_home g args))) s
      (if b then on_tables (answers_at_once g tid oid face args) s
      else with_unwound tid (serves g oid face function (each_home g args) (frames_of tid s.stacks) s.tables) s)
  request_step tid oid face function args s true order = record { pays = pays_reply p g tid face 0 _ s.tables; order = says_in_order g _ s order }
  request_step tid oid face function args s false order =
      record {
        pays = paid_as (omega arith) (serves_pays g p foreign oid face function (each_home g args) (frames_of tid s.stacks) s.tables (args_told g args));
        order = serves_in_order tid oid face function args s order;
      }

  -- an answer to frames of which the top one holds for itself
  reply_to : (tid : List ℕ) (a : Answer) (top : Frame) (rest : List Frame) (who : Holder) (s : Side) → holder_of top ≡ Some who → is_seated (top ∷ rest) ≡ true
      → frames_count (stray g) (top ∷ rest) ≡ 0 → ((h : Hold) → Covers h (apart g h tid s.stacks + frames_have g h (top ∷ rest)) s.tables) → InOrder g s
      → Settles g p (total (peers p) (refs_of_answer (home_answer g a))) s (with_unwound tid (hands_from_peer g tid (home_answer g a) (top ∷ rest) s.tables) s)
  reply_to tid a top rest who s is seated counts covers order =
      let before = order.free in
      let told = answer_told g a in
      record {
        pays =
            paid_as (omega arith)
            (hands_from_peer_pays g p foreign tid (home_answer g a) top rest who (λ h. apart g h tid s.stacks) s.tables is (answer_told g a) counts covers);
        order =
            unwound_in_order g tid (hands_from_peer g tid (home_answer g a) (top ∷ rest) s.tables) s
            (λ h. hands_from_peer_covers g tid (home_answer g a) (top ∷ rest) h (apart g h tid s.stacks) s.tables (covers h))
            (hands_from_peer_free (stray g) g tid (home_answer g a) (top ∷ rest) s.tables (omega arith))
            (from_peer_seated g tid (home_answer g a) (top ∷ rest) s.tables seated)
            order;
      }

  reply_below : (tid : List ℕ) (a : Answer) (fs : List Frame) (s : Side) → Seat fs → is_seated fs ≡ true → frames_count (stray g) fs ≡ 0
      → ((h : Hold) → Covers h (apart g h tid s.stacks + frames_have g h fs) s.tables) → InOrder g s
      → Settles g p (total (peers p) (refs_of_answer (home_answer g a))) s (with_unwound tid (hands_from_peer g tid (home_answer g a) fs s.tables) s)
  reply_below tid a fs s seat seated counts covers order =
      subst (λ fs. Settles g p (total (peers p) (refs_of_answer (home_answer g a))) s (with_unwound tid (hands_from_peer g tid (home_answer g a) fs s.tables) s)) (sym seat.all)
      (reply_to tid a seat.top seat.rest seat.who s seat.holds
      (subst (λ fs. is_seated fs ≡ true) seat.all seated)
      (subst (λ fs. frames_count (stray g) fs ≡ 0) seat.all counts)
      (λ h. subst (λ fs. Covers h (apart g h tid s.stacks + frames_have g h fs) s.tables) seat.all (covers h))
      order)

  reply_step : (tid : List ℕ) (a : Answer) (s : Side) → Calls (frames_of tid s.stacks) → InOrder g s
      → Settles g p (total (peers p) (refs_of_answer (home_answer g a))) s
      (with_unwound tid (hands_from_peer g tid (home_answer g a) (below_top (frames_of tid s.stacks)) s.tables) s)
  reply_step tid a s went order =
      let seated = frames_seated tid s.stacks order.seated in
      let thread = thread_counts (stray g) tid s.stacks in
      let before = order.free in
      let counts : frames_count (stray g) (frames_of tid s.stacks) ≡ frames_count (stray g) (outgoing went.call ∷ went.below) = ap (frames_count (stray g)) went.all in
      let more = outgoing_counts (stray g) went.call went.below in
      subst (λ fs. Settles g p (total (peers p) (refs_of_answer (home_answer g a))) s (with_unwound tid (hands_from_peer g tid (home_answer g a) fs s.tables) s)) (sym (ap below_top went.all))
      (reply_below tid a went.below s (below_seat (frames_of tid s.stacks) seated went) (below_seated (frames_of tid s.stacks) seated went) (omega arith)
      (λ h.
      let held = thread_covers g tid h s (order.covered h) in
      let have : frames_have g h (frames_of tid s.stacks) ≡ frames_have g h (outgoing went.call ∷ went.below) = ap (frames_have g h) went.all in
      let more = outgoing_more g h went.call went.below in omega arith)
      order)

  -- a message that is awaited, where it is a reply
  receives_settles : (m : Message) (s : Side) → IsAwaited (waits_of s.stacks) m → InOrder g s → Settles g p (brings g p m) s (receives g m s)
  unfolding receives
  receives_settles (release tid oid face) s waited order =
      record { pays = paid_as (sym (release_brings g p tid oid face)) (pays_same p s.tables); order = stubs_in_order g _ s order }
  receives_settles (request tid oid face function args) s waited order =
      subst (λ n. Settles g p n s (requested g tid oid face function args s)) (sym (request_brings g p tid oid face function args (function == 0) refl))
      (request_step tid oid face function args s (function == 0) order)
  receives_settles (reply tid face function a) s waited order =
      subst (λ n. Settles g p n s (with_unwound tid (hands_from_peer g tid (home_answer g a) (below_top (frames_of tid s.stacks)) s.tables) s)) (sym (reply_brings g p tid face function a))
      (reply_step tid a s (waits_calls tid s.stacks order.apart waited) order)

  -- a message that is read
  pub read_settles : (bytes : List ℕ) (read : Message × Heard × List ℕ) (s : Side) → reads g bytes s ≡ Ok read → InOrder g s
      → Settles g p (brings g p read.0) s (receives g read.0 (remembers read.1 s))
  read_settles bytes read s got order =
      let settled = receives_settles read.0 (remembers read.1 s) (read_awaited g.registry (waits_of s.stacks) s.incoming.heard bytes read got) (remembers_in_order g read.1 s order) in
      record { pays = settled.pays; order = settled.order }
