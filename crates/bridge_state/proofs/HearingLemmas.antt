-- The messages of a block, one after the other: what is heard so far and what is still to be heard.
use Rattle.std.proofs.Common.{◌≡◌, refl, sym, ap, subst, ◌∙◌, ℕ, suc, ◌==◌, Bool, true, false, ◌+◌, ◌-◌, ◌<◌, ◌≤◌, ◌^◌, List, [], ◌∷◌, ◌++◌, length, drop, Option, None, Some, Result, Ok, Err, if◌then◌else◌, arith}
use Rattle.std.proofs.lemmas.Bool.{true≢false}
use Rattle.std.proofs.lemmas.Bool.Decides.{nat_tests}
use Rattle.std.proofs.lemmas.List.{length-drop}
use Rattle.message_model.specs.Headers.{Heard as Remembered}
use Rattle.message_model.specs.Messages.{Message, release, request, reply}
use Rattle.message_model.specs.ReadingMessages.{message_at}
use Rattle.plan_model.specs.Frames.{Stack}
use Rattle.uno_model.specs.Values.{Plain}
use Rattle.urp_model.specs.declared.fault.Fault.{Fault}
use Rattle.urp_model.specs.declared.reason.Reason.{Reason}
use Rattle.urp_model.specs.declared.reason.Reason.TheVariants.{LeftOver}
use Rattle.bridge_laws.proofs.RootSideLaws.{receives_rooted}
use Rattle.bridge_laws.specs.Grounded.{HasRoots}
use Rattle.bridge_laws.specs.Counting.{total}
use Rattle.bridge_model.specs.Ends.{ends_by}
use Rattle.bridge_model.specs.Feeding.{Hearing, Next, gets, breaks, hears_tested, hears_read, hears, heard_nothing, remembers}
use Rattle.bridge_model.specs.Receiving.{refusal, receives, answers_at_once}
use Rattle.bridge_model.specs.Settings.{Setting}
use Rattle.bridge_model.specs.Sides.{Side, Incoming, Outgoing, on_tables, stands, stands_by}
use Rattle.bridge_model.specs.Stacks.{waits_of}
use Rattle.bridge_model.specs.declared.cause.Cause.{Cause}
use Rattle.bridge_model.specs.declared.cause.Cause.TheVariants as cause
use Rattle.bridge_streams.specs.Taking.{hearing}
use Rattle.bridge_tables.specs.EndTables.{EndTables}
use Rattle.bridge_laws.specs.Room.{message_brings}
use Rattle.bridge_state.specs.EndSides.{EndSide, IsEndOf, on_side, with_side}
use Rattle.bridge_state.specs.Hearing.{HeardBreak, HeardMessage, broken_by, with_incoming}
use Rattle.bridge_state.specs.Reading.{reads, break_of}
use Rattle.bridge_state.proofs.Seen.{seen, side_by}

-- ---- one message

broken_read : (g : Setting) (more : Next) (place : ℕ) (bytes : List ℕ) (r : Result (Message × Remembered × List ℕ) Fault) (x : Hearing) (why : Reason) → break_of g x.side r ≡ Some why
    → hears_read g more place bytes r x ≡ breaks why place x
broken_read g more place bytes (Err fault) x why is = let same = some_same _ why is in ap (λ w. breaks w place x) same
  where
    some_same : {A : Type 0} (a b : A) → Some a ≡ Some b → a ≡ b
    some_same a b is = cc
broken_read g more place bytes (Ok read) x why is = ap (λ o. hears_tested g more place (place + (length bytes - length read.2)) read o x) is

pub hears_broken : (g : Setting) (n front place : ℕ) (bytes : List ℕ) (x : Hearing) (why : Reason) → break_of g x.side (reads g x.side bytes) ≡ Some why
    → hears g (suc n) front place bytes x ≡ breaks why place x
unfolding hears
hears_broken g n front place bytes x why is = broken_read g (hears g n front) place bytes (reads g x.side bytes) x why is

pub hears_on : (g : Setting) (n front place : ℕ) (bytes rest : List ℕ) (m : Message) (heard : Remembered) (x : Hearing) → reads g x.side bytes ≡ Ok (m, heard, rest) → refusal g x.side m ≡ None
    → hears g (suc n) front place bytes x ≡ hears g n front (place + (length bytes - length rest)) rest (gets g m heard x)
unfolding hears
hears_on g n front place bytes rest m heard x is fine =
    ap (λ r. hears_read g (hears g n front) place bytes r x) is ∙ ap (λ o. hears_tested g (hears g n front) place (place + (length bytes - length rest)) (m, heard, rest) o x) fine

requested_stands : (g : Setting) (tid oid face : List ℕ) (args : List Plain) (u s : Side) (b : Bool) → u.cause ≡ s.cause → (if b then on_tables (answers_at_once g tid oid face args) s else u).cause ≡ s.cause
requested_stands g tid oid face args u s true same = refl
requested_stands g tid oid face args u s false same = same

receives_cause : (g : Setting) (m : Message) (s : Side) → (receives g m s).cause ≡ s.cause
unfolding receives
receives_cause g (release tid oid face) s = refl
receives_cause g (request tid oid face function args) s = requested_stands g tid oid face args _ s (function == 0) refl
receives_cause g (reply tid face function a) s = refl

refusal_with : (g : Setting) (m : Message) (i : Incoming) (s : Side) → refusal g (with_incoming i s) m ≡ refusal g s m
unfolding refusal
refusal_with g (release tid oid face) i s = refl
refusal_with g (request tid oid face function args) i s = refl
refusal_with g (reply tid face function a) i s = refl

-- a message was read, and what is remembered of it
module _ (g : Setting) (body : List ℕ) (t : EndTables) (ss : List Stack) (i j : Incoming) (o : Outgoing) (n : ℕ) (c : Option Cause) (now : EndSide) (is : seen t ss i o n c ≡ now) (m : Message) (used : ℕ)
    (gives : message_at g.registry (waits_of ss) i.heard body ≡ Ok (m, j.heard, drop used body)) (stays : j ≡ hearing j.heard i) (told : Option Reason) (tested : told ≡ refusal g (side_by t ss j o n c) m) where
  read_so : reads g now.side body ≡ Ok (m, j.heard, drop used body)
  read_so = ap (λ e. reads g e.side body) (sym is) ∙ gives

  tested_so : refusal g now.side m ≡ told
  tested_so = ap (λ e. refusal g e.side m) (sym is) ∙ sym (refusal_with g m j (side_by t ss i o n c)) ∙ sym tested

  pub break_so : (count : ℕ) (why : Reason) → told ≡ Some why → HeardBreak g body now.side count why (side_by t ss j o n c) count
  break_so count why which = record { breaks = ap (break_of g now.side) read_so ∙ tested_so ∙ which; kept = ap (λ e. with_incoming j e.side) is; counted = refl }

  module _ (after : EndSide) (received : after ≡ on_side (receives g m) (seen t ss j o n c)) where
    pub message_so : (count count_now : ℕ) → told ≡ None → count_now ≡ count + message_brings m → HeardMessage g body now.side count used after.side count_now
    message_so count count_now none counted =
        record {
          message = m;
          remembered = j.heard;
          read = read_so;
          fine = tested_so ∙ none;
          received = ap (λ e. e.side) received ∙ ap (λ k. receives g m (side_by t ss k o n c)) stays ∙ ap (λ e. receives g m (remembers j.heard e.side)) is;
          counted = counted;
        }

    pub stands_so : stands now.side ≡ true → stands after.side ≡ true
    stands_so up = ap (λ e. stands e.side) received ∙ ap stands_by (receives_cause g m (side_by t ss j o n c)) ∙ ap (λ e. stands e.side) is ∙ up

not_zero : (n : ℕ) → (suc n == 0) ≡ true → ⊥
not_zero n is = grind (arith, nat_tests)

-- ---- the messages so far

total_one_more : (got : List Message) (m : Message) → total message_brings (got ++ m ∷ []) ≡ total message_brings got + message_brings m
unfolding total
total_one_more [] m = omega arith
total_one_more (n ∷ got) m = let rest = total_one_more got m in omega (arith, rest)

-- after so many of them: where the rest of the body begins, and what it is; the side; and at least how many references stood in replies
pub record HeardSoFar (g : Setting) (count front start : ℕ) (body : List ℕ) (before : Side) (i place : ℕ) (rest : List ℕ) (now : Side) (references : ℕ) : Type 0 where
  pub got : List Message
  pub goes_on : hears g (count - i) front place rest (record { side = now; got = got }) ≡ hears g count front start body (heard_nothing before)
  pub counted : total message_brings got ≤ references
  pub place_at : place + length rest ≡ start + length body

module _ (g : Setting) (count front start : ℕ) (body : List ℕ) (before : Side) where
  pub heard_none : (references : ℕ) → HeardSoFar g count front start body before 0 start body before references
  unfolding total
  heard_none references =
      let all : count - 0 ≡ count = omega arith in
      record { got = []; goes_on = ap (λ n. hears g n front start body (heard_nothing before)) all; counted = omega arith; place_at = refl }

  pub heard_more : (i place used : ℕ) (rest : List ℕ) (now after : Side) (references references_now : ℕ) (m : Message) (heard : Remembered) → i < count → used ≤ length rest
      → HeardSoFar g count front start body before i place rest now references → reads g now rest ≡ Ok (m, heard, drop used rest) → refusal g now m ≡ None
      → (gets g m heard (record { side = now; got = [] })).side ≡ after → references_now ≡ references + message_brings m
      → HeardSoFar g count front start body before (i + 1) (place + used) (drop used rest) after references_now
  heard_more i place used rest now after references references_now m heard less within so is fine received counted =
      record {
        got = so.got ++ m ∷ [];
        goes_on = next;
        counted = let sum = total_one_more so.got m in let most = so.counted in omega (arith, sum, most, counted);
        place_at = let at = so.place_at in omega (arith, at, within, behind);
      }
    where
      behind : length (drop used rest) ≡ length rest - used
      behind = length-drop used rest

      left : count - i ≡ suc (count - (i + 1))
      left = omega (arith, less)

      here : place + (length rest - length (drop used rest)) ≡ place + used
      here = omega (arith, behind, within)

      next : hears g (count - (i + 1)) front (place + used) (drop used rest) (record { side = after; got = so.got ++ m ∷ [] }) ≡ hears g count front start body (heard_nothing before)
      next =
          (λ j. hears g (count - (i + 1)) front (sym here j) (drop used rest) (record { side = sym received j; got = so.got ++ m ∷ [] }))
          ∙ sym (hears_on g (count - (i + 1)) front place rest (drop used rest) m heard (record { side = now; got = so.got }) is fine)
          ∙ ap (λ n. hears g n front place rest (record { side = now; got = so.got })) (sym left)
          ∙ so.goes_on

  -- the next one breaks the protocol
  pub heard_break : (i place : ℕ) (rest : List ℕ) (now : Side) (references : ℕ) (why : Reason) → i < count → HeardSoFar g count front start body before i place rest now references
      → break_of g now (reads g now rest) ≡ Some why
      → ((breaks why place (heard_nothing now)).side ≡ (hears g count front start body (heard_nothing before)).side) × (total message_brings (hears g count front start body (heard_nothing before)).got ≤ references)
  heard_break i place rest now references why less so is =
      let left : count - i ≡ suc (count - (i + 1)) = omega (arith, less) in
      let ends : breaks why place (record { side = now; got = so.got }) ≡ hears g count front start body (heard_nothing before) =
      sym (hears_broken g (count - (i + 1)) front place rest (record { side = now; got = so.got }) why is)
      ∙ ap (λ n. hears g n front place rest (record { side = now; got = so.got })) (sym left) ∙ so.goes_on in
      let same = ap (λ x. total message_brings x.got) ends in
      let most = so.counted in
      (ap (λ x. x.side) ends, omega (arith, same, most))

  -- all of them were heard, and nothing stands behind them
  pub heard_all : (i place : ℕ) (now : Side) (references : ℕ) → count ≤ i → HeardSoFar g count front start body before i place [] now references
      → (now ≡ (hears g count front start body (heard_nothing before)).side) × (total message_brings (hears g count front start body (heard_nothing before)).got ≤ references)
  unfolding hears
  heard_all i place now references all so =
      let none : count - i ≡ 0 = omega (arith, all) in
      let ends : record { side = now; got = so.got } ≡ hears g count front start body (heard_nothing before) =
      ap (λ n. hears g n front place [] (record { side = now; got = so.got })) (sym none) ∙ so.goes_on in
      let same = ap (λ x. total message_brings x.got) ends in
      let most = so.counted in
      (ap (λ x. x.side) ends, omega (arith, same, most))

  -- or something does
  pub heard_left : (i place b : ℕ) (bytes : List ℕ) (now : Side) (references : ℕ) → count ≤ i → HeardSoFar g count front start body before i place (b ∷ bytes) now references
      → ((breaks LeftOver front (heard_nothing now)).side ≡ (hears g count front start body (heard_nothing before)).side) × (total message_brings (hears g count front start body (heard_nothing before)).got ≤ references)
  unfolding hears
  heard_left i place b bytes now references all so =
      let none : count - i ≡ 0 = omega (arith, all) in
      let ends : breaks LeftOver front (record { side = now; got = so.got }) ≡ hears g count front start body (heard_nothing before) =
      ap (λ n. hears g n front place (b ∷ bytes) (record { side = now; got = so.got })) (sym none) ∙ so.goes_on in
      let same = ap (λ x. total message_brings x.got) ends in
      let most = so.counted in
      (ap (λ x. x.side) ends, omega (arith, same, most))

  -- all of them were heard: nothing is left of the body, or something is
  pub heard_whole : (i place : ℕ) (rest : List ℕ) (now : Side) (references : ℕ) → count ≤ i → (length rest == 0) ≡ true → HeardSoFar g count front start body before i place rest now references
      → (now ≡ (hears g count front start body (heard_nothing before)).side) × (total message_brings (hears g count front start body (heard_nothing before)).got ≤ references)
  heard_whole i place [] now references all none so = heard_all i place now references all so
  heard_whole i place (b ∷ bytes) now references all none so = absurd (not_zero (length bytes) none)

  pub heard_over : (i place : ℕ) (rest : List ℕ) (now : Side) (references : ℕ) → count ≤ i → (length rest == 0) ≡ false → HeardSoFar g count front start body before i place rest now references
      → ((breaks LeftOver front (heard_nothing now)).side ≡ (hears g count front start body (heard_nothing before)).side) × (total message_brings (hears g count front start body (heard_nothing before)).got ≤ references)
  heard_over i place [] now references all some so = absurd (true≢false some)
  heard_over i place (b ∷ bytes) now references all some so = heard_left i place b bytes now references all so

-- what came in is forgotten where the bridge ends
ended_same : (why : Cause) (i : Incoming) (s : Side) → ends_by why (with_incoming i s) ≡ ends_by why s
unfolding ends_by
ended_same why i s = refl

-- the side of an end becomes this
pub becomes : (s : Side) (x0 x1 : EndSide) → x1 ≡ with_side x1.side x0 → x1.side ≡ s → x1 ≡ with_side s x0
becomes s x0 x1 names is = names ∙ ap (λ z. with_side z x0) is

pub broken_off : (why : Reason) (place : ℕ) (s : Side) (x0 x1 : EndSide) → x1 ≡ with_side x1.side x0 → ends_by (cause.Broken why place) x1.side ≡ s
    → on_side (broken_by (Some (record { why = why; place = place }))) x1 ≡ with_side s x0
broken_off why place s x0 x1 names is = ap (with_side (ends_by (cause.Broken why place) x1.side)) names ∙ ap (λ z. with_side z x0) is

pub broken_before : (why : Reason) (place : ℕ) (s before after : Side) → after ≡ with_incoming after.incoming before → ends_by (cause.Broken why place) before ≡ s → ends_by (cause.Broken why place) after ≡ s
broken_before why place s before after kept is = ap (ends_by (cause.Broken why place)) kept ∙ ended_same (cause.Broken why place) after.incoming before ∙ is

pub names_more : (x0 x1 x2 : EndSide) → x1 ≡ with_side x1.side x0 → x2 ≡ with_side x2.side x1 → x2 ≡ with_side x2.side x0
names_more x0 x1 x2 first next = next ∙ ap (with_side x2.side) first

pub end_stays : (g : Setting) (x0 x1 : EndSide) → x1 ≡ with_side x1.side x0 → IsEndOf g x0 → IsEndOf g x1
end_stays g x0 x1 names of = subst (IsEndOf g) (sym names) (record { prefix = of.prefix; first = of.first; release = of.release })

-- a message that was heard keeps what is known of roots
pub heard_rooted : (g : Setting) (body : List ℕ) (before after : Side) (count used count_now : ℕ) → length g.plan.threads < 2 ^ 64 → HeardMessage g body before count used after count_now → HasRoots g before → HasRoots g after
heard_rooted g body before after count used count_now few m rooted =
    subst (HasRoots g) (sym m.received) (receives_rooted g m.message (remembers m.remembered before) few (refusal_with g m.message (record before.incoming { heard = m.remembered }) before ∙ m.fine) rooted)
