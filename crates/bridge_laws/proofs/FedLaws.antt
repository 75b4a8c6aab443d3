-- What a piece of bytes does: it is held, it breaks the bridge, or it ends a block, which spells what it brings.
use Rattle.std.proofs.Common.{◌≡◌, refl, sym, ap, ◌∙◌, subst, ◌⊎◌, inl, inr, ℕ, zero, suc, ◌+◌, ◌-◌, ◌≤◌, ◌<◌, ◌^◌, Bool, true, false, not, ◌||◌, ◌==◌, nat_lt, List, [], ◌∷◌, ◌++◌, length, take, drop, Option, None, Some, Result, Ok, Err, if◌then◌else◌, arith}
use Rattle.std.proofs.lemmas.Bool.{and_parts, ltb-false, le-ltb, not-true, true≢false}
use Rattle.std.proofs.lemmas.List.{append_assoc, append-nil}
use Rattle.std.specs.Int.{w32, from_be_bytes}
use Rattle.std.proofs.lemmas.Nat.{from_be_bytes-to_be_bytes_4}
use Rattle.message_model.specs.Headers.{Heard}
use Rattle.message_model.specs.Messages.{Message, request, release, reply}
use Rattle.message_model.specs.ReadingMessages.{message_at}
use Rattle.message_model.specs.ReadingStreams.{reason_of}
use Rattle.message_model.specs.SpellingMessages.{SpellsMessage}
use Rattle.message_model.specs.Streams.{SpellsBody, IsStreamBlock}
use Rattle.message_model.proofs.MessageReadingLaws.{message_agrees}
use Rattle.uno_model.specs.Sound.{IsSound}
use Rattle.urp_model.specs.Blocks.{spell_block, AreBytes}
use Rattle.urp_model.specs.PlacedBlocks.{largest_size}
use Rattle.urp_model.specs.declared.fault.Fault.{Fault}
use Rattle.urp_model.specs.declared.reason.Reason.{Reason}
use Rattle.urp_model.specs.declared.reason.Reason.TheVariants.{LeftOver, TooLarge, NoMessages}
use Rattle.urp_model.proofs.BlockLaws.{whole_block, size_of-spell_block, length-spell_block}
use Rattle.bridge_model.specs.Ends.{ends_by}
use Rattle.bridge_model.specs.Feeding.{Hearing, Next, heard_nothing, breaks, remembers, gets, block_ends, hears_tested, hears_read, hears, holds_bytes, takes_block, feeds_whole, feeds_part, feeds, size_said, count_said, has_header, header_fault, block_stands, is_some_reason, ends_part}
use Rattle.bridge_model.specs.Receiving.{refusal, receives}
use Rattle.bridge_model.specs.Settings.{Setting}
use Rattle.bridge_model.specs.Sides.{Side, Incoming}
use Rattle.bridge_model.specs.Stacks.{waits_of}
use Rattle.bridge_model.specs.Steps.{but_last, is_some_bytes}
use Rattle.bridge_model.specs.declared.cause.Cause.{Cause}
use Rattle.bridge_model.specs.declared.cause.Cause.TheVariants as cause
use Rattle.bridge_laws.proofs.PieceLaws.{MayFeed, ends_more, but_last_append}
use Rattle.bridge_laws.specs.Spelled.{waits_along}

-- ---- what came in changes no stacks

abbrev with_incoming : Incoming → Side → Side
with_incoming i s = record s { incoming = i }

incoming_if : (i : Incoming) (b : Bool) (s t : Side) → (if b then with_incoming i s else with_incoming i t) ≡ with_incoming i (if b then s else t)
incoming_if i true s t = refl
incoming_if i false s t = refl

receives_with : (g : Setting) (i : Incoming) (m : Message) (s : Side) → receives g m (with_incoming i s) ≡ with_incoming i (receives g m s)
unfolding receives
receives_with g i (release tid oid face) s = refl
receives_with g i (request tid oid face function args) s = incoming_if i (function == 0) _ _
receives_with g i (reply tid face function a) s = refl

waits_with : (g : Setting) (i : Incoming) (s : Side) (ms : List Message) → waits_along g (with_incoming i s) ms ≡ waits_along g s ms
unfolding waits_along
waits_with g i s [] = refl
waits_with g i s (m ∷ ms) = ap (λ ws. waits_of s.stacks ∷ ws) (ap (λ z. waits_along g z ms) (receives_with g i m s) ∙ waits_with g i (receives g m s) ms)

held_if : (b : Bool) (incoming : Incoming) (why : Option Cause) (s t : Side) → s.incoming ≡ incoming → t.incoming ≡ incoming → s.cause ≡ why → t.cause ≡ why
    → ((if b then s else t).incoming ≡ incoming) × ((if b then s else t).cause ≡ why)
held_if true incoming why s t p q r v = (p, r)
held_if false incoming why s t p q r v = (q, v)

-- a message that is received changes nothing of what came in, and ends nothing
received_in : (g : Setting) (m : Message) (s : Side) → ((receives g m s).incoming ≡ s.incoming) × ((receives g m s).cause ≡ s.cause)
unfolding receives
received_in g (release tid oid face) s = (refl, refl)
received_in g (request tid oid face function args) s = held_if (function == 0) s.incoming s.cause _ _ refl refl refl refl
received_in g (reply tid face function a) s = (refl, refl)

abbrev remembering : Heard → Side → Incoming
remembering heard s = record s.incoming { heard = heard }

-- ---- a body

-- some messages more are got, which the bytes spell, and the bridge is as it was; or the bytes broke it
pub record SpellsMore (g : Setting) (n : ℕ) (bytes : List ℕ) (x y : Hearing) : Type 0 where
  pub more : List Message
  pub got : y.got ≡ x.got ++ more
  pub count : length more ≡ n
  pub spelled : SpellsBody g.registry (waits_along g x.side more) bytes x.side.incoming.heard more y.side.incoming.heard
  pub held : y.side.incoming.held ≡ x.side.incoming.held
  pub cause : y.side.cause ≡ x.side.cause

abbrev pub IsBroken : Hearing → Type 0
IsBroken y = (why : Reason) × (place : ℕ) × (y.side.cause ≡ Some (cause.Broken why place))

abbrev pub Heard_so : Setting → ℕ → List ℕ → Hearing → Hearing → Type 0
Heard_so g n bytes x y = SpellsMore g n bytes x y ⊎ IsBroken y

broken_is : (why : Reason) (place : ℕ) (x : Hearing) → IsBroken (breaks why place x)
unfolding ends_by
broken_is why place x = (why, place, refl)

no_more : (g : Setting) (front : ℕ) (bytes : List ℕ) (x : Hearing) → Heard_so g 0 bytes x (block_ends front bytes x)
unfolding SpellsBody waits_along
no_more g front [] x = inl (record { more = []; got = sym (append-nil x.got); count = refl; spelled = (refl, refl); held = refl; cause = refl })
no_more g front (b ∷ bytes) x = inr (broken_is LeftOver front x)

module _ (g : Setting) (sound : IsSound g.registry) where
  -- one message, and those behind it
  one_more : (n : ℕ) (bytes used rest : List ℕ) (between : Heard) (m : Message) (x y : Hearing) → bytes ≡ used ++ rest
      → SpellsMessage g.registry (waits_of x.side.stacks) x.side.incoming.heard m used between
      → Heard_so g n rest (gets g m between x) y → Heard_so g (suc n) bytes x y
  unfolding SpellsBody waits_along
  one_more n bytes used rest between m x y split spelled (inr broken) = inr broken
  one_more n bytes used rest between m x y split spelled (inl is) =
      let kept = received_in g m (remembers between x.side) in
      inl (record {
        more = m ∷ is.more;
        got = is.got ∙ append_assoc x.got (m ∷ []) is.more;
        count = ap suc is.count;
        spelled = (
          used,
          rest,
          between,
          split,
          spelled,
          subst (λ ws. SpellsBody g.registry ws rest between is.more y.side.incoming.heard)
              (ap (λ z. waits_along g z is.more) (receives_with g (remembering between x.side) m x.side) ∙ waits_with g (remembering between x.side) (receives g m x.side) is.more)
              (subst (λ (h : Heard). SpellsBody g.registry (waits_along g (receives g m (remembers between x.side)) is.more) rest h is.more y.side.incoming.heard)
              (ap (λ (i : Incoming). i.heard) kept.0) is.spelled),
        );
        held = is.held ∙ ap (λ (i : Incoming). i.held) kept.0;
        cause = is.cause ∙ kept.1;
      })

  -- what is done behind a message
  abbrev SpellsNext : ℕ → Next → Type 0
  SpellsNext n more = (place : ℕ) (bytes : List ℕ) (x : Hearing) → Heard_so g n bytes x (more place bytes x)

  tested : (n : ℕ) (more : Next) → SpellsNext n more → (place next : ℕ) (bytes used : List ℕ) (read : Message × Heard × List ℕ) (why : Option Reason) (x : Hearing) → bytes ≡ used ++ read.2
      → SpellsMessage g.registry (waits_of x.side.stacks) x.side.incoming.heard read.0 used read.1 → Heard_so g (suc n) bytes x (hears_tested g more place next read why x)
  tested n more behind place next bytes used read None x split spelled =
      one_more n bytes used read.2 read.1 read.0 x (more next read.2 (gets g read.0 read.1 x)) split spelled (behind next read.2 (gets g read.0 read.1 x))
  tested n more behind place next bytes used read (Some why) x split spelled = inr (broken_is why place x)

  read_so : (n : ℕ) (more : Next) → SpellsNext n more → (place : ℕ) (bytes : List ℕ) (r : Result (Message × Heard × List ℕ) Fault) (x : Hearing)
      → message_at g.registry (waits_of x.side.stacks) x.side.incoming.heard bytes ≡ r → Heard_so g (suc n) bytes x (hears_read g more place bytes r x)
  read_so n more behind place bytes (Err fault) x is = inr (broken_is (reason_of fault) place x)
  read_so n more behind place bytes (Ok read) x is =
      let s = (message_agrees g.registry (waits_of x.side.stacks) x.side.incoming.heard sound.named).sound bytes read is in
      subst (λ z. Heard_so g (suc n) bytes x (hears_read g more place bytes (Ok z) x)) (sym s.3)
      (tested n more behind place (place + (length bytes - length s.2)) bytes s.1 (s.0.0, s.0.1, s.2) (refusal g x.side s.0.0) x s.4 s.5)

  hears_so : (n front : ℕ) → SpellsNext n (hears g n front)
  unfolding hears
  hears_so zero front place bytes x = no_more g front bytes x
  hears_so (suc n) front place bytes x =
      read_so n (hears g n front) (hears_so n front) place bytes (message_at g.registry (waits_of x.side.stacks) x.side.incoming.heard bytes) x refl

-- ---- a block

-- a header that is whole and not refused
record IsGoodHeader (bytes : List ℕ) : Type 0 where
  size : size_said bytes ≤ 16777216
  some : 1 ≤ count_said bytes

header_by : (large empty : Bool) → (if large then Some TooLarge else (if empty then Some NoMessages else None)) ≡ None → (large ≡ false) × (empty ≡ false)
header_by true empty is = absurd (cc)
header_by false true is = absurd (cc)
header_by false false is = (refl, refl)

not_zero : (n : ℕ) → (n == 0) ≡ false → 1 ≤ n
not_zero zero is = absurd (cc)
not_zero (suc n) is = omega arith

good_header : (bytes : List ℕ) → has_header bytes ≡ true → header_fault bytes ≡ None → IsGoodHeader bytes
unfolding header_fault
good_header bytes has is =
    let both = header_by (nat_lt largest_size (size_said bytes)) (count_said bytes == 0) (sym (ap (λ b. if b then (if nat_lt largest_size (size_said bytes) then Some TooLarge else (if count_said bytes == 0 then Some NoMessages else None)) else None) has) ∙ is) in
    record { size = ltb-false largest_size (size_said bytes) both.0; some = not_zero (count_said bytes) both.1 }

record IsWholeNow (bytes : List ℕ) : Type 0 where
  header : has_header bytes ≡ true
  long : 8 + size_said bytes ≤ length bytes

whole_now : (bytes : List ℕ) → block_stands bytes ≡ true → IsWholeNow bytes
unfolding block_stands
whole_now bytes is =
    let parts = and_parts (has_header bytes) (not (nat_lt (length bytes) (8 + size_said bytes))) is in
    record { header = parts.0; long = ltb-false (length bytes) (8 + size_said bytes) (not-true (nat_lt (length bytes) (8 + size_said bytes)) parts.1) }

stands_by : (bytes : List ℕ) → has_header bytes ≡ true → 8 + size_said bytes ≤ length bytes → block_stands bytes ≡ true
unfolding block_stands
stands_by bytes has long = rw (has, le-ltb (length bytes) (8 + size_said bytes) long) refl

ends_by_block : (bytes : List ℕ) → block_stands bytes ≡ true → ends_part bytes ≡ true
unfolding ends_part
ends_by_block bytes is = ap (λ b. is_some_reason (header_fault bytes) || b) is ∙ either (is_some_reason (header_fault bytes))
  where
    either : (b : Bool) → (b || true) ≡ true
    either true = refl
    either false = refl

-- what a block says of itself
said_size : (count : ℕ) (body : List ℕ) → length body < 2 ^ 32 → size_said (spell_block count body) ≡ length body
said_size count body fits = ap (λ s. from_be_bytes w32 (take 4 s)) (sym (append-nil (spell_block count body))) ∙ size_of-spell_block count body [] fits

said_count : (count : ℕ) (body : List ℕ) → count < 2 ^ 32 → count_said (spell_block count body) ≡ count
unfolding spell_block
said_count count body fits = from_be_bytes-to_be_bytes_4 count fits

body_behind : (count : ℕ) (body : List ℕ) → drop 8 (spell_block count body) ≡ body
unfolding spell_block
body_behind count body = refl

block_ends_part : (count : ℕ) (body : List ℕ) → length body < 2 ^ 32 → ends_part (spell_block count body) ≡ true
block_ends_part count body fits =
    let long = length-spell_block count body in
    let size = said_size count body fits in
    let eight : 8 ≤ length (spell_block count body) = omega arith in
    let all : 8 + size_said (spell_block count body) ≤ length (spell_block count body) = omega arith in
    ends_by_block (spell_block count body) (stands_by (spell_block count body) (ap not (le-ltb (length (spell_block count body)) 8 eight)) all)

-- behind a block that a piece ends nothing stands
nothing_behind : (count : ℕ) (body held b rest : List ℕ) → length body < 2 ^ 32 → is_some_bytes b ≡ true → ends_part (held ++ but_last b) ≡ false → held ++ b ≡ spell_block count body ++ rest
    → held ++ b ≡ spell_block count body
nothing_behind count body held b [] fits some unended is = is ∙ append-nil (spell_block count body)
nothing_behind count body held b (c ∷ v) fits some unended is =
    let last : held ++ but_last b ≡ spell_block count body ++ but_last (c ∷ v) =
    sym (but_last_append held b some) ∙ (ap but_last is ∙ but_last_append (spell_block count body) (c ∷ v) refl) in
    let ended = ends_more (spell_block count body) (but_last (c ∷ v)) (block_ends_part count body fits) in
    absurd (true≢false (sym ended ∙ (sym (ap ends_part last) ∙ unended)))

-- the block that a piece ends
pub record IsEnded (whole : List ℕ) : Type 0 where
  pub count : ℕ
  pub body : List ℕ
  pub is : whole ≡ spell_block count body
  pub some : 1 ≤ count
  pub few : count < 2 ^ 32
  pub size : length body ≤ 16777216

piece_ends : (held b : List ℕ) → AreBytes (held ++ b) → is_some_bytes b ≡ true → ends_part (held ++ but_last b) ≡ false → header_fault (held ++ b) ≡ None → block_stands (held ++ b) ≡ true → IsEnded (held ++ b)
piece_ends held b bytes some unended good stands_whole =
    let now = whole_now (held ++ b) stands_whole in
    let header = good_header (held ++ b) now.header good in
    let block = whole_block (held ++ b) bytes now.long in
    let is = nothing_behind block.count block.body held b block.rest block.fits.size_fits some unended block.spelled in
    let size : size_said (held ++ b) ≡ length block.body = ap size_said is ∙ said_size block.count block.body block.fits.size_fits in
    let count : count_said (held ++ b) ≡ block.count = ap count_said is ∙ said_count block.count block.body block.fits.count_fits in
    let most = header.size in
    let least = header.some in
    record { count = block.count; body = block.body; is = is; some = omega arith; few = block.fits.count_fits; size = omega arith }

-- ---- a piece

-- it is held; it ends a block, which is got; or it breaks the bridge
pub record IsHeld (b : List ℕ) (s : Side) (y : Hearing) : Type 0 where
  pub got : y.got ≡ []
  pub held : y.side.incoming.held ≡ s.incoming.held ++ b
  pub heard : y.side.incoming.heard ≡ s.incoming.heard
  pub unended : ends_part (s.incoming.held ++ b) ≡ false

pub record IsBlockGot (g : Setting) (b : List ℕ) (s : Side) (y : Hearing) : Type 0 where
  pub body : List ℕ
  pub whole : s.incoming.held ++ b ≡ spell_block (length y.got) body
  pub block : IsStreamBlock (length y.got) body
  pub spelled : SpellsBody g.registry (waits_along g s y.got) body s.incoming.heard y.got y.side.incoming.heard
  pub held : y.side.incoming.held ≡ []

pub data IsFedSo (g : Setting) (b : List ℕ) (s : Side) (y : Hearing) : Type 0 where
  as_part : IsHeld b s y → IsFedSo g b s y
  as_block : IsBlockGot g b s y → IsFedSo g b s y
  as_broken : IsBroken y → IsFedSo g b s y

module _ (g : Setting) (sound : IsSound g.registry) (b : List ℕ) (s : Side) where
  got_block : (e : IsEnded (s.incoming.held ++ b)) → (y : Hearing) → SpellsMore g e.count e.body (heard_nothing (takes_block (s.incoming.held ++ b) s)) y → IsBlockGot g b s y
  got_block e y is =
      let same : length y.got ≡ e.count = ap length is.got ∙ is.count in
      record {
        body = e.body;
        whole = e.is ∙ ap (λ n. spell_block n e.body) (sym same);
        block = record { some = let some = e.some in omega arith; few = let few = e.few in omega arith; size = e.size };
        spelled = subst (λ ms. SpellsBody g.registry (waits_along g s ms) e.body s.incoming.heard ms y.side.incoming.heard) (sym is.got)
            (subst (λ ws. SpellsBody g.registry ws e.body s.incoming.heard is.more y.side.incoming.heard)
            (waits_with g (record s.incoming { place = s.incoming.place + length (s.incoming.held ++ b); held = [] }) s is.more) is.spelled);
        held = is.held;
      }

  whole_so : (e : IsEnded (s.incoming.held ++ b)) → IsFedSo g b s (feeds_whole g (s.incoming.held ++ b) s)
  whole_so e =
      let bytes = s.incoming.held ++ b in
      let count : count_said bytes ≡ e.count = ap count_said e.is ∙ said_count e.count e.body e.few in
      let behind : drop 8 bytes ≡ e.body = ap (drop 8) e.is ∙ body_behind e.count e.body in
      by_hearing (subst (λ n. Heard_so g n e.body (heard_nothing (takes_block bytes s)) (feeds_whole g bytes s)) count
      (subst (λ t. Heard_so g (count_said bytes) t (heard_nothing (takes_block bytes s)) (feeds_whole g bytes s)) behind
      (hears_so g sound (count_said bytes) s.incoming.place (s.incoming.place + 8) (drop 8 bytes) (heard_nothing (takes_block bytes s)))))
    where
      by_hearing : Heard_so g e.count e.body (heard_nothing (takes_block (s.incoming.held ++ b) s)) (feeds_whole g (s.incoming.held ++ b) s) → IsFedSo g b s (feeds_whole g (s.incoming.held ++ b) s)
      by_hearing (inl is) = as_block (got_block e (feeds_whole g (s.incoming.held ++ b) s) is)
      by_hearing (inr is) = as_broken is

  no_part : (why : Option Reason) → header_fault (s.incoming.held ++ b) ≡ why → why ≡ None → block_stands (s.incoming.held ++ b) ≡ false → ends_part (s.incoming.held ++ b) ≡ false
  unfolding ends_part
  no_part why is none unended = rw (is, none, unended) refl

  part_so : AreBytes (s.incoming.held ++ b) → MayFeed b s.incoming.place s.incoming.held → (why : Option Reason) → header_fault (s.incoming.held ++ b) ≡ why
      → IsFedSo g b s (feeds_part g (s.incoming.held ++ b) why s)
  part_so bytes may (Some why) is = as_broken (broken_is why s.incoming.place (heard_nothing s))
  part_so bytes may None is = by_block (block_stands (s.incoming.held ++ b)) refl
    where
      by_block : (c : Bool) → block_stands (s.incoming.held ++ b) ≡ c → IsFedSo g b s (if c then feeds_whole g (s.incoming.held ++ b) s else heard_nothing (holds_bytes (s.incoming.held ++ b) s))
      by_block true whole = whole_so (piece_ends s.incoming.held b bytes may.some may.unended is whole)
      by_block false whole = as_part (record { got = refl; held = refl; heard = refl; unended = no_part None is refl whole })

  pub fed_so : AreBytes (s.incoming.held ++ b) → MayFeed b s.incoming.place s.incoming.held → IsFedSo g b s (feeds g b s)
  unfolding feeds
  fed_so bytes may = part_so bytes may (header_fault (s.incoming.held ++ b)) refl
