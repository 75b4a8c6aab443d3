-- What a stream of blocks takes of a piece is what is cut off it.
use Rattle.std.proofs.Common.{◌≡◌, refl, sym, ap, subst, ◌∙◌, ℕ, ◌+◌, ◌-◌, ◌^◌, ◌<◌, ◌≤◌, Bool, true, false, not, ◌||◌, List, [], ◌++◌, length, take, drop, append_assoc, Some, None, arith, inl, inr}
use Rattle.std.proofs.Common.{length-append, take-append-drop}
use Rattle.std.specs.Prelude.{◌⊎◌}
use Rattle.std.proofs.lemmas.Bool.{true≢false, cases_lt}
use Rattle.std.proofs.lemmas.List.{append-nil, length-take}
use Rattle.urp_model.specs.PlacedBlocks.{largest_size}
use Rattle.urp_model.specs.declared.reason.Reason.{Reason}
use Rattle.urp_model.specs.declared.reason.Reason.TheVariants.{TooLarge, NoMessages}
use Rattle.urp_stream.specs.Headers.{SaysTooLarge, SaysNoMessages, HasNoBadHeader}
use Rattle.urp_stream.specs.Standing.{BeginsBad, IsRefusedAt}
use Rattle.urp_stream.proofs.HeaderLaws.{said_apart, none_apart, good_front}
use Rattle.urp_stream.proofs.RefusedLaws.{bad_long}
use Rattle.urp_stream.specs.Calls.{IsTaken, Took, Gave}
use Rattle.urp_stream.specs.Streams.{Stream}
use Rattle.urp_model.proofs.BlockLaws.{length-spell_block, block_whole}
use Rattle.urp_model.specs.Blocks.{BeginsWhole, spell_block}
use Rattle.message_model.specs.Headers.{Heard}
use Rattle.std.specs.Int.{w32, to_be_bytes, from_be_bytes}
use Rattle.std.proofs.lemmas.Nat.{from_be_bytes-to_be_bytes_4}
use Rattle.bridge_model.specs.Sides.{Incoming}
use Rattle.bridge_model.specs.Answers.{cut}
use Rattle.bridge_model.specs.Feeding.{count_said, header_fault, block_stands, is_some_reason, ends_part}
use Rattle.bridge_streams.specs.Taking as side
use Rattle.bridge_streams.specs.Taking.{with_cut, holding, behind, IsBlockOf, TookPart, TookWhole, TookNone, Ended}
use Rattle.bridge_streams.specs.declared.taken.Taken.{Taken}
use Rattle.bridge_streams.specs.declared.taken.Taken.TheVariants.{Part, Whole, Refused}
use Rattle.urp_stream.specs.declared.block.Block.{Block}
use Rattle.bridge_streams.proofs.CuttingLemmas.{IsCut, cut_is}
use Rattle.bridge_streams.proofs.HeaderLemmas.{fault_large, fault_none, fault_good, fault_short, stands_whole}

-- ---- what ends a part

by_bool : (b : Bool) → ¬ (b ≡ true) → b ≡ false
by_bool true never = absurd (never refl)
by_bool false never = refl

-- no whole block stands
pub no_block : (s : List ℕ) → ¬ BeginsWhole s → block_stands s ≡ false
no_block s none = by_bool (block_stands s) (λ stands. none ((stands_whole s).1 stands))

-- bytes with a good header and no whole block end nothing
pub ends_nothing : (s : List ℕ) → header_fault s ≡ None → block_stands s ≡ false → ends_part s ≡ false
unfolding ends_part
ends_nothing s good none = rw (good, none) refl

-- a whole block ends a part, and so does a header that is refused
pub block_ends : (s : List ℕ) → header_fault s ≡ None → block_stands s ≡ true → ends_part s ≡ true
unfolding ends_part
block_ends s good stands = rw (good, stands) refl

pub fault_ends : (s : List ℕ) (why : Reason) → header_fault s ≡ Some why → ends_part s ≡ true
unfolding ends_part
fault_ends s why is = rw (is) refl

or_false : (p q : Bool) → (p || q) ≡ false → q ≡ false
or_false true q is = absurd (true≢false is)
or_false false q is = is

-- where nothing is ended no whole block stands
pub unended_block : (s : List ℕ) → ends_part s ≡ false → ¬ BeginsWhole s
unfolding ends_part
unended_block s is whole = true≢false (sym ((stands_whole s).0 whole) ∙ or_false (is_some_reason (header_fault s)) (block_stands s) is)

-- ---- a piece with a good header

-- the bytes at its front have a good header too
good_taken : (held piece : List ℕ) (n : ℕ) → HasNoBadHeader (held ++ piece) → header_fault (held ++ take n piece) ≡ None
good_taken held piece n good =
    let parts : held ++ piece ≡ (held ++ take n piece) ++ drop n piece
    = ap (λ z. held ++ z) (sym (take-append-drop n piece)) ∙ sym (append_assoc held (take n piece) (drop n piece)) in
    fault_good (held ++ take n piece) (good_front (held ++ take n piece) (drop n piece) (subst HasNoBadHeader parts good))

-- what a stream takes is cut off
ends_whole : (held piece : List ℕ) (n : ℕ) → HasNoBadHeader (held ++ piece) → (BeginsWhole (held ++ take n piece) ⊎ (n ≡ length piece)) → n < length piece
    → ends_part (held ++ take n piece) ≡ true
ends_whole held piece n good (inl whole) below = block_ends (held ++ take n piece) (good_taken held piece n good) ((stands_whole (held ++ take n piece)).0 whole)
ends_whole held piece n good (inr all) below = absurd (omega arith)

taken_is_cut : (held piece : List ℕ) (n : ℕ) → IsTaken held piece n → HasNoBadHeader (held ++ piece) → IsCut held piece n
taken_is_cut held piece n taken good =
    record {
      within = taken.within;
      before = λ m below. ends_nothing (held ++ take m piece) (good_taken held piece m good) (no_block (held ++ take m piece) (taken.least m below));
      ends = ends_whole held piece n good taken.whole_or_all;
    }

-- ---- a piece that completes a bad header

-- with fewer bytes it is not there, and with these it is
refused_is_cut : (held piece : List ℕ) (n : ℕ) (why : Reason) → IsRefusedAt held piece n → header_fault (held ++ take n piece) ≡ Some why → IsCut held piece n
refused_is_cut held piece n why at is =
    record {
      within = at.within;
      before = λ m below. short_unended (held ++ take m piece) (omega (arith, at.eighth, length-append held (take m piece), length-take m piece));
      ends = λ below. fault_ends (held ++ take n piece) why is;
    }
  where
    short_unended : (s : List ℕ) → length s < 8 → ends_part s ≡ false
    short_unended s short = ends_nothing s (fault_short s short) (no_block s (λ whole. omega (arith, whole)))

-- ---- what is taken, in the words of a side

-- what is held with what is taken is what is held with what is cut off
pub record IsTakenOf (held piece : List ℕ) (n : ℕ) : Type 0 where
  pub size : n ≡ length (cut held piece)
  pub bytes : held ++ take n piece ≡ held ++ cut held piece

of_cut : (held piece : List ℕ) (n : ℕ) → ends_part held ≡ false → IsCut held piece n → IsTakenOf held piece n
of_cut held piece n unended is =
    let same = cut_is held piece n unended is in
    record {
      size = omega (arith, is.within, length-take n piece, ap length same);
      bytes = ap (λ z. held ++ z) (sym same);
    }

pub took_cut : (held piece : List ℕ) (n : ℕ) → ends_part held ≡ false → IsTaken held piece n → HasNoBadHeader (held ++ piece) → IsTakenOf held piece n
took_cut held piece n unended taken good = of_cut held piece n unended (taken_is_cut held piece n taken good)

pub took_good : (held piece : List ℕ) (n : ℕ) → HasNoBadHeader (held ++ piece) → header_fault (held ++ take n piece) ≡ None
took_good held piece n good = good_taken held piece n good

-- the eight bytes say what is wrong
whole_header : (held piece : List ℕ) (n : ℕ) → IsRefusedAt held piece n → 8 ≤ length (held ++ take n piece)
whole_header held piece n at = omega (arith, at.eighth, at.within, length-append held (take n piece), length-take n piece)

parted : (held piece : List ℕ) (n : ℕ) → held ++ piece ≡ (held ++ take n piece) ++ drop n piece
parted held piece n = ap (λ z. held ++ z) (sym (take-append-drop n piece)) ∙ sym (append_assoc held (take n piece) (drop n piece))

pub refused_large : (held piece : List ℕ) (n size : ℕ) → IsRefusedAt held piece n → SaysTooLarge (held ++ piece) size → header_fault (held ++ take n piece) ≡ Some TooLarge
refused_large held piece n size at says =
    let front = held ++ take n piece in
    fault_large front size ((said_apart front (drop n piece) size (whole_header held piece n at)).1 (subst (λ s. SaysTooLarge s size) (parted held piece n) says))

pub refused_none : (held piece : List ℕ) (n : ℕ) → IsRefusedAt held piece n → SaysNoMessages (held ++ piece) → header_fault (held ++ take n piece) ≡ Some NoMessages
refused_none held piece n at says =
    let front = held ++ take n piece in
    fault_none front ((none_apart front (drop n piece) (whole_header held piece n at)).1 (subst SaysNoMessages (parted held piece n) says))

pub refused_cut : (held piece : List ℕ) (n : ℕ) (why : Reason) → ends_part held ≡ false → IsRefusedAt held piece n → header_fault (held ++ take n piece) ≡ Some why → IsTakenOf held piece n
refused_cut held piece n why unended at is = of_cut held piece n unended (refused_is_cut held piece n why at is)

-- ---- what a stream takes, as a side sees it

-- a stream with what is remembered of its messages
abbrev pub with_heard : Heard → Stream → Incoming
with_heard heard s = record { place = s.place; held = s.held; heard = heard }

-- what a block says of itself
spelled_count : (count : ℕ) (body : List ℕ) → count < 2 ^ 32 → count ≡ count_said (spell_block count body)
unfolding spell_block
spelled_count count body fits = sym (from_be_bytes-to_be_bytes_4 count fits)

spelled_body : (count : ℕ) (body : List ℕ) → body ≡ drop 8 (spell_block count body)
unfolding spell_block
spelled_body count body = refl

gave_whole : (count : ℕ) (body : List ℕ) {held : List ℕ} → length body ≤ largest_size → count < 2 ^ 32 → held ≡ spell_block count body → BeginsWhole held
gave_whole count body {held} size few is =
    block_whole held (record {
      count = count;
      body = body;
      rest = [];
      fits = record { count_fits = few; size_fits = omega arith };
      spelled = is ∙ sym (append-nil (spell_block count body));
    })

-- no bytes end nothing
pub nothing_ended : ends_part [] ≡ false
unfolding ends_part header_fault block_stands
nothing_ended = refl

-- what is taken ends a block, or nothing
module _ (heard : Heard) (old mid : Stream) (piece : List ℕ) (n : ℕ) (unended : ends_part old.held ≡ false) (took : Took old piece n mid) where
  of_piece : IsTakenOf old.held piece n
  of_piece = took_cut old.held piece n unended took.taken took.header

  mid_held : mid.held ≡ old.held ++ cut old.held piece
  mid_held = ap (λ (s : Stream). s.held) took.now ∙ of_piece.bytes

  mid_place : mid.place ≡ old.place
  mid_place = ap (λ (s : Stream). s.place) took.now

  good : header_fault (old.held ++ cut old.held piece) ≡ None
  good = ap header_fault (sym of_piece.bytes) ∙ took_good old.held piece n took.header

  part_taken : ¬ BeginsWhole mid.held → TookPart (with_heard heard old) piece n (with_heard heard mid)
  part_taken none = record {
    size = of_piece.size;
    good = good;
    unended = ap block_stands (sym mid_held) ∙ no_block mid.held none;
    now = ap (with_heard heard) took.now ∙ ap (λ bytes. holding bytes (with_heard heard old)) of_piece.bytes;
  }

  whole_taken : (block : Block) (new : Stream) → Gave mid (record { place = block.place; count = block.count; body = block.body.items }) new
      → TookWhole (with_heard heard old) piece n block (with_heard heard new)
  whole_taken block new gave =
      let bytes = sym mid_held ∙ gave.held in
      let long : length (old.held ++ cut old.held piece) ≡ 8 + length block.body.items = ap length bytes ∙ length-spell_block block.count block.body.items in
      let place : mid.place + 8 + length block.body.items ≡ old.place + length (old.held ++ cut old.held piece) = omega (arith, long, mid_place) in
      record {
        size = of_piece.size;
        good = good;
        stands = ap block_stands (sym mid_held) ∙ (stands_whole mid.held).0 (gave_whole block.count block.body.items gave.block.size_fits gave.block.count_fits gave.held);
        given = record {
          at = gave.block.place_is ∙ mid_place;
          count = spelled_count block.count block.body.items gave.block.count_fits ∙ ap count_said (sym bytes);
          body = spelled_body block.count block.body.items ∙ ap (drop 8) (sym bytes);
        };
        now = ap (with_heard heard) gave.now ∙ ap (λ p. record { place = p; held = []; heard = heard }) place;
      }

  pub ended_taken : (taken : Taken) (new : Stream) → Ended mid n taken new → side.Took (with_heard heard old) piece taken (with_heard heard new)
  ended_taken (Part m) new ended =
      subst (λ k. TookPart (with_heard heard old) piece k (with_heard heard new)) (sym ended.0)
      (subst (λ s. TookPart (with_heard heard old) piece n (with_heard heard s)) (sym ended.2) (part_taken ended.1))
  ended_taken (Whole m block) new ended = subst (λ k. TookWhole (with_heard heard old) piece k block (with_heard heard new)) (sym ended.0) (whole_taken block new ended.1)
  ended_taken (Refused m why) new ended = absurd ended

  pub ended_rest : (taken : Taken) (new : Stream) → Ended mid n taken new → ends_part new.held ≡ false
  ended_rest (Part m) new ended =
      ap (λ (s : Stream). ends_part s.held) ended.2 ∙ ends_nothing mid.held (ap header_fault mid_held ∙ good) (no_block mid.held ended.1)
  ended_rest (Whole m block) new ended = ap (λ (s : Stream). ends_part s.held) ended.1.now ∙ nothing_ended
  ended_rest (Refused m why) new ended = absurd ended

-- ---- a header that is refused, as a side sees it

module _ (i : Incoming) (piece : List ℕ) (n : ℕ) (unended : ends_part i.held ≡ false) (at : BeginsBad (i.held ++ piece) → IsRefusedAt i.held piece (8 - length i.held))
    (wants : n ≡ 8 - length i.held) where
  refused_took : (why : Reason) → IsRefusedAt i.held piece n → header_fault (i.held ++ take n piece) ≡ Some why → TookNone i piece n why i
  refused_took why is fault =
      let whole = refused_cut i.held piece n why unended is fault in
      record { size = whole.size; fault = ap header_fault (sym whole.bytes) ∙ fault; now = refl }

  is_at : BeginsBad (i.held ++ piece) → IsRefusedAt i.held piece n
  is_at bad = subst (IsRefusedAt i.held piece) (sym wants) (at bad)

  pub took_large : (size : ℕ) → SaysTooLarge (i.held ++ piece) size → TookNone i piece n TooLarge i
  took_large size says = let is = is_at (inl (size, says)) in refused_took TooLarge is (refused_large i.held piece n size is says)

  pub took_none : SaysNoMessages (i.held ++ piece) → TookNone i piece n NoMessages i
  took_none says = let is = is_at (inr says) in refused_took NoMessages is (refused_none i.held piece n is says)
