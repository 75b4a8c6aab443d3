-- Blocks are read as the messages that they spell, up to the first fault, and only so; and no later bytes mend a fault.
use Rattle.std.proofs.Common.{◌≡◌, ℕ, ◌+◌, List, [], ◌∷◌, ◌++◌, length, Option, None, Some, refl, sym, ap, subst, ◌∙◌, ◌↔◌}
use Rattle.std.proofs.Common.{append_assoc, append-nil, length-append, arith}
use Rattle.uno_model.specs.Entities.{Entity}
use Rattle.uno_model.specs.Sound.{IsSound}
use Rattle.uno_model.proofs.Options.{none_some}
use Rattle.urp_model.specs.Blocks.{spell_block, IsBlock}
use Rattle.urp_model.specs.PlacedBlocks.{PlacedBlock, IsBlockAt, spell_blocks, AreBlocksAnd}
use Rattle.urp_model.proofs.BlockLaws.{spell_block-front, length-spell_block}
use Rattle.urp_model.proofs.PlacedBlockLaws.{spell_blocks-cons, spell_blocks-nil, ArePlacedFrom, first_placed, others_placed, from_start}
use Rattle.message_model.specs.Headers.{Heard}
use Rattle.message_model.specs.Messages.{Message}
use Rattle.message_model.specs.ReadingStreams.{Awaiting, along, along_blocks, joined, BodyFault, BodyRead, body_at, IsBodyRead}
use Rattle.message_model.specs.ReadingStreams.{StreamFault, placed, StreamRead, with_block, stream_with, stream_of, stream_at, IsReadUpTo, IsStreamRead}
use Rattle.message_model.specs.Streams.{SpellsBody, IsStreamBlock, SpellsStream}
use Rattle.message_model.proofs.BodyReadingLaws.{body_is, body_reads, whole_read, whole_reads}

-- the waits behind two lists of messages
waits_behind : (waits : Awaiting) (ms ns : List Message) → ◌≡◌ {A = Awaiting} (λ os. waits (ms ++ (ns ++ os))) (λ os. waits ((ms ++ ns) ++ os))
waits_behind waits ms ns = λ i os. waits (sym (append_assoc ms ns os) i)

-- no block begins where nothing stands
no_block_in : (count : ℕ) (body rest : List ℕ) → [] ≡ spell_block count body ++ rest → ⊥
no_block_in count body rest same = omega (arith, ap length same, length-append (spell_block count body) rest, length-spell_block count body)

-- a placed block is one of a stream
stream_block : (from n : ℕ) (b : PlacedBlock) → IsBlockAt from b → n ≡ b.count → IsStreamBlock n b.body
stream_block from n b is same = record { some = omega (arith, is.some); few = omega (arith, is.count_fits); size = is.size_fits }

fits : {count : ℕ} {body : List ℕ} → IsStreamBlock count body → IsBlock count body
fits is = record { count_fits = is.few; size_fits = omega (arith, is.size) }

module _ (reg : List Entity) where
  -- more blocks change nothing behind a fault
  pub blocks_stay : (blocks more : List PlacedBlock) (waits : Awaiting) (heard : Heard) (fault : StreamFault) → (stream_at reg waits heard blocks).fault ≡ Some fault
      → stream_at reg waits heard (blocks ++ more) ≡ stream_at reg waits heard blocks
  unfolding stream_at
  blocks_stay [] more waits heard fault has = absurd (none_some has)
  blocks_stay (b ∷ blocks) more waits heard fault has =
      let read = body_at reg waits b.count heard b.body in
      by_fault b.place read.messages read.heard read.fault (λ ms between. blocks_stay blocks more (λ ns. waits (ms ++ ns)) between fault) has
    where
      by_fault : (place : ℕ) (ms : List Message) (t : Heard) (o : Option BodyFault)
          → ((ms : List Message) (between : Heard) → (stream_at reg (λ ns. waits (ms ++ ns)) between blocks).fault ≡ Some fault
          → stream_at reg (λ ns. waits (ms ++ ns)) between (blocks ++ more) ≡ stream_at reg (λ ns. waits (ms ++ ns)) between blocks)
          → (stream_with (λ ms between. stream_at reg (λ ns. waits (ms ++ ns)) between blocks) place ms t o).fault ≡ Some fault
          → stream_with (λ ms between. stream_at reg (λ ns. waits (ms ++ ns)) between (blocks ++ more)) place ms t o
          ≡ stream_with (λ ms between. stream_at reg (λ ns. waits (ms ++ ns)) between blocks) place ms t o
      by_fault place ms t None each has = ap (with_block ms) (each ms t has)
      by_fault place ms t (Some o) each has = refl

module _ (reg : List Entity) (sound : IsSound reg) where
  -- ---- what is read is so

  -- a whole block before others
  whole_behind : (from : ℕ) (b : PlacedBlock) (blocks : List PlacedBlock) (waits : Awaiting) (heard between t : Heard) (ms : List Message) (mss : List (List Message))
      → IsBlockAt from b → length ms ≡ b.count → SpellsBody reg (along waits ms) b.body heard ms between
      → SpellsStream reg (along_blocks (λ ns. waits (ms ++ ns)) mss) (spell_blocks blocks) between mss t
      → SpellsStream reg (along_blocks waits (ms ∷ mss)) (spell_blocks (b ∷ blocks)) heard (ms ∷ mss) t
  unfolding SpellsStream along_blocks
  whole_behind from b blocks waits heard between t ms mss at count spelled others = (
    b.body,
    spell_blocks blocks,
    between,
    spell_blocks-cons b blocks ∙ ap (λ n. spell_block n b.body ++ spell_blocks blocks) (sym count),
    stream_block from (length ms) b at count,
    spelled,
    others,
  )

  stream_behind : (from : ℕ) (b : PlacedBlock) (blocks : List PlacedBlock) (waits : Awaiting) (heard between : Heard) (ms : List Message) (others : StreamRead) (fault : Option StreamFault)
      → IsBlockAt from b → length ms ≡ b.count → SpellsBody reg (along waits ms) b.body heard ms between
      → IsReadUpTo reg (λ ns. waits (ms ++ ns)) between blocks others fault → IsReadUpTo reg waits heard (b ∷ blocks) (with_block ms others) fault
  unfolding joined
  stream_behind from b blocks waits heard between ms others None at count spelled is = record {
    messages = ms ∷ is.messages;
    joins = ap (λ ns. ms ++ ns) is.joins;
    spelled = whole_behind from b blocks waits heard between others.heard ms is.messages at count spelled is.spelled;
  }
  stream_behind from b blocks waits heard between ms others (Some fault) at count spelled is = record {
    before = b ∷ is.before;
    broken = is.broken;
    after = is.after;
    messages = ms ∷ is.messages;
    last = is.last;
    between = is.between;
    within = is.within;
    splits = ap (λ bs. b ∷ bs) is.splits;
    joins = ap (λ ns. ms ++ ns) is.joins ∙ sym (append_assoc ms (joined is.messages) is.last);
    spelled = whole_behind from b is.before waits heard between is.between ms is.messages at count spelled is.spelled;
    breaks = subst (λ w. IsBodyRead reg w is.broken.count is.between is.broken.body (record { messages = is.last; heard = others.heard; fault = Some is.within }))
        (waits_behind waits ms (joined is.messages)) is.breaks;
    at = is.at;
  }

  -- a block, and what is read behind it
  stream_is_with : (from : ℕ) (b : PlacedBlock) (blocks : List PlacedBlock) (waits : Awaiting) (heard : Heard) (others : List Message → Heard → StreamRead) (read : BodyRead)
      (fault : Option BodyFault) → IsBlockAt from b → IsBodyRead reg waits b.count heard b.body (record { messages = read.messages; heard = read.heard; fault = fault })
      → ((ms : List Message) (between : Heard) → IsStreamRead reg (λ ns. waits (ms ++ ns)) between blocks (others ms between))
      → IsStreamRead reg waits heard (b ∷ blocks) (stream_with others b.place read.messages read.heard fault)
  unfolding SpellsStream along_blocks joined
  stream_is_with from b blocks waits heard others read None at is each =
      let whole = (whole_reads reg sound waits b.count heard read.heard b.body read.messages).0 ((body_reads reg sound waits b.count heard b.body (whole_read reg sound read.messages read.heard)).1 is) in
      let behind = others read.messages read.heard in
      stream_behind from b blocks waits heard read.heard read.messages behind behind.fault at whole.0 whole.1 (each read.messages read.heard)
  stream_is_with from b blocks waits heard others read (Some fault) at is each = record {
    before = [];
    broken = b;
    after = blocks;
    messages = [];
    last = read.messages;
    between = heard;
    within = fault;
    splits = refl;
    joins = refl;
    spelled = (spell_blocks-nil, refl);
    breaks = is;
    at = refl;
  }

  pub stream_is : (from : ℕ) (blocks : List PlacedBlock) (waits : Awaiting) (heard : Heard) → ArePlacedFrom from blocks
      → IsStreamRead reg waits heard blocks (stream_at reg waits heard blocks)
  unfolding stream_at SpellsStream along_blocks joined
  stream_is from [] waits heard are = record { messages = []; joins = refl; spelled = (spell_blocks-nil, refl) }
  stream_is from (b ∷ blocks) waits heard are =
      let read = body_at reg waits b.count heard b.body in
      let behind = others_placed from b blocks are in
      stream_is_with from b blocks waits heard (λ ms between. stream_at reg (λ ns. waits (ms ++ ns)) between blocks) read read.fault (first_placed from b blocks are)
      (body_is reg sound b.count waits heard b.body)
      (λ ms between. stream_is (from + length (spell_block b.count b.body)) blocks (λ ns. waits (ms ++ ns)) between behind)

  -- ---- what is so is read

  -- what is read where a block is read with no fault
  block_read : (b : PlacedBlock) (blocks : List PlacedBlock) (waits : Awaiting) (heard between : Heard) (ms : List Message)
      → length ms ≡ b.count → SpellsBody reg (along waits ms) b.body heard ms between
      → stream_at reg waits heard (b ∷ blocks) ≡ with_block ms (stream_at reg (λ ns. waits (ms ++ ns)) between blocks)
  unfolding stream_at
  block_read b blocks waits heard between ms count spelled =
      ap (stream_of (λ ms between. stream_at reg (λ ns. waits (ms ++ ns)) between blocks) b.place)
      ((whole_reads reg sound waits b.count heard between b.body ms).1 (count, spelled))

  -- the first block of what a stream spells
  pub record FirstBlock (b : PlacedBlock) (behind : List ℕ) (waits : Awaiting) (heard t : Heard) (ms : List Message) (mss : List (List Message)) : Type 0 where
    pub between : Heard
    pub count : length ms ≡ b.count
    pub spelled : SpellsBody reg (along waits ms) b.body heard ms between
    pub others : SpellsStream reg (along_blocks (λ ns. waits (ms ++ ns)) mss) behind between mss t

  first_block : (from : ℕ) (b : PlacedBlock) (blocks : List PlacedBlock) (behind : List ℕ) (waits : Awaiting) (heard t : Heard) (ms : List Message) (mss : List (List Message))
      → IsBlockAt from b → SpellsStream reg (along_blocks waits (ms ∷ mss)) (spell_blocks (b ∷ blocks) ++ behind) heard (ms ∷ mss) t
      → FirstBlock b (spell_blocks blocks ++ behind) waits heard t ms mss
  unfolding SpellsStream along_blocks
  first_block from b blocks behind waits heard t ms mss at (body, rest, between, is, block, spelled, others) =
      let whole : spell_blocks (b ∷ blocks) ++ behind ≡ spell_block b.count b.body ++ (spell_blocks blocks ++ behind)
      = ap (λ z. z ++ behind) (spell_blocks-cons b blocks) ∙ append_assoc (spell_block b.count b.body) (spell_blocks blocks) behind in
      let own : IsBlock b.count b.body = record { count_fits = at.count_fits; size_fits = omega (arith, at.size_fits) } in
      let front = spell_block-front (length ms) b.count body b.body rest (spell_blocks blocks ++ behind) (fits block) own (sym is ∙ whole) in
      record {
        between = between;
        count = front.0;
        spelled = subst (λ z. SpellsBody reg (along waits ms) z heard ms between) front.1 spelled;
        others = subst (λ z. SpellsStream reg (along_blocks (λ ns. waits (ms ++ ns)) mss) z between mss t) front.2 others;
      }

  -- a block is no stream of no block
  not_empty : (from : ℕ) (b : PlacedBlock) (blocks : List PlacedBlock) (behind : List ℕ) (waits : Awaiting) (heard t : Heard)
      → SpellsStream reg (along_blocks waits []) (spell_blocks (b ∷ blocks) ++ behind) heard [] t → ⊥
  unfolding SpellsStream along_blocks
  not_empty from b blocks behind waits heard t spelled =
      no_block_in b.count b.body (spell_blocks blocks ++ behind)
      (sym spelled.0 ∙ ap (λ z. z ++ behind) (spell_blocks-cons b blocks) ∙ append_assoc (spell_block b.count b.body) (spell_blocks blocks) behind)

  -- the messages of some blocks are read before what is read behind them
  blocks_read : (from : ℕ) (before after : List PlacedBlock) (waits : Awaiting) (heard between : Heard) (mss : List (List Message)) → ArePlacedFrom from (before ++ after)
      → SpellsStream reg (along_blocks waits mss) (spell_blocks before) heard mss between
      → stream_at reg waits heard (before ++ after) ≡ with_block (joined mss) (stream_at reg (λ ns. waits (joined mss ++ ns)) between after)
  unfolding SpellsStream along_blocks joined
  blocks_read from [] after waits heard between [] are spelled = ap (λ h. stream_at reg waits h after) (sym spelled.1)
  blocks_read from [] after waits heard between (ms ∷ mss) are (body, rest, next, is, block, spelled, others) = absurd (no_block_in (length ms) body rest (sym spell_blocks-nil ∙ is))
  blocks_read from (b ∷ before) after waits heard between [] are spelled =
      absurd (no_block_in b.count b.body (spell_blocks before) (sym spelled.0 ∙ spell_blocks-cons b before))
  blocks_read from (b ∷ before) after waits heard between (ms ∷ mss) are spelled =
      let whole = subst (λ z. SpellsStream reg (along_blocks waits (ms ∷ mss)) z heard (ms ∷ mss) between) (sym (append-nil (spell_blocks (b ∷ before)))) spelled in
      let first = first_block from b before [] waits heard between ms mss (first_placed from b (before ++ after) are) whole in
      let others = subst (λ z. SpellsStream reg (along_blocks (λ ns. waits (ms ++ ns)) mss) z first.between mss between) (append-nil (spell_blocks before)) first.others in
      let behind = blocks_read (from + length (spell_block b.count b.body)) before after (λ ns. waits (ms ++ ns)) first.between between mss
      (others_placed from b (before ++ after) are) others in
      block_read b (before ++ after) waits heard first.between ms first.count first.spelled ∙ ap (with_block ms) behind
      ∙ ap (λ w. with_block ms (with_block (joined mss) (stream_at reg w between after))) (waits_behind waits ms (joined mss))
      ∙ ap (λ ns. more ns (stream_at reg (λ ns. waits ((ms ++ joined mss) ++ ns)) between after)) (sym (append_assoc ms (joined mss) _))
    where
      more : List Message → StreamRead → StreamRead
      more ns others = record { messages = ns; heard = others.heard; fault = others.fault }

  pub is_read : (from : ℕ) (blocks : List PlacedBlock) (waits : Awaiting) (heard : Heard) (read : StreamRead) (fault : Option StreamFault) → ArePlacedFrom from blocks → read.fault ≡ fault
      → IsReadUpTo reg waits heard blocks read fault → stream_at reg waits heard blocks ≡ read
  unfolding stream_at
  is_read from blocks waits heard read None are has is =
      let all = subst (ArePlacedFrom from) (sym (append-nil blocks)) are in
      ap (stream_at reg waits heard) (sym (append-nil blocks)) ∙ blocks_read from blocks [] waits heard read.heard is.messages all is.spelled
      ∙ ap (λ ns. record_of ns None) (append-nil (joined is.messages) ∙ sym is.joins) ∙ ap (record_of read.messages) (sym has)
    where
      record_of : List Message → Option StreamFault → StreamRead
      record_of ns fault = record { messages = ns; heard = read.heard; fault = fault }
  is_read from blocks waits heard read (Some fault) are has is =
      let all = subst (ArePlacedFrom from) is.splits are in
      let w : Awaiting = λ ms. waits (joined is.messages ++ ms) in
      let last : BodyRead = record { messages = is.last; heard = read.heard; fault = Some is.within } in
      let broken = (body_reads reg sound w is.broken.count is.between is.broken.body last).1 is.breaks in
      ap (stream_at reg waits heard) is.splits ∙ blocks_read from is.before (is.broken ∷ is.after) waits heard is.between is.messages all is.spelled
      ∙ ap (λ r. with_block (joined is.messages) (stream_of (λ ms between. stream_at reg (λ ns. w (ms ++ ns)) between is.after) is.broken.place r)) broken
      ∙ ap (λ ns. record_of ns (Some (placed is.broken.place is.within))) (sym is.joins)
      ∙ ap (record_of read.messages) (ap Some (sym is.at) ∙ sym has)
    where
      record_of : List Message → Option StreamFault → StreamRead
      record_of ns fault = record { messages = ns; heard = read.heard; fault = fault }

  -- ---- the laws

  pub stream_reads : (s rest : List ℕ) (blocks : List PlacedBlock) (waits : Awaiting) (heard : Heard) (read : StreamRead) → AreBlocksAnd s blocks rest
      → (stream_at reg waits heard blocks ≡ read) ↔ IsStreamRead reg waits heard blocks read
  stream_reads s rest blocks waits heard read are =
      let from = from_start s blocks rest are in (
        λ same. subst (IsStreamRead reg waits heard blocks) same (stream_is 0 blocks waits heard from),
        λ is. is_read 0 blocks waits heard read read.fault from refl is,
      )

  -- bytes behind blocks with a fault spell no stream
  never : (from : ℕ) (blocks : List PlacedBlock) (behind : List ℕ) (waits : Awaiting) (heard t : Heard) (mss : List (List Message)) (fault : StreamFault) → ArePlacedFrom from blocks
      → (stream_at reg waits heard blocks).fault ≡ Some fault → SpellsStream reg (along_blocks waits mss) (spell_blocks blocks ++ behind) heard mss t → ⊥
  unfolding stream_at
  never from [] behind waits heard t mss fault are has spelled = none_some has
  never from (b ∷ blocks) behind waits heard t [] fault are has spelled = not_empty from b blocks behind waits heard t spelled
  never from (b ∷ blocks) behind waits heard t (ms ∷ mss) fault are has spelled =
      let first = first_block from b blocks behind waits heard t ms mss (first_placed from b blocks are) spelled in
      let read = block_read b blocks waits heard first.between ms first.count first.spelled in
      never (from + length (spell_block b.count b.body)) blocks behind (λ ns. waits (ms ++ ns)) first.between t mss fault (others_placed from b blocks are)
      (sym (ap (λ (r : StreamRead). r.fault) read) ∙ has) first.others

  pub never_mended : (s rest more : List ℕ) (blocks : List PlacedBlock) (waits : Awaiting) (heard t : Heard) (mss : List (List Message)) (fault : StreamFault) → AreBlocksAnd s blocks rest
      → (stream_at reg waits heard blocks).fault ≡ Some fault → ¬ SpellsStream reg (along_blocks waits mss) (s ++ more) heard mss t
  never_mended s rest more blocks waits heard t mss fault are has spelled =
      let whole : s ++ more ≡ spell_blocks blocks ++ (rest ++ more) = ap (λ z. z ++ more) are.whole ∙ append_assoc (spell_blocks blocks) rest more in
      never 0 blocks (rest ++ more) waits heard t mss fault (from_start s blocks rest are) has
      (subst (λ z. SpellsStream reg (along_blocks waits mss) z heard mss t) whole spelled)
