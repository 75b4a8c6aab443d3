-- Blocks are cut off bytes until none is whole or a header is bad, and it is one of the two.
use Rattle.std.proofs.Common.{◌≡◌, ℕ, zero, suc, ◌+◌, ◌≤◌, ◌⊎◌, inl, inr, List, [], ◌∷◌, ◌++◌, length, refl, sym, ap, ◌∙◌, append_assoc, arith, length-append}
use Rattle.std.proofs.lemmas.Bool.{cases_lt}
use Rattle.std.proofs.lemmas.List.{get_or-append-add}
use Rattle.std.proofs.lemmas.Nat.{from_be_bytes-to_be_bytes_4}
use Rattle.urp_model.specs.Blocks.{spell_block, IsBlock, BeginsWhole, BeginsWithBlock, AreBytes}
use Rattle.urp_model.proofs.BlockLaws.{whole_block, size_of-spell_block, length-spell_block}
use Rattle.urp_model.specs.PlacedBlocks.{largest_size, PlacedBlock, IsBlockAt, spell_blocks, AreBlocksAnd}
use Rattle.urp_stream.specs.Headers.{size_said, count_said, HasNoBadHeader}
use Rattle.urp_stream.specs.Standing.{StandsAs, BeginsBad, StandAsBlocks, BreakBehindBlocks}
use Rattle.urp_stream.proofs.FeedLaws.{whole_is}
use Rattle.urp_model.proofs.PlacedBlockLaws.{block, spell_blocks-nil, spell_blocks-cons, ArePlacedFrom, placed_cons, at_place, blocks_and_more}
use Rattle.urp_stream.proofs.StandingLaws.{blocks_more}
use Rattle.urp_stream.proofs.HeaderLaws.{said_apart, none_apart, none_too_large, some_messages}

-- what bytes are from a place on
record Cut (from : ℕ) (s : List ℕ) : Type 0 where
  blocks : List PlacedBlock
  rest : List ℕ
  whole : s ≡ spell_blocks blocks ++ rest
  placed : ArePlacedFrom from blocks
  end : ((¬ BeginsWhole rest) × HasNoBadHeader rest) ⊎ BeginsBad rest

-- a header is bad, or none that is there is
judged : (s : List ℕ) → BeginsBad s ⊎ HasNoBadHeader s
judged s = elim (cases_lt (length s) 8) [
  | inl short ↦ inr (record { size = λ long. absurd (omega (arith, short)); count = λ long. absurd (omega (arith, short)) })
  | inr long ↦ elim (cases_lt largest_size (size_said s)) [
    | inl large ↦ inl (inl (size_said s, record { header = long; size_is = refl; above = large }))
    | inr small ↦ elim (cases_lt 0 (count_said s)) [
      | inl some ↦ inr (record { size = λ _. small; count = λ _. some })
      | inr none ↦ inl (inr (record { header = long; within = small; none = omega arith }))
    ]
  ]
]

-- no block is cut off
none_cut : (from : ℕ) (s : List ℕ) → ((¬ BeginsWhole s) × HasNoBadHeader s) ⊎ BeginsBad s → Cut from s
none_cut from s end = record {
  blocks = [];
  rest = s;
  whole = rw spell_blocks-nil refl;
  placed = λ before b after e. let bad : ⊥ = omega (arith, ap length e, length-append before (b ∷ after)) in absurd bad;
  end = end;
}

-- a block says its size and its count
size_of-block : (s rest body : List ℕ) (count : ℕ) → s ≡ spell_block count body ++ rest → IsBlock count body → size_said s ≡ length body
unfolding size_said
size_of-block s rest body count e is = rw e (size_of-spell_block count body rest is.size_fits)

count_of-block : (s rest body : List ℕ) (count : ℕ) → s ≡ spell_block count body ++ rest → IsBlock count body → count_said s ≡ count
unfolding count_said spell_block
count_of-block s rest body count e is = rw e (from_be_bytes-to_be_bytes_4 count is.count_fits)

-- what stands behind bytes of bytes are bytes
AreBytes-behind : (t u s : List ℕ) → s ≡ t ++ u → AreBytes s → AreBytes u
AreBytes-behind t u s e bytes i = let at_i = bytes (length t + i) in rw (e, get_or-append-add t u i 0) at at_i

-- a block is cut off
one_cut : (from : ℕ) (s : List ℕ) (b : BeginsWithBlock s) → HasNoBadHeader s → 8 ≤ length s → Cut (from + length (spell_block b.count b.body)) b.rest → Cut from s
one_cut from s b good long cut =
    let first = block from b.count b.body in
    let is : IsBlockAt from first = record {
      place_is = refl;
      some = omega (arith, good.count long, count_of-block s b.rest b.body b.count b.spelled b.fits);
      count_fits = b.fits.count_fits;
      size_fits = omega (arith, good.size long, size_of-block s b.rest b.body b.count b.spelled b.fits);
    } in
    record {
      blocks = first ∷ cut.blocks;
      rest = cut.rest;
      whole = b.spelled ∙ ap (λ x. spell_block b.count b.body ++ x) cut.whole ∙ sym (append_assoc (spell_block b.count b.body) (spell_blocks cut.blocks) cut.rest) ∙ ap (λ x. x ++ cut.rest) (sym (spell_blocks-cons first cut.blocks));
      placed = placed_cons from first cut.blocks is cut.placed;
      end = cut.end;
    }

-- blocks are cut off, of which each has a byte or more
cut_of : (n from : ℕ) (s : List ℕ) → length s ≤ n → AreBytes s → Cut from s
cut_of zero from s short bytes = none_cut from s (inl ((λ w. let long = (whole_is s).0 w in omega arith), record { size = λ long. absurd (omega (arith, short)); count = λ long. absurd (omega (arith, short)) }))
cut_of (suc n) from s short bytes = elim (judged s) [
  | inl bad ↦ none_cut from s (inr bad)
  | inr good ↦ elim (cases_lt (length s) (8 + size_said s)) [
    | inl part ↦ none_cut from s (inl ((λ w. let long = (whole_is s).0 w in omega arith), good))
    | inr whole ↦
        let b = whole_block s bytes ((whole_is s).1 whole) in
        let lengths : length s ≡ length (spell_block b.count b.body) + length b.rest = ap length b.spelled ∙ length-append (spell_block b.count b.body) b.rest in
        one_cut from s b good (omega arith) (cut_of n (from + length (spell_block b.count b.body)) b.rest (omega (arith, length-spell_block b.count b.body)) (AreBytes-behind (spell_block b.count b.body) b.rest s b.spelled bytes))
  ]
]

-- bytes stand as blocks and a rest, or break
pub stands_or_breaks : (s : List ℕ) → AreBytes s → StandAsBlocks s ⊎ BreakBehindBlocks s
stands_or_breaks s bytes =
    let cut = cut_of (length s) 0 s (omega arith) bytes in
    let first : AreBlocksAnd s cut.blocks cut.rest = record { whole = cut.whole; placed = λ before b after e. at_place (0 + length (spell_blocks before)) (length (spell_blocks before)) b (omega arith) (cut.placed before b after e) } in
    elim cut.end [
      | inl whole ↦ inl (record { blocks = cut.blocks; rest = cut.rest; stands = record { blocks_first = first; no_block = whole.0; header = whole.1 } })
      | inr bad ↦ inr (record { blocks = cut.blocks; rest = cut.rest; blocks_first = first; bad = bad })
    ]

-- a good header is not bad
pub not_bad : (s : List ℕ) → HasNoBadHeader s → ¬ BeginsBad s
not_bad s good (inl large) = none_too_large s large.0 good large.1
not_bad s good (inr none) = some_messages s good none

-- what begins with a good block has a good header
good_block : (s rest : List ℕ) (place : ℕ) (b : PlacedBlock) → s ≡ spell_block b.count b.body ++ rest → IsBlockAt place b → HasNoBadHeader s
good_block s rest place b e is =
    let fits : IsBlock b.count b.body = record { count_fits = is.count_fits; size_fits = omega (arith, is.size_fits) } in
    record { size = λ _. rw (size_of-block s rest b.body b.count e fits) is.size_fits; count = λ _. rw (count_of-block s rest b.body b.count e fits) is.some }

-- a bad header is not the rest of bytes that stand as blocks
no_blocks_behind : (s : List ℕ) (blocks others behind : List PlacedBlock) (rest other : List ℕ) → StandsAs s others other → BeginsBad rest
    → others ≡ blocks ++ behind → rest ≡ spell_blocks behind ++ other → ⊥
no_blocks_behind s blocks others [] rest other q bad e r =
    let same : rest ≡ other = r ∙ ap (λ x. x ++ other) spell_blocks-nil in
    not_bad rest (rw same q.header) bad
no_blocks_behind s blocks others (b ∷ behind) rest other q bad e r =
    let same : rest ≡ spell_block b.count b.body ++ (spell_blocks behind ++ other) = r ∙ ap (λ x. x ++ other) (spell_blocks-cons b behind) ∙ append_assoc (spell_block b.count b.body) (spell_blocks behind) other in
    not_bad rest (good_block rest (spell_blocks behind ++ other) (length (spell_blocks blocks)) b same (q.blocks_first.placed blocks b behind e)) bad

-- bytes that break stand as no blocks
pub breaks_stand_as_none : (s : List ℕ) → BreakBehindBlocks s → ¬ StandAsBlocks s
breaks_stand_as_none s breaks stand =
    let more = blocks_more s breaks.blocks stand.blocks breaks.rest stand.rest breaks.blocks_first stand.stands.blocks_first stand.stands.no_block in
    no_blocks_behind s breaks.blocks stand.blocks more.0 breaks.rest stand.rest stand.stands breaks.bad more.1 more.2

-- a bad header stays one
pub bad_stays : (s more : List ℕ) → BeginsBad s → BeginsBad (s ++ more)
bad_stays s more (inl large) = inl (large.0, (said_apart s more large.0 large.1.header).0 large.1)
bad_stays s more (inr none) = inr ((none_apart s more none.header).0 none)

-- and so do bytes that break
pub breaks_stay : (s more : List ℕ) → BreakBehindBlocks s → BreakBehindBlocks (s ++ more)
breaks_stay s more breaks = record {
  blocks = breaks.blocks;
  rest = breaks.rest ++ more;
  blocks_first = blocks_and_more s more breaks.blocks breaks.rest breaks.blocks_first;
  bad = bad_stays breaks.rest more breaks.bad;
}
