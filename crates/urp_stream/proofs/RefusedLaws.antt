-- A header is refused where its eighth byte comes, and for what its eight bytes say.
use Rattle.std.proofs.Common.{◌≡◌, ℕ, ◌-◌, ◌<◌, ◌≤◌, inl, inr, List, [], ◌++◌, length, take, drop, sym, ap, subst, ◌∙◌, append_assoc, arith}
use Rattle.std.proofs.Common.{length-append, take-append-drop}
use Rattle.std.proofs.lemmas.Bool.{cases_lt}
use Rattle.std.proofs.lemmas.List.{length-take}
use Rattle.urp_model.specs.PlacedBlocks.{PlacedBlock, AreBlocksAnd}
use Rattle.urp_stream.specs.Headers.{HasNoBadHeader}
use Rattle.urp_stream.specs.Standing.{StandsAs, BeginsBad, IsRefusedAt}
use Rattle.urp_stream.specs.Streams.{Stream, AreParts}
use Rattle.urp_stream.proofs.CutLaws.{not_bad, bad_stays}
use Rattle.urp_stream.proofs.FeedLaws.{whole_is, parts_stream}
use Rattle.urp_stream.proofs.HeaderLaws.{said_apart, none_apart}

-- eight bytes are there where a header is bad
pub bad_long : (s : List ℕ) → BeginsBad s → 8 ≤ length s
bad_long s (inl large) = large.1.header
bad_long s (inr none) = none.header

-- what stands behind eight bytes makes no header bad
bad_front : (s more : List ℕ) → 8 ≤ length s → BeginsBad (s ++ more) → BeginsBad s
bad_front s more long (inl large) = inl (large.0, (said_apart s more large.0 long).1 large.1)
bad_front s more long (inr none) = inr ((none_apart s more long).1 none)

-- the eighth byte is in the piece
eighth_comes : (held piece : List ℕ) → HasNoBadHeader held → BeginsBad (held ++ piece) → length held < 8
eighth_comes held piece good bad = elim (cases_lt (length held) 8) [
  | inl short ↦ short
  | inr long ↦ absurd (not_bad held good (bad_front held piece long bad))
]

pub refused_at : (held piece : List ℕ) → HasNoBadHeader held → BeginsBad (held ++ piece) → IsRefusedAt held piece (8 - length held)
refused_at held piece good bad =
    let short = eighth_comes held piece good bad in
    let n = 8 - length held in
    let within : n ≤ length piece = omega (arith, bad_long (held ++ piece) bad, length-append held piece) in
    let parts : held ++ piece ≡ (held ++ take n piece) ++ drop n piece
    = ap (λ z. held ++ z) (sym (take-append-drop n piece)) ∙ sym (append_assoc held (take n piece) (drop n piece)) in
    let whole : 8 ≤ length (held ++ take n piece) = omega (arith, length-append held (take n piece), length-take n piece) in
    record {
      within = within;
      eighth = omega arith;
      bad = bad_front (held ++ take n piece) (drop n piece) whole (subst BeginsBad parts bad);
      least = λ m below early. omega (arith, bad_long (held ++ take m piece) early, length-append held (take m piece), length-take m piece);
    }

-- and it is refused wherever that byte is in
pub refused_whole : (held piece : List ℕ) (n : ℕ) → IsRefusedAt held piece n → BeginsBad (held ++ piece)
refused_whole held piece n is =
    let parts : (held ++ take n piece) ++ drop n piece ≡ held ++ piece
    = append_assoc held (take n piece) (drop n piece) ∙ ap (λ z. held ++ z) (take-append-drop n piece) in
    subst BeginsBad parts (bad_stays (held ++ take n piece) (drop n piece) is.bad)

-- so it is where a stream is parts that are such
pub fed_refused_at : {old : Stream} {header body : List ℕ} (place : ℕ) (piece : List ℕ) → record { place = place; held = header ++ body } ≡ old → AreParts place header body
    → BeginsBad (old.held ++ piece) → IsRefusedAt old.held piece (8 - length old.held)
fed_refused_at {old} {header} {body} place piece view parts bad =
    refused_at old.held piece (subst (λ (s : Stream). HasNoBadHeader s.held) view (parts_stream place header body parts).header) bad

-- blocks with nothing behind them stand as they are
pub alone_stand : (s : List ℕ) (blocks : List PlacedBlock) → AreBlocksAnd s blocks [] → StandsAs s blocks []
alone_stand s blocks are = record {
  blocks_first = are;
  no_block = λ whole. let long = (whole_is []).0 whole in omega arith;
  header = record { size = λ (long : 8 ≤ 0). let bad : ⊥ = omega arith in absurd bad; count = λ (long : 8 ≤ 0). let bad : ⊥ = omega arith in absurd bad };
}
