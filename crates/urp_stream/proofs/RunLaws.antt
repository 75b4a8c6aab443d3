-- What calls gave and what is held are the bytes that they took.
use Rattle.std.proofs.Common.{◌≡◌, ℕ, ◌+◌, ◌≤◌, inl, inr, List, [], ◌∷◌, ◌++◌, length, take, drop, refl, sym, ap, ◌∙◌, append-nil, append_assoc, arith}
use Rattle.std.proofs.Common.{length-append, take-append-drop}
use Rattle.urp_model.specs.Blocks.{spell_block, BeginsWhole}
use Rattle.urp_model.proofs.BlockLaws.{length-spell_block}
use Rattle.urp_model.specs.PlacedBlocks.{PlacedBlock, IsBlockAt, spell_blocks, AreBlocksAnd}
use Rattle.urp_stream.specs.Headers.{HasNoBadHeader}
use Rattle.urp_stream.specs.Runs.{Run, new, feed_took, feed_refused, next_block_gave, next_block_none}
use Rattle.urp_stream.specs.Standing.{StandsAs, BeginsBad, BreakBehindBlocks}
use Rattle.urp_stream.specs.Streams.{Stream, nothing_yet}
use Rattle.urp_stream.specs.Calls.{Took, Gave}
use Rattle.urp_stream.proofs.HeaderLaws.{good_front}
use Rattle.urp_model.proofs.PlacedBlockLaws.{spell_blocks-push, spell_blocks-nil, at_place, blocks_and_more}
use Rattle.urp_stream.proofs.StandingLaws.{cut_of_push, stands_as_one}

-- what holds after every call
pub record IsKept (s : List ℕ) (given : List PlacedBlock) (now : Stream) : Type 0 where
  pub blocks : AreBlocksAnd s given now.held
  pub place : now.place ≡ length (spell_blocks given)
  pub header : HasNoBadHeader now.held

-- nothing came
kept_new : IsKept [] [] nothing_yet
kept_new = record {
  blocks = record { whole = rw spell_blocks-nil refl; placed = λ before b after e. let bad : ⊥ = omega (arith, ap length e, length-append before (b ∷ after)) in absurd bad };
  place = rw spell_blocks-nil refl;
  header = record { size = λ (long : 8 ≤ 0). let bad : ⊥ = omega arith in absurd bad; count = λ (long : 8 ≤ 0). let bad : ⊥ = omega arith in absurd bad };
}

-- bytes were taken
kept_took : (s piece : List ℕ) (given : List PlacedBlock) (old : Stream) (n : ℕ) → IsKept s given old → Took old piece n (record { place = old.place; held = old.held ++ take n piece })
    → IsKept (s ++ take n piece) given (record { place = old.place; held = old.held ++ take n piece })
kept_took s piece given old n kept took = record {
  blocks = record { whole = ap (λ x. x ++ take n piece) kept.blocks.whole ∙ append_assoc (spell_blocks given) old.held (take n piece); placed = kept.blocks.placed };
  place = kept.place;
  header = good_front (old.held ++ take n piece) (drop n piece) (rw (append_assoc (old.held) (take n piece) (drop n piece), take-append-drop n piece) took.header);
}

-- each block stands where the ones before it end, and one more behind them
placed_push : (given : List PlacedBlock) (last : PlacedBlock)
    → ((before : List PlacedBlock) (b : PlacedBlock) (after : List PlacedBlock) → given ≡ before ++ b ∷ after → IsBlockAt (length (spell_blocks before)) b)
    → IsBlockAt (length (spell_blocks given)) last
    → (before : List PlacedBlock) (b : PlacedBlock) (after : List PlacedBlock) → given ++ last ∷ [] ≡ before ++ b ∷ after → IsBlockAt (length (spell_blocks before)) b
placed_push given last placed is before b after e = elim (cut_of_push given before after last b e)
    [ inl p ↦ rw (← p.0, ← p.1) is | inr p ↦ placed before b p.0 p.1 ]

-- a block was given
kept_gave : (s : List ℕ) (given : List PlacedBlock) (old : Stream) (b : PlacedBlock) → IsKept s given old → Gave old b (record { place = old.place + 8 + length b.body; held = [] })
    → IsKept s (given ++ b ∷ []) (record { place = old.place + 8 + length b.body; held = [] })
kept_gave s given old b kept gave = record {
  blocks = record {
    whole = kept.blocks.whole ∙ ap (λ x. spell_blocks given ++ x) gave.held ∙ sym (append-nil (spell_blocks (given ++ b ∷ [])) ∙ spell_blocks-push given b);
    placed = placed_push given b kept.blocks.placed (at_place old.place (length (spell_blocks given)) b kept.place gave.block);
  };
  place = rw (spell_blocks-push given b) (omega (arith, kept.place, length-append (spell_blocks given) (spell_block b.count b.body), length-spell_block b.count b.body));
  header = kept_new.header;
}

-- a run keeps this
pub run_keeps : {s : List ℕ} {given : List PlacedBlock} {now : Stream} → Run s given now → IsKept s given now
run_keeps new = kept_new
run_keeps (feed_took {bytes} {given} {old} {now} piece n run free took) = rw took.now (kept_took bytes piece given old n (run_keeps run) (rw took.now at took))
run_keeps (feed_refused run same) = rw same (run_keeps run)
run_keeps (next_block_gave {bytes} {given} {old} {now} b run gave) = rw gave.now (kept_gave bytes given old b (run_keeps run) (rw gave.now at gave))
run_keeps (next_block_none run free same) = rw same (run_keeps run)

-- so bytes stand as what a run gave where it holds no whole block
pub run_stands : (s : List ℕ) (given : List PlacedBlock) (now : Stream) → Run s given now → ¬ BeginsWhole now.held → StandsAs s given now.held
run_stands s given now run free = let kept = run_keeps run in record { blocks_first = kept.blocks; no_block = free; header = kept.header }

-- two streams are one where their parts are
same_stream : (x y : Stream) → x.place ≡ y.place → x.held ≡ y.held → x ≡ y
same_stream x y p q = ap (λ n. stream n x.held) p ∙ ap (stream y.place) q
  where
    stream : ℕ → List ℕ → Stream
    stream place held = record { place = place; held = held }

-- and two runs over the same bytes agree
pub runs_agree : (s : List ℕ) (given others : List PlacedBlock) (now other : Stream) → Run s given now → Run s others other → ¬ BeginsWhole now.held
    → ¬ BeginsWhole other.held → (given ≡ others) × (now ≡ other)
runs_agree s given others now other p q v w =
    let same = stands_as_one s given others now.held other.held (run_stands s given now p v) (run_stands s others other q w) in
    (same.0, same_stream now other ((run_keeps p).place ∙ ap (λ x. length (spell_blocks x)) same.0 ∙ sym (run_keeps q).place) same.1)

-- a piece that completes a bad header makes bytes that break
pub run_breaks : (s piece : List ℕ) (given : List PlacedBlock) (now : Stream) → Run s given now → BeginsBad (now.held ++ piece) → BreakBehindBlocks (s ++ piece)
run_breaks s piece given now run bad = record { blocks = given; rest = now.held ++ piece; blocks_first = blocks_and_more s piece given now.held (run_keeps run).blocks; bad = bad }
