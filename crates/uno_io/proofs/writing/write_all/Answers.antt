use Rattle.std.proofs.Common.{◌∙◌}
use Rattle.uno_io.proofs.Pieces.{one_more}
use Rattle.uno_io.proofs.writing.write_all.Goals as goal

-- the piece that the sink took joins what it had taken
pub loop-rest-preserved : goal.loop-rest-preserved
loop-rest-preserved g c =
    let old = g.S.Sink.taken c.args.sink.now in
    let new = g.S.Sink.taken c.write.new.self in
    let before = c.loop-rest.invariant in
    let after = c.in_ok-taken.ensures in
    record {
      taken = rw c.split_at.ensures.back (one_more old _ new _ _ c.in_ok-taken.taken before.taken after.bytes);
      faults = after.cause.kept ∙ before.faults;
      stays = after.stays ∙ before.stays;
    }
