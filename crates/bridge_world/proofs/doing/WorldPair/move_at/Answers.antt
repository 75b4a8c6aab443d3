use Rattle.bridge_world.specs.Playing.{progress_of}
use Rattle.bridge_world.proofs.MovedLaws.{moved_ok, stand_for_both, stand_for_ends}
use Rattle.bridge_world.proofs.doing.WorldPair.move_at.Goals as goal

pub do_nth-moved-requires-clause-stands : goal.do_nth-moved-requires-clause-stands
do_nth-moved-requires-clause-stands c = stand_for_ends c.args.self.now c.know_history.ensures (progress_of c.args.runs.now) c.requires.stands

pub returns-clause-moves : goal.returns-clause-moves
returns-clause-moves c =
    moved_ok c.args.self.now c.do_nth-moved.new.self c.know_history.ensures c.know_history-2.ensures c.args.cut c.args.nth (progress_of c.args.runs.now) (progress_of c.do_nth-moved.new.runs)
    c.do_nth-moved.result c.requires.there c.do_nth-moved.ensures.moves

pub returns-clause-stands : goal.returns-clause-stands
returns-clause-stands c = stand_for_both c.do_nth-moved.new.self c.know_history-2.ensures (progress_of c.do_nth-moved.new.runs) c.do_nth-moved.ensures.stands
