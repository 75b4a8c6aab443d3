use Rattle.world_laws.proofs.FeedLaws.{whole_feed_a, whole_feed_b}
use Rattle.world_laws.proofs.keeping_laws.no_piece_on_its_way_breaks_a_bridge.Goals as goal

pub returns-clause-a : goal.returns-clause-a
returns-clause-a c = whole_feed_a

pub returns-clause-b : goal.returns-clause-b
returns-clause-b c = whole_feed_b
