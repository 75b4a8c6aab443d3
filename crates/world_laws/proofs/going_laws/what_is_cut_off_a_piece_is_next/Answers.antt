use Rattle.world_laws.proofs.FeedLaws.{next_front, taken_is_cut}
use Rattle.world_laws.proofs.going_laws.what_is_cut_off_a_piece_is_next.Goals as goal

pub returns-clause-answered : goal.returns-clause-answered
returns-clause-answered c = taken_is_cut

pub returns-clause-next : goal.returns-clause-next
returns-clause-next c = next_front
