use Rattle.bridge_laws.proofs.FeedingLaws.{feeding_keeps, end_keeps}
use Rattle.bridge_laws.proofs.WorkingOrderLaws.{full_keeps}
use Rattle.bridge_laws.proofs.working_laws.what_is_fed_keeps_the_order.Goals as goal

pub returns-clause-feeds : goal.returns-clause-feeds
returns-clause-feeds c = feeding_keeps

pub returns-clause-fills : goal.returns-clause-fills
returns-clause-fills c = full_keeps

pub returns-clause-ends : goal.returns-clause-ends
returns-clause-ends c = end_keeps
