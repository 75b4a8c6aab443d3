use Rattle.registry_reading.proofs.HeadLemmas.{stays_on, marked_on}
use Rattle.registry_reading.proofs.heads.Heads.with_line.Goals as goal

pub returns-then-not-is_item_beyond : goal.returns-then-not-is_item_beyond
returns-then-not-is_item_beyond c = stays_on _ _ _ c.is_item_beyond.ensures c.if-not-is_item_beyond.true

pub returns : goal.returns
returns c = marked_on c.args.self _ _ _ _ c.self.view_is c.is_item_beyond.ensures c.if-not-is_item_beyond.false c.in_ok-heads.ensures.heads
