use Rattle.registry_reading.proofs.HeadLemmas.{header_on}
use Rattle.registry_reading.proofs.heads.Heads.with_header.Goals as goal

pub returns : goal.returns
returns c = header_on c.args.self _ _ _ _ _ _ c.self.view_is c.in_ok-heads.ensures.heads c.head.ensures c.text_or_empty.ensures
