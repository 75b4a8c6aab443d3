use Rattle.std.proofs.Common.{rules}
use Rattle.bridge_endpoint.specs.Journals.{side_at}
use Rattle.bridge_core.proofs.AskLemmas.{stands_there}
use Rattle.bridge_core.proofs.MadeLemmas.{is_made}
use Rattle.bridge_core.proofs.making.make.Goals as goal

pub made-requires-clause-made : goal.made-requires-clause-made
made-requires-clause-made c =
    is_made (side_at c.args.end.now) c.make-answer.result (stands_there (side_at c.args.end.now).cause c.end.result c.end.ensures (search rules)) c.make-answer.ensures.answer
