use Rattle.std.proofs.Common.{ap}
use Rattle.urp_message.specs.Messages.{answer_of, message_of}
use Rattle.bridge_tables.proofs.CountLemmas.{release_counted, reply_counted}
use Rattle.bridge_tables.proofs.counting.count_message.Goals as goal

pub returns-in-Release-clause-counted : goal.returns-in-Release-clause-counted
returns-in-Release-clause-counted c =
    release_counted c.args.registry.now (message_of c.args.message.now) c.in-Release.tid c.in-Release.oid c.in-Release.face c.args.objects.now (ap message_of c.in-Release.is)

pub returns-then-is_simple_answer-clause-counted : goal.returns-then-is_simple_answer-clause-counted
returns-then-is_simple_answer-clause-counted c =
    reply_counted c.args.registry.now (message_of c.args.message.now) c.in-Reply.tid c.in-Reply.face c.in-Reply.function (answer_of c.in-Reply.answer) c.args.objects.now (ap message_of c.in-Reply.is)
    (c.is_simple_answer.ensures c.if-is_simple_answer.true c.args.registry.now)
