use Rattle.std.proofs.Common.{rules}
use Rattle.urp_message.proofs.listener.reply.thread_of_reply.Goals as goal

pub returns-clause-kind : goal.returns-clause-kind
returns-clause-kind c = search rules
