use Rattle.std.proofs.Common.{map, option_map}
use Rattle.plan_types.specs.Expressions.{word_of}
use Rattle.plan_lines.specs.Lines.{declared_of}
use Rattle.plan_lines.specs.Terms.{term_of}
use Rattle.plan_lines.proofs.CallLemmas.{call_read, call_unread}
use Rattle.plan_lines.proofs.statements.call_of.Goals as goal

pub returns-in-Ok : goal.returns-in-Ok
returns-in-Ok c =
    call_read c.args.words.now (option_map declared_of c.args.to) (word_of c.args.target) c.args.bytes.now c.in-Ok.function (map term_of c.in-Ok.arguments.items) c.in-Ok.ensures

pub returns-in-Err : goal.returns-in-Err
returns-in-Err c =
    call_unread c.args.words.now (option_map declared_of c.args.to) (word_of c.args.target) c.args.bytes.now c.in-Err.unread c.in-Err.ensures
