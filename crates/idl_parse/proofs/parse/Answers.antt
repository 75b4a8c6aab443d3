use Rattle.std.proofs.Common.{sym}
use Rattle.idl_trees.specs.Tokens.{tokens_of}
use Rattle.idl_parse.proofs.Refusals.{fault_parsed, fault_read, stops, tree_parsed, tree_read}
use Rattle.idl_parse.proofs.parse.Goals as goal

pub returns-in-Ok-clause-parsed : goal.returns-in-Ok-clause-parsed
returns-in-Ok-clause-parsed c = rw (sym c.new-parser.ensures)
    (tree_parsed c.new-parser.result c.tree.new.self c.in-Ok.tree c.in-Ok.ensures.gives c.in-Ok.ensures.all)

pub returns-in-Ok-clause-read : goal.returns-in-Ok-clause-read
returns-in-Ok-clause-read c = rw (sym c.new-parser.ensures)
    (tree_read c.new-parser.result c.tree.new.self c.in-Ok.tree c.in-Ok.ensures.gives c.in-Ok.ensures.all)

pub returns-in-Err-At-clause-parsed : goal.returns-in-Err-At-clause-parsed
returns-in-Err-At-clause-parsed c =
    fault_parsed (tokens_of c.args.tokens.now) c.in-Err-At.fault c.refusal.result
    (stops c.new-parser.result (tokens_of c.args.tokens.now) c.in-Err-At.field-0 c.in-Err-At.fault c.new-parser.ensures c.in-Err-At.field-0-is
    c.in-Err-At.ensures.gives) c.refusal.ensures

pub returns-in-Err-At-clause-read : goal.returns-in-Err-At-clause-read
returns-in-Err-At-clause-read c =
    fault_read (tokens_of c.args.tokens.now) c.in-Err-At.fault c.refusal.result
    (stops c.new-parser.result (tokens_of c.args.tokens.now) c.in-Err-At.field-0 c.in-Err-At.fault c.new-parser.ensures c.in-Err-At.field-0-is
    c.in-Err-At.ensures.gives) c.refusal.ensures
