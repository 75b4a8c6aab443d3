use Rattle.std.proofs.Common.{ap}
use Rattle.idl_compile.proofs.Telling.{handed_on, is_read, lex_told, parse_refused}
use Rattle.idl_compile.specs.Errors.{of_lex, of_parse}
use Rattle.idl_compiled_model.specs.Compiling.{IsUnread}
use Rattle.idl_trees.specs.Tokens.{tokens_of}
use Rattle.idl_trees.specs.Trees as plain
use Rattle.idl_compile.proofs.reading.tree_of.Goals as goal

pub returns-clause-read : goal.returns-clause-read
returns-clause-read c =
    is_read c.args.number c.args.text.now (tokens_of c.in_ok-tokens.tokens.items) (tokens_of c.as_slice.result.now) (plain.tree_of c.in_ok-tree.tree) c.in_ok-tokens.ensures.tokens (ap tokens_of c.as_slice.ensures.value)
    c.in_ok-tree.ensures.parsed

pub returns-in_err-tokens-clause-refused : goal.returns-in_err-tokens-clause-refused
returns-in_err-tokens-clause-refused c =
    let e = c.in_err-tokens.field-0.0 in
    handed_on c.from_residual.result (IsUnread c.args.number c.args.text.now) (of_lex e) c.from_residual.ensures (lex_told c.args.number c.args.text.now e c.in_err-tokens.ensures.refused)

pub returns-in_err-tree-clause-refused : goal.returns-in_err-tree-clause-refused
returns-in_err-tree-clause-refused c =
    let e = c.in_err-tree.field-0.0 in
    handed_on c.from_residual-in_err-tree.result (IsUnread c.args.number c.args.text.now) (of_parse e) c.from_residual-in_err-tree.ensures
    (parse_refused c.args.number c.args.text.now (tokens_of c.in_ok-tokens.tokens.items) (tokens_of c.as_slice.result.now) e c.in_ok-tokens.ensures.tokens (ap tokens_of c.as_slice.ensures.value) c.in_err-tree.ensures.parsed)
