use Rattle.std.proofs.Common.{sym, ap, ◌∙◌, arith}
use Rattle.idl_trees.specs.Tokens.{tokens_of}
use Rattle.idl_lex.proofs.LexingLemmas.{lexing_starts, lexing_refused, found_shorter, lexing_found, lexing_over}
use Rattle.idl_lex.proofs.lexer.tokens.Goals as goal

pub loop-left-init : goal.loop-left-init
loop-left-init c =
    lexing_starts c.args.file c.args.text.now c.behind_line_start-left.result.now (tokens_of c.in_ok-tokens.tokens.items) (ap tokens_of c.in_ok-tokens.ensures)
    c.behind_line_start-left.ensures

pub returns-in_default-clause-refused : goal.returns-in_default-clause-refused
returns-in_default-clause-refused c =
    lexing_refused c.args.file c.args.text.now c.loop-left.left.now (tokens_of c.loop-left.tokens.items) c.in_ok-found.found c.refusal.result c.requires.short c.requires.utf8
    c.loop-left.invariant (sym c.is_empty.ensures ∙ c.loop-left-test.true) c.in_ok-found.ensures c.in_default.is c.refusal.ensures

pub overflow_sub-length : goal.overflow_sub-length
overflow_sub-length c =
    let less = found_shorter c.loop-left.left.now c.in_ok-found.found c.in-Some.field-0 c.in_ok-found.ensures c.in-Some.is in
    omega (arith, less)

pub loop-left-smaller : goal.loop-left-smaller
loop-left-smaller c = found_shorter c.loop-left.left.now c.in_ok-found.found c.in-Some.field-0 c.in_ok-found.ensures c.in-Some.is

pub loop-left-preserved : goal.loop-left-preserved
loop-left-preserved c =
    lexing_found c.args.file c.args.text.now c.loop-left.left.now (tokens_of c.loop-left.tokens.items) (tokens_of c.add_word.new.tokens.items) c.in_ok-found.found c.in-Some.field-0
    c.loop-left.invariant c.in_ok-found.ensures c.in-Some.is c.in_ok-add_word.ensures

pub returns-clause-tokens : goal.returns-clause-tokens
returns-clause-tokens c =
    lexing_over c.args.file c.args.text.now c.loop-left.left.now (tokens_of c.loop-left.tokens.items) c.requires.short c.requires.utf8 c.loop-left.invariant
    (sym c.is_empty.ensures ∙ c.loop-left-test.false)
