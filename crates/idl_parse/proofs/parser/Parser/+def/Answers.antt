use Rattle.std.proofs.Common.{◌≡◌, ◌<◌, true, false, codes, length}
use Rattle.grammar_model.specs.Readings.{next}
use Rattle.idl_model.specs.GrammarReading.{def, is_open}
use Rattle.idl_trees.specs.Trees.{def_of}
use Rattle.idl_parse.proofs.Loops.{starts_empty, one_more, ended, fails, handed_over}
use Rattle.idl_parse.proofs.parser.Parser.+def.Goals as goal

pub defs_within-loop-self-init : goal.defs_within-loop-self-init
defs_within-loop-self-init t c = starts_empty (is_open (codes "}")) (def 64 64 c.args.modules) def_of _ c.args.self.now c.in_ok-all.ensures.items

pub defs_within-loop-self-preserved : goal.defs_within-loop-self-preserved
defs_within-loop-self-preserved t c =
    let on : true ≡ is_open (codes "}") (next c.loop-self.self) = c.loop-self-test.ensures.is in
    one_more (is_open (codes "}")) (def 64 64 c.args.modules) def_of _ c.loop-self.all.items _ c.in_ok-def.def c.args.self.now c.loop-self.self c.def.new.self
    c.loop-self.invariant on c.in_ok-def.ensures.gives c.in_ok-def.ensures.shorter c.in_ok-push.ensures.items

pub defs_within-returns-in_err-def-clause-gives : goal.defs_within-returns-in_err-def-clause-gives
defs_within-returns-in_err-def-clause-gives t c =
    let on : true ≡ is_open (codes "}") (next c.loop-self.self) = c.loop-self-test.ensures.is in
    let some : 0 < length c.loop-self.self = c.loop-self-test.ensures.some in
    handed_over _ c.from_residual-in_err-def.result c.in_err-def.field-0.0 _ _ c.from_residual-in_err-def.ensures
    (fails (is_open (codes "}")) (def 64 64 c.args.modules) _ _ c.args.self.now c.loop-self.self _ c.loop-self.invariant on some c.in_err-def.ensures.gives)

pub defs_within-returns-clause-gives : goal.defs_within-returns-clause-gives
defs_within-returns-clause-gives t c =
    let off : false ≡ is_open (codes "}") (next c.loop-self.self) = c.loop-self-test.ensures.is in
    ended (is_open (codes "}")) (def 64 64 c.args.modules) _ _ c.args.self.now c.loop-self.self c.loop-self.invariant off
