use Rattle.std.proofs.Common.{◌≡◌, ◌<◌, true, false, is_none, is_some, length}
use Rattle.grammar_model.specs.Readings.{next}
use Rattle.idl_model.specs.GrammarReading.{def, tree}
use Rattle.idl_trees.specs.Trees.{def_of}
use Rattle.idl_parse.proofs.Loops.{starts_empty, one_more, ended, fails, handed_over, there, not_there, none_left}
use Rattle.idl_parse.proofs.parser.Parser.tree.Goals as goal

pub loop-self-init : goal.loop-self-init
loop-self-init c = starts_empty is_some (def 64 64 64) def_of _ c.args.self.now c.new-defs.ensures.items

pub loop-self-preserved : goal.loop-self-preserved
loop-self-preserved c =
    let there_is : false ≡ is_none (next c.loop-self.self) = c.loop-self-test.ensures.is in
    let on = there (next c.loop-self.self) there_is in
    one_more is_some (def 64 64 64) def_of _ c.loop-self.defs.items _ c.in_ok-def.def c.args.self.now c.loop-self.self c.def.new.self
    c.loop-self.invariant on c.in_ok-def.ensures.gives c.in_ok-def.ensures.shorter c.in_ok-push.ensures.items

pub returns-in_err-def-clause-gives : goal.returns-in_err-def-clause-gives
unfolding tree
returns-in_err-def-clause-gives c =
    let there_is : false ≡ is_none (next c.loop-self.self) = c.loop-self-test.ensures.is in
    let on = there (next c.loop-self.self) there_is in
    let some : 0 < length c.loop-self.self = c.loop-self-test.ensures.some in
    handed_over _ c.from_residual.result c.in_err-def.field-0.0 _ _ c.from_residual.ensures
    (fails is_some (def 64 64 64) _ _ c.args.self.now c.loop-self.self _ c.loop-self.invariant on some c.in_err-def.ensures.gives)

pub returns-clause-all : goal.returns-clause-all
returns-clause-all c =
    let none : true ≡ is_none (next c.loop-self.self) = c.loop-self-test.ensures.is in
    none_left c.loop-self.self none

pub returns-clause-gives : goal.returns-clause-gives
unfolding tree
returns-clause-gives c =
    let none : true ≡ is_none (next c.loop-self.self) = c.loop-self-test.ensures.is in
    let off = not_there (next c.loop-self.self) none in
    ended is_some (def 64 64 64) _ _ c.args.self.now c.loop-self.self c.loop-self.invariant off
