use Rattle.std.proofs.Common.{◌≡◌, ◌<◌, true, false, codes, length}
use Rattle.grammar_model.specs.Readings.{next}
use Rattle.idl_model.specs.GrammarReading.{is_open}
use Rattle.idl_parse.proofs.Loops.{starts_empty, one_more, ended, fails, handed_over}
use Rattle.idl_parse.proofs.parser.Parser.within_braces.Goals as goal

pub loop-self-init : goal.loop-self-init
loop-self-init g c = starts_empty (is_open (codes "}")) g.R.Rule.reads g.R.Rule.plain _ c.args.self.now c.new-all.ensures.items

pub loop-self-preserved : goal.loop-self-preserved
loop-self-preserved g c =
    let on : true ≡ is_open (codes "}") (next c.loop-self.self) = c.loop-self-test.ensures.is in
    one_more (is_open (codes "}")) g.R.Rule.reads g.R.Rule.plain _ c.loop-self.all.items c.push.new.self.items c.in_ok-one.one c.args.self.now c.loop-self.self
    c.read.new.parser
    c.loop-self.invariant on c.in_ok-one.ensures.gives c.in_ok-one.ensures.shorter c.in_ok-push.ensures.items

pub returns-in_err-one-clause-gives : goal.returns-in_err-one-clause-gives
returns-in_err-one-clause-gives g c =
    let on : true ≡ is_open (codes "}") (next c.loop-self.self) = c.loop-self-test.ensures.is in
    let some : 0 < length c.loop-self.self = c.loop-self-test.ensures.some in
    handed_over _ c.from_residual.result c.in_err-one.field-0.0 _ _ c.from_residual.ensures
    (fails (is_open (codes "}")) g.R.Rule.reads _ _ c.args.self.now c.loop-self.self _ c.loop-self.invariant on some c.in_err-one.ensures.gives)

pub returns-clause-gives : goal.returns-clause-gives
returns-clause-gives g c =
    let off : false ≡ is_open (codes "}") (next c.loop-self.self) = c.loop-self-test.ensures.is in
    ended (is_open (codes "}")) g.R.Rule.reads _ _ c.args.self.now c.loop-self.self c.loop-self.invariant off
