use Rattle.std.proofs.Common.{◌≡◌, ◌<◌, true, false, codes, length, map}
use Rattle.grammar_model.specs.Readings.{next, ◌&>◌}
use Rattle.idl_model.specs.GrammarReading.{is_mark, mark}
use Rattle.idl_parse.proofs.Loops.{starts_behind, one_more, ended, fails, handed_over}
use Rattle.idl_parse.proofs.parser.Parser.others.Goals as goal

pub loop-self-init : goal.loop-self-init
loop-self-init g c = starts_behind (is_mark (codes ",")) (mark (codes ",") &> g.R.Rule.reads) (map g.R.Rule.plain c.args.all.now.items) c.args.self.now

pub loop-self-preserved : goal.loop-self-preserved
loop-self-preserved g c =
    let on : true ≡ is_mark (codes ",") (next c.loop-self.self) = c.loop-self-test.ensures.is in
    one_more (is_mark (codes ",")) (mark (codes ",") &> g.R.Rule.reads) g.R.Rule.plain _ c.loop-self.all.items c.push.new.self.items c.in_ok-one.one
    c.args.self.now
    c.loop-self.self c.behind_comma.new.self
    c.loop-self.invariant on c.in_ok-one.ensures.gives c.in_ok-one.ensures.shorter c.in_ok-push.ensures.items

pub returns-in_err-one-clause-gives : goal.returns-in_err-one-clause-gives
returns-in_err-one-clause-gives g c =
    let on : true ≡ is_mark (codes ",") (next c.loop-self.self) = c.loop-self-test.ensures.is in
    let some : 0 < length c.loop-self.self = c.loop-self-test.ensures.some in
    handed_over _ c.from_residual.result c.in_err-one.field-0.0 _ _ c.from_residual.ensures
    (fails (is_mark (codes ",")) (mark (codes ",") &> g.R.Rule.reads) _ _ c.args.self.now c.loop-self.self _ c.loop-self.invariant on some
    c.in_err-one.ensures.gives)

pub returns-clause-gives : goal.returns-clause-gives
returns-clause-gives g c =
    let off : false ≡ is_mark (codes ",") (next c.loop-self.self) = c.loop-self-test.ensures.is in
    ended (is_mark (codes ",")) (mark (codes ",") &> g.R.Rule.reads) _ _ c.args.self.now c.loop-self.self c.loop-self.invariant off
