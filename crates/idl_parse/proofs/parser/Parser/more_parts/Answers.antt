use Rattle.std.proofs.Common.{◌≡◌, ◌<◌, true, false, codes, length}
use Rattle.grammar_model.specs.Readings.{next, ◌&>◌}
use Rattle.idl_model.specs.GrammarReading.{id, is_mark, mark}
use Rattle.idl_trees.specs.Names.{id_of}
use Rattle.idl_parse.proofs.Loops.{handed_over}
use Rattle.idl_parse.proofs.MappedLoops.{begin_parts, more_parts, all_parts, lost_parts}
use Rattle.idl_parse.proofs.parser.Parser.more_parts.Goals as goal

pub loop-self-init : goal.loop-self-init
loop-self-init c = begin_parts (λ i. i.name) (is_mark (codes "::")) (mark (codes "::") &> id) c.args.self.now c.args.parts.now.items

pub loop-self-preserved : goal.loop-self-preserved
loop-self-preserved c =
    let on : true ≡ is_mark (codes "::") (next c.loop-self.self) = c.loop-self-test.ensures.is in
    more_parts (λ i. i.name) (is_mark (codes "::")) (mark (codes "::") &> id) c.args.self.now c.args.parts.now.items c.loop-self.parts.items
    c.push.new.self.items c.loop-self.self c.part.new.self
    (id_of c.in_ok-name.field-0) c.loop-self.invariant on c.in_ok-name.ensures.gives c.in_ok-name.ensures.shorter c.in_ok-push.ensures.items

pub returns-in_err-name-clause-gives : goal.returns-in_err-name-clause-gives
returns-in_err-name-clause-gives c =
    let on : true ≡ is_mark (codes "::") (next c.loop-self.self) = c.loop-self-test.ensures.is in
    let some : 0 < length c.loop-self.self = c.loop-self-test.ensures.some in
    handed_over _ c.from_residual.result c.in_err-name.field-0.0 _ _ c.from_residual.ensures
    (lost_parts (λ i. i.name) (is_mark (codes "::")) (mark (codes "::") &> id) c.args.self.now c.args.parts.now.items c.loop-self.parts.items c.loop-self.self
    c.in_err-name.field-0.0
    c.loop-self.invariant on some c.in_err-name.ensures.gives)

pub returns-clause-gives : goal.returns-clause-gives
returns-clause-gives c =
    let off : false ≡ is_mark (codes "::") (next c.loop-self.self) = c.loop-self-test.ensures.is in
    all_parts (λ i. i.name) (is_mark (codes "::")) (mark (codes "::") &> id) c.args.self.now c.args.parts.now.items c.loop-self.parts.items c.loop-self.self
    c.loop-self.invariant off
