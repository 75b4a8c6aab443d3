use Rattle.std.proofs.Common.{◌≡◌, ap, codes, false, map, rules, true, ◌∙◌}
use Rattle.std.proofs.lemmas.List.{map-append}
use Rattle.grammar_model.specs.Readings.{next}
use Rattle.idl_model.specs.GrammarReading.{is_identifier, is_mark, item}
use Rattle.idl_trees.specs.Members.{item_of}
use Rattle.idl_parse.proofs.Loops.{handed_over}
use Rattle.idl_parse.proofs.OtherLoops.{begin_items, more_items, last_comma, all_items, lost_items}
use Rattle.idl_parse.proofs.parser.Parser.more_items.Goals as goal

pub loop-self-init : goal.loop-self-init
loop-self-init c = begin_items (item 64) (map item_of c.args.items.now.items) c.args.self.now

pub loop-self-preserved : goal.loop-self-preserved
loop-self-preserved c =
    let on : true ≡ is_mark (codes ",") (next c.loop-self.self) = c.loop-self-test.ensures.is in
    let is : true ≡ is_identifier (next c.skip.new.self) = search rules in
    more_items (item 64) (map item_of c.args.items.now.items) c.args.self.now (map item_of c.loop-self.items.items) (map item_of c.push.new.self.items)
    c.loop-self.self c.skip.new.self
    c.item.new.self (item_of c.in_ok-one.one) c.loop-self.invariant on c.skip.ensures is c.in_ok-one.ensures.gives c.in_ok-one.ensures.shorter
    (ap (map item_of) c.in_ok-push.ensures.items ∙ map-append item_of c.loop-self.items.items _)

pub returns-then-not-is_identifier-clause-gives : goal.returns-then-not-is_identifier-clause-gives
returns-then-not-is_identifier-clause-gives c =
    let on : true ≡ is_mark (codes ",") (next c.loop-self.self) = c.loop-self-test.ensures.is in
    let none : false ≡ is_identifier (next c.skip.new.self) = search rules in
    last_comma (item 64) (map item_of c.args.items.now.items) c.args.self.now (map item_of c.loop-self.items.items) c.loop-self.self c.skip.new.self
    c.loop-self.invariant on
    c.skip.ensures none

pub returns-in_err-one-clause-gives : goal.returns-in_err-one-clause-gives
returns-in_err-one-clause-gives c =
    let on : true ≡ is_mark (codes ",") (next c.loop-self.self) = c.loop-self-test.ensures.is in
    let is : true ≡ is_identifier (next c.skip.new.self) = search rules in
    handed_over _ c.from_residual.result c.in_err-one.field-0.0 _ _ c.from_residual.ensures
    (lost_items (item 64) (map item_of c.args.items.now.items) c.args.self.now (map item_of c.loop-self.items.items) c.loop-self.self c.skip.new.self
    c.in_err-one.field-0.0
    c.loop-self.invariant on c.skip.ensures is c.in_err-one.ensures.gives)

pub returns-clause-gives : goal.returns-clause-gives
returns-clause-gives c =
    let off : false ≡ is_mark (codes ",") (next c.loop-self.self) = c.loop-self-test.ensures.is in
    all_items (item 64) (map item_of c.args.items.now.items) c.args.self.now (map item_of c.loop-self.items.items) c.loop-self.self c.loop-self.invariant off
