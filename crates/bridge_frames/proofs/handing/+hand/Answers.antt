use Rattle.std.proofs.Common.{ap, map, option_map, sym, subst, ◌∙◌, Ok}
use Rattle.behaviour.specs.Answers.{raised_of}
use Rattle.uno_entities.specs.TypeNames.{kind_of}
use Rattle.uno_values.specs.Values.{plain_of}
use Rattle.urp_message.specs.Messages.{answer_of}
use Rattle.bridge_setting.specs.Settings.{setting_of}
use Rattle.bridge_tables.specs.Roots.{root_of}
use Rattle.bridge_frames.specs.Answered.{answered_root}
use Rattle.bridge_frames.specs.Raising.{GoesThrough}
use Rattle.bridge_frames.proofs.AnsweredLemmas as answered
use Rattle.bridge_frames.proofs.HandingLemmas as handing
use Rattle.bridge_frames.proofs.handing.+hand.Goals as goal

pub returns-in-Some-clause-stacks : goal.returns-in-Some-clause-stacks
returns-in-Some-clause-stacks n c = λ f fs is.
    handing.root_stacks (setting_of c.args.setting.now) c.args.tid.now (answer_of c.args.answer) c.args.stacks.now c.args.tables.now c.end_thread.new.stacks c.in-Some.root f fs c.in-Some.ensures.root is c.end_thread.ensures

pub returns-in-Some-clause-tables : goal.returns-in-Some-clause-tables
returns-in-Some-clause-tables n c =
    handing.root_tables (setting_of c.args.setting.now) c.args.tid.now (answer_of c.args.answer) c.args.stacks.now c.args.tables.now c.root_gets-before.new.tables c.in-Some.root c.in-Some.ensures.root c.root_gets-before.ensures.gets

pub returns-in-Some-clause-answered : goal.returns-in-Some-clause-answered
returns-in-Some-clause-answered n c =
    answered.root_told c.args.tid.now (answer_of c.args.answer) c.args.stacks.now c.args.tables.now.tables.roots c.in-Some.root (root_of c.root_gets-before.result) c.in-Some.ensures.root c.root_gets-before.ensures.was

pub returns-then-not-is_method-clause-stacks : goal.returns-then-not-is_method-clause-stacks
returns-then-not-is_method-clause-stacks n c = λ f fs is.
    handing.nobody_stacks (setting_of c.args.setting.now) c.args.tid.now (answer_of c.args.answer) c.args.stacks.now c.args.tables.now f fs c.in_default.ensures.none (sym c.is_method.ensures ∙ c.if-not-is_method.true) is

pub returns-then-not-is_method-clause-tables : goal.returns-then-not-is_method-clause-tables
returns-then-not-is_method-clause-tables n c =
    handing.nobody_tables (setting_of c.args.setting.now) c.args.tid.now (answer_of c.args.answer) c.args.stacks.now c.args.tables.now c.in_default.ensures.none (sym c.is_method.ensures ∙ c.if-not-is_method.true)

pub returns-then-not-is_method-clause-answered : goal.returns-then-not-is_method-clause-answered
returns-then-not-is_method-clause-answered n c =
    answered.nobody_told c.args.tid.now (answer_of c.args.answer) c.args.stacks.now c.args.tables.now.tables.roots c.in_default.ensures.none (sym c.is_method.ensures ∙ c.if-not-is_method.true)

pub returns-in_ok-go_on_with-in-Returned-clause-stacks : goal.returns-in_ok-go_on_with-in-Returned-clause-stacks
returns-in_ok-go_on_with-in-Returned-clause-stacks n c = λ f fs is.
    handing.returned_stacks (setting_of c.args.setting.now) c.args.tid.now (answer_of c.args.answer) c.args.stacks.now c.args.tables.now c.go_on_with.new.stacks (plain_of c.in-Returned.value)
    (map plain_of c.in-Returned.outs.items) f fs (ap answer_of c.in-Returned.is) (sym c.is_method.ensures ∙ c.if-not-is_method.false) is c.in_ok-go_on_with-in-Returned.ensures.stacks

pub returns-in_ok-go_on_with-in-Returned-clause-tables : goal.returns-in_ok-go_on_with-in-Returned-clause-tables
returns-in_ok-go_on_with-in-Returned-clause-tables n c =
    handing.returned_tables (setting_of c.args.setting.now) c.args.tid.now (answer_of c.args.answer) c.args.stacks.now c.args.tables.now c.go_on_with.new.tables (plain_of c.in-Returned.value)
    (map plain_of c.in-Returned.outs.items) (ap answer_of c.in-Returned.is) (sym c.is_method.ensures ∙ c.if-not-is_method.false) c.in_ok-go_on_with-in-Returned.ensures.tables

pub returns-in_ok-go_on_with-in-Returned-clause-answered : goal.returns-in_ok-go_on_with-in-Returned-clause-answered
returns-in_ok-go_on_with-in-Returned-clause-answered n c =
    answered.method_told c.args.tid.now (answer_of c.args.answer) c.args.stacks.now c.args.tables.now.tables.roots (plain_of c.in-Returned.value) (map plain_of c.in-Returned.outs.items)
    (ap answer_of c.in-Returned.is) (sym c.is_method.ensures ∙ c.if-not-is_method.false)

pub returns-in_default-2-clause-stacks : goal.returns-in_default-2-clause-stacks
returns-in_default-2-clause-stacks n c = λ f fs is.
    handing.peer_stacks (setting_of c.args.setting.now) c.args.tid.now (answer_of c.args.answer) c.args.stacks.now c.args.tables.now (kind_of c.in-Raised.exception.kind) (plain_of c.in-Raised.exception.value)
    (ap answer_of c.in-Raised.is) c.raise_through.new.tables (sym c.is_method.ensures ∙ c.if-not-is_method.false)
    (λ b below all. subst (λ o. GoesThrough (setting_of c.args.setting.now) c.args.tid.now b below (raised_of c.in-Raised.exception) c.args.tables.now c.raise_through.new.tables (Ok o)) c.in_default-2.is
    (c.in_ok-left-in-Raised.ensures.goes b below all))
    c.raise_through.new.stacks f fs is c.in_ok-left-in-Raised.ensures.stacks

pub returns-in_default-2-clause-tables : goal.returns-in_default-2-clause-tables
returns-in_default-2-clause-tables n c =
    handing.peer_tables (setting_of c.args.setting.now) c.args.tid.now (answer_of c.args.answer) c.args.stacks.now c.args.tables.now (kind_of c.in-Raised.exception.kind) (plain_of c.in-Raised.exception.value)
    (ap answer_of c.in-Raised.is) c.raise_through.new.tables (sym c.is_method.ensures ∙ c.if-not-is_method.false)
    (λ b below all. subst (λ o. GoesThrough (setting_of c.args.setting.now) c.args.tid.now b below (raised_of c.in-Raised.exception) c.args.tables.now c.raise_through.new.tables (Ok o)) c.in_default-2.is
    (c.in_ok-left-in-Raised.ensures.goes b below all))

pub returns-in_default-2-clause-answered : goal.returns-in_default-2-clause-answered
returns-in_default-2-clause-answered n c =
    answered.peer_told (setting_of c.args.setting.now) c.args.tid.now (answer_of c.args.answer) c.args.stacks.now c.args.tables.now (kind_of c.in-Raised.exception.kind) (plain_of c.in-Raised.exception.value)
    (ap answer_of c.in-Raised.is) c.raise_through.new.tables (sym c.is_method.ensures ∙ c.if-not-is_method.false)
    (λ b below all. subst (λ o. GoesThrough (setting_of c.args.setting.now) c.args.tid.now b below (raised_of c.in-Raised.exception) c.args.tables.now c.raise_through.new.tables (Ok o)) c.in_default-2.is
    (c.in_ok-left-in-Raised.ensures.goes b below all))

pub returns-in-Some-2-clause-stacks : goal.returns-in-Some-2-clause-stacks
returns-in-Some-2-clause-stacks n c = λ f fs is.
    handing.through_stacks (setting_of c.args.setting.now) c.args.tid.now (answer_of c.args.answer) c.args.stacks.now c.args.tables.now (kind_of c.in-Raised.exception.kind) (plain_of c.in-Raised.exception.value)
    (ap answer_of c.in-Raised.is) (raised_of c.in-Some-2.left) c.raise_through.new.tables c.raise_through.new.stacks (sym c.is_method.ensures ∙ c.if-not-is_method.false)
    (λ b below all. subst (λ o. GoesThrough (setting_of c.args.setting.now) c.args.tid.now b below (raised_of c.in-Raised.exception) c.args.tables.now c.raise_through.new.tables (Ok o)) c.in-Some-2.is
    (c.in_ok-left-in-Raised.ensures.goes b below all))
    c.in_ok-left-in-Raised.ensures.stacks c.in_ok-left-in-Raised.ensures.below c.hand.result c.hand.new.stacks f fs is c.hand.ensures.stacks c.hand.ensures.none

pub returns-in-Some-2-clause-tables : goal.returns-in-Some-2-clause-tables
returns-in-Some-2-clause-tables n c =
    handing.through_tables (setting_of c.args.setting.now) c.args.tid.now (answer_of c.args.answer) c.args.stacks.now c.args.tables.now (kind_of c.in-Raised.exception.kind) (plain_of c.in-Raised.exception.value)
    (ap answer_of c.in-Raised.is) (raised_of c.in-Some-2.left) c.raise_through.new.tables c.raise_through.new.stacks (sym c.is_method.ensures ∙ c.if-not-is_method.false)
    (λ b below all. subst (λ o. GoesThrough (setting_of c.args.setting.now) c.args.tid.now b below (raised_of c.in-Raised.exception) c.args.tables.now c.raise_through.new.tables (Ok o)) c.in-Some-2.is
    (c.in_ok-left-in-Raised.ensures.goes b below all))
    c.in_ok-left-in-Raised.ensures.stacks c.in_ok-left-in-Raised.ensures.below c.hand.result c.hand.new.tables c.hand.ensures.tables

pub returns-in-Some-2-clause-answered : goal.returns-in-Some-2-clause-answered
returns-in-Some-2-clause-answered n c =
    answered.through_told (setting_of c.args.setting.now) c.args.tid.now (answer_of c.args.answer) c.args.stacks.now c.args.tables.now (kind_of c.in-Raised.exception.kind) (plain_of c.in-Raised.exception.value)
    (ap answer_of c.in-Raised.is) c.raise_through.new.tables (sym c.is_method.ensures ∙ c.if-not-is_method.false) (kind_of c.in-Some-2.left.kind) (plain_of c.in-Some-2.left.value) c.raise_through.new.stacks
    (λ b below all. subst (λ o. GoesThrough (setting_of c.args.setting.now) c.args.tid.now b below (raised_of c.in-Raised.exception) c.args.tables.now c.raise_through.new.tables (Ok o)) c.in-Some-2.is
    (c.in_ok-left-in-Raised.ensures.goes b below all))
    c.in_ok-left-in-Raised.ensures.below (option_map answered_root) c.hand.result c.hand.ensures.answered

pub returns-in-Some-2-clause-lost : goal.returns-in-Some-2-clause-lost
returns-in-Some-2-clause-lost n c =
    handing.through_lost (setting_of c.args.setting.now) c.args.tid.now (answer_of c.args.answer) c.args.stacks.now c.args.tables.now (kind_of c.in-Raised.exception.kind) (plain_of c.in-Raised.exception.value)
    (ap answer_of c.in-Raised.is) (raised_of c.in-Some-2.left) c.raise_through.new.tables c.raise_through.new.stacks (sym c.is_method.ensures ∙ c.if-not-is_method.false)
    (λ b below all. subst (λ o. GoesThrough (setting_of c.args.setting.now) c.args.tid.now b below (raised_of c.in-Raised.exception) c.args.tables.now c.raise_through.new.tables (Ok o)) c.in-Some-2.is
    (c.in_ok-left-in-Raised.ensures.goes b below all))
    c.in_ok-left-in-Raised.ensures.stacks c.in_ok-left-in-Raised.ensures.below c.hand.result c.hand.new.tables c.hand.ensures.below c.hand.ensures.lost
