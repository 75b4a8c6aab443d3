use Rattle.std.proofs.Common.{◌-◌, sym, ◌∙◌, arith}
use Rattle.behaviour_text.proofs.Different.{none_differ, first_differs, one_more, differ_behind}
use Rattle.behaviour_text.proofs.new_names.all_differ.Goals as goal

pub loop-left-init : goal.loop-left-init
loop-left-init c = none_differ _ c.args.names.now c.new-behind.ensures.empty

pub returns-then-not-is_new : goal.returns-then-not-is_new
returns-then-not-is_new c =
    let first = first_differs _ c.args.names.now c.loop-left.left _ c.as_str.result _ c.loop-left.invariant (omega arith) (c.as_str.ensures ∙ c.index-names-left.is) c.in_ok-is_new.ensures.added in
    sym (differ_behind c.args.names.now (c.loop-left.left - 1) (first ∙ c.if-not-is_new.true))

pub loop-left-preserved : goal.loop-left-preserved
loop-left-preserved c =
    let first = first_differs _ c.args.names.now c.loop-left.left _ c.as_str.result _ c.loop-left.invariant (omega arith) (c.as_str.ensures ∙ c.index-names-left.is) c.in_ok-is_new.ensures.added in
    one_more _ _ c.args.names.now c.loop-left.left _ c.as_str.result c.loop-left.invariant (omega arith) (c.as_str.ensures ∙ c.index-names-left.is) c.in_ok-is_new.ensures.updates (first ∙ c.if-not-is_new.false)
