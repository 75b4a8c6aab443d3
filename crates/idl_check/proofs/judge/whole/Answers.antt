use Rattle.std.proofs.Common.{map, refl, subst}
use Rattle.std.specs.List.{flat_map}
use Rattle.idl_check.proofs.EachLemmas.{least_added}
use Rattle.idl_check.proofs.VerdictLemmas.{found_among, no_memory_judged}
use Rattle.idl_joint_places.specs.Circles.{FindsLeast}
use Rattle.idl_meaning_model.specs.Declarations.{entities_declared}
use Rattle.idl_meant.specs.Resolving.{all_in}
use Rattle.idl_names.specs.Collected.{declared_of}
use Rattle.idl_rules_model.specs.Whole.{past_limits}
use Rattle.registry_text_model.specs.Rules as rule
use Rattle.uno_entities.specs.Entities.{entities_of}
use Rattle.idl_check.proofs.judge.whole.Goals as goal

pub returns : goal.returns
returns c ts asked below =
    let reg = entities_of c.args.entities.now in
    c.refuse.ensures rule.whole (all_in c.args.resolved.now) refl below
    (found_among rule.whole (all_in c.args.resolved.now) ts reg c.least.result asked
    (subst
    (λ xs. FindsLeast (flat_map (past_limits (map (declared_of c.args.resolved.now.paths) xs) reg) (entities_declared (map (declared_of c.args.resolved.now.paths) xs))) c.least.result)
    c.as_slice-declared.ensures.value
    (least_added c.add_past_limits.new.places.items c.as_slice.result.now c.new-places.result.items _ c.least.result c.new-places.ensures.items c.as_slice.ensures.value c.in_ok-add_past_limits.ensures c.least.ensures)))

pub returns-in_err-add_past_limits : goal.returns-in_err-add_past_limits
returns-in_err-add_past_limits c ts asked below = no_memory_judged 11 (all_in c.args.resolved.now) c.from_residual.result c.from_residual.ensures
