use Rattle.std.proofs.Common.{map, refl, subst}
use Rattle.std.specs.List.{flat_map}
use Rattle.idl_check.proofs.VerdictLemmas.{found_among, no_memory_judged}
use Rattle.idl_joint_places.specs.Circles.{FindsLeast}
use Rattle.idl_meaning_model.specs.Declarations.{entities_declared}
use Rattle.idl_meant.specs.Resolving.{all_in}
use Rattle.idl_names.specs.Collected.{declared_of}
use Rattle.idl_rules_model.specs.Circles.{on_circles}
use Rattle.registry_text_model.specs.Rules as rule
use Rattle.uno_entities.specs.Entities.{entities_of}
use Rattle.idl_check.proofs.judge.circles.Goals as goal

pub returns : goal.returns
returns c ts asked below =
    let reg = entities_of c.args.entities.now in
    c.refuse.ensures rule.circles (all_in c.args.resolved.now) refl below
    (found_among rule.circles (all_in c.args.resolved.now) ts reg c.in_ok-found.found asked
    (subst
    (λ xs. FindsLeast (flat_map (on_circles (map (declared_of c.args.resolved.now.paths) xs) reg) (entities_declared (map (declared_of c.args.resolved.now.paths) xs))) c.in_ok-found.found)
    c.as_slice-declared.ensures.value c.in_ok-found.ensures))

pub returns-in_err-found : goal.returns-in_err-found
returns-in_err-found c ts asked below = no_memory_judged 2 (all_in c.args.resolved.now) c.from_residual.result c.from_residual.ensures
