use Rattle.std.proofs.Common.{◌≡◌, [], sym, subst, Err}
use Rattle.idl_compile.proofs.Telling.{check_told, handed_on, name_told}
use Rattle.idl_compile.specs.Checking.{ComesOfTrees}
use Rattle.idl_compile.specs.Errors.{of_check, of_name}
use Rattle.idl_meaning_model.specs.NameFaults.{declared_twice}
use Rattle.idl_meant.proofs.MeantLemmas.{told_of_files}
use Rattle.idl_names.specs.Telling.{named_of}
use Rattle.idl_rules_model.proofs.KeptLaws.{once_declared}
use Rattle.idl_trees.specs.Trees.{trees_of}
use Rattle.idl_compile.proofs.files.registry_of.Goals as goal

pub check-requires-clause-told : goal.check-requires-clause-told
check-requires-clause-told c =
    told_of_files (trees_of c.args.trees.now) c.in_ok-resolved.resolved c.requires.of_files c.requires.values c.in_ok-resolved.ensures.resolved c.in_ok-resolved.ensures.right c.in_ok-resolved.ensures.made

pub check-requires-clause-once : goal.check-requires-clause-once
check-requires-clause-once c =
    subst (λ ds. declared_twice ds ≡ []) (sym c.in_ok-resolved.ensures.made.declared) (once_declared (trees_of c.args.trees.now) c.in_ok-resolved.ensures.resolved.0)

pub returns-clause-accepted : goal.returns-clause-accepted
returns-clause-accepted c =
    record {
      names = named_of c.in_ok-resolved.resolved.paths c.in_ok-resolved.resolved.names.items;
      resolved = c.in_ok-resolved.ensures.resolved;
      verdict = c.in_ok-registry.ensures.kept (trees_of c.args.trees.now) (sym c.in_ok-resolved.ensures.made.declared);
    }

pub returns-in_err-registry-clause-refused : goal.returns-in_err-registry-clause-refused
returns-in_err-registry-clause-refused c =
    let trees = trees_of c.args.trees.now in
    let e = c.in_err-registry.field-0.0 in
    handed_on c.from_residual-in_err-registry.result (λ r. ComesOfTrees trees (Err r)) (of_check e) c.from_residual-in_err-registry.ensures
    (check_told trees (named_of c.in_ok-resolved.resolved.paths c.in_ok-resolved.resolved.names.items) e c.in_ok-resolved.ensures.resolved (c.in_err-registry.ensures.refused trees (sym c.in_ok-resolved.ensures.made.declared)))

pub returns-in_err-resolved-clause-refused : goal.returns-in_err-resolved-clause-refused
returns-in_err-resolved-clause-refused c =
    let trees = trees_of c.args.trees.now in
    let e = c.in_err-resolved.field-0.0 in
    handed_on c.from_residual.result (λ r. ComesOfTrees trees (Err r)) (of_name e) c.from_residual.ensures (name_told trees e c.in_err-resolved.ensures.refused)
