use Rattle.std.proofs.Common.{◌≡◌, ◌∙◌, [], ap, map, subst, true}
use Rattle.std.specs.List.{AllByRecursion, list_all}
use Rattle.idl_meaning_model.specs.FromFiles.{has_identifiers, is_spelled_use}
use Rattle.idl_meaning_model.specs.Uses.{uses}
use Rattle.idl_names.specs.Collected.{HasNumbers, declared_of}
use Rattle.idl_names.specs.Faults.{ComesFirst, all_faults_of, fault_of}
use Rattle.idl_names.specs.Opened.{HasOpened}
use Rattle.idl_names.specs.Telling.{Tells}
use Rattle.idl_names.proofs.ResolveLemmas.{of_items, still_declared, still_numbered, still_identifiers, still_spelled, still_opened, still_outermost, resolved, refused}
use Rattle.idl_trees.specs.Trees.{trees_of}
use Rattle.idl_names.proofs.resolving.resolve.Goals as goal

pub open_others-requires-clause-outermost : goal.open_others-requires-clause-outermost
open_others-requires-clause-outermost c = c.in_ok-collected.ensures.outermost

pub open_others-requires-clause-numbers : goal.open_others-requires-clause-numbers
open_others-requires-clause-numbers c = of_items (AllByRecursion (HasNumbers c.in_ok-collected.collected.paths)) c.as_slice.ensures.value c.in_ok-collected.ensures.numbered

pub marks-requires-clause-numbers : goal.marks-requires-clause-numbers
marks-requires-clause-numbers c =
    of_items (AllByRecursion (HasNumbers c.open_others.new.paths)) c.as_slice-2.ensures.value
    (still_numbered (trees_of c.args.trees.now) c.in_ok-collected.collected c.in_ok-collected.ensures c.requires c.open_others.new.paths c.in_ok-opened.ensures.kept)

pub marks-requires-clause-opened : goal.marks-requires-clause-opened
marks-requires-clause-opened c =
    of_items (λ ds. HasOpened c.open_others.new.paths (map (declared_of c.open_others.new.paths) ds) c.in_ok-opened.opened) c.as_slice-2.ensures.value
    (still_opened (trees_of c.args.trees.now) c.in_ok-collected.collected c.in_ok-collected.ensures c.requires c.open_others.new.paths c.in_ok-opened.ensures.kept c.in_ok-opened.opened
    (subst (λ ds. HasOpened c.open_others.new.paths (map (declared_of c.in_ok-collected.collected.paths) ds) c.in_ok-opened.opened) c.as_slice.ensures.value c.in_ok-opened.ensures.opened))

pub marks-requires-clause-identifiers : goal.marks-requires-clause-identifiers
marks-requires-clause-identifiers c =
    of_items (λ ds. list_all has_identifiers (map (declared_of c.open_others.new.paths) ds) ≡ true) c.as_slice-2.ensures.value
    (still_identifiers (trees_of c.args.trees.now) c.in_ok-collected.collected c.in_ok-collected.ensures c.requires c.open_others.new.paths c.in_ok-opened.ensures.kept)

pub tell_names-requires-clause-numbers : goal.tell_names-requires-clause-numbers
tell_names-requires-clause-numbers c =
    of_items (AllByRecursion (HasNumbers c.open_others.new.paths)) c.as_slice-3.ensures.value
    (still_numbered (trees_of c.args.trees.now) c.in_ok-collected.collected c.in_ok-collected.ensures c.requires c.open_others.new.paths c.in_ok-opened.ensures.kept)

pub tell_names-requires-clause-opened : goal.tell_names-requires-clause-opened
tell_names-requires-clause-opened c =
    of_items (λ ds. HasOpened c.open_others.new.paths (map (declared_of c.open_others.new.paths) ds) c.in_ok-opened.opened) c.as_slice-3.ensures.value
    (still_opened (trees_of c.args.trees.now) c.in_ok-collected.collected c.in_ok-collected.ensures c.requires c.open_others.new.paths c.in_ok-opened.ensures.kept c.in_ok-opened.opened
    (subst (λ ds. HasOpened c.open_others.new.paths (map (declared_of c.in_ok-collected.collected.paths) ds) c.in_ok-opened.opened) c.as_slice.ensures.value c.in_ok-opened.ensures.opened))

pub tell_names-requires-clause-identifiers : goal.tell_names-requires-clause-identifiers
tell_names-requires-clause-identifiers c =
    of_items (λ ds. list_all has_identifiers (map (declared_of c.open_others.new.paths) ds) ≡ true) c.as_slice-3.ensures.value
    (still_identifiers (trees_of c.args.trees.now) c.in_ok-collected.collected c.in_ok-collected.ensures c.requires c.open_others.new.paths c.in_ok-opened.ensures.kept)

pub tell_names-requires-clause-outermost : goal.tell_names-requires-clause-outermost
tell_names-requires-clause-outermost c =
    still_outermost (trees_of c.args.trees.now) c.in_ok-collected.collected c.open_others.new.paths c.in_ok-collected.ensures c.in_ok-opened.ensures.kept

pub tell_names-requires-clause-spelled : goal.tell_names-requires-clause-spelled
tell_names-requires-clause-spelled c =
    of_items (λ ds. list_all is_spelled_use (uses (map (declared_of c.open_others.new.paths) ds)) ≡ true) c.as_slice-3.ensures.value
    (still_spelled (trees_of c.args.trees.now) c.in_ok-collected.collected c.in_ok-collected.ensures c.requires c.open_others.new.paths c.in_ok-opened.ensures.kept)

pub tell_names-requires-clause-marked : goal.tell_names-requires-clause-marked
tell_names-requires-clause-marked c =
    of_items (λ ds. Tells c.open_others.new.paths c.in_ok-marked.marked (map (declared_of c.open_others.new.paths) ds)) c.as_slice-3.ensures.value
    (subst (λ ds. Tells c.open_others.new.paths c.in_ok-marked.marked (map (declared_of c.open_others.new.paths) ds)) c.as_slice-2.ensures.value c.in_ok-marked.ensures)

pub returns-in-Some-clause-refused : goal.returns-in-Some-clause-refused
returns-in-Some-clause-refused c =
    let trees = trees_of c.args.trees.now in
    let paths = c.open_others.new.paths in
    let all = still_declared trees c.in_ok-collected.collected c.in_ok-collected.ensures c.requires paths c.in_ok-opened.ensures.kept in
    let seen = ap (map (declared_of paths)) c.as_slice-3.ensures.value in
    c.refusal.ensures trees
    (refused trees paths (map (declared_of paths) c.as_slice-3.result.now) (seen ∙ all) c.in_ok-told.told c.in_ok-told.ensures (fault_of c.in-Some.fault)
    (subst (λ fs. ComesFirst (all_faults_of fs) (fault_of c.in-Some.fault)) c.as_slice-4.ensures.value c.in-Some.ensures))

pub returns-clause-resolved : goal.returns-clause-resolved
returns-clause-resolved c =
    let trees = trees_of c.args.trees.now in
    let paths = c.open_others.new.paths in
    let all = still_declared trees c.in_ok-collected.collected c.in_ok-collected.ensures c.requires paths c.in_ok-opened.ensures.kept in
    let seen = ap (map (declared_of paths)) c.as_slice-3.ensures.value in
    resolved trees paths (map (declared_of paths) c.as_slice-3.result.now) (seen ∙ all) c.in_ok-told.told c.in_ok-told.ensures (subst (λ fs. fs ≡ []) c.as_slice-4.ensures.value c.in_default.ensures)

pub returns-clause-right : goal.returns-clause-right
returns-clause-right c = c.in_ok-told.ensures.right

pub returns-clause-made : goal.returns-clause-made
returns-clause-made c =
    let trees = trees_of c.args.trees.now in
    let old = c.in_ok-collected.collected in
    let paths = c.open_others.new.paths in
    let all = still_declared trees old c.in_ok-collected.ensures c.requires paths c.in_ok-opened.ensures.kept in
    let are = still_opened trees old c.in_ok-collected.ensures c.requires paths c.in_ok-opened.ensures.kept c.in_ok-opened.opened
    (subst (λ ds. HasOpened paths (map (declared_of old.paths) ds) c.in_ok-opened.opened) c.as_slice.ensures.value c.in_ok-opened.ensures.opened) in
    record {
      declared = all;
      numbered = still_numbered trees old c.in_ok-collected.ensures c.requires paths c.in_ok-opened.ensures.kept;
      outermost = still_outermost trees old paths c.in_ok-collected.ensures c.in_ok-opened.ensures.kept;
      opened = subst (λ ds. HasOpened paths ds c.in_ok-opened.opened) all are;
    }
