use Rattle.std.proofs.Common.{◌≡◌, ◌∙◌, sym, ap, subst, ℕ, List, is_some, true}
use Rattle.idl_meaning_model.specs.Declarations.{all_valued, scope_of}
use Rattle.idl_meaning_model.specs.FromFiles.{are_identifiers}
use Rattle.idl_meaning_model.specs.Scopes.{is_entity, valued_as}
use Rattle.idl_meaning_model.specs.Uses.{an_entity, a_value, path_of, used_meant}
use Rattle.idl_names.specs.Collected.{declared_of}
use Rattle.idl_names.specs.Standing.{Answers}
use Rattle.idl_names.specs.Used.{used_of}
use Rattle.idl_names.proofs.StandLemmas.{own_list, own_modules}
use Rattle.idl_names.proofs.LookupLemmas.{entity_meant, value_meant}
use Rattle.idl_trees.specs.Names as tree
use Rattle.idl_names.proofs.telling.stands_for.Goals as goal

pub named-requires-clause-low : goal.named-requires-clause-low
named-requires-clause-low c = c.requires.numbers.low

pub returns-in-Entity : goal.returns-in-Entity
unfolding scope_of
returns-in-Entity c = λ ds tells right spelled.
    let d = declared_of c.args.paths.now c.args.declared.now in
    let used : used_of c.args.used.now ≡ an_entity (tree.path_of c.in-Entity.path.now) = ap used_of c.in-Entity.is in
    let it = c.named.ensures (is_entity ds) (subst (λ marks. Answers c.args.paths.now marks (is_entity ds)) (sym c.as_slice.ensures.value) tells.entities) (own_modules d right)
    (subst (λ u. are_identifiers (path_of u).parts ≡ true) used spelled) in
    (it.0 ∙ entity_meant ds (scope_of d) (tree.path_of c.in-Entity.path.now) ∙ ap (used_meant ds (scope_of d)) (sym used), it.1)

pub returns-in-Value : goal.returns-in-Value
returns-in-Value c = λ ds tells right spelled.
    let d = declared_of c.args.paths.now c.args.declared.now in
    let used : used_of c.args.used.now ≡ a_value (tree.path_of c.in-Value.path.now) = ap used_of c.in-Value.is in
    let test = λ (name : List ℕ). is_some (valued_as (all_valued ds) name) in
    let it = c.value_named.ensures test (subst (λ marks. Answers c.args.paths.now marks test) (sym c.as_slice-in-Value.ensures.value) tells.values) (own_list d right)
    (subst (λ u. are_identifiers (path_of u).parts ≡ true) used spelled) in
    (it.0 ∙ value_meant ds (scope_of d) (tree.path_of c.in-Value.path.now) ∙ ap (used_meant ds (scope_of d)) (sym used), it.1)
