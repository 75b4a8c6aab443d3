use Rattle.std.proofs.Common.{◌≡◌, refl, ◌∷◌, [], ◌++◌, sym, ap, subst, ◌∙◌, append_assoc, append-nil, length, arith, rules}
use Rattle.std.specs.Vec.Iter.{into_iter_items}
use Rattle.idl_check.proofs.RegistryLemmas.{none_yet, nothing_left, one_more_found}
use Rattle.uno_entities.specs.Entities.{entities_of}
use Rattle.uno_model.specs.BuiltIn.{built_in}
use Rattle.uno_model.specs.Registry.{find_entity}
use Rattle.idl_check.proofs.registry.registry_of.Goals as goal

pub loop-entity-preserved : goal.loop-entity-preserved
loop-entity-preserved c =
    let at = c.loop-entity in
    let x = c.in-Some.entity in
    let steps : into_iter_items at.entity-iterator ≡ x ∷ into_iter_items c.next.new.self = c.in-Some.ensures.steps.0 in (
      append_assoc at.yielded (x ∷ []) _ ∙ rw (← steps) at.invariant.0,
      (λ name. one_more_found name at.yielded at.registry c.add.new.registry x (at.invariant.1 name) (c.in_ok-add.ensures name)),
      let was = at.invariant.2 in
          let gone = c.in-Some.ensures.steps.1 in
          let short = ap length steps in
          omega arith,
    )

pub returns : goal.returns
returns c =
    let at = c.loop-entity in
    let none = c.in-None.ensures.steps in
    let empty : into_iter_items at.entity-iterator ≡ [] = nothing_left _ (sym at.invariant.2 ∙ none.0) in
    let all = sym (append-nil at.yielded) ∙ rw empty at at.invariant.0 ∙ c.into_iter-entity-iterator.ensures.into_iter_gives.0 in
    λ name. subst (λ es. find_entity name at.registry ≡ find_entity name (built_in ++ entities_of es)) all (at.invariant.1 name)

pub loop-entity-init : goal.loop-entity-init
loop-entity-init c = (refl, (λ name. none_yet name _ c.in_ok-registry.ensures), (search rules))
