use Rattle.std.proofs.Common.{rules, [], ◌∷◌, ◌++◌, ap, sym, subst, ◌∙◌, arith}
use Rattle.uno_entities.specs.Entities.{entity_of}
use Rattle.uno_model.specs.Registry.{stands_on_body}
use Rattle.type_registry.specs.Own.{Seeks, SeeksOver}
use Rattle.type_registry.proofs.InLineLemmas.{ends_at, ends_nowhere, ends_past_root, found_above, found_below}
use Rattle.type_registry.proofs.SeekLemmas.{named}
use Rattle.type_registry.proofs.in_line.+in_line.Goals as goal

pub seek_in_line-returns-in-Some : goal.seek_in_line-returns-in-Some
seek_in_line-returns-in-Some t c =
    ends_past_root c.args.registry.now c.args.name.now c.args.levels c.args.number c.in-Some.left (search rules) (omega (arith, c.if-levels-eq0.false)) c.in-Some.ensures.0
    c.in-Some.ensures.1

pub seek_in_line-returns-in_default-find : goal.seek_in_line-returns-in_default-find
seek_in_line-returns-in_default-find t c =
    ends_nowhere c.args.registry.now c.args.name.now c.args.levels c.args.number (omega (arith, c.if-levels-eq0.false)) (search rules)

pub seek_from-returns-in_default : goal.seek_from-returns-in_default
seek_from-returns-in_default t c =
    ends_at c.args.registry.now c.args.name.now c.args.levels c.args.number c.seek_declared.result (omega (arith, c.in_ok-less.ensures.0))
    (ap stands_on_body c.requires.1.1.1 ∙ sym c.bases_in.ensures ∙ c.in_default.ensures)
    (subst (λ fs. Seeks fs c.args.number c.seek_declared.result) (named c.args.registry.now c.args.name.now (entity_of c.args.entity.now) c.requires.1.1.1) c.seek_declared.ensures)

pub seek_from-returns-in-Found : goal.seek_from-returns-in-Found
seek_from-returns-in-Found t c =
    found_below c.args.registry.now c.args.name.now c.in-Some.base.now c.args.levels c.in_ok-less.less c.args.number c.in-Found.function
    (omega (arith, c.in_ok-less.ensures.0, c.in_ok-less.ensures.1))
    (ap stands_on_body c.requires.1.1.1 ∙ sym c.bases_in.ensures ∙ c.in-Some.ensures ∙ ap (λ ns. ns ++ c.in-Some.base.now ∷ []) c.in-None.ensures)
    (subst (λ s. SeeksOver c.args.registry.now c.in-Some.base.now c.in_ok-less.less c.args.number s) c.in-Found.is c.in_ok-function.ensures)

pub seek_from-returns-in-Past : goal.seek_from-returns-in-Past
seek_from-returns-in-Past t c =
    found_above c.args.registry.now c.args.name.now c.in-Some.base.now c.args.levels c.in_ok-less.less c.args.number c.in-Past.left c.seek_declared-in-Past.result
    (omega (arith, c.in_ok-less.ensures.0, c.in_ok-less.ensures.1))
    (ap stands_on_body c.requires.1.1.1 ∙ sym c.bases_in.ensures ∙ c.in-Some.ensures ∙ ap (λ ns. ns ++ c.in-Some.base.now ∷ []) c.in-None.ensures)
    (subst (λ s. SeeksOver c.args.registry.now c.in-Some.base.now c.in_ok-less.less c.args.number s) c.in-Past.is c.in_ok-function.ensures)
    (subst (λ fs. Seeks fs c.in-Past.left c.seek_declared-in-Past.result) (named c.args.registry.now c.args.name.now (entity_of c.args.entity.now) c.requires.1.1.1) c.seek_declared-in-Past.ensures)
