use Rattle.std.proofs.Common.{◌≡◌, ◌<◌, ◌-◌, ◌∙◌, ◌++◌, sym, ap, subst, get_or, length, IfNone, IfSome, None, Some, Contains, slice_get, arith}
use Rattle.idl_names.specs.Paths.{Inside, Parts, inside_of, slot_of, within}
use Rattle.idl_names.proofs.PathLookups.{found, lost}
use Rattle.idl_names.proofs.SlotLemmas.{none_there, told_there}
use Rattle.idl_names.proofs.paths.Paths.inner.Goals as goal

pub returns-then-guess-eq0-clause-none : goal.returns-then-guess-eq0-clause-none
returns-then-guess-eq0-clause-none c =
    let m : Inside = (c.args.outer, c.args.name.now) in
    let zero : c.number_in-guess.result ≡ 0 = c.if-guess-eq0.true in
    let slot : get_or c.self.inside.slots.items (slot_of m) 1 ≡ 0 =
    sym (c.number_in-guess.ensures ∙ ap (λ xs. get_or xs c.slot_of.result 1) c.as_slice.ensures.value ∙ ap (λ s. get_or c.self.inside.slots.items s 1) c.slot_of.ensures) ∙ zero in
    subst (λ ps. (rest : Parts) → ¬ Contains ps (within ps m ++ rest)) c.self.view_is
    (lost (inside_of c.self.inside.inside.items) c.self.inside.numbers c.self.invariant.numbered m
    (subst (λ ps. c.args.outer < length ps) (sym c.self.view_is) c.requires) None
    (none_there (inside_of c.self.inside.inside.items) c.self.inside.numbers c.self.inside.slots.items c.self.invariant m slot))

pub returns-then-is_told-clause-some : goal.returns-then-is_told-clause-some
returns-then-is_told-clause-some c =
    let other = c.if-guess-eq0.false in
    subst (λ ps. slice_get ps c.number_in-guess.result ≡ Some (within ps (c.args.outer, c.args.name.now))) c.self.view_is
    (told_there (inside_of c.self.inside.inside.items) c.self.inside.numbers c.self.inside.slots.items c.self.invariant (c.args.outer, c.args.name.now) c.number_in-guess.result
    (omega (arith, other))
    (ap (λ xs. slice_get (inside_of xs) (c.number_in-guess.result - 1)) (sym c.as_slice-2.ensures.value) ∙ c.if-is_told.ensures))

pub returns-clause-some : goal.returns-clause-some
returns-clause-some c =
    subst (λ ps. IfSome c.copied.result (λ number. slice_get ps number ≡ Some (within ps (c.args.outer, c.args.name.now)))) c.self.view_is
    (found (inside_of c.self.inside.inside.items) c.self.inside.numbers c.self.invariant.numbered (c.args.outer, c.args.name.now) c.copied.result (sym (c.copied.ensures ∙ c.get.ensures.value)))

pub returns-clause-none : goal.returns-clause-none
returns-clause-none c =
    subst (λ ps. IfNone c.copied.result ((rest : Parts) → ¬ Contains ps (within ps (c.args.outer, c.args.name.now) ++ rest))) c.self.view_is
    (lost (inside_of c.self.inside.inside.items) c.self.inside.numbers c.self.invariant.numbered (c.args.outer, c.args.name.now)
    (subst (λ ps. c.args.outer < length ps) (sym c.self.view_is) c.requires) c.copied.result (sym (c.copied.ensures ∙ c.get.ensures.value)))
