use Rattle.std.proofs.Common.{◌≡◌, ◌∙◌, sym, ap, subst, suc, ◌+◌, ◌≤◌, [], ◌++◌, length, get_or, slice_get, take, drop, Some, IfNone, Contains, append-nil, arith}
use Rattle.std.proofs.lemmas.Option.{slice_get-get_or, slice_get_within}
use Rattle.std.proofs.lemmas.List.{take_all}
use Rattle.idl_names.specs.Paths.{Parts}
use Rattle.idl_names.proofs.PathLookups.{longer, all_names}
use Rattle.idl_names.proofs.paths.Paths.behind.Goals as goal

pub loop-name-init : goal.loop-name-init
loop-name-init c = slice_get-get_or c.args.self.now c.args.from [] c.requires ∙ ap Some (sym (append-nil (get_or c.args.self.now c.args.from [])))

pub inner-requires : goal.inner-requires
inner-requires c = slice_get_within c.args.self.now c.loop-name.number _ c.loop-name.invariant

pub returns-in_err-number-clause-none : goal.returns-in_err-number-clause-none
returns-in_err-number-clause-none c =
    subst (λ o. IfNone o (¬ Contains c.args.self.now (get_or c.args.self.now c.args.from [] ++ c.args.names.now))) (sym c.from_residual.ensures)
    (subst (λ p. ¬ Contains c.args.self.now p)
    (ap (λ (p : Parts). p ++ drop (suc c.loop-name.name-index) c.args.names.now) (longer c.args.self.now c.args.from c.loop-name.number c.loop-name.name-index c.args.names.now c.as_str.result.now c.name-item.result c.loop-name.invariant c.as_str.ensures c.loop-name-test.true c.name-item.is) ∙ all_names (get_or c.args.self.now c.args.from []) c.args.names.now (suc c.loop-name.name-index))
    (c.in_err-number.ensures.none (drop (suc c.loop-name.name-index) c.args.names.now)))

pub loop-name-preserved : goal.loop-name-preserved
loop-name-preserved c =
    let next : suc c.loop-name.name-index ≡ c.loop-name.name-index + 1 = omega arith in
    subst (λ n. slice_get c.args.self.now c.in_ok-number.number ≡ Some (get_or c.args.self.now c.args.from [] ++ take n c.args.names.now)) next (c.in_ok-number.ensures.some ∙ ap Some (longer c.args.self.now c.args.from c.loop-name.number c.loop-name.name-index c.args.names.now c.as_str.result.now c.name-item.result c.loop-name.invariant c.as_str.ensures c.loop-name-test.true c.name-item.is))

pub returns-clause-some : goal.returns-clause-some
returns-clause-some c =
    let end : length c.args.names.now ≤ c.loop-name.name-index = omega (arith, c.loop-name-test.false) in
    c.loop-name.invariant ∙ ap (λ names. Some (get_or c.args.self.now c.args.from [] ++ names)) (take_all c.loop-name.name-index c.args.names.now end)
