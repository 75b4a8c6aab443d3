use Rattle.std.proofs.Common.{◌∙◌, arith, ap, subst, sym}
use Rattle.std.proofs.lemmas.Option.{slice_get_within}
use Rattle.std.specs.List.{AllByRecursion}
use Rattle.idl_names.specs.Collected.{HasNumbers}
use Rattle.idl_values.specs.Told.{number_told}
use Rattle.idl_meant.proofs.LoopLemmas.{low_paths, told_low}
use Rattle.idl_meant.proofs.NameLemmas.{names_are}
use Rattle.idl_meant.proofs.names.names_meant.Goals as goal

pub owners-requires-clause-some : goal.owners-requires-clause-some
owners-requires-clause-some c =
    let many = c.len-count.ensures.count in
    let low = slice_get_within c.args.resolved.now.paths 0 _ c.requires.outermost in
    omega (arith, many, low)

pub owners-requires-clause-low : goal.owners-requires-clause-low
owners-requires-clause-low c =
    low_paths c.args.resolved.now.paths c.len-count.result c.as_slice-all.result.now c.len-count.ensures.count
    (subst (AllByRecursion (HasNumbers c.args.resolved.now.paths)) (sym c.as_slice-all.ensures.value) c.requires.numbered)

pub typedef_ends-requires : goal.typedef_ends-requires
typedef_ends-requires c = λ p n at.
    let low = told_low c.args.resolved.now.paths c.args.resolved.now.names.items p n c.requires.right (sym (c.in_ok-told.ensures p ∙ ap (λ ns. number_told ns p) c.as_slice.ensures.value) ∙ at) in
    let many = c.in-Ok.ensures.1 ∙ c.len-count.ensures.count in
    omega (arith, low, many)

pub returns : goal.returns
returns c =
    names_are c.args.resolved.now _ c.as_slice-all.result.now c.as_slice-2.result.now c.in-Ok.end c.len-count.ensures.once c.as_slice-all.ensures.value c.as_slice-2.ensures.value (c.in-Ok.ensures.1 ∙ c.len-count.ensures.count)
    (λ p. c.in_ok-told.ensures p ∙ ap (λ ns. number_told ns p) c.as_slice.ensures.value) c.in_ok-uses.ensures c.in_ok-owners.ensures c.in_ok-ends.ensures.each
