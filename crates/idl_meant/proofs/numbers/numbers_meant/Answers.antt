use Rattle.std.proofs.Common.{◌∙◌, ◌<◌, ◌==◌, None, ap, get_or, map, subst, sym}
use Rattle.std.specs.List.{AllByRecursion}
use Rattle.idl_meaning_model.specs.Declarations.{all_valued}
use Rattle.idl_names.specs.Collected.{declared_of}
use Rattle.idl_names.specs.Opened.{value_paths}
use Rattle.idl_values.specs.Graph.{places_from}
use Rattle.idl_values.specs.Origins.{all_origins, origins_of}
use Rattle.idl_values.specs.Places.{first_place, known_by}
use Rattle.idl_values.specs.Told.{number_at}
use Rattle.idl_meant.specs.Resolving.{all_in}
use Rattle.idl_meant.proofs.LoopLemmas.{low_values}
use Rattle.idl_meant.proofs.NumberLemmas.{numbers_are}
use Rattle.idl_meant.proofs.numbers.numbers_meant.Goals as goal

pub first_places-requires : goal.first_places-requires
first_places-requires c =
    subst (AllByRecursion (λ n. n < c.len-count.result)) (sym c.as_slice.ensures.value)
    (low_values c.args.resolved.now.paths c.len-count.result c.args.resolved.now.opened.values.items (value_paths (all_in c.args.resolved.now)) c.len-count.ensures.count c.requires.resolved.opened.values)

pub values-requires : goal.values-requires
values-requires c =
    let table = c.as_slice-2.ensures.value ∙ sym c.as_slice-4.ensures.value in
    let origins = c.as_slice-3.ensures.value ∙ sym c.as_slice-5.ensures.value in
    c.in_ok-graph.ensures ∙ (λ i. places_from (known_by (number_at c.args.told.now.numbers) (table i)) 0 (origins_of (origins i)))

pub returns : goal.returns
returns c =
    let r = c.args.resolved.now in
    let table = c.as_slice-2.ensures.value ∙ sym c.as_slice-4.ensures.value in
    let origins = c.as_slice-3.ensures.value ∙ sym c.as_slice-5.ensures.value in
    numbers_are r c.requires.resolved _ c.len-count.ensures.once (number_at c.args.told.now.numbers) c.requires.told c.as_slice-4.result.now
    (λ n. ap (λ t. get_or t n None) c.as_slice-4.ensures.value ∙ c.in_ok-table.ensures n ∙ ap (first_place (λ m. m == n)) c.as_slice.ensures.value) c.as_slice-5.result.now
    (ap origins_of c.as_slice-5.ensures.value ∙ c.in_ok-origins.ensures r.paths ∙ ap (λ xs. all_origins (all_valued (map (declared_of r.paths) xs))) c.as_slice-all.ensures.value)
    (c.in_ok-graph.ensures ∙ (λ i. places_from (known_by (number_at c.args.told.now.numbers) (table i)) 0 (origins_of (origins i)))) c.in_ok-values.ensures c.as_slice-all.result.now c.as_slice-all.ensures.value c.in_ok-starts.ensures
