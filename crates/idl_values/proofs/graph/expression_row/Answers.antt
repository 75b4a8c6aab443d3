use Rattle.std.proofs.Common.{◌∙◌, ap}
use Rattle.std.specs.List.{filter_map}
use Rattle.idl_names.specs.Used.{all_used_of}
use Rattle.idl_meaning_model.specs.Uses.{expr_paths}
use Rattle.idl_trees.specs.Expressions.{expr_of}
use Rattle.idl_values.specs.Graph.{used_place}
use Rattle.idl_values.specs.Places.{known_by}
use Rattle.idl_values.specs.Told.{number_at}
use Rattle.idl_values.proofs.LoopLemmas.{value_places}
use Rattle.idl_values.proofs.graph.expression_row.Goals as goal

pub returns : goal.returns
returns c =
    let known = known_by (number_at c.args.told.now.numbers) c.args.table.now in
    c.in_ok-row.ensures ∙ ap (filter_map (used_place known)) (ap all_used_of c.as_slice.ensures.value ∙ c.in_ok-used.ensures) ∙ value_places known (expr_paths (expr_of c.args.expr.now))
