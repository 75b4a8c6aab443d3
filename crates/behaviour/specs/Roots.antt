-- Roots in progress as plain trees.
use Rattle.std.specs.Prelude.{map, ◌++◌}
use Rattle.std.specs.List.{flat_map}
use Rattle.named_variables.specs.Threads.{all_of}
use Rattle.plan_model.specs.Roots.{Run}
use Rattle.plan_types.specs.Frames.{variables_of}
use Rattle.uno_model.specs.Values.{refs}
use Rattle.uno_values.specs.References.{ref_of}
use Rattle.uno_values.specs.Values.{plain_of}
use Rattle.behaviour.specs.declared.root.RootRun.{RootRun}

abbrev pub run_of : RootRun → Run
run_of r =
    record {
      root = r.root;
      place = r.place;
      variables = variables_of (all_of r.variables);
      lines = r.lines.items;
      instance = r.instance;
      loose = map ref_of r.letting.items ++ flat_map (λ x. refs (plain_of x)) r.loose.items;
    }
