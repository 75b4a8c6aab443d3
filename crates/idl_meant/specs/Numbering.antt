-- The numbers of constants and items, as they are worked out.
use Rattle.std.specs.Prelude.{◌≡◌, ℕ, List, map, length, Option}
use Rattle.idl_meaning_model.specs.ConstantsMeant.{value_meant}
use Rattle.idl_meaning_model.specs.Declarations.{Valued, all_valued}
use Rattle.idl_meant.specs.Resolving.{all_in}
use Rattle.idl_meant.specs.Starting.{starts_of}
use Rattle.idl_meant.specs.declared.numbers.Numbers.{Numbers}
use Rattle.idl_model.specs.Trees.{Path}
use Rattle.idl_names.specs.declared.resolving.Resolved.{Resolved}
use Rattle.idl_types.specs.Bodies.{bodies_of}
use Rattle.idl_values.specs.Graph.{AreKnown, AreLow, StandInOrder, places_from}
use Rattle.idl_values.specs.Origins.{all_origins}

-- the graph leads from each constant and item to those that give its value
pub record IsValueGraph (vs : List Valued) (graph : List (List ℕ)) : Type 0 where
  pub known : Path → Option ℕ
  pub are_known : AreKnown vs known
  pub are_low : AreLow vs known
  pub in_order : StandInOrder vs
  pub graph_is : graph ≡ places_from known 0 (all_origins vs)

pub record NumbersMeant (r : Resolved) (numbers : Numbers) : Type 0 where
  pub graph : IsValueGraph (all_valued (all_in r)) numbers.graph
  pub starts : numbers.starts.items ≡ starts_of (bodies_of r.declared.items) (length r.declared.items)
  pub values : numbers.values.items ≡ map (value_meant (all_valued (all_in r))) (all_valued (all_in r))
