-- The references that stand in the statements of roots themselves.
use Rattle.std.specs.Prelude.{List, []}
use Rattle.std.specs.List.{flat_map}
use Rattle.uno_model.specs.Values.{Ref}
use Rattle.plan_model.specs.Plans.{Plan}
use Rattle.plan_model.specs.Statements.{RootStatement, root_call}
use Rattle.bridge_laws.specs.Living.{argument_constants}

abbrev pub root_statement_constants : RootStatement → List Ref
root_statement_constants (root_call c) = flat_map argument_constants c.arguments
root_statement_constants s = []

-- a text of a plan has only null in their place
unfoldable pub root_constants : Plan → List Ref
root_constants p = flat_map (λ t. flat_map root_statement_constants t) p.threads
