-- What stands before a line, as plain data.
use Rattle.std.specs.Prelude.{map}
use Rattle.plan_model.specs.Contexts as plain
use Rattle.plan_model.specs.Plans as plan
use Rattle.plan_types.specs.Plans.{method_of, plan_of}
use Rattle.plan_types.specs.Statements.{root_statement_of}
use Rattle.type_registry.specs.Functions.{function_of}
use Rattle.plan_checks.specs.declared.context.OpenBehaviour.{OpenBehaviour}
use Rattle.plan_checks.specs.declared.context.Block.{Block}
use Rattle.plan_checks.specs.declared.context.Block.TheVariants as block
use Rattle.plan_checks.specs.declared.context.Context.{Context}

abbrev pub open_of : OpenBehaviour → plan.Behaviour
open_of b = record { name = b.name; faces = b.faces.items; fields = b.fields; methods = map method_of b.methods.items }

abbrev pub block_of : Block → plain.Block
block_of block.Top = plain.at_top
block_of (block.Behaviour b) = plain.in_behaviour (open_of b)
block_of (block.Method b m) = plain.in_method (open_of b) (method_of m.method) (function_of m.function)
block_of (block.Thread ss) = plain.in_thread (map root_statement_of ss.items)

abbrev pub context_of : Context → plain.Context
context_of c = record { plan = plan_of c.plan; block = block_of c.block; variables = c.variables }
