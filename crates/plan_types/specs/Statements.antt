-- Statements as plain trees.
use Rattle.std.specs.Prelude.{List, Option, map, option_map}
use Rattle.plan_model.specs.Statements as plain
use Rattle.uno_entities.specs.Entities.{field_of}
use Rattle.plan_types.specs.Expressions.{word_of, expression_of, argument_of}
use Rattle.plan_types.specs.declared.statement.Callee.{Callee}
use Rattle.plan_types.specs.declared.statement.Call.{Call}
use Rattle.plan_types.specs.declared.statement.Query.{Query}
use Rattle.plan_types.specs.declared.statement.Making.{Making}
use Rattle.plan_types.specs.declared.statement.Test.{Test}
use Rattle.plan_types.specs.declared.statement.Statement.{Statement}
use Rattle.plan_types.specs.declared.statement.Statement.TheVariants as statement
use Rattle.plan_types.specs.declared.statement.RootStatement.{RootStatement}
use Rattle.plan_types.specs.declared.statement.RootStatement.TheVariants as root

abbrev pub callee_of : Callee → plain.Callee
callee_of c = record { owner = c.owner; name = c.name }

abbrev pub call_of : Call → plain.Call
call_of c = record { target = word_of c.target; callee = callee_of c.callee; arguments = map argument_of c.arguments.items; to = option_map field_of c.to }

abbrev pub query_of : Query → plain.Query
query_of q = record { target = word_of q.target; wanted = q.wanted; to = q.to }

abbrev pub making_of : Making → plain.Making
making_of m = record { behaviour = m.behaviour; face = m.face; to = m.to }

abbrev pub test_of : Test → plain.Test
test_of t = record { left = word_of t.left; comparison = t.comparison; right = expression_of t.right }

abbrev pub statement_of : Statement → plain.Statement
statement_of (statement.Let f e) = plain.let_variable (field_of f) (expression_of e)
statement_of (statement.SetVariable name e) = plain.set_variable name (expression_of e)
statement_of (statement.SetField name e) = plain.set_field name (expression_of e)
statement_of (statement.Call c) = plain.call (call_of c)
statement_of (statement.Query q) = plain.query (query_of q)
statement_of (statement.Make m) = plain.make (making_of m)
statement_of (statement.Drop name) = plain.drop_variable name
statement_of (statement.When t back) = plain.when (test_of t) (option_map expression_of back)
statement_of (statement.Return back) = plain.return (option_map expression_of back)
statement_of (statement.Raise name e) = plain.raise name (expression_of e)
statement_of statement.Dispose = plain.dispose

abbrev pub root_statement_of : RootStatement → plain.RootStatement
root_statement_of (root.Ask to wanted name) = plain.ask to wanted name
root_statement_of (root.AskInstance to wanted) = plain.ask_instance to wanted
root_statement_of (root.Call c) = plain.root_call (call_of c)
root_statement_of (root.Query q) = plain.root_query (query_of q)
root_statement_of (root.Make m) = plain.root_make (making_of m)
root_statement_of (root.Drop name) = plain.root_drop name
root_statement_of (root.Same x y) = plain.same x y
root_statement_of root.Dispose = plain.root_dispose
