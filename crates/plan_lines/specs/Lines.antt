-- Lines as plain trees.
use Rattle.std.specs.Prelude.{map, option_map}
use Rattle.plan_model.specs.Lines as plain
use Rattle.plan_types.specs.Expressions.{word_of}
use Rattle.plan_lines.specs.Terms.{term_of}
use Rattle.plan_lines.specs.declared.line.Declared.{Declared}
use Rattle.plan_lines.specs.declared.line.Line.{Line}
use Rattle.plan_lines.specs.declared.line.Line.TheVariants as line

abbrev pub declared_of : Declared → plain.Declared
declared_of d = record { name = d.name; kind = d.kind }

abbrev pub line_of : Line → plain.Line
line_of (line.Behaviour name faces) = plain.behaviour name faces.items
line_of (line.Field d) = plain.field (declared_of d)
line_of (line.Method face function) = plain.method face function
line_of (line.Service name b) = plain.service name b
line_of (line.Singleton name b) = plain.singleton name b
line_of (line.Export name b) = plain.export name b
line_of line.Thread = plain.thread
line_of line.End = plain.end_line
line_of (line.Let d t) = plain.let_variable (declared_of d) (term_of t)
line_of (line.SetVariable name t) = plain.set_variable name (term_of t)
line_of (line.SetField name t) = plain.set_field name (term_of t)
line_of (line.Call to target function args) = plain.call (option_map declared_of to) (word_of target) function (map term_of args.items)
line_of (line.Query d target) = plain.query (declared_of d) (word_of target)
line_of (line.Make d b) = plain.make (declared_of d) b
line_of (line.Drop name) = plain.drop_variable name
line_of (line.When left comparison right back) = plain.when (word_of left) comparison (term_of right) (option_map term_of back)
line_of (line.Return back) = plain.return (option_map term_of back)
line_of (line.Raise k t) = plain.raise k (term_of t)
line_of line.Dispose = plain.dispose
line_of (line.Ask d name) = plain.ask (declared_of d) name
line_of (line.AskInstance d) = plain.ask_instance (declared_of d)
line_of (line.Same x y) = plain.same x y
