-- Words and expressions as plain trees.
use Rattle.std.specs.Prelude.{List, map}
use Rattle.plan_model.specs.Expressions.{expressions}
use Rattle.plan_model.specs.Expressions as plain
use Rattle.uno_entities.specs.TypeNames.{kind_of}
use Rattle.uno_values.specs.Values.{plain_of}
use Rattle.plan_types.specs.declared.word.Word.{Word}
use Rattle.plan_types.specs.declared.word.Word.TheVariants as word
use Rattle.plan_types.specs.declared.expression.Expression.{Expression}
use Rattle.plan_types.specs.declared.expression.Expression.TheOpen.{Expression-F}
use Rattle.plan_types.specs.declared.expression.Expression.TheFolds.{fold-Expression}
use Rattle.plan_types.specs.declared.expression.Argument.{Argument}
use Rattle.plan_types.specs.declared.expression.Argument.TheVariants as argument

abbrev pub word_of : Word → plain.Word
word_of (word.Variable name) = plain.variable name
word_of (word.Field name) = plain.field name
word_of word.Own = plain.own

-- one level, with the expressions inside already seen as their plain trees
abbrev pub expression_step : Expression-F plain.Expression → plain.Expression
expression_step (Expression-F.Constant x) = plain.constant (plain_of x)
expression_step (Expression-F.Word w) = plain.word (word_of w)
expression_step (Expression-F.Operation op a b) = plain.operation op a.value b.value
expression_step (Expression-F.Any k a) = plain.any (kind_of k) a.value
expression_step (Expression-F.Tuple name es) = plain.tuple name (expressions es.items)
expression_step (Expression-F.List k es) = plain.list (kind_of k) (expressions es.items)
expression_step (Expression-F.Bytes es) = plain.bytes (expressions es.items)

abbrev pub expression_of : Expression → plain.Expression
expression_of = fold-Expression plain.Expression expression_step

abbrev pub expressions_of : List Expression → plain.Expressions
expressions_of es = expressions (map expression_of es)

abbrev pub argument_of : Argument → plain.Argument
argument_of (argument.Into e) = plain.into (expression_of e)
argument_of (argument.Out name) = plain.out name
argument_of (argument.Both name) = plain.both name
