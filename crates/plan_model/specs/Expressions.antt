-- Expressions of a plan: values in whose place a word of the plan may stand.
use Rattle.std.specs.Prelude.{ℕ, List, [], ◌∷◌}
use Rattle.uno_model.specs.Kinds.{Kind}
use Rattle.uno_model.specs.Values.{Plain}
use Rattle.plan_model.specs.declared.operation.Operation.{Operation}

-- what a word stands for: a variable or parameter `$ID`, a field `$.ID` of the own object, or the own object `$self`
pub data Word : Type 0 where
  variable : List ℕ → Word
  field : List ℕ → Word
  own : Word

-- an expression at its type: a value, a word, a sum or a difference of numbers, and an any, a struct or exception, or a sequence with expressions in it;
-- `bytes` is a sequence of bytes
mutual
  pub data Expression : Type 0 where
    constant : Plain → Expression
    word : Word → Expression
    operation : Operation → Expression → Expression → Expression
    any : Kind → Expression → Expression
    tuple : List ℕ → Expressions → Expression
    list : Kind → Expressions → Expression
    bytes : Expressions → Expression

  pub data Expressions : Type 0 where
    none : Expressions
    more : Expression → Expressions → Expressions

-- a list of expressions as the parts of one
abbrev pub expressions : List Expression → Expressions
expressions [] = none
expressions (e ∷ es) = more e (expressions es)

-- what is given for a parameter: an expression for one that goes in, and the variable that gets the value of one that comes out, or goes both ways
pub data Argument : Type 0 where
  into : Expression → Argument
  out : List ℕ → Argument
  both : List ℕ → Argument
