-- Statements of a method, and of a root: one for each form in which they are written.
use Rattle.std.specs.Prelude.{ℕ, List, Option}
use Rattle.uno_model.specs.Entities.{Field}
use Rattle.plan_model.specs.Expressions.{Word, Expression, Argument}
use Rattle.plan_model.specs.declared.comparison.Comparison.{Comparison}

-- a function of an interface by the interface that declares it and its name
pub record Callee : Type 0 where
  pub owner : List ℕ
  pub name : List ℕ

-- a call: the object, the function, an argument for each parameter in order, and the variable that the result becomes, where it is named
pub record Call : Type 0 where
  pub target : Word
  pub callee : Callee
  pub arguments : List Argument
  pub to : Option Field

-- a query: the object, the interface that is asked, and the variable that the answer becomes
pub record Query : Type 0 where
  pub target : Word
  pub wanted : List ℕ
  pub to : List ℕ

-- a new object: the number of its behaviour, the interface under which it is held, and the variable that it becomes
pub record Making : Type 0 where
  pub behaviour : ℕ
  pub face : List ℕ
  pub to : List ℕ

-- a test: what a word stands for against an expression
pub record Test : Type 0 where
  pub left : Word
  pub comparison : Comparison
  pub right : Expression

-- a statement of a method; what is returned is left out in a method whose result is void
pub data Statement : Type 0 where
  let_variable : Field → Expression → Statement
  set_variable : List ℕ → Expression → Statement
  set_field : List ℕ → Expression → Statement
  call : Call → Statement
  query : Query → Statement
  make : Making → Statement
  drop_variable : List ℕ → Statement
  when : Test → Option Expression → Statement
  return : Option Expression → Statement
  raise : List ℕ → Expression → Statement
  dispose : Statement

-- a statement of a root: it also asks the peer for an exported name, or for the one name that the session is about, and compares two variables
pub data RootStatement : Type 0 where
  ask : (to wanted name : List ℕ) → RootStatement
  ask_instance : (to wanted : List ℕ) → RootStatement
  root_call : Call → RootStatement
  root_query : Query → RootStatement
  root_make : Making → RootStatement
  root_drop : List ℕ → RootStatement
  same : List ℕ → List ℕ → RootStatement
  root_dispose : RootStatement
