-- The lines of a plan as they are written: names of types, interfaces and behaviours are still texts.
use Rattle.std.specs.Prelude.{ℕ, List, [], ◌∷◌, Option}
use Rattle.literal_model.specs.Literals.{Token}
use Rattle.plan_model.specs.Expressions.{Word}
use Rattle.plan_model.specs.declared.comparison.Comparison.{Comparison}
use Rattle.plan_model.specs.declared.operation.Operation.{Operation}

-- what stands for a value: a number, a word or a quoted text; a type; the void any; a type and a value of it; a sequence; the members of a struct or an
-- exception; a word of the plan; an operation
mutual
  pub data Term : Type 0 where
    leaf : Token → Term
    type_named : List ℕ → Term
    void_any : Term
    typed : List ℕ → Term → Term
    elements : Terms → Term
    members : Terms → Term
    word : Word → Term
    operation : Operation → Term → Term → Term

  pub data Terms : Type 0 where
    none : Terms
    more : Term → Terms → Terms

abbrev pub terms : List Term → Terms
terms [] = none
terms (t ∷ ts) = more t (terms ts)

-- a name that is declared, and its type
pub record Declared : Type 0 where
  pub name : List ℕ
  pub kind : List ℕ

-- a line: the head of a block, its end, a line of a behaviour or of the top, or a statement
pub data Line : Type 0 where
  behaviour : (name : List ℕ) → (faces : List (List ℕ)) → Line
  field : Declared → Line
  method : (face function : List ℕ) → Line
  service : (name behaviour : List ℕ) → Line
  singleton : (name behaviour : List ℕ) → Line
  export : (name behaviour : List ℕ) → Line
  thread : Line
  end_line : Line
  let_variable : Declared → Term → Line
  set_variable : List ℕ → Term → Line
  set_field : List ℕ → Term → Line
  call : Option Declared → (target : Word) → (function : List ℕ) → (args : List Term) → Line
  query : Declared → (target : Word) → Line
  make : Declared → (behaviour : List ℕ) → Line
  drop_variable : List ℕ → Line
  when : (left : Word) → Comparison → (right : Term) → (back : Option Term) → Line
  return : Option Term → Line
  raise : (kind : List ℕ) → Term → Line
  dispose : Line
  ask : Declared → (name : List ℕ) → Line
  ask_instance : Declared → Line
  same : List ℕ → List ℕ → Line
