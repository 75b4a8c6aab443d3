-- What a line's terms and words are at the types of their places: the statement that a line is, where each of them fits.
use Rattle.std.specs.Prelude.{ℕ, Bool, true, false, List, [], ◌∷◌, Option, None, Some}
use Rattle.std.specs.Option.{option_map}
use Rattle.literal_model.specs.Readings.{and_then, single}
use Rattle.uno_model.specs.Codes.{same_kind}
use Rattle.uno_model.specs.Entities.{Entity, Param}
use Rattle.uno_model.specs.Fits.{member_kinds}
use Rattle.uno_model.specs.Kinds.{Kind}
use Rattle.uno_model.specs.Kinds as kd
use Rattle.uno_model.specs.NamedTypes.{type_of_text}
use Rattle.uno_model.specs.Values as v
use Rattle.uno_model.specs.declared.way.Way.{Way}
use Rattle.uno_model.specs.declared.way.Way.TheVariants as way
use Rattle.plan_model.specs.Contexts.{Context, kind_of_variable, kind_of_word, kind_fits}
use Rattle.plan_model.specs.Evaluation.{both_values}
use Rattle.plan_model.specs.Expressions.{Word, variable, Expression, Expressions, Argument}
use Rattle.plan_model.specs.Expressions as e
use Rattle.plan_model.specs.Lines.{Term, Terms, leaf, type_named, void_any, typed, elements, members, word, operation, none, more}

-- ---- terms

-- the whole types: numbers, but not char
abbrev pub is_whole : Kind → Bool
is_whole kd.byte = true
is_whole kd.short = true
is_whole kd.unsigned_short = true
is_whole kd.long = true
is_whole kd.unsigned_long = true
is_whole kd.hyper = true
is_whole kd.unsigned_hyper = true
is_whole k = false

-- where the test holds
abbrev pub only_if : {X : Type 0} → Bool → Option X → Option X
only_if true x = x
only_if false x = None

-- a type as a value of type `type`
abbrev pub type_value : Kind → Option Kind → Option Expression
type_value kd.kind (Some t) = Some (e.constant (v.kind t))
type_value k t = None

abbrev pub void_any_at : Kind → Option Expression
void_any_at kd.any = Some (e.constant (v.any kd.void v.void))
void_any_at k = None

-- an any of a type, with what the term is at that type
abbrev pub any_at : Kind → Option Kind → (Kind → Option Expression) → Option Expression
any_at kd.any (Some t) content = option_map (e.any t) (content t)
any_at k t content = None

-- elements at a type, and members at theirs
abbrev pub elements_at : Kind → (Kind → Option Expressions) → Option Expression
elements_at (kd.sequence kd.byte) all = option_map e.bytes (all kd.byte)
elements_at (kd.sequence k) all = option_map (e.list k) (all k)
elements_at k all = None

abbrev pub members_at : List Entity → Kind → (List Kind → Option Expressions) → Option Expression
members_at reg (kd.struct name) each = option_map (e.tuple name) (each (member_kinds reg name))
members_at reg (kd.exception name) each = option_map (e.tuple name) (each (member_kinds reg name))
members_at reg k each = None

abbrev pub word_at : List Entity → Kind → Word → Option Kind → Option Expression
word_at reg k w (Some from) = only_if (kind_fits reg k from) (Some (e.word w))
word_at reg k w None = None

-- the expression that a term is at a type, where it fits that
unfoldable mutual
  pub expression_of : List Entity → Context → Term → Kind → Option Expression
  expression_of reg c (leaf t) k = option_map e.constant (single reg k t)
  expression_of reg c (type_named t) k = type_value k (type_of_text reg t)
  expression_of reg c void_any k = void_any_at k
  expression_of reg c (typed t x) k = any_at k (type_of_text reg t) (expression_of reg c x)
  expression_of reg c (elements ts) k = elements_at k (all_at reg c ts)
  expression_of reg c (members ts) k = members_at reg k (each_at reg c ts)
  expression_of reg c (word w) k = word_at reg k w (kind_of_word c w)
  expression_of reg c (operation op x y) k =
      only_if (is_whole k) (both_values (expression_of reg c x k) (expression_of reg c y k) (λ a b. Some (e.operation op a b)))

  -- all at one type
  pub all_at : List Entity → Context → Terms → Kind → Option Expressions
  all_at reg c none k = Some e.none
  all_at reg c (more t ts) k = both_values (expression_of reg c t k) (all_at reg c ts k) (λ a rest. Some (e.more a rest))

  -- each at the type at its place, of which there are as many
  pub each_at : List Entity → Context → Terms → List Kind → Option Expressions
  each_at reg c none [] = Some e.none
  each_at reg c none (k ∷ ks) = None
  each_at reg c (more t ts) [] = None
  each_at reg c (more t ts) (k ∷ ks) = both_values (expression_of reg c t k) (each_at reg c ts ks) (λ a rest. Some (e.more a rest))

-- ---- arguments

-- a word for a parameter whose value comes out: the variable that gets it
abbrev pub variable_in : Term → Option (List ℕ)
variable_in (word (variable name)) = Some name
variable_in t = None

-- a value that comes out has to fit the variable, and the variable of one that goes both ways is of the parameter's very type
abbrev pub gets : List Entity → Way → Kind → Kind → Bool
gets reg way.Both param from = same_kind param from
gets reg w param from = kind_fits reg from param

abbrev pub out_argument : List Entity → Context → Param → (List ℕ → Argument) → Option (List ℕ) → Option Argument
out_argument reg c p mk None = None
out_argument reg c p mk (Some name) = and_then (kind_of_variable c name) (λ from. only_if (gets reg p.way p.kind from) (Some (mk name)))

unfoldable pub argument_of : List Entity → Context → Param → Term → Option Argument
argument_of reg c p t = on p.way
  where
    on : Way → Option Argument
    on way.Into = option_map e.into (expression_of reg c t p.kind)
    on way.Out = out_argument reg c p e.out (variable_in t)
    on way.Both = out_argument reg c p e.both (variable_in t)

-- an argument for each parameter
unfoldable pub arguments_of : List Entity → Context → List Param → List Term → Option (List Argument)
arguments_of reg c [] [] = Some []
arguments_of reg c [] (t ∷ ts) = None
arguments_of reg c (p ∷ ps) [] = None
arguments_of reg c (p ∷ ps) (t ∷ ts) = both_values (argument_of reg c p t) (arguments_of reg c ps ts) (λ a rest. Some (a ∷ rest))
