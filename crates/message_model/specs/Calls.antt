-- Which function a message calls, what its parameters carry, and which exceptions answer it.
use Rattle.std.specs.Prelude.{ℕ, ◌||◌, Bool, true, false, List, [], ◌∷◌, slice_get, Option, None, Some, if◌then◌else◌, codes}
use Rattle.std.specs.List.{list_any}
use Rattle.std.specs.Map.{lookup}
use Rattle.std.specs.Str.{bytes_eq}
use Rattle.uno_model.specs.Entities.{Entity, Param}
use Rattle.uno_model.specs.Functions.{Function, functions_of}
use Rattle.uno_model.specs.Kinds.{Kind}
use Rattle.uno_model.specs.Kinds as kd
use Rattle.uno_model.specs.Reaches.{is_base_of}
use Rattle.uno_model.specs.declared.way.Way.{Way}
use Rattle.uno_model.specs.declared.way.Way.TheVariants as way

-- ---- functions

-- the numbers of the functions that every interface has from com.sun.star.uno.XInterface and that are no calls like others
abbrev pub acquire_number : ℕ
acquire_number = 1

abbrev pub release_number : ℕ
release_number = 2

-- the function of an interface at a number
unfoldable pub numbered : List Entity → List ℕ → ℕ → Option Function
numbered reg face number = slice_get (functions_of reg face) number

-- whether a function is one-way, where it is there
abbrev pub is_oneway : Option Function → Bool
is_oneway None = false
is_oneway (Some f) = f.oneway

-- ---- parameters

-- a parameter whose value goes with the request, and one whose value comes with the reply
abbrev pub goes : Way → Bool
goes way.Into = true
goes way.Out = false
goes way.Both = true

abbrev pub comes : Way → Bool
comes way.Into = false
comes way.Out = true
comes way.Both = true

-- the types of the parameters that pass a test on their way, in order
unfoldable pub kinds_on : (Way → Bool) → List Param → List Kind
kinds_on test [] = []
kinds_on test (p ∷ ps) = if test p.way then p.kind ∷ kinds_on test ps else kinds_on test ps

-- the types of the values in a request and, behind the result, in a reply
abbrev pub argument_kinds : Function → List Kind
argument_kinds f = kinds_on goes f.params

abbrev pub out_kinds : Function → List Kind
out_kinds f = kinds_on comes f.params

-- ---- exceptions

-- the exception that every function may raise
abbrev pub runtime_exception : List ℕ
runtime_exception = codes "com.sun.star.uno.RuntimeException"

-- a function may raise an exception that it declares, or that derives from one of these or from RuntimeException
unfoldable pub may_raise : List Entity → Function → Kind → Bool
may_raise reg f (kd.exception name) = is_base_of reg runtime_exception name || list_any (λ declared. is_base_of reg declared name) f.raises
may_raise reg f k = false

-- ---- calls that wait

-- the interface and the function of a call that waits for its answer
pub record Waiting : Type 0 where
  pub face : List ℕ
  pub function : ℕ

-- for each thread that waits, the call at its top
abbrev pub Waits : Type 0
Waits = List (List ℕ × Waiting)

-- what a thread waits for
abbrev pub waiting : List ℕ → Waits → Option Waiting
waiting tid waits = lookup (bytes_eq tid) waits
