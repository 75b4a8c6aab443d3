-- Which statements of roots are typed, one after the other.
use Rattle.std.specs.Prelude.{◌≡◌, ℕ, Bool, true, false, not, ◌&&◌, List, [], ◌∷◌, Option, None, Some}
use Rattle.std.specs.List.{AllByRecursion, filter, list_all}
use Rattle.std.specs.Str.{bytes_eq}
use Rattle.uno_model.specs.BuiltIn.{x_interface_name}
use Rattle.uno_model.specs.Entities.{Entity, Field}
use Rattle.uno_model.specs.Fits.{IsInterface}
use Rattle.uno_model.specs.Kinds as kd
use Rattle.plan_model.specs.Expressions.{Expression, Expressions, constant, word, operation, any, tuple, list, bytes, none, more, Argument, into, out, both}
use Rattle.plan_model.specs.Forms.{is_export_name}
use Rattle.plan_model.specs.Plans.{Plan}
use Rattle.plan_model.specs.Statements.{RootStatement, ask, ask_instance, root_call, root_query, root_make, root_drop, same, root_dispose}
use Rattle.plan_typing.specs.Statements.{IsTypedCall, IsTypedQuery, IsTypedMaking, with_type, with_result}
use Rattle.plan_typing.specs.Types.{Types, variable_type}

-- a name under which no variable is known
abbrev pub IsNew : List ℕ → Types → Type 0
IsNew name ts = variable_type ts name ≡ None

abbrev pub IsResultNew : Option Field → Types → Type 0
IsResultNew None ts = Unit
IsResultNew (Some x) ts = IsNew x.name ts

-- no operation: its value is always there
unfoldable mutual
  pub has_value : Expression → Bool
  has_value (constant x) = true
  has_value (word w) = true
  has_value (operation op a b) = false
  has_value (any k a) = has_value a
  has_value (tuple name es) = have_values es
  has_value (list k es) = have_values es
  has_value (bytes es) = have_values es

  pub have_values : Expressions → Bool
  have_values none = true
  have_values (more a es) = has_value a && have_values es

abbrev pub may_be_given : Argument → Bool
may_be_given (into a) = has_value a
may_be_given (out name) = true
may_be_given (both name) = true

-- a call, a query and a new object are typed as in a method, and the arguments have values; a name that is asked for has the form of an export's, and a variable that begins is new
unfoldable pub IsTypedRoot : List Entity → Plan → Types → RootStatement → Type 0
IsTypedRoot reg plan ts (ask to wanted name) = (is_export_name name ≡ true) × IsInterface reg wanted × IsNew to ts
IsTypedRoot reg plan ts (ask_instance to wanted) = IsInterface reg wanted × IsNew to ts
IsTypedRoot reg plan ts (root_call c) = IsTypedCall reg ts c × (list_all may_be_given c.arguments ≡ true) × IsResultNew c.to ts
IsTypedRoot reg plan ts (root_query q) = IsTypedQuery reg ts q × IsNew q.to ts
IsTypedRoot reg plan ts (root_make m) = IsTypedMaking reg plan m × IsNew m.to ts
IsTypedRoot reg plan ts (root_drop name) = Unit
IsTypedRoot reg plan ts (same x y) = Unit
IsTypedRoot reg plan ts root_dispose = Unit

-- the types behind a statement
unfoldable pub types_behind_root : RootStatement → Types → Types
types_behind_root (ask to wanted name) ts = with_type to (kd.interface wanted) ts
types_behind_root (ask_instance to wanted) ts = with_type to (kd.interface wanted) ts
types_behind_root (root_call c) ts = with_result c.to ts
types_behind_root (root_query q) ts = with_type q.to (kd.interface q.wanted) ts
types_behind_root (root_make m) ts = with_type m.to (kd.interface m.face) ts
types_behind_root (root_drop name) ts = record ts { variables = filter (λ x. not (bytes_eq name x.name)) ts.variables }
types_behind_root s ts = ts

-- statements one after the other
unfoldable pub AreTypedRoots : List Entity → Plan → Types → List RootStatement → Type 0
AreTypedRoots reg plan ts [] = Unit
AreTypedRoots reg plan ts (s ∷ ss) = IsTypedRoot reg plan ts s × AreTypedRoots reg plan (types_behind_root s ts) ss

-- a root begins without variables; it has neither fields nor an own object
abbrev pub first_root_types : Types
first_root_types = record { variables = []; fields = []; own = x_interface_name }

-- all roots of a plan
abbrev pub AreTypedThreads : List Entity → Plan → Type 0
AreTypedThreads reg plan = AllByRecursion (AreTypedRoots reg plan first_root_types) plan.threads
