-- Objects that live: what is held and what was sent out names them, where the plan's constants and the roots' arguments bring no other names.
use Rattle.std.specs.Prelude.{◌≡◌, ℕ, ◌&&◌, Bool, true, List, [], ◌∷◌, ◌++◌, is_some, Option, None, Some}
use Rattle.std.specs.List.{flat_map, list_all}
use Rattle.uno_model.specs.Values.{Ref, refs}
use Rattle.plan_model.specs.Expressions.{Expression, Expressions, constant, word, operation, any, tuple, list, bytes, none, more, Argument, into, out, both}
use Rattle.plan_model.specs.Plans.{Plan}
use Rattle.plan_model.specs.Statements.{Statement, let_variable, set_variable, set_field, call, query, make, drop_variable, when, return, raise, dispose}
use Rattle.bridge_model.specs.Entries.{Entry, called}
use Rattle.bridge_model.specs.Objects.{object_named, is_held_object, has_stub}
use Rattle.bridge_model.specs.References.{refs_of_values}
use Rattle.bridge_model.specs.Settings.{Setting, is_own, is_told}
use Rattle.bridge_model.specs.Sides.{Object, Side}

-- ---- constants of a plan

-- the references that stand in an expression itself
unfoldable mutual
  pub constants_in : Expression → List Ref
  constants_in (constant x) = refs x
  constants_in (word w) = []
  constants_in (operation op a b) = constants_in a ++ constants_in b
  constants_in (any k a) = constants_in a
  constants_in (tuple name es) = constants_each es
  constants_in (list k es) = constants_each es
  constants_in (bytes es) = constants_each es

  pub constants_each : Expressions → List Ref
  constants_each none = []
  constants_each (more a es) = constants_in a ++ constants_each es

abbrev pub constants_if : Option Expression → List Ref
constants_if None = []
constants_if (Some a) = constants_in a

abbrev pub argument_constants : Argument → List Ref
argument_constants (into a) = constants_in a
argument_constants (out name) = []
argument_constants (both name) = []

-- in a statement
abbrev pub statement_constants : Statement → List Ref
statement_constants (let_variable f a) = constants_in a
statement_constants (set_variable name a) = constants_in a
statement_constants (set_field name a) = constants_in a
statement_constants (call c) = flat_map argument_constants c.arguments
statement_constants (query q) = []
statement_constants (make m) = []
statement_constants (drop_variable name) = []
statement_constants (when t back) = constants_in t.right ++ constants_if back
statement_constants (return back) = constants_if back
statement_constants (raise name a) = constants_in a
statement_constants dispose = []

-- in all that objects do; a text of a plan has only null in their place
unfoldable pub plan_constants : Plan → List Ref
plan_constants p = flat_map (λ b. flat_map (λ m. flat_map statement_constants m.body) b.methods) p.behaviours

-- ---- arguments of roots

abbrev pub entry_refs : Entry → List Ref
entry_refs (called root oid face function args) = refs_of_values args
entry_refs e = []

-- all references of arguments are so
unfoldable pub are_told : Setting → List Entry → Bool
are_told g [] = true
are_told g (e ∷ es) = list_all (is_told g) (entry_refs e) && are_told g es

-- ---- the law

abbrev pub lives : Setting → List Object → List ℕ → Bool
lives g os oid = is_some (object_named g oid os)

-- an identity of this end that is held, or that was sent out and is not all released, is that of an object that lives
pub record HeldLives (g : Setting) (s : Side) : Type 0 where
  pub held : (oid : List ℕ) → is_own g oid ≡ true → is_held_object oid s.tables.holdings ≡ true → lives g s.tables.objects oid ≡ true
  pub sent : (oid : List ℕ) → is_own g oid ≡ true → has_stub oid s.tables.stubs ≡ true → lives g s.tables.objects oid ≡ true
