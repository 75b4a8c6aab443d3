-- Objects: making them, their fields, what they support, and who may be asked for by name.
use Rattle.std.specs.Prelude.{ℕ, suc, Bool, nat_lt, ◌&&◌, not, ◌==◌, List, [], ◌∷◌, ◌++◌, length, map, Option, None, Some, slice_get, if◌then◌else◌}
use Rattle.std.specs.List.{filter, find, list_any}
use Rattle.std.specs.Str.{bytes_eq}
use Rattle.uno_model.specs.Defaults.{default_of_kind}
use Rattle.uno_model.specs.Entities.{Field}
use Rattle.uno_model.specs.Kinds.{Kind}
use Rattle.uno_model.specs.Values.{Plain}
use Rattle.table_model.specs.Holdings.{Holdings}
use Rattle.table_model.specs.Stubs.{Stubs}
use Rattle.table_model.specs.declared.holder.Holder.TheVariants as holder
use Rattle.plan_model.specs.Frames.{Variable}
use Rattle.plan_model.specs.Holdings.{query_answer, no_object}
use Rattle.plan_model.specs.Plans.{faces_of, supports, exported, first_objects}
use Rattle.plan_model.specs.Services.{fields_of_behaviour}
use Rattle.bridge_model.specs.References.{gains_all, refs_of_values}
use Rattle.bridge_model.specs.Settings.{Setting, own_oid}
use Rattle.bridge_model.specs.Sides.{Object, Tables}

-- ---- finding them

unfoldable pub object_numbered : ℕ → List Object → Option Object
object_numbered n os = find (λ o. n == o.number) os

unfoldable pub object_named : Setting → List ℕ → List Object → Option Object
object_named g oid os = find (λ o. bytes_eq oid (own_oid g o.number)) os

-- the number of the object of an identity; 0 is none's
abbrev pub number_of : Option Object → ℕ
number_of None = 0
number_of (Some o) = o.number

-- ---- what they are

abbrev pub fields_of : Setting → ℕ → List Field
fields_of g behaviour = fields_of_behaviour (slice_get g.plan.behaviours behaviour)

-- the values of the fields under their names
unfoldable pub as_variables : List Field → List Plain → List Variable
as_variables [] xs = []
as_variables (f ∷ fs) [] = []
as_variables (f ∷ fs) (x ∷ xs) = record { name = f.name; value = x } ∷ as_variables fs xs

abbrev pub variables_of : Setting → Option Object → List Variable
variables_of g None = []
variables_of g (Some o) = as_variables (fields_of g o.behaviour) o.fields

-- an object supports the interfaces of its behaviour
unfoldable pub faces_at : Setting → Option Object → List (List ℕ)
faces_at g None = []
faces_at g (Some o) = faces_of g.plan o.behaviour

unfoldable pub object_supports : Setting → List ℕ → List ℕ → List Object → Bool
object_supports g oid wanted os = supports g.registry (faces_at g (object_named g oid os)) wanted

-- ---- the answer to function 0

-- an own object answers what it supports
unfoldable pub object_answer : Setting → List ℕ → Kind → List Object → Plain
object_answer g oid k os = query_answer g.registry (faces_at g (object_named g oid os)) oid k

-- so does the object of an exported name; a name that is not exported answers the void any
abbrev pub answer_of_number : Setting → Kind → List Object → Option ℕ → Plain
answer_of_number g k os None = no_object
answer_of_number g k os (Some n) = object_answer g (own_oid g n) k os

unfoldable pub name_answer : Setting → List ℕ → Kind → List Object → Plain
name_answer g name k os = answer_of_number g k os (exported g.plan name)

-- ---- making them

-- the next number, with these values of its fields
unfoldable pub makes_object : ℕ → List Plain → Tables → Tables
makes_object behaviour fields t =
    gains_all
    (holder.Object (suc t.objects_made))
    (refs_of_values fields)
    (record t { objects = t.objects ++ record { number = suc t.objects_made; behaviour = behaviour; fields = fields } ∷ []; objects_made = suc t.objects_made })

abbrev pub defaults_of : Setting → ℕ → List Plain
defaults_of g behaviour = map (λ f. default_of_kind g.registry f.kind) (fields_of g behaviour)

-- the same with the defaults of its fields
abbrev pub makes_default : Setting → ℕ → Tables → Tables
makes_default g behaviour t = makes_object behaviour (defaults_of g behaviour) t

-- those that are there from the beginning
unfoldable pub makes_all : Setting → List ℕ → Tables → Tables
makes_all g [] t = t
makes_all g (behaviour ∷ rest) t = makes_all g rest (makes_default g behaviour t)

-- ---- other values of their fields

abbrev pub field_values : List Variable → List Plain
field_values xs = map (λ x. x.value) xs

unfoldable pub with_fields : ℕ → List Plain → List Object → List Object
with_fields n fields [] = []
with_fields n fields (o ∷ os) = if n == o.number then record o { fields = fields } ∷ os else o ∷ with_fields n fields os

-- ---- the ones that may go

unfoldable pub is_held_object : List ℕ → Holdings → Bool
is_held_object oid hs = list_any (λ h. bytes_eq oid h.pair.oid) hs

unfoldable pub has_stub : List ℕ → Stubs → Bool
has_stub oid stubs = list_any (λ row. bytes_eq oid row.0.oid) stubs

-- an object that nobody holds, that the peer does not hold, and that was not there from the beginning
abbrev pub may_go : Setting → Tables → Object → Bool
may_go g t o =
    nat_lt (length (first_objects g.plan)) o.number && (not (is_held_object (own_oid g o.number) t.holdings) && not (has_stub (own_oid g o.number) t.stubs))

-- the lowest of them
unfoldable pub lowest : Setting → Tables → Option Object
lowest g t = find (may_go g t) t.objects

unfoldable pub without_object : ℕ → List Object → List Object
without_object n os = filter (λ o. not (n == o.number)) os
