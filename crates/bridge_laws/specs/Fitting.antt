-- What objects have and what is held, where it fits.
use Rattle.std.specs.Prelude.{◌≡◌, true, List}
use Rattle.uno_model.specs.Fits.{IsIdentity, IsInterface}
use Rattle.table_model.specs.Pair.{Pair}
use Rattle.plan_typing.specs.Scenes.{FieldsFit}
use Rattle.bridge_model.specs.Objects.{fields_of, as_variables, object_supports}
use Rattle.bridge_model.specs.Settings.{Setting, is_own}
use Rattle.bridge_model.specs.Sides.{Object}

-- the values of an object's fields fit the fields of its behaviour, one for each
abbrev pub HasFields : Setting → Object → Type 0
HasFields g o = FieldsFit g.registry (as_variables (fields_of g o.behaviour) o.fields) (fields_of g o.behaviour)

-- a pair has an identity and an interface of the registry, and an object of this end supports it
pub record IsPairOf (g : Setting) (os : List Object) (p : Pair) : Type 0 where
  pub identity : IsIdentity p.oid
  pub interface : IsInterface g.registry p.face
  pub supported : is_own g p.oid ≡ true → object_supports g p.oid p.face os ≡ true
