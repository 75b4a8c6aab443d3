-- Entities by their parts.
use Rattle.std.specs.Prelude.{ℕ, Bool, true, false, List, [], Some}
use Rattle.uno_model.specs.Kinds.{Kind}
use Rattle.uno_model.specs.Entities.{Entity, Body, Method, Param, Field, Base, exception}
use Rattle.uno_model.specs.declared.way.Way.TheVariants.{Into}

-- a published entity
abbrev pub published : List ℕ → Body → Entity
published name body = record { name = name; published = true; body = body }

-- an exception that has just what its base has
abbrev pub derived : List ℕ → List ℕ → Entity
derived name base = published name (exception (Some base) [])

abbrev pub method_named : List ℕ → Bool → Kind → List Param → List (List ℕ) → Method
method_named name oneway result_kind params raises = record { name = name; oneway = oneway; result_kind = result_kind; params = params; raises = raises }

abbrev pub into_named : List ℕ → Kind → Param
into_named name of_kind = record { way = Into; name = name; kind = of_kind }

abbrev pub field_named : List ℕ → Kind → Field
field_named name of_kind = record { name = name; kind = of_kind }

abbrev pub required_base : List ℕ → Base
required_base name = record { optional = false; name = name }
