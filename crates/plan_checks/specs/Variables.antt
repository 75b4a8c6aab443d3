-- Variables as plain data.
use Rattle.std.specs.Prelude.{ℕ, List, map}
use Rattle.plan_model.specs.Contexts as plain
use Rattle.uno_entities.specs.TypeNames.{kind_of}
use Rattle.plan_checks.specs.declared.scope.scoped.Scoped.{Scoped}

abbrev pub scoped_of : Scoped → plain.Scoped
scoped_of x = record { name = x.name; kind = kind_of x.kind; comes_out = x.comes_out }

-- the names of variables, in their order
abbrev pub names_of : List plain.Scoped → List (List ℕ)
names_of xs = map (λ x. x.name) xs
