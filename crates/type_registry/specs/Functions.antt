-- Functions as plain trees.
use Rattle.std.specs.Prelude.{ℕ, List, map, Option, None, Some}
use Rattle.std.specs.Borrow.{Bor}
use Rattle.uno_model.specs.Entities.{Param}
use Rattle.uno_model.specs.Functions as plain
use Rattle.uno_model.specs.Kinds.{Kind}
use Rattle.uno_model.specs.Kinds as kd
use Rattle.uno_entities.specs.Entities.{param_of, attribute_of, method_of}
use Rattle.uno_entities.specs.TypeNames.{kind_of}
use Rattle.uno_entities.specs.declared.type_name.TypeName.{TypeName}
use Rattle.type_registry.specs.declared.function.Function.{Function}
use Rattle.type_registry.specs.declared.function.FunctionRef.{FunctionRef}
use Rattle.type_registry.specs.declared.function.FunctionRef.TheVariants as lent
use Rattle.type_registry.specs.declared.function.ParamRef.{ParamRef}

abbrev pub function_of : Function → plain.Function
function_of f = record { owner = f.owner; name = f.name; oneway = f.oneway; result_kind = kind_of f.result; params = map param_of f.params.items; raises = f.raises.items }

abbrev pub functions_at : List Function → List plain.Function
functions_at = map function_of

-- a function that is lent
abbrev pub lent_function : FunctionRef → plain.Function
lent_function (lent.Getter owner a) = plain.getter owner.now (attribute_of a.now)
lent_function (lent.Setter owner a) = plain.setter owner.now (attribute_of a.now)
lent_function (lent.Method owner m) = plain.call owner.now (method_of m.now)

-- its parameters, and the name of its attribute or method
abbrev pub lent_param : ParamRef → Param
lent_param p = record { way = p.way; name = p.name.now; kind = kind_of p.kind.now }

abbrev pub member_name : FunctionRef → List ℕ
member_name (lent.Getter owner a) = a.now.name
member_name (lent.Setter owner a) = a.now.name
member_name (lent.Method owner m) = m.now.name

-- the type of a result, where none stands for void
abbrev pub kind_or_void : Option (Bor TypeName) → Kind
kind_or_void None = kd.void
kind_or_void (Some k) = kind_of k.now
