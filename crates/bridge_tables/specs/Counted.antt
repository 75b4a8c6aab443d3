-- What sendings count: the stubs after some objects were named, and which values a request or a reply carries.
use Rattle.std.specs.Prelude.{Bool, List, [], ◌∷◌, Option, None, Some}
use Rattle.message_model.specs.Calls.{goes, comes, kinds_on}
use Rattle.uno_model.specs.Functions.{Function}
use Rattle.uno_model.specs.Kinds.{Kind}
use Rattle.uno_model.specs.declared.way.Way.{Way}
use Rattle.urp_model.specs.Namings.{Naming}
use Rattle.table_model.specs.Stubs.{Stubs}
use Rattle.bridge_model.specs.References.{counts_sent}
use Rattle.bridge_objects.specs.Kept.{Kept}
use Rattle.bridge_tables.specs.declared.counting.Phase.{Phase}
use Rattle.bridge_tables.specs.declared.counting.Phase.TheVariants.{Request, Reply}

abbrev pub with_stubs : Stubs → Kept → Kept
with_stubs stubs k = record k { stubs = stubs }

-- each of these was named once more
abbrev pub counted : List Naming → Kept → Kept
counted ns k = with_stubs (counts_sent ns k.stubs) k

-- whether a parameter's value goes with the request, or comes with the reply
abbrev pub carries : Phase → Way → Bool
carries Request way = goes way
carries Reply way = comes way

-- the types of the values that are carried for a function; one that is not there carries none
abbrev pub carried_by : Phase → Option Function → List Kind
carried_by phase None = []
carried_by phase (Some f) = kinds_on (carries phase) f.params

abbrev pub one_or_none : {A : Type 0} → Option A → List A
one_or_none None = []
one_or_none (Some x) = x ∷ []
