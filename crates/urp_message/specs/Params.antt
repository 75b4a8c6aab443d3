-- Which parameters a request or a reply carries.
use Rattle.std.specs.Prelude.{Bool, List, [], ◌∷◌, Option, None, Some}
use Rattle.std.specs.Borrow.{Bor}
use Rattle.message_model.specs.Calls.{goes, comes}
use Rattle.uno_model.specs.Kinds.{Kind}
use Rattle.uno_model.specs.declared.way.Way.{Way}
use Rattle.uno_entities.specs.TypeNames.{kind_of}
use Rattle.uno_entities.specs.declared.type_name.TypeName.{TypeName}
use Rattle.urp_message.specs.declared.params.Phase.{Phase}
use Rattle.urp_message.specs.declared.params.Phase.TheVariants as phase

-- the test on a parameter's way
abbrev pub carries : Phase → Way → Bool
carries phase.Request = goes
carries phase.Reply = comes

-- a type that is lent, where one is
abbrev pub kind_or_none : Option (Bor TypeName) → List Kind
kind_or_none None = []
kind_or_none (Some k) = kind_of k.now ∷ []
