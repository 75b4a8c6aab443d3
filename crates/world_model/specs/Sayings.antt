-- What is known of each message that an end said: it may be said, and its references are told as own or foreign by their identities.
use Rattle.std.specs.Prelude.{◌≡◌, true, List}
use Rattle.std.specs.List.{list_all, AllByRecursion}
use Rattle.message_model.specs.MessageNamings.{message_values}
use Rattle.message_model.specs.Messages.{Message}
use Rattle.message_model.specs.Sayable.{MayBeSaid}
use Rattle.uno_model.specs.Values.{refs_in}
use Rattle.bridge_model.specs.Settings.{Setting, is_told}

-- of one message
pub record IsWellSaid (g : Setting) (m : Message) : Type 0 where
  pub may : MayBeSaid g.registry m
  pub told : list_all (is_told g) (refs_in (message_values m)) ≡ true

-- of each of these
abbrev pub AreWellSaid : Setting → List Message → Type 0
AreWellSaid g ms = AllByRecursion (IsWellSaid g) ms
