-- Messages whose references are told as own or foreign by their identities, and that neither call nor release what is this end's.
use Rattle.std.specs.Prelude.{◌≡◌, true, List, [], ◌∷◌}
use Rattle.std.specs.List.{list_all, AllByRecursion}
use Rattle.message_model.specs.Messages.{Message, request, release, reply}
use Rattle.uno_model.specs.Values.{Ref, peer}
use Rattle.bridge_model.specs.References.{refs_of_values, refs_of_answer}
use Rattle.bridge_model.specs.Saying.{IsSayable}
use Rattle.bridge_model.specs.Settings.{Setting, is_told}

-- what a message refers to: its target, or the pair that it releases, which are the other end's, and the references of its values
abbrev pub referred : Message → List Ref
referred (request tid oid face function args) = peer oid face ∷ refs_of_values args
referred (release tid oid face) = peer oid face ∷ []
referred (reply tid face function a) = refs_of_answer a

-- a message may be said, is not too heavy for a block, and tells what it refers to by the identities
pub record IsRightlySaid (g : Setting) (m : Message) : Type 0 where
  pub sayable : IsSayable g.registry m
  pub told : list_all (is_told g) (referred m) ≡ true

-- and so is each of these
abbrev pub AreRightlySaid : Setting → List Message → Type 0
AreRightlySaid g ms = AllByRecursion (IsRightlySaid g) ms
