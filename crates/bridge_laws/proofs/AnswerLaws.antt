-- Each answer that a root has is one to what it asked for.
use Rattle.std.proofs.Common.{◌≡◌, ◌≤◌, ℕ, List, length, subst}
use Rattle.message_model.specs.Messages.{Answer}
use Rattle.uno_model.specs.BuiltIn.{HasBuiltIn}
use Rattle.uno_model.specs.Sound.{IsSound}
use Rattle.plan_model.specs.Keeps.{KeepsTheRules}
use Rattle.plan_typing.specs.Effects.{NamesDiffer}
use Rattle.bridge_laws.specs.OfPlan.{IsRoot}
use Rattle.bridge_model.specs.Entries.{Entry}
use Rattle.bridge_model.specs.Histories.{Told, Leads}
use Rattle.bridge_model.specs.Settings.{Setting}
use Rattle.bridge_model.specs.Sides.{answer, answered, state_of}
use Rattle.bridge_laws.specs.Giving.{RootsGive}
use Rattle.bridge_laws.proofs.TypedGiven.{IsGiven}
use Rattle.bridge_laws.proofs.TypedGivenLaws.{is_given}
use Rattle.bridge_laws.specs.RootAnswers.{still_asked, IsAnswerTo}
use Rattle.bridge_laws.proofs.OwedEntries.{all_owed}
use Rattle.bridge_laws.proofs.OwedSides.{StateFits}

pub answer_is : (g : Setting) → IsGiven g → (es : List Entry) (x : Told) → RootsGive g es → Leads g es x → (root : ℕ) (a : Answer) → IsRoot g root
    → state_of root x.side.tables.roots ≡ answered (answer a) → IsAnswerTo g.registry (still_asked root es) a
answer_is g given es x gives leads root a is at =
    subst (StateFits g.registry (still_asked root es)) at (all_owed g given given.roots root is.0 is.1 es x leads gives).state

pub answers_fit : (g : Setting) → IsSound g.registry → HasBuiltIn g.registry → NamesDiffer g.registry → KeepsTheRules g.registry g.plan → length g.tag ≤ 32
    → (es : List Entry) (x : Told) → RootsGive g es → Leads g es x → (root : ℕ) (a : Answer) → IsRoot g root → state_of root x.side.tables.roots ≡ answered (answer a)
    → IsAnswerTo g.registry (still_asked root es) a
answers_fit g sound built differ keeps short = answer_is g (is_given g sound built differ keeps short)
