-- The messages of a body that bytes spell fit and can be written again, and what is remembered after them goes on to mean what it should.
use Rattle.std.proofs.Common.{ℕ, List, [], ◌∷◌, sym, subst}
use Rattle.std.specs.List.{AllByRecursion}
use Rattle.uno_model.specs.Entities.{Entity}
use Rattle.uno_model.specs.Sound.{IsSound}
use Rattle.urp_model.specs.Blocks.{AreBytes}
use Rattle.urp_model.proofs.SpellableLaws.{bytes_parts}
use Rattle.message_model.specs.Arriving.{IsHeard, MessageFits, HearsTexts, HasSmallFunction, AwaitSmallFunctions}
use Rattle.message_model.specs.Calls.{Waits}
use Rattle.message_model.specs.Headers.{Heard}
use Rattle.message_model.specs.Messages.{Message}
use Rattle.message_model.specs.Sayable.{MessageSpellable}
use Rattle.message_model.specs.Streams.{SpellsBody}
use Rattle.message_model.proofs.MessageArrivalLaws.{message_fits}
use Rattle.message_model.proofs.SpellableMessageLaws.{message_spellable, message_small}

module _ (reg : List Entity) where
  pub body_fits : IsSound reg → (ws : List Waits) (body : List ℕ) (heard t : Heard) (ms : List Message) → IsHeard reg heard → SpellsBody reg ws body heard ms t
      → AllByRecursion (MessageFits reg) ms × IsHeard reg t
  unfolding SpellsBody
  body_fits sound [] body heard t [] is spelled = (tt, subst (IsHeard reg) (sym spelled.1) is)
  body_fits sound [] body heard t (m ∷ ms) is spelled = absurd spelled
  body_fits sound (w ∷ ws) body heard t [] is spelled = absurd spelled
  body_fits sound (w ∷ ws) body heard t (m ∷ ms) is (used, rest, between, split, first, others) =
      let one = message_fits reg sound w heard m used between is first in
      let behind = body_fits sound ws rest between t ms one.1 others in
      ((one.0, behind.0), behind.1)

  pub body_spellable : (ws : List Waits) (body : List ℕ) (heard t : Heard) (ms : List Message) → AreBytes body → HearsTexts heard → SpellsBody reg ws body heard ms t
      → AllByRecursion MessageSpellable ms × HearsTexts t
  unfolding SpellsBody
  body_spellable [] body heard t [] bytes is spelled = (tt, subst HearsTexts (sym spelled.1) is)
  body_spellable [] body heard t (m ∷ ms) bytes is spelled = absurd spelled
  body_spellable (w ∷ ws) body heard t [] bytes is spelled = absurd spelled
  body_spellable (w ∷ ws) body heard t (m ∷ ms) bytes is (used, rest, between, split, first, others) =
      let parts = bytes_parts body used rest split bytes in
      let one = message_spellable reg w heard m used between parts.0 is first in
      let behind = body_spellable ws rest between t ms parts.1 one.1 others in
      ((one.0, behind.0), behind.1)

  pub body_small : (ws : List Waits) (body : List ℕ) (heard t : Heard) (ms : List Message) → AreBytes body → AllByRecursion AwaitSmallFunctions ws → SpellsBody reg ws body heard ms t
      → AllByRecursion HasSmallFunction ms
  unfolding SpellsBody
  body_small [] body heard t [] bytes small spelled = tt
  body_small [] body heard t (m ∷ ms) bytes small spelled = absurd spelled
  body_small (w ∷ ws) body heard t [] bytes small spelled = absurd spelled
  body_small (w ∷ ws) body heard t (m ∷ ms) bytes small (used, rest, between, split, first, others) =
      let parts = bytes_parts body used rest split bytes in
      (message_small reg w heard m used between parts.0 small.0 first, body_small ws rest between t ms parts.1 small.1 others)
