-- In every history the first message in flight comes with the rest of its block.
use Rattle.std.proofs.Common.{◌≡◌, sym, ap, ◌∙◌, true, List, ◌∷◌, ◌++◌}
use Rattle.std.proofs.lemmas.List.{append_assoc}
use Rattle.message_model.specs.Messages.{Message}
use Rattle.message_model.specs.Said.{spell}
use Rattle.bridge_model.specs.Sides.{stands}
use Rattle.bridge_laws.proofs.FrontLaws.{drained_front}
use Rattle.world_model.specs.Flights.{flight}
use Rattle.world_model.specs.Readings.{ArrivesWithItsBlock}
use Rattle.world_model.specs.Worlds.{Settings, of_a, of_b, World, Event, Runs, entries_of}
use Rattle.world_model.specs.declared.side.Side.TheVariants.{A, B}
use Rattle.world_laws.proofs.BlockLaws.{arrives_with_block}
use Rattle.world_laws.proofs.HistoryLaws.{all_arrive}
use Rattle.world_laws.proofs.RunLaws.{both_lead}
use Rattle.world_laws.specs.Ready.{AreReady, BothGiveWell}
use Rattle.world_laws.proofs.CarriedLaws.{both_carried, whole_met}

module _ (g : Settings) (ready : AreReady g) (es : List Event) (well : BothGiveWell g es) (w : World) (runs : Runs g es w) where
  pub block_a : stands w.a.now.side ≡ true → (m : Message) (ms : List Message) → flight w.b.now w.a.now ≡ m ∷ ms → ArrivesWithItsBlock (of_a g) w.b.now w.a.now m
  block_a up m ms flies =
      let is = whole_met g ready es well w runs in
      let all = all_arrive g ready.up es w is.met well.gives (both_carried g ready es w is.met well) in
      let front = drained_front (of_b g) (entries_of B es) w.b.now (both_lead g es w is.met).b in
      arrives_with_block (of_a g) w.b.now w.a.now (is.back.read up) (is.back.pipe ++ front.0) ready.up.sound all.light_b up
      (front.1 ∙ (ap (λ s. s ++ front.0) is.back.piped ∙ append_assoc w.a.now.bytes_in is.back.pipe front.0)) m ms flies (all.to_a up m ms flies)

  pub block_b : stands w.b.now.side ≡ true → (m : Message) (ms : List Message) → flight w.a.now w.b.now ≡ m ∷ ms → ArrivesWithItsBlock (of_b g) w.a.now w.b.now m
  block_b up m ms flies =
      let is = whole_met g ready es well w runs in
      let all = all_arrive g ready.up es w is.met well.gives (both_carried g ready es w is.met well) in
      let front = drained_front (of_a g) (entries_of A es) w.a.now (both_lead g es w is.met).a in
      arrives_with_block (of_b g) w.a.now w.b.now (is.there.read up) (is.there.pipe ++ front.0) ready.up.sound all.light_a up
      (front.1 ∙ (ap (λ s. s ++ front.0) is.there.piped ∙ append_assoc w.b.now.bytes_in is.there.pipe front.0)) m ms flies (all.to_b up m ms flies)
