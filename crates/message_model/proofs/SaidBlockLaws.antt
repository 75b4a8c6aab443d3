-- What one end says stands as blocks of one message each, and these are read as what arrives.
use Rattle.std.proofs.Common.{◌≡◌, ℕ, ◌+◌, ◌≤◌, List, [], ◌∷◌, ◌++◌, length, map, None, refl, sym, ap, subst, ◌∙◌, append-nil, arith, length-append}
use Rattle.std.specs.List.{AllByRecursion, flat_map}
use Rattle.std.proofs.lemmas.List.Concat.{flat_map-cons}
use Rattle.uno_model.specs.Entities.{Entity}
use Rattle.uno_model.specs.Sound.{IsSound}
use Rattle.urp_model.specs.Blocks.{spell_block}
use Rattle.urp_model.specs.PlacedBlocks.{PlacedBlock, IsBlockAt, spell_blocks, AreBlocksAnd}
use Rattle.urp_model.proofs.PlacedBlockLaws.{spell_blocks-cons, spell_blocks-nil, ArePlacedFrom, placed_cons, at_place}
use Rattle.message_model.specs.Calls.{Waits}
use Rattle.message_model.specs.Headers.{Heard, nothing_heard}
use Rattle.message_model.specs.Messages.{Message}
use Rattle.message_model.specs.ReadingStreams.{Awaiting, along, along_blocks, joined, StreamRead, stream_at}
use Rattle.message_model.specs.Said.{spoken_after, spell, placed_bodies, said_blocks, AreLight}
use Rattle.message_model.specs.Sayable.{arrived, MemoriesCorrespond}
use Rattle.message_model.specs.Streams.{SpellsStream, EachCanBeSaid}
use Rattle.message_model.specs.WritingMessages.{Spoken, nothing_spoken, after_message, bodies_spelling}
use Rattle.message_model.proofs.MessageWeightLaws.{message_bounded}
use Rattle.message_model.proofs.StreamLaws.{all_is_read}
use Rattle.message_model.proofs.StreamReadingLaws.{is_read}

-- ---- the blocks

bodies_spelled : (place : ℕ) (bodies : List (List ℕ)) → spell_blocks (placed_bodies place bodies) ≡ flat_map (spell_block 1) bodies
unfolding placed_bodies
bodies_spelled place [] = spell_blocks-nil
bodies_spelled place (body ∷ bodies) =
    let others = placed_bodies (place + length (spell_block 1 body)) bodies in
    spell_blocks-cons (record { place = place; count = 1; body = body }) others
    ∙ ap (λ z. spell_block 1 body ++ z) (bodies_spelled (place + length (spell_block 1 body)) bodies) ∙ sym (flat_map-cons (spell_block 1) body bodies)

-- no body is larger than a block may be
abbrev AreSmall : List (List ℕ) → Type 0
AreSmall bodies = AllByRecursion (λ body. length body ≤ 16777216) bodies

bodies_placed : (place : ℕ) (bodies : List (List ℕ)) → AreSmall bodies → ArePlacedFrom place (placed_bodies place bodies)
unfolding placed_bodies
bodies_placed place [] small = λ before b after e. let bad : ⊥ = omega (arith, ap length e, length-append before (b ∷ after)) in absurd bad
bodies_placed place (body ∷ bodies) small =
    let first : PlacedBlock = record { place = place; count = 1; body = body } in
    let is : IsBlockAt place first = record { place_is = refl; some = omega arith; count_fits = omega arith; size_fits = small.0 } in
    placed_cons place first (placed_bodies (place + length (spell_block 1 body)) bodies) is (bodies_placed (place + length (spell_block 1 body)) bodies small.1)

module _ (reg : List Entity) where
  bodies_small : (ms : List Message) (spoken : Spoken) → AreLight ms → AreSmall (bodies_spelling reg ms spoken)
  unfolding bodies_spelling
  bodies_small [] spoken light = tt
  bodies_small (m ∷ ms) spoken light = (omega (arith, light.0, message_bounded reg m spoken), bodies_small ms (after_message reg m spoken) light.1)

  blocks_placed : (said : List Message) → AreLight said → ArePlacedFrom 0 (said_blocks reg said)
  unfolding said_blocks
  blocks_placed said light = bodies_placed 0 (bodies_spelling reg said nothing_spoken) (bodies_small said nothing_spoken light)

  blocks_spelled : (said : List Message) → spell_blocks (said_blocks reg said) ≡ spell reg said
  unfolding said_blocks spell
  blocks_spelled said = bodies_spelled 0 (bodies_spelling reg said nothing_spoken)

  pub said_stands : (said : List Message) → AreLight said → AreBlocksAnd (spell reg said) (said_blocks reg said) []
  said_stands said light = record {
    whole = sym (append-nil (spell_blocks (said_blocks reg said)) ∙ blocks_spelled said);
    placed = λ before b after e. at_place (0 + length (spell_blocks before)) (length (spell_blocks before)) b (omega arith) (blocks_placed said light before b after e);
  }

-- ---- what is read of them

-- messages in blocks of their own
abbrev each_alone : List Message → List (List Message)
each_alone ms = map (λ m. m ∷ []) ms

alone_along : (waits : Awaiting) (ms : List Message) → along_blocks waits (each_alone ms) ≡ map (λ w. w ∷ []) (along waits ms)
unfolding along along_blocks
alone_along waits [] = refl
alone_along waits (m ∷ ms) = ap (λ ws. (waits [] ∷ []) ∷ ws) (alone_along (λ ns. waits (m ∷ ns)) ms)

alone_joined : (ms : List Message) → joined (each_alone ms) ≡ ms
unfolding joined
alone_joined [] = refl
alone_joined (m ∷ ms) = ap (λ ns. m ∷ ns) (alone_joined ms)

module _ (reg : List Entity) where
  arrived_each : (ms : List Message) → map (λ m. arrived reg m ∷ []) ms ≡ each_alone (map (arrived reg) ms)
  arrived_each [] = refl
  arrived_each (m ∷ ms) = ap (λ ns. (arrived reg m ∷ []) ∷ ns) (arrived_each ms)

  can_light : (ws : List Waits) (ms : List Message) → EachCanBeSaid reg ws ms → AreLight ms
  unfolding EachCanBeSaid
  can_light [] [] can = tt
  can_light [] (m ∷ ms) can = absurd can
  can_light (w ∷ ws) [] can = absurd can
  can_light (w ∷ ws) (m ∷ ms) can = (can.0.light, can_light ws ms can.1)

  -- all that was said, and no fault
  abbrev pub all_read : List Message → Heard → StreamRead
  all_read said t = record { messages = map (arrived reg) said; heard = t; fault = None }

  pub said_is_read_so : IsSound reg → (waits : Awaiting) (said : List Message) → EachCanBeSaid reg (along waits (map (arrived reg) said)) said
      → (t : Heard) × (stream_at reg waits nothing_heard (said_blocks reg said) ≡ all_read said t) × MemoriesCorrespond t (spoken_after reg said)
  said_is_read_so sound waits said can =
      let ws = along waits (map (arrived reg) said) in
      let each = each_alone (map (arrived reg) said) in
      let all = all_is_read reg sound ws said can in
      let messages = subst (λ mss. SpellsStream reg (map (λ w. w ∷ []) ws) (spell reg said) nothing_heard mss all.0) (arrived_each said) all.1 in
      let waited = subst (λ w. SpellsStream reg w (spell reg said) nothing_heard each all.0) (sym (alone_along waits (map (arrived reg) said))) messages in
      let spelled = subst (λ s. SpellsStream reg (along_blocks waits each) s nothing_heard each all.0) (sym (blocks_spelled reg said)) waited in
      let read = is_read reg sound 0 (said_blocks reg said) waits nothing_heard (all_read said all.0) None (blocks_placed reg said (can_light ws said can)) refl
      (record { messages = each; joins = sym (alone_joined (map (arrived reg) said)); spelled = spelled }) in
      (all.0, read, all.2)
