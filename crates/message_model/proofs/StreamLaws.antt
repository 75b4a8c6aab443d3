-- Streams of messages: what they spell is determined, one block more is one step more, and what was said is read.
use Rattle.std.proofs.Common.{◌≡◌, ℕ, List, [], ◌∷◌, ◌++◌, length, map, Ok, refl, sym, ap, subst, ◌∙◌, arith}
use Rattle.std.proofs.lemmas.List.{append_assoc, append-nil}
use Rattle.std.proofs.lemmas.List.Concat.{flat_map-cons}
use Rattle.uno_model.specs.Entities.{Entity}
use Rattle.uno_model.specs.Sound.{IsSound}
use Rattle.urp_model.specs.Agreement.{triple}
use Rattle.urp_model.specs.Blocks.{spell_block, IsBlock}
use Rattle.urp_model.proofs.BlockLaws.{spell_block-front}
use Rattle.urp_model.proofs.CorrespondLaws.{all_at_first}
use Rattle.urp_model.proofs.FrontLaws.{triple_maker, one_front}
use Rattle.message_model.specs.Calls.{Waits}
use Rattle.message_model.specs.Headers.{Heard, nothing_heard}
use Rattle.message_model.specs.Messages.{Message}
use Rattle.message_model.specs.ReadingMessages.{message_at}
use Rattle.message_model.specs.Said.{spoken_after, spell}
use Rattle.message_model.specs.Sayable.{arrived, MemoriesCorrespond}
use Rattle.message_model.specs.SpellingMessages.{SpellsMessage}
use Rattle.message_model.specs.Streams.{SpellsBody, IsStreamBlock, SpellsStream, CanBeSaid, EachCanBeSaid}
use Rattle.message_model.specs.WritingMessages.{Spoken, nothing_spoken, message_spelling, after_message, bodies_spelling, after_messages, messages_spelling}
use Rattle.message_model.proofs.MessageReadingLaws.{message_agrees}
use Rattle.message_model.proofs.MessageWeightLaws.{message_bounded}
use Rattle.message_model.proofs.SentMessageLaws.{message_is}

-- before anything was said, nothing is held and nothing was named
pub agree_at_first : MemoriesCorrespond nothing_heard nothing_spoken
agree_at_first = record { names = all_at_first; last = refl }

module _ (reg : List Entity) where
  -- ---- one more

  -- a body with one message more behind it
  pub body_more : (ws : List Waits) (bytes : List ℕ) (heard t u : Heard) (ms : List Message) (waits : Waits) (m : Message) (used : List ℕ) → SpellsBody reg ws bytes heard ms t
      → SpellsMessage reg waits t m used u → SpellsBody reg (ws ++ waits ∷ []) (bytes ++ used) heard (ms ++ m ∷ []) u
  unfolding SpellsBody
  body_more [] bytes heard t u [] waits m used spelled one =
      (used, [], u, ap (λ b. b ++ used) spelled.0 ∙ sym (append-nil used), subst (λ h. SpellsMessage reg waits h m used u) spelled.1 one, (refl, refl))
  body_more [] bytes heard t u (n ∷ ns) waits m used spelled one = absurd spelled
  body_more (w ∷ ws) bytes heard t u [] waits m used spelled one = absurd spelled
  body_more (w ∷ ws) bytes heard t u (n ∷ ns) waits m used (first, rest, between, is, spelled, others) one =
      (first, rest ++ used, between, ap (λ b. b ++ used) is ∙ append_assoc first rest used, spelled, body_more ws rest between t u ns waits m used others one)

  -- a stream with one block more behind it
  pub stream_more : (wss : List (List Waits)) (bytes : List ℕ) (heard t u : Heard) (mss : List (List Message)) (ws : List Waits) (ms : List Message) (body : List ℕ)
      → SpellsStream reg wss bytes heard mss t → IsStreamBlock (length ms) body → SpellsBody reg ws body t ms u
      → SpellsStream reg (wss ++ ws ∷ []) (bytes ++ spell_block (length ms) body) heard (mss ++ ms ∷ []) u
  unfolding SpellsStream
  stream_more [] bytes heard t u [] ws ms body spelled block one = (
    body,
    [],
    u,
    ap (λ b. b ++ spell_block (length ms) body) spelled.0 ∙ sym (append-nil (spell_block (length ms) body)),
    block,
    subst (λ h. SpellsBody reg ws body h ms u) spelled.1 one,
    (refl, refl),
  )
  stream_more [] bytes heard t u (ns ∷ nss) ws ms body spelled block one = absurd spelled
  stream_more (vs ∷ wss) bytes heard t u [] ws ms body spelled block one = absurd spelled
  stream_more (vs ∷ wss) bytes heard t u (ns ∷ nss) ws ms body (first, rest, between, is, first_block, spelled, others) block one =
      let more = spell_block (length ms) body in (
        first,
        rest ++ more,
        between,
        ap (λ b. b ++ more) is ∙ append_assoc (spell_block (length ns) first) rest more,
        first_block,
        spelled,
        stream_more wss rest between t u nss ws ms body others block one,
      )

module _ (reg : List Entity) (sound : IsSound reg) where
  -- ---- what is spelled is determined

  -- two messages at the front of the same bytes are one, and so is what stands behind them
  one_message : (waits : Waits) (heard t u : Heard) (m n : Message) (b d c e : List ℕ) → SpellsMessage reg waits heard m b t → SpellsMessage reg waits heard n c u
      → b ++ d ≡ c ++ e → (m ≡ n) × (t ≡ u) × (d ≡ e)
  one_message waits heard t u m n b d c e first second same =
      let one = one_front triple triple_maker (message_agrees reg waits heard sound.named) (m, t) (n, u) b c d e first second same in
      ((λ i. (one.0 i).0), (λ i. (one.0 i).1), one.2)

  pub one_body : (ws : List Waits) (bytes : List ℕ) (heard t u : Heard) (ms ns : List Message) → SpellsBody reg ws bytes heard ms t → SpellsBody reg ws bytes heard ns u
      → (ms ≡ ns) × (t ≡ u)
  unfolding SpellsBody
  one_body [] bytes heard t u [] [] first second = (refl, first.1 ∙ sym second.1)
  one_body [] bytes heard t u [] (n ∷ ns) first second = absurd second
  one_body [] bytes heard t u (m ∷ ms) ns first second = absurd first
  one_body (w ∷ ws) bytes heard t u [] ns first second = absurd first
  one_body (w ∷ ws) bytes heard t u (m ∷ ms) [] first second = absurd second
  one_body (w ∷ ws) bytes heard t u (m ∷ ms) (n ∷ ns) (used, rest, between, is, spelled, others) (used', rest', between', is', spelled', others') =
      let one = one_message w heard between between' m n used rest used' rest' spelled spelled' (sym is ∙ is') in
      let behind : SpellsBody reg ws rest between ns u = subst (λ b. SpellsBody reg ws b between ns u) (sym one.2) (subst (λ h. SpellsBody reg ws rest' h ns u) (sym one.1) others') in
      let all = one_body ws rest between t u ms ns others behind in
      ((λ i. one.0 i ∷ all.0 i), all.1)

  pub one_stream : (wss : List (List Waits)) (bytes : List ℕ) (heard t u : Heard) (mss nss : List (List Message)) → SpellsStream reg wss bytes heard mss t
      → SpellsStream reg wss bytes heard nss u → (mss ≡ nss) × (t ≡ u)
  unfolding SpellsStream
  one_stream [] bytes heard t u [] [] first second = (refl, first.1 ∙ sym second.1)
  one_stream [] bytes heard t u [] (ns ∷ nss) first second = absurd second
  one_stream [] bytes heard t u (ms ∷ mss) nss first second = absurd first
  one_stream (ws ∷ wss) bytes heard t u [] nss first second = absurd first
  one_stream (ws ∷ wss) bytes heard t u (ms ∷ mss) [] first second = absurd second
  one_stream (ws ∷ wss) bytes heard t u (ms ∷ mss) (ns ∷ nss) (body, rest, between, is, block, spelled, others) (body', rest', between', is', block', spelled', others') =
      let front = spell_block-front (length ms) (length ns) body body' rest rest' (fits block) (fits block') (sym is ∙ is') in
      let one = one_body ws body heard between between' ms ns spelled (subst (λ b. SpellsBody reg ws b heard ns between') (sym front.1) spelled') in
      let behind : SpellsStream reg wss rest between nss u
      = subst (λ b. SpellsStream reg wss b between nss u) (sym front.2) (subst (λ h. SpellsStream reg wss rest' h nss u) (sym one.1) others') in
      let all = one_stream wss rest between t u mss nss others behind in
      ((λ i. one.0 i ∷ all.0 i), all.1)
    where
      fits : {count : ℕ} {body : List ℕ} → IsStreamBlock count body → IsBlock count body
      fits is = record { count_fits = is.few; size_fits = omega (arith, is.size) }

  -- ---- what was said is read

  -- a message as it is read, whatever stands behind it, and that the reader goes on to answer
  abbrev pub ReadBack : Waits → Heard → Message → Spoken → List ℕ → Type 0
  ReadBack waits heard m spoken rest =
      (t : Heard) × (message_at reg waits heard (message_spelling reg m spoken ++ rest) ≡ Ok (arrived reg m, t, rest)) × MemoriesCorrespond t (after_message reg m spoken)

  pub read_back : (waits : Waits) (heard : Heard) (m : Message) (spoken : Spoken) (rest : List ℕ) → CanBeSaid reg waits m → MemoriesCorrespond heard spoken → ReadBack waits heard m spoken rest
  read_back waits heard m spoken rest can agree =
      let w = message_is reg waits heard spoken sound agree m can.may can.light can.carried can.awaited in
      (w.0, (message_agrees reg waits heard sound.named).complete (arrived reg m, w.0) (message_spelling reg m spoken) rest w.1, w.2)

  -- each message in a block of its own, while these calls wait
  abbrev pub alone : List Waits → List (List Waits)
  alone ws = map (λ w. w ∷ []) ws

  abbrev pub arrived_alone : List Message → List (List Message)
  arrived_alone ms = map (λ m. arrived reg m ∷ []) ms

  pub said_is_read : (ws : List Waits) (ms : List Message) (heard : Heard) (spoken : Spoken) → EachCanBeSaid reg ws ms → MemoriesCorrespond heard spoken
      → (t : Heard) × SpellsStream reg (alone ws) (messages_spelling reg ms spoken) heard (arrived_alone ms) t × MemoriesCorrespond t (after_messages reg ms spoken)
  unfolding SpellsStream SpellsBody EachCanBeSaid bodies_spelling after_messages
  said_is_read [] [] heard spoken can agree = (heard, (refl, refl), agree)
  said_is_read [] (m ∷ ms) heard spoken can agree = absurd can
  said_is_read (w ∷ ws) [] heard spoken can agree = absurd can
  said_is_read (w ∷ ws) (m ∷ ms) heard spoken can agree =
      let can_first = can.0 in
      let said = message_is reg w heard spoken sound agree m can_first.may can_first.light can_first.carried can_first.awaited in
      let body = message_spelling reg m spoken in
      let behind = said_is_read ws ms said.0 (after_message reg m spoken) can.1 said.2 in
      let block : IsStreamBlock 1 body = record { some = omega arith; few = omega arith; size = omega (arith, can_first.light, message_bounded reg m spoken) } in
      let bytes = flat_map-cons (spell_block 1) body (bodies_spelling reg ms (after_message reg m spoken)) in
      let one : SpellsBody reg (w ∷ []) body heard (arrived reg m ∷ []) said.0 = (body, [], said.0, sym (append-nil body), said.1, (refl, refl)) in
      (behind.0, (body, messages_spelling reg ms (after_message reg m spoken), said.0, bytes, block, one, behind.1), behind.2)

  -- from the beginning
  pub all_is_read : (ws : List Waits) (said : List Message) → EachCanBeSaid reg ws said
      → (t : Heard) × SpellsStream reg (alone ws) (spell reg said) nothing_heard (arrived_alone said) t × MemoriesCorrespond t (spoken_after reg said)
  unfolding spell spoken_after
  all_is_read ws said can = said_is_read ws said nothing_heard nothing_spoken can agree_at_first
