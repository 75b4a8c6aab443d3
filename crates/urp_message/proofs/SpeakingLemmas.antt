-- A message that may be said has parts that can be written, and what is written of it is read again.
use Rattle.std.specs.Int.{w32, to_be_bytes}
use Rattle.std.proofs.lemmas.List.{length-drop, take_at}
use Rattle.std.proofs.Common.{◌≡◌, ℕ, take, ◌-◌, ◌^◌, ◌<◌, ◌≤◌, List, ◌++◌, ◌∷◌, length, drop, [], Ok, refl, sym, ap, subst, ◌∙◌, arith}
use Rattle.uno_model.specs.Entities.{Entity}
use Rattle.uno_model.specs.Functions.{Function}
use Rattle.uno_model.specs.Kinds.{Kind, name_of}
use Rattle.uno_model.specs.Kinds as kd
use Rattle.uno_model.specs.Sound.{IsSound}
use Rattle.uno_model.specs.Values.{Plain, any, plains}
use Rattle.uno_model.specs.Weights.{weights}
use Rattle.urp_model.specs.Blocks.{spell_block}
use Rattle.urp_model.proofs.SizeLaws.{each_sized}
use Rattle.message_model.specs.Calls.{Waits, argument_kinds, out_kinds}
use Rattle.message_model.specs.Headers.{Heard}
use Rattle.message_model.specs.Messages.{Answer, returned, raised, Message, request, release, reply}
use Rattle.message_model.specs.Sayable.{Fill, AnswerFits, MayBeSaid, heading_weight, answer_weight, message_weight, MessageSpellable, arrived, IsAwaited}
use Rattle.message_model.specs.Said.{spoken_after, spell, uses_of, AreLeftBy}
use Rattle.message_model.specs.Sayable.{MemoriesCorrespond}
use Rattle.message_model.specs.ReadingMessages.{message_at}
use Rattle.message_model.specs.WritingMessages.{Spoken, Heading, call_heading, release_heading, message_spelling, after_message}
use Rattle.message_model.proofs.MessageWeightLaws.{message_bounded}
use Rattle.message_model.proofs.SaidLaws.{spell_more, spoken_more, all_left}
use Rattle.message_model.proofs.StreamLaws.{read_back}
use Rattle.urp_wire.specs.Written.{IsWritable, AreWritable}
use Rattle.urp_wire.proofs.Lengths.{all_writable, light_writable}
use Rattle.urp_message.specs.Speaking.{HeadingWritable, AnswerWritable, MessageWritable}

-- a header that weighs little
heading_writable : (h : Heading) → heading_weight h.tid h.oid h.face ≤ 16777216 → HeadingWritable h
heading_writable h light = record { tid = omega arith; oid = omega arith; face = omega arith }

module _ (reg : List Entity) (sound : IsSound reg) where
  values_writable : (vs : List Plain) (ks : List Kind) → Fill reg vs ks → weights (plains vs) ≤ 16777216 → AreWritable (plains vs)
  values_writable vs ks fill light = all_writable (plains vs) light (each_sized reg sound (plains vs) ks fill.fit light)

  any_writable : (k : Kind) (v : Plain) → IsWritable (any k v) → (length (name_of k) < 2 ^ 32) × IsWritable v
  unfolding IsWritable
  any_writable k v is = is

  answer_writable : (f : Function) (answer : Answer) → AnswerFits reg f answer → answer_weight answer ≤ 16777216 → AnswerWritable answer
  answer_writable f (returned v outs) fits light =
      (light_writable reg v f.result_kind sound fits.0 (omega arith), values_writable outs (out_kinds f) fits.2 (omega arith))
  answer_writable f (raised k v) fits light = any_writable k v (light_writable reg (any k v) kd.any sound fits.1 light)

  -- so a message that may be said
  pub message_writable : (m : Message) → MayBeSaid reg m → message_weight m ≤ 16777216 → MessageWritable reg m
  message_writable (request tid oid face function args) (f, called, thread, object, fill) light =
      (heading_writable (call_heading reg tid oid face function) (omega arith), values_writable args (argument_kinds f) fill (omega arith))
  message_writable (release tid oid face) may light = heading_writable (release_heading tid oid face) light
  message_writable (reply tid face function answer) (f, called, thread, fits) light = (omega arith, answer_writable f answer fits (omega arith))

-- the body of a block stands behind its first eight bytes
body_behind : (count : ℕ) (body : List ℕ) → drop 8 (spell_block count body) ≡ body
unfolding spell_block
body_behind count body = refl

-- what was written is read again
pub read_again : (reg : List Entity) (m : Message) (spoken now : Spoken) (block : List ℕ) → IsSound reg → MayBeSaid reg m → message_weight m ≤ 16777216 → MessageSpellable m
    → block ≡ spell_block 1 (message_spelling reg m spoken) → now ≡ after_message reg m spoken
    → (waits : Waits) (heard : Heard) (rest : List ℕ) → MemoriesCorrespond heard spoken → IsAwaited waits m
    → (after : Heard) × (message_at reg waits heard (drop 8 block ++ rest) ≡ Ok (arrived reg m, after, rest)) × MemoriesCorrespond after now
read_again reg m spoken now block sound may light carried bytes remembered waits heard rest agree awaited =
    let back = read_back reg sound waits heard m spoken rest (record { may = may; light = light; carried = carried; awaited = awaited }) agree in
    let body : drop 8 block ≡ message_spelling reg m spoken = rw bytes (body_of (message_spelling reg m spoken)) in
    (back.0, rw body back.1, rw remembered back.2)
  where
    body_of : (body : List ℕ) → drop 8 (spell_block 1 body) ≡ body
    body_of body = body_behind 1 body

-- a header that says one message, and not yet its size
abbrev pub no_size : List ℕ
no_size = 0 ∷ 0 ∷ 0 ∷ 0 ∷ 0 ∷ 0 ∷ 0 ∷ 1 ∷ []

-- a block with such a header is longer than it by its body, which is no longer than the message weighs
pub size_fits : (reg : List Entity) (m : Message) (spoken : Spoken) (header written block : List ℕ) → message_weight m ≤ 16777216 → header ≡ no_size
    → written ≡ header ++ message_spelling reg m spoken → block ≡ written → (8 ≤ length block) × (length block < 2 ^ 32)
size_fits reg m spoken header written block light of_none all is =
    let long : length block ≡ length (no_size ++ message_spelling reg m spoken) = ap length (is ∙ all ∙ ap (λ z. z ++ message_spelling reg m spoken) of_none) in
    let bounded = message_bounded reg m spoken in
    (omega (arith, long), omega (arith, long, bounded, light))

-- with the size in its first four bytes, it is the block of its body
pub size_filled : (body header written block now : List ℕ) → header ≡ no_size → written ≡ header ++ body → block ≡ written
    → now ≡ to_be_bytes w32 (length block - 8) ++ drop 4 block → now ≡ spell_block 1 body
unfolding spell_block
size_filled body header written block now of_none all is filled =
    let whole : block ≡ no_size ++ body = is ∙ all ∙ ap (λ z. z ++ body) of_none in
    let size : length (no_size ++ body) - 8 ≡ length body = omega arith in
    filled ∙ ap (λ z. to_be_bytes w32 (length z - 8) ++ drop 4 z) whole ∙ ap (λ n. to_be_bytes w32 n ++ drop 4 (no_size ++ body)) size

-- and it is so where it was written back over what was there
pub written_back : (body header written block now rest : List ℕ) (count : ℕ) → header ≡ no_size → written ≡ header ++ body → block ≡ written
    → now ≡ to_be_bytes w32 (length block - 8) ++ drop 4 block → length written ≡ count → take count (now ++ rest) ≡ spell_block 1 body
written_back body header written block now rest count of_none all is filled counted =
    let same = size_filled body header written block now of_none all is filled in
    let long : length now ≡ length written = ap length filled ∙ long_as block (ap length (is ∙ all ∙ ap (λ z. z ++ body) of_none)) ∙ ap length is in
    take_at now rest count (long ∙ counted) ∙ same
  where
    long_as : (block : List ℕ) → length block ≡ length (no_size ++ body) → length (to_be_bytes w32 (length block - 8) ++ drop 4 block) ≡ length block
    long_as block long = rw length-drop (omega (arith, long))

-- where all messages before were said from the beginning, a block is what their bytes grow by, and names stand as all uses leave them
pub block_more : (reg : List Entity) (m : Message) (spoken old : Spoken) (block : List ℕ) → block ≡ spell_block 1 (message_spelling reg m spoken) → spoken ≡ old
    → (said : List Message) → old ≡ spoken_after reg said → spell reg (said ++ m ∷ []) ≡ spell reg said ++ block
block_more reg m spoken old block is same said at =
    spell_more reg said m ∙ ap (λ b. spell reg said ++ b) (ap (λ s. spell_block 1 (message_spelling reg m s)) (sym at ∙ sym same) ∙ sym is)

pub spoken_on : (reg : List Entity) (m : Message) (spoken old now : Spoken) → now ≡ after_message reg m spoken → spoken ≡ old → (said : List Message) → old ≡ spoken_after reg said
    → (now ≡ spoken_after reg (said ++ m ∷ [])) × AreLeftBy now.names (uses_of (said ++ m ∷ []))
spoken_on reg m spoken old now is same said at =
    let next : now ≡ spoken_after reg (said ++ m ∷ []) = is ∙ ap (after_message reg m) (same ∙ at) ∙ sym (spoken_more reg said m) in
    (next, subst (λ (s : Spoken). AreLeftBy s.names (uses_of (said ++ m ∷ []))) (sym next) (all_left reg (said ++ m ∷ [])))
