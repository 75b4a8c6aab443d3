-- A message that bytes spell can be written again, and the number of its function has two bytes.
use Rattle.std.proofs.Common.{◌≡◌, ℕ, ◌+◌, ◌<◌, ◌^◌, Bool, true, false, List, [], ◌∷◌, ◌++◌, Option, None, Some, sym, ap, subst, ◌∙◌, inl, inr, arith}
use Rattle.std.specs.Str.{IsUtf8}
use Rattle.std.proofs.lemmas.Str.{IsUtf8-nil}
use Rattle.uno_model.specs.Entities.{Entity}
use Rattle.uno_model.specs.Functions.{Function}
use Rattle.uno_model.specs.Spellable.{IsSpellable}
use Rattle.uno_model.proofs.Options.{same_some, none_some}
use Rattle.urp_model.specs.Blocks.{AreBytes}
use Rattle.urp_model.specs.Carried.{MeansTexts}
use Rattle.urp_model.specs.Spelling.{SpellsOid, Spells}
use Rattle.urp_model.specs.Tables.{Table, Tables, with_types, with_tids}
use Rattle.urp_model.proofs.SpellableLaws.{bytes_front, bytes_back, bytes_parts, small_2, no_texts, oid_spellable, value_spellable, each_spellable}
use Rattle.message_model.specs.Arriving.{HearsTexts, HasSmallFunction, AwaitSmallFunctions}
use Rattle.message_model.specs.Calls.{argument_kinds, out_kinds, Waits}
use Rattle.message_model.specs.Headers.{Last, Heard, nothing_heard, has, wide_flag, exception_flag, Opening, Target, oid_text}
use Rattle.message_model.specs.Messages.{Answer, Message}
use Rattle.message_model.specs.Sayable.{AnswerSpellable, MessageSpellable}
use Rattle.message_model.specs.SpellingMessages.{SpellsFunction, SpellsOpening, short, two_bytes, long, SpellsNewOrLast, SpellsOidText}
use Rattle.message_model.specs.SpellingMessages.{SpellsAsked, a_release, a_call, SpellsRequest, SpellsAnswer, SpellsReply, SpellsMessage}

-- before any message
pub no_texts_heard : HearsTexts nothing_heard
no_texts_heard = record { oids = no_texts; oid = λ oid is. absurd (none_some is) }

-- three parts of bytes
three_parts : (b p q r : List ℕ) → b ≡ p ++ (q ++ r) → AreBytes b → AreBytes p × AreBytes q × AreBytes r
three_parts b p q r split bytes =
    let first = bytes_parts b p (q ++ r) split bytes in
    (first.0, bytes_front q r first.1, bytes_back q r first.1)

-- ---- headers

-- the identity in a header is a text, and empty for null
text_named : (table : Table) (oid : Option (List ℕ)) (x b : List ℕ) (after : Table) → MeansTexts table → x ≡ oid_text oid → SpellsOid table oid b after
    → IsUtf8 x × MeansTexts after
unfolding IsSpellable
text_named table None x b after each is spelled = (subst IsUtf8 (sym is) IsUtf8-nil, (oid_spellable table None [] b after each spelled).1)
text_named table (Some oid) x b after each is spelled =
    let o = oid_spellable table (Some oid) [] b after each spelled in
    (subst IsUtf8 (sym is) o.0, o.1)

new_text_named : (new : Bool) (last : Option (List ℕ)) (table : Table) (x b : List ℕ) (after : Table) → MeansTexts table
    → ((oid : List ℕ) → last ≡ Some oid → IsUtf8 oid) → SpellsNewOrLast new last SpellsOidText table x b after → IsUtf8 x × MeansTexts after
new_text_named true last table x b after each lasts spelled = text_named table spelled.0 x b after each spelled.1 spelled.2
new_text_named false last table x b after each lasts spelled = (lasts x spelled.0, subst MeansTexts (sym spelled.2) each)

-- the number of a function in a header
function_small : (wide : Bool) (function : ℕ) (b : List ℕ) → AreBytes b → SpellsFunction wide function b → function < 2 ^ 16
function_small true function b bytes is = small_2 b function bytes is
function_small false function b bytes is = let one : function < 256 = (subst AreBytes is bytes) 0 in omega arith

below_wide : (first second function n : ℕ) → first < 256 → second < 256 → function + 16384 ≡ n → n < 2 ^ 16 → function < 2 ^ 16
below_wide first second function n a b is low = omega arith

opening_small : (o : Opening) (b : List ℕ) → AreBytes b → SpellsOpening o b → o.function < 2 ^ 16
opening_small o b bytes (short function low is split) = let same : o.function ≡ function = ap (λ (z : Opening). z.function) is in omega arith
opening_small o b bytes (two_bytes first second function high low whole is split) =
    let same : o.function ≡ function = ap (λ (z : Opening). z.function) is in
    let both = subst AreBytes split bytes in
    omega (arith, both 0, both 1)
opening_small o b bytes (long flags p q high split answered function type oid tid) =
    let behind : AreBytes (p ++ q) = bytes_back (flags ∷ []) (p ++ q) (subst AreBytes split bytes) in
    function_small (has wide_flag flags) o.function q (bytes_back p q behind) function

module _ (reg : List Entity) where
  -- ---- requests

  asked_spellable : (o : Opening) (target : Target) (heard : Heard) (m : Message) (b : List ℕ) (after : Heard) → AreBytes b → IsUtf8 target.oid → HearsTexts heard
      → SpellsAsked reg o target heard m b after → MessageSpellable m × HearsTexts after
  asked_spellable o target heard m b after bytes text is (a_release face face_is function answered said none same) =
      (subst MessageSpellable (sym said) text, subst HearsTexts (sym same) is)
  asked_spellable o target heard m b after bytes text is (a_call face f args s face_is no_release no_acquire found oneway said spelled same) =
      let a = each_spellable (Spells 64 reg) (value_spellable reg 64) (argument_kinds f) args heard.tables s b bytes is.oids spelled in
      (subst MessageSpellable (sym said) (text, a.0), subst HearsTexts (sym same) (record { oids = a.1; oid = is.oid }))

  asked_small : (o : Opening) (target : Target) (heard : Heard) (m : Message) (b : List ℕ) (after : Heard) → o.function < 2 ^ 16
      → SpellsAsked reg o target heard m b after → HasSmallFunction m
  asked_small o target heard m b after small (a_release face face_is function answered said none same) = subst HasSmallFunction (sym said) tt
  asked_small o target heard m b after small (a_call face f args s face_is no_release no_acquire found oneway said spelled same) =
      subst HasSmallFunction (sym said) small

  request_spellable : (heard : Heard) (m : Message) (b : List ℕ) (after : Heard) → AreBytes b → HearsTexts heard → SpellsRequest reg heard m b after
      → MessageSpellable m × HearsTexts after
  request_spellable heard m b after bytes is h =
      let parts = three_parts b h.p h.q h.r h.whole bytes in
      let t = h.targets in
      let oid = new_text_named h.opening.new_oid heard.last.oid heard.tables.oids h.target.oid t.q h.between.tables.oids is.oids is.oid t.oid in
      asked_spellable h.opening h.target h.between m h.r after parts.2 oid.0
      (record { oids = oid.1; oid = λ x last. subst IsUtf8 (same_some (sym (ap (λ (l : Last). l.oid) t.remembered) ∙ last)) oid.0 }) h.asks

  request_small : (heard : Heard) (m : Message) (b : List ℕ) (after : Heard) → AreBytes b → SpellsRequest reg heard m b after → HasSmallFunction m
  request_small heard m b after bytes h =
      asked_small h.opening h.target h.between m h.r after (opening_small h.opening h.p (three_parts b h.p h.q h.r h.whole bytes).0 h.opens) h.asks

  -- ---- replies

  answer_spellable : (exception : Bool) (f : Function) (s : Tables) (answer : Answer) (b : List ℕ) (t : Tables) → AreBytes b → MeansTexts s.oids
      → SpellsAnswer exception reg f s answer b t → AnswerSpellable answer × MeansTexts t.oids
  answer_spellable true f s answer b t bytes each (k, v, p, q, after, said, split, type, may, spelled) =
      let a = value_spellable reg 63 k (with_types s after) t v q (bytes_parts b p q split bytes).1 each spelled in
      (subst AnswerSpellable (sym said) a.0, a.1)
  answer_spellable false f s answer b t bytes each (v, xs, p, q, u, said, split, value, others) =
      let parts = bytes_parts b p q split bytes in
      let a = value_spellable reg 64 f.result_kind s u v p parts.0 each value in
      let o = each_spellable (Spells 64 reg) (value_spellable reg 64) (out_kinds f) xs u t q parts.1 a.1 others in
      (subst AnswerSpellable (sym said) (a.0, o.0), o.1)

  reply_spellable : (waits : Waits) (heard : Heard) (m : Message) (b : List ℕ) (after : Heard) → AreBytes b → HearsTexts heard → SpellsReply reg waits heard m b after
      → MessageSpellable m × HearsTexts after
  reply_spellable waits heard m b after bytes is h =
      let s : Tables = with_tids heard.tables h.tids in
      let behind : AreBytes (h.p ++ h.q) = bytes_back (h.flags ∷ []) (h.p ++ h.q) (subst AreBytes h.whole bytes) in
      let a = answer_spellable (has exception_flag h.flags) h.function s h.answer h.q after.tables (bytes_back h.p h.q behind) is.oids h.answers in
      (subst MessageSpellable (sym h.said) a.0, subst HearsTexts (sym h.remembered) (record { oids = a.1; oid = is.oid }))

  -- ---- messages

  pub message_spellable : (waits : Waits) (heard : Heard) (m : Message) (b : List ℕ) (after : Heard) → AreBytes b → HearsTexts heard → SpellsMessage reg waits heard m b after
      → MessageSpellable m × HearsTexts after
  message_spellable waits heard m b after bytes is spelled = elim spelled [
    | inl asked ↦ request_spellable heard m b after bytes is asked
    | inr answered ↦ reply_spellable waits heard m b after bytes is answered
  ]

  pub message_small : (waits : Waits) (heard : Heard) (m : Message) (b : List ℕ) (after : Heard) → AreBytes b → AwaitSmallFunctions waits → SpellsMessage reg waits heard m b after
      → HasSmallFunction m
  message_small waits heard m b after bytes small spelled = elim spelled [
    | inl asked ↦ request_small heard m b after bytes asked
    | inr answered ↦ subst HasSmallFunction (sym answered.said) (small answered.tid answered.call answered.waited)
  ]
