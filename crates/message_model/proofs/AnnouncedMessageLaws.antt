-- What the tables mean after messages is what all announcements mean that were made from the beginning.
use Rattle.std.proofs.Common.{ℕ, Bool, true, false, List, [], ◌∷◌, Option, sym, ap, subst, inl, inr, append-nil}
use Rattle.uno_model.specs.Entities.{Entity}
use Rattle.uno_model.specs.Functions.{Function}
use Rattle.urp_model.specs.Announcing.{no_announcements, of_types, AllMean, kind_announces, each_announces, value_announces}
use Rattle.urp_model.specs.Slots.{Announcement, Means}
use Rattle.urp_model.specs.Spelling.{IsThreadName, SpellsKind, SpellsTid, Spells}
use Rattle.urp_model.specs.Tables.{Table, Tables, with_types, with_tids}
use Rattle.urp_model.proofs.AnnouncedLaws.{Follows, kind_follows, name_follows, oid_follows, AllFollow, nothing_follows, both_follow, types_follow, each_follow, value_follows, all_mean_nothing}
use Rattle.message_model.specs.AnnouncingMessages.{of_tids, new_announces, oid_text_announces, tid_announces, target_announces, asked_announces, request_announces}
use Rattle.message_model.specs.AnnouncingMessages.{answer_announces, reply_announces, message_announces, body_announces, stream_announces}
use Rattle.message_model.specs.Calls.{argument_kinds, out_kinds, Waits}
use Rattle.message_model.specs.Headers.{Heard, nothing_heard, has, new_tid_flag, exception_flag, Opening, Target}
use Rattle.message_model.specs.Messages.{Answer, Message}
use Rattle.message_model.specs.SpellingMessages.{SpellsNewOrLast, SpellsOidText, SpellsTarget, SpellsAsked, a_release, a_call, SpellsRequest, SpellsAnswer, SpellsReply, SpellsMessage}
use Rattle.message_model.specs.Streams.{SpellsBody, SpellsStream}

-- ---- headers

new_follows : {X : Type 0} (S : Table → X → List ℕ → Table → Type 0) (announces : (table : Table) (x : X) (b : List ℕ) (after : Table) → S table x b after → List Announcement)
    → ((table : Table) (x : X) (b : List ℕ) (after : Table) (spelled : S table x b after) → Follows table after (announces table x b after spelled))
    → (new : Bool) (last : Option X) (table : Table) (x : X) (b : List ℕ) (after : Table) (spelled : SpellsNewOrLast new last S table x b after)
    → Follows table after (new_announces S announces new last table x b after spelled)
new_follows S announces each true last table x b after spelled = each table x b after spelled
new_follows S announces each false last table x b after spelled = λ old means. subst (λ t. Means t old) (sym spelled.2) means

oid_text_follows : (table : Table) (x b : List ℕ) (after : Table) (spelled : SpellsOidText table x b after) → Follows table after (oid_text_announces table x b after spelled)
oid_text_follows table x b after (oid, is, spelled) = oid_follows table oid b after spelled

tid_follows : (table : Table) (tid b : List ℕ) (after : Table) (spelled : SpellsTid table tid b after) → Follows table after (tid_announces table tid b after spelled)
tid_follows table tid b after spelled = name_follows IsThreadName table tid b after spelled

tids_follow : (s : Tables) (after : Table) (new : List Announcement) → Follows s.tids after new → AllFollow s (with_tids s after) (of_tids new)
tids_follow s after new f old means = record { types = means.types; oids = means.oids; tids = f old.tids means.tids }

module _ (reg : List Entity) where
  target_follows : (o : Opening) (heard : Heard) (target : Target) (b : List ℕ) (after : Heard) (h : SpellsTarget reg o heard target b after)
      → AllFollow heard.tables after.tables (target_announces reg o heard target b after h)
  unfolding target_announces
  target_follows o heard target b after h old means = record {
    types = new_follows (SpellsKind reg) (kind_announces reg) (kind_follows reg) o.new_type heard.last.kind heard.tables.types target.kind h.p after.tables.types h.kind old.types means.types;
    oids = new_follows SpellsOidText oid_text_announces oid_text_follows o.new_oid heard.last.oid heard.tables.oids target.oid h.q after.tables.oids h.oid old.oids means.oids;
    tids = new_follows SpellsTid tid_announces tid_follows o.new_tid heard.last.tid heard.tables.tids target.tid h.r after.tables.tids h.tid old.tids means.tids;
  }

  -- ---- requests

  asked_follows : (o : Opening) (target : Target) (heard : Heard) (m : Message) (b : List ℕ) (after : Heard) (spelled : SpellsAsked reg o target heard m b after)
      → AllFollow heard.tables after.tables (asked_announces reg o target heard m b after spelled)
  unfolding asked_announces
  asked_follows o target heard m b after (a_release face is function answered said none same) =
      nothing_follows heard.tables after.tables (ap (λ (h : Heard). h.tables) same)
  asked_follows o target heard m b after (a_call face f args s is no_release no_acquire found oneway said spelled same) =
      subst (λ u. AllFollow heard.tables u (each_announces (Spells 64 reg) (value_announces 64 reg) (argument_kinds f) heard.tables s args b spelled))
      (sym (ap (λ (h : Heard). h.tables) same))
      (each_follow (Spells 64 reg) (value_announces 64 reg) (value_follows 64 reg) (argument_kinds f) heard.tables s args b spelled)

  request_follows : (heard : Heard) (m : Message) (b : List ℕ) (after : Heard) (h : SpellsRequest reg heard m b after)
      → AllFollow heard.tables after.tables (request_announces reg heard m b after h)
  unfolding request_announces
  request_follows heard m b after h =
      both_follow heard.tables h.between.tables after.tables (target_announces reg h.opening heard h.target h.q h.between h.targets)
      (asked_announces reg h.opening h.target h.between m h.r after h.asks) (target_follows h.opening heard h.target h.q h.between h.targets)
      (asked_follows h.opening h.target h.between m h.r after h.asks)

  -- ---- replies

  answer_follows : (exception : Bool) (f : Function) (s : Tables) (answer : Answer) (b : List ℕ) (t : Tables) (spelled : SpellsAnswer exception reg f s answer b t)
      → AllFollow s t (answer_announces exception reg f s answer b t spelled)
  unfolding answer_announces
  answer_follows true f s answer b t (k, v, p, q, after, said, split, type, may, spelled) =
      both_follow s (with_types s after) t (of_types (kind_announces reg s.types k p after type)) (value_announces 63 reg k (with_types s after) t v q spelled)
      (types_follow s after (kind_announces reg s.types k p after type) (kind_follows reg s.types k p after type))
      (value_follows 63 reg k (with_types s after) t v q spelled)
  answer_follows false f s answer b t (v, outs, p, q, u, said, split, value, others) =
      both_follow s u t (value_announces 64 reg f.result_kind s u v p value) (each_announces (Spells 64 reg) (value_announces 64 reg) (out_kinds f) u t outs q others)
      (value_follows 64 reg f.result_kind s u v p value) (each_follow (Spells 64 reg) (value_announces 64 reg) (value_follows 64 reg) (out_kinds f) u t outs q others)

  reply_follows : (waits : Waits) (heard : Heard) (m : Message) (b : List ℕ) (after : Heard) (h : SpellsReply reg waits heard m b after)
      → AllFollow heard.tables after.tables (reply_announces reg waits heard m b after h)
  unfolding reply_announces
  reply_follows waits heard m b after h =
      let thread = new_announces SpellsTid tid_announces (has new_tid_flag h.flags) heard.last.tid heard.tables.tids h.tid h.p h.tids h.thread in
      let s : Tables = with_tids heard.tables h.tids in
      both_follow heard.tables s after.tables (of_tids thread) (answer_announces (has exception_flag h.flags) reg h.function s h.answer h.q after.tables h.answers)
      (tids_follow heard.tables h.tids thread
      (new_follows SpellsTid tid_announces tid_follows (has new_tid_flag h.flags) heard.last.tid heard.tables.tids h.tid h.p h.tids h.thread))
      (answer_follows (has exception_flag h.flags) h.function s h.answer h.q after.tables h.answers)

  -- ---- messages

  pub message_follows : (waits : Waits) (heard : Heard) (m : Message) (b : List ℕ) (after : Heard) (spelled : SpellsMessage reg waits heard m b after)
      → AllFollow heard.tables after.tables (message_announces reg waits heard m b after spelled)
  unfolding message_announces
  message_follows waits heard m b after (inl asked) = request_follows heard m b after asked
  message_follows waits heard m b after (inr answered) = reply_follows waits heard m b after answered

  pub body_follows : (ws : List Waits) (bytes : List ℕ) (heard : Heard) (ms : List Message) (after : Heard) (spelled : SpellsBody reg ws bytes heard ms after)
      → AllFollow heard.tables after.tables (body_announces reg ws bytes heard ms after spelled)
  unfolding SpellsBody body_announces
  body_follows [] bytes heard [] after spelled = nothing_follows heard.tables after.tables (ap (λ (h : Heard). h.tables) spelled.1)
  body_follows [] bytes heard (m ∷ ms) after spelled = absurd spelled
  body_follows (waits ∷ ws) bytes heard [] after spelled = absurd spelled
  body_follows (waits ∷ ws) bytes heard (m ∷ ms) after (used, rest, between, is, first, others) =
      both_follow heard.tables between.tables after.tables (message_announces reg waits heard m used between first) (body_announces reg ws rest between ms after others)
      (message_follows waits heard m used between first) (body_follows ws rest between ms after others)

  pub stream_follows : (wss : List (List Waits)) (bytes : List ℕ) (heard : Heard) (mss : List (List Message)) (after : Heard) (spelled : SpellsStream reg wss bytes heard mss after)
      → AllFollow heard.tables after.tables (stream_announces reg wss bytes heard mss after spelled)
  unfolding SpellsStream stream_announces
  stream_follows [] bytes heard [] after spelled = nothing_follows heard.tables after.tables (ap (λ (h : Heard). h.tables) spelled.1)
  stream_follows [] bytes heard (ms ∷ mss) after spelled = absurd spelled
  stream_follows (ws ∷ wss) bytes heard [] after spelled = absurd spelled
  stream_follows (ws ∷ wss) bytes heard (ms ∷ mss) after (body, rest, between, is, block, first, others) =
      both_follow heard.tables between.tables after.tables (body_announces reg ws body heard ms between first) (stream_announces reg wss rest between mss after others)
      (body_follows ws body heard ms between first) (stream_follows wss rest between mss after others)

  -- from the beginning
  pub whole_stream_means : (wss : List (List Waits)) (bytes : List ℕ) (mss : List (List Message)) (after : Heard) (spelled : SpellsStream reg wss bytes nothing_heard mss after)
      → AllMean after.tables (stream_announces reg wss bytes nothing_heard mss after spelled)
  whole_stream_means wss bytes mss after spelled =
      let all = stream_announces reg wss bytes nothing_heard mss after spelled in
      let is = stream_follows wss bytes nothing_heard mss after spelled no_announcements all_mean_nothing in
      record {
        types = subst (Means after.tables.types) (append-nil all.types) is.types;
        oids = subst (Means after.tables.oids) (append-nil all.oids) is.oids;
        tids = subst (Means after.tables.tids) (append-nil all.tids) is.tids;
      }
