-- The bytes of messages make one list of announcements, however it is shown that they spell them.
use Rattle.std.proofs.Common.{◌≡◌, ℕ, Bool, true, false, List, [], ◌∷◌, ◌++◌, length, Option, refl, sym, ap, subst, ◌∙◌, inl, inr, arith}
use Rattle.std.specs.List.{list_all}
use Rattle.uno_model.specs.Entities.{Entity}
use Rattle.uno_model.specs.Functions.{Function}
use Rattle.uno_model.specs.Kinds.{Kind}
use Rattle.uno_model.specs.Kinds as kd
use Rattle.uno_model.specs.Sound.{is_named}
use Rattle.uno_model.specs.Values.{Plain}
use Rattle.uno_model.proofs.Options.{same_some}
use Rattle.urp_model.specs.Agreement.{pair, triple}
use Rattle.urp_model.specs.Announcing.{of_types, kind_announces, each_announces, value_announces}
use Rattle.urp_model.specs.Blocks.{IsBlock}
use Rattle.urp_model.specs.ReadingNames.{kind_at, tid_at}
use Rattle.urp_model.specs.Slots.{Announcement}
use Rattle.urp_model.specs.Spelling.{IsThreadName, SpellsKind, SpellsTid, SpellsEach, Spells}
use Rattle.urp_model.specs.Tables.{Table, Tables, with_types, with_tids}
use Rattle.urp_model.proofs.BlockLaws.{spell_block-front}
use Rattle.urp_model.proofs.FrontLaws.{triple_maker, one_front}
use Rattle.urp_model.proofs.OidReadingLaws.{tid_agrees}
use Rattle.urp_model.proofs.PartLaws.{name_agrees}
use Rattle.urp_model.proofs.SameAnnouncements.{pair_maker, two_fronts, kind_same, name_same, oid_same, both, same_at, each_same, one_value, value_same}
use Rattle.urp_model.proofs.TypeReadingLaws.{kind_agrees}
use Rattle.message_model.specs.AnnouncingMessages.{of_tids, new_announces, oid_text_announces, tid_announces, target_announces, asked_announces, request_announces}
use Rattle.message_model.specs.AnnouncingMessages.{answer_announces, reply_announces, message_announces, body_announces, stream_announces}
use Rattle.message_model.specs.Calls.{numbered, argument_kinds, out_kinds, Waits, Waiting, waiting}
use Rattle.message_model.specs.Headers.{Heard, has, new_tid_flag, exception_flag, Opening, Target}
use Rattle.message_model.specs.Messages.{Answer, Message}
use Rattle.message_model.specs.ReadingMessages.{oid_text_at, opens_reply}
use Rattle.message_model.specs.SpellingMessages.{SpellsOpening, SpellsNewOrLast, SpellsOidText, SpellsTarget, SpellsAsked, a_release, a_call, SpellsRequest, SpellsAnswer, SpellsReply, SpellsMessage}
use Rattle.message_model.specs.Streams.{SpellsBody, IsStreamBlock, SpellsStream}
use Rattle.message_model.proofs.MessageReadingLaws.{message_agrees}
use Rattle.message_model.proofs.OpeningReadingLaws.{marked_reply, spelled_opening, opening_agrees}
use Rattle.message_model.proofs.TargetReadingLaws.{new_or_last_agrees, oid_text_agrees, target_agrees}

-- ---- headers

oid_text_same : (table : Table) (x x' b b' : List ℕ) (after after' : Table) (rest rest' : List ℕ) (f : SpellsOidText table x b after) (g : SpellsOidText table x' b' after')
    → b ++ rest ≡ b' ++ rest' → oid_text_announces table x b after f ≡ oid_text_announces table x' b' after' g
oid_text_same table x x' b b' after after' rest rest' (oid, is, spelled) (oid', is', spelled') e = oid_same table table oid oid' b b' after after' rest rest' spelled spelled' e

tid_same : (table : Table) (tid tid' b b' : List ℕ) (after after' : Table) (rest rest' : List ℕ) (f : SpellsTid table tid b after) (g : SpellsTid table tid' b' after')
    → b ++ rest ≡ b' ++ rest' → tid_announces table tid b after f ≡ tid_announces table tid' b' after' g
tid_same table tid tid' b b' after after' rest rest' f g e = name_same IsThreadName (name_agrees 1024) table table tid tid' b b' after after' rest rest' f g e

-- a part that may be new
module _ {X : Type 0} (S : Table → X → List ℕ → Table → Type 0) (announces : (table : Table) (x : X) (b : List ℕ) (after : Table) → S table x b after → List Announcement)
    (each : (table : Table) (x x' : X) (b b' : List ℕ) (after after' : Table) (rest rest' : List ℕ) (f : S table x b after) (g : S table x' b' after')
    → b ++ rest ≡ b' ++ rest' → announces table x b after f ≡ announces table x' b' after' g) where
  new_same : (new : Bool) (last : Option X) (table : Table) (x x' : X) (b b' : List ℕ) (after after' : Table) (rest rest' : List ℕ)
      (f : SpellsNewOrLast new last S table x b after) (g : SpellsNewOrLast new last S table x' b' after')
      → b ++ rest ≡ b' ++ rest' → new_announces S announces new last table x b after f ≡ new_announces S announces new last table x' b' after' g
  new_same true last table x x' b b' after after' rest rest' f g e = each table x x' b b' after after' rest rest' f g e
  new_same false last table x x' b b' after after' rest rest' f g e = refl

-- how a request begins
opening_front : (o o' : Opening) (p p' rest rest' : List ℕ) → SpellsOpening o p → SpellsOpening o' p' → p ++ rest ≡ p' ++ rest' → (o ≡ o') × (rest ≡ rest')
opening_front o o' p p' rest rest' h h' e =
    let s = spelled_opening o p h in
    let s' = spelled_opening o' p' h' in
    let whole : s.first ∷ (s.used ++ rest) ≡ s'.first ∷ (s'.used ++ rest') = ap (λ z. z ++ rest) (sym s.whole) ∙ e ∙ ap (λ z. z ++ rest') s'.whole in
    let first : s.first ≡ s'.first = cc (whole) in
    let used : s.used ++ rest ≡ s'.used ++ rest' = cc (whole) in
    let one = one_front pair pair_maker (opening_agrees s.first s.request) o o' s.used s'.used rest rest' (subst (SpellsOpening o) s.whole h)
    (subst (λ z. SpellsOpening o' (z ∷ s'.used)) (sym first) (subst (SpellsOpening o') s'.whole h')) used in
    (one.0, one.2)

module _ (reg : List Entity) (named : list_all is_named reg ≡ true) where
  -- a target, and what is remembered after it
  target_same : (o : Opening) (heard : Heard) (target target' : Target) (b b' : List ℕ) (after after' : Heard) (rest rest' : List ℕ) (f : SpellsTarget reg o heard target b after)
      (g : SpellsTarget reg o heard target' b' after') → b ++ rest ≡ b' ++ rest' → target_announces reg o heard target b after f ≡ target_announces reg o heard target' b' after' g
  unfolding target_announces
  target_same o heard target target' b b' after after' rest rest' f g e =
      let types = two_fronts b f.p (f.q ++ f.r) b' g.p (g.q ++ g.r) rest rest' f.whole g.whole e in
      let kinds = one_front triple triple_maker
      (new_or_last_agrees o.new_type heard.last.kind (kind_at reg) (SpellsKind reg) (λ table. kind_agrees reg table named) heard.tables.types)
      (target.kind, after.tables.types) (target'.kind, after'.tables.types) f.p g.p ((f.q ++ f.r) ++ rest) ((g.q ++ g.r) ++ rest') f.kind g.kind types in
      let oids = two_fronts (f.q ++ f.r) f.q f.r (g.q ++ g.r) g.q g.r rest rest' refl refl kinds.2 in
      let objects = one_front triple triple_maker (new_or_last_agrees o.new_oid heard.last.oid oid_text_at SpellsOidText oid_text_agrees heard.tables.oids)
      (target.oid, after.tables.oids) (target'.oid, after'.tables.oids) f.q g.q (f.r ++ rest) (g.r ++ rest') f.oid g.oid oids in
      let k = new_same (SpellsKind reg) (kind_announces reg) (λ table. kind_same reg table table) o.new_type heard.last.kind heard.tables.types target.kind target'.kind f.p g.p
      after.tables.types after'.tables.types ((f.q ++ f.r) ++ rest) ((g.q ++ g.r) ++ rest') f.kind g.kind types in
      let oid = new_same SpellsOidText oid_text_announces oid_text_same o.new_oid heard.last.oid heard.tables.oids target.oid target'.oid f.q g.q
      after.tables.oids after'.tables.oids (f.r ++ rest) (g.r ++ rest') f.oid g.oid oids in
      let tid = new_same SpellsTid tid_announces tid_same o.new_tid heard.last.tid heard.tables.tids target.tid target'.tid f.r g.r
      after.tables.tids after'.tables.tids rest rest' f.tid g.tid objects.2 in
      λ i. record { types = k i; oids = oid i; tids = tid i }

  -- so it is where the openings are the same
  pub record OneTarget (o o' : Opening) (heard : Heard) (target target' : Target) (b b' : List ℕ) (after after' : Heard) (rest rest' : List ℕ)
      (f : SpellsTarget reg o heard target b after) (g : SpellsTarget reg o' heard target' b' after') : Type 0 where
    pub announced : target_announces reg o heard target b after f ≡ target_announces reg o' heard target' b' after' g
    pub targets : target ≡ target'
    pub heards : after ≡ after'
    pub behind : rest ≡ rest'

  one_target : (o o' : Opening) (heard : Heard) (target target' : Target) (b b' : List ℕ) (after after' : Heard) (rest rest' : List ℕ) (f : SpellsTarget reg o heard target b after)
      (g : SpellsTarget reg o' heard target' b' after') → o ≡ o' → b ++ rest ≡ b' ++ rest' → OneTarget o o' heard target target' b b' after after' rest rest' f g
  one_target o o' heard target target' b b' after after' rest rest' f g openings e = subst At openings base target' b' after' rest' g e
    where
      At : Opening → Type 0
      At o' = (target' : Target) (b' : List ℕ) (after' : Heard) (rest' : List ℕ) (g : SpellsTarget reg o' heard target' b' after') → b ++ rest ≡ b' ++ rest'
          → OneTarget o o' heard target target' b b' after after' rest rest' f g

      base : At o
      base target' b' after' rest' g e =
          let one = one_front triple triple_maker (target_agrees reg named o heard) (target, after) (target', after') b b' rest rest' f g e in
          record {
            announced = target_same o heard target target' b b' after after' rest rest' f g e;
            targets = ap (λ (z : Target × Heard). z.0) one.0;
            heards = ap (λ (z : Target × Heard). z.1) one.0;
            behind = one.2;
          }

  -- ---- values

  -- values of these types
  arguments_same : (ks ks' : List Kind) (s s' t t' : Tables) (xs xs' : List Plain) (b b' rest rest' : List ℕ) (f : SpellsEach (Spells 64 reg) ks s xs b t)
      (g : SpellsEach (Spells 64 reg) ks' s' xs' b' t') → ks ≡ ks' → s ≡ s' → b ++ rest ≡ b' ++ rest'
      → each_announces (Spells 64 reg) (value_announces 64 reg) ks s t xs b f ≡ each_announces (Spells 64 reg) (value_announces 64 reg) ks' s' t' xs' b' g
  arguments_same ks ks' s s' t t' xs xs' b b' rest rest' f g kinds tables e = subst At kinds base s' t' xs' b' rest' g tables e
    where
      At : List Kind → Type 0
      At ks' = (s' t' : Tables) (xs' : List Plain) (b' rest' : List ℕ) (g : SpellsEach (Spells 64 reg) ks' s' xs' b' t') → s ≡ s' → b ++ rest ≡ b' ++ rest'
          → each_announces (Spells 64 reg) (value_announces 64 reg) ks s t xs b f ≡ each_announces (Spells 64 reg) (value_announces 64 reg) ks' s' t' xs' b' g

      base : At ks
      base s' t' xs' b' rest' g tables e =
          each_same (Spells 64 reg) (value_announces 64 reg) (one_value reg named 64) (value_same reg named 64) ks s s' t t' xs xs' b b' rest rest' f g tables e

  -- ---- requests

  same_face : (k : Kind) (face face' : List ℕ) → k ≡ kd.interface face → k ≡ kd.interface face' → face ≡ face'
  same_face k face face' is is' = name_of_face (sym is ∙ is')
    where
      name_of_face : kd.interface face ≡ kd.interface face' → face ≡ face'
      name_of_face same = cc

  asked_same : (o : Opening) (target : Target) (heard : Heard) (m m' : Message) (b b' : List ℕ) (after after' : Heard) (rest rest' : List ℕ)
      (f : SpellsAsked reg o target heard m b after) (g : SpellsAsked reg o target heard m' b' after') → b ++ rest ≡ b' ++ rest'
      → asked_announces reg o target heard m b after f ≡ asked_announces reg o target heard m' b' after' g
  unfolding asked_announces
  asked_same o target heard m m' b b' after after' rest rest' (a_release face is function answered said none same) (a_release face' is' function' answered' said' none' same') e = refl
  asked_same o target heard m m' b b' after after' rest rest' (a_release face is function answered said none same)
      (a_call face' f' args' s' is' no_release' no_acquire' found' oneway' said' spelled' same') e = absurd (no_release' function)
  asked_same o target heard m m' b b' after after' rest rest' (a_call face f args s is no_release no_acquire found oneway said spelled same)
      (a_release face' is' function' answered' said' none' same') e = absurd (no_release function')
  asked_same o target heard m m' b b' after after' rest rest' (a_call face f args s is no_release no_acquire found oneway said spelled same)
      (a_call face' f' args' s' is' no_release' no_acquire' found' oneway' said' spelled' same') e =
      let faces = same_face target.kind face face' is is' in
      let functions : f ≡ f' = same_some (sym found ∙ ap (λ z. numbered_in z) faces ∙ found') in
      arguments_same (argument_kinds f) (argument_kinds f') heard.tables heard.tables s s' args args' b b' rest rest' spelled spelled' (ap argument_kinds functions) refl e
    where
      numbered_in : List ℕ → Option Function
      numbered_in face = numbered reg face o.function

  asked_at : (o o' : Opening) (target target' : Target) (heard heard' : Heard) (m m' : Message) (b b' : List ℕ) (after after' : Heard) (rest rest' : List ℕ)
      (f : SpellsAsked reg o target heard m b after) (g : SpellsAsked reg o' target' heard' m' b' after') → o ≡ o' → target ≡ target' → heard ≡ heard' → b ++ rest ≡ b' ++ rest'
      → asked_announces reg o target heard m b after f ≡ asked_announces reg o' target' heard' m' b' after' g
  asked_at o o' target target' heard heard' m m' b b' after after' rest rest' f g openings targets heards e =
      subst (λ z. At z target' heard') openings (subst (λ z. At o z heard') targets (subst (At o target) heards base)) m' b' after' rest' g e
    where
      At : Opening → Target → Heard → Type 0
      At o' target' heard' = (m' : Message) (b' : List ℕ) (after' : Heard) (rest' : List ℕ) (g : SpellsAsked reg o' target' heard' m' b' after') → b ++ rest ≡ b' ++ rest'
          → asked_announces reg o target heard m b after f ≡ asked_announces reg o' target' heard' m' b' after' g

      base : At o target heard
      base m' b' after' rest' g e = asked_same o target heard m m' b b' after after' rest rest' f g e

  request_same : (heard : Heard) (m m' : Message) (b b' : List ℕ) (after after' : Heard) (rest rest' : List ℕ) (f : SpellsRequest reg heard m b after)
      (g : SpellsRequest reg heard m' b' after') → b ++ rest ≡ b' ++ rest' → request_announces reg heard m b after f ≡ request_announces reg heard m' b' after' g
  unfolding request_announces
  request_same heard m m' b b' after after' rest rest' f g e =
      let opening = opening_front f.opening g.opening f.p g.p ((f.q ++ f.r) ++ rest) ((g.q ++ g.r) ++ rest') f.opens g.opens
      (two_fronts b f.p (f.q ++ f.r) b' g.p (g.q ++ g.r) rest rest' f.whole g.whole e) in
      let behind = two_fronts (f.q ++ f.r) f.q f.r (g.q ++ g.r) g.q g.r rest rest' refl refl opening.1 in
      let target = one_target f.opening g.opening heard f.target g.target f.q g.q f.between g.between (f.r ++ rest) (g.r ++ rest') f.targets g.targets opening.0 behind in
      both (asked_announces reg f.opening f.target f.between m f.r after f.asks) (target_announces reg f.opening heard f.target f.q f.between f.targets)
      (asked_announces reg g.opening g.target g.between m' g.r after' g.asks) (target_announces reg g.opening heard g.target g.q g.between g.targets)
      (asked_at f.opening g.opening f.target g.target f.between g.between m m' f.r g.r after after' rest rest' f.asks g.asks opening.0 target.targets target.heards target.behind)
      target.announced

  -- ---- replies

  answer_same : (exception : Bool) (f : Function) (s : Tables) (answer answer' : Answer) (b b' : List ℕ) (t t' : Tables) (rest rest' : List ℕ)
      (F : SpellsAnswer exception reg f s answer b t) (G : SpellsAnswer exception reg f s answer' b' t') → b ++ rest ≡ b' ++ rest'
      → answer_announces exception reg f s answer b t F ≡ answer_announces exception reg f s answer' b' t' G
  unfolding answer_announces
  answer_same true f s answer answer' b b' t t' rest rest' (k, v, p, q, after, said, split, type, may, spelled) (k', v', p', q', after', said', split', type', may', spelled') e =
      let fronts = two_fronts b p q b' p' q' rest rest' split split' e in
      let kinds = one_front triple triple_maker (kind_agrees reg s.types named) (k, after) (k', after') p p' (q ++ rest) (q' ++ rest') type type' fronts in
      let same_kinds : k ≡ k' = ap (λ (z : Kind × Table). z.0) kinds.0 in
      let same_tables : with_types s after ≡ with_types s after' = ap (λ (z : Kind × Table). with_types s z.1) kinds.0 in
      both (value_announces 63 reg k (with_types s after) t v q spelled) (of_types (kind_announces reg s.types k p after type))
      (value_announces 63 reg k' (with_types s after') t' v' q' spelled') (of_types (kind_announces reg s.types k' p' after' type'))
      (same_at (Spells 63 reg) (value_announces 63 reg) (one_value reg named 63) (value_same reg named 63) k k' (with_types s after) (with_types s after') t t' v v' q q' rest rest'
      spelled spelled' same_kinds same_tables kinds.2)
      (ap of_types (kind_same reg s.types s.types k k' p p' after after' (q ++ rest) (q' ++ rest') type type' fronts))
  answer_same false f s answer answer' b b' t t' rest rest' (v, outs, p, q, u, said, split, value, others) (v', outs', p', q', u', said', split', value', others') e =
      let fronts = two_fronts b p q b' p' q' rest rest' split split' e in
      let next = one_value reg named 64 f.result_kind s u u' v v' p p' (q ++ rest) (q' ++ rest') value value' fronts in
      both (each_announces (Spells 64 reg) (value_announces 64 reg) (out_kinds f) u t outs q others) (value_announces 64 reg f.result_kind s u v p value)
      (each_announces (Spells 64 reg) (value_announces 64 reg) (out_kinds f) u' t' outs' q' others') (value_announces 64 reg f.result_kind s u' v' p' value')
      (arguments_same (out_kinds f) (out_kinds f) u u' t t' outs outs' q q' rest rest' others others' refl next.0 next.1)
      (value_same reg named 64 f.result_kind s u u' v v' p p' (q ++ rest) (q' ++ rest') value value' fronts)

  answer_at : (exception exception' : Bool) (f f' : Function) (s s' : Tables) (answer answer' : Answer) (b b' : List ℕ) (t t' : Tables) (rest rest' : List ℕ)
      (F : SpellsAnswer exception reg f s answer b t) (G : SpellsAnswer exception' reg f' s' answer' b' t') → exception ≡ exception' → f ≡ f' → s ≡ s' → b ++ rest ≡ b' ++ rest'
      → answer_announces exception reg f s answer b t F ≡ answer_announces exception' reg f' s' answer' b' t' G
  answer_at exception exception' f f' s s' answer answer' b b' t t' rest rest' F G flags functions tables e =
      subst (λ z. At z f' s') flags (subst (λ z. At exception z s') functions (subst (At exception f) tables base)) answer' b' t' rest' G e
    where
      At : Bool → Function → Tables → Type 0
      At exception' f' s' = (answer' : Answer) (b' : List ℕ) (t' : Tables) (rest' : List ℕ) (G : SpellsAnswer exception' reg f' s' answer' b' t') → b ++ rest ≡ b' ++ rest'
          → answer_announces exception reg f s answer b t F ≡ answer_announces exception' reg f' s' answer' b' t' G

      base : At exception f s
      base answer' b' t' rest' G e = answer_same exception f s answer answer' b b' t t' rest rest' F G e

  -- the thread of a reply
  pub record OneThread (new new' : Bool) (heard : Heard) (tid tid' b b' : List ℕ) (after after' : Table) (rest rest' : List ℕ)
      (f : SpellsNewOrLast new heard.last.tid SpellsTid heard.tables.tids tid b after) (g : SpellsNewOrLast new' heard.last.tid SpellsTid heard.tables.tids tid' b' after') : Type 0 where
    pub announced : new_announces SpellsTid tid_announces new heard.last.tid heard.tables.tids tid b after f
        ≡ new_announces SpellsTid tid_announces new' heard.last.tid heard.tables.tids tid' b' after' g
    pub tids : tid ≡ tid'
    pub tables : after ≡ after'
    pub behind : rest ≡ rest'

  one_thread : (new new' : Bool) (heard : Heard) (tid tid' b b' : List ℕ) (after after' : Table) (rest rest' : List ℕ)
      (f : SpellsNewOrLast new heard.last.tid SpellsTid heard.tables.tids tid b after) (g : SpellsNewOrLast new' heard.last.tid SpellsTid heard.tables.tids tid' b' after')
      → new ≡ new' → b ++ rest ≡ b' ++ rest' → OneThread new new' heard tid tid' b b' after after' rest rest' f g
  one_thread new new' heard tid tid' b b' after after' rest rest' f g flags e = subst At flags base tid' b' after' rest' g e
    where
      At : Bool → Type 0
      At new' = (tid' b' : List ℕ) (after' : Table) (rest' : List ℕ) (g : SpellsNewOrLast new' heard.last.tid SpellsTid heard.tables.tids tid' b' after') → b ++ rest ≡ b' ++ rest'
          → OneThread new new' heard tid tid' b b' after after' rest rest' f g

      base : At new
      base tid' b' after' rest' g e =
          let one = one_front triple triple_maker (new_or_last_agrees new heard.last.tid tid_at SpellsTid tid_agrees heard.tables.tids) (tid, after) (tid', after') b b' rest rest' f g e in
          record {
            announced = new_same SpellsTid tid_announces tid_same new heard.last.tid heard.tables.tids tid tid' b b' after after' rest rest' f g e;
            tids = ap (λ (z : List ℕ × Table). z.0) one.0;
            tables = ap (λ (z : List ℕ × Table). z.1) one.0;
            behind = one.2;
          }

  same_head : (x y : ℕ) (b c : List ℕ) → x ∷ b ≡ y ∷ c → (x ≡ y) × (b ≡ c)
  same_head x y b c e = (cc, cc)

  reply_same : (waits : Waits) (heard : Heard) (m m' : Message) (b b' : List ℕ) (after after' : Heard) (rest rest' : List ℕ) (f : SpellsReply reg waits heard m b after)
      (g : SpellsReply reg waits heard m' b' after') → b ++ rest ≡ b' ++ rest' → reply_announces reg waits heard m b after f ≡ reply_announces reg waits heard m' b' after' g
  unfolding reply_announces
  reply_same waits heard m m' b b' after after' rest rest' f g e =
      let whole = ap (λ z. z ++ rest) (sym f.whole) ∙ e ∙ ap (λ z. z ++ rest') g.whole in
      let heads = same_head f.flags g.flags ((f.p ++ f.q) ++ rest) ((g.p ++ g.q) ++ rest') whole in
      let fronts = two_fronts (f.p ++ f.q) f.p f.q (g.p ++ g.q) g.p g.q rest rest' refl refl heads.1 in
      let thread = one_thread (has new_tid_flag f.flags) (has new_tid_flag g.flags) heard f.tid g.tid f.p g.p f.tids g.tids (f.q ++ rest) (g.q ++ rest') f.thread g.thread
      (ap (has new_tid_flag) heads.0) fronts in
      let calls : f.call ≡ g.call = same_some (sym f.waited ∙ ap (λ z. waiting z waits) thread.tids ∙ g.waited) in
      let functions : f.function ≡ g.function = same_some (sym f.called ∙ ap (λ (z : Waiting). numbered reg z.face z.function) calls ∙ g.called) in
      let tids = new_announces SpellsTid tid_announces (has new_tid_flag f.flags) heard.last.tid heard.tables.tids f.tid f.p f.tids f.thread in
      let tids' = new_announces SpellsTid tid_announces (has new_tid_flag g.flags) heard.last.tid heard.tables.tids g.tid g.p g.tids g.thread in
      both (answer_announces (has exception_flag f.flags) reg f.function (with_tids heard.tables f.tids) f.answer f.q after.tables f.answers) (of_tids tids)
      (answer_announces (has exception_flag g.flags) reg g.function (with_tids heard.tables g.tids) g.answer g.q after'.tables g.answers) (of_tids tids')
      (answer_at (has exception_flag f.flags) (has exception_flag g.flags) f.function g.function (with_tids heard.tables f.tids) (with_tids heard.tables g.tids) f.answer g.answer f.q g.q
      after.tables after'.tables rest rest' f.answers g.answers (ap (has exception_flag) heads.0) functions (ap (with_tids heard.tables) thread.tables) thread.behind)
      (ap of_tids thread.announced)

  -- ---- messages

  -- a request is no reply
  no_reply : (waits : Waits) (heard : Heard) (m m' : Message) (b b' : List ℕ) (after after' : Heard) (rest rest' : List ℕ) → SpellsRequest reg heard m b after
      → SpellsReply reg waits heard m' b' after' → b ++ rest ≡ b' ++ rest' → ⊥
  no_reply waits heard m m' b b' after after' rest rest' f g e =
      let s = spelled_opening f.opening f.p f.opens in
      let begins : b ++ rest ≡ s.first ∷ ((s.used ++ (f.q ++ f.r)) ++ rest)
      = ap (λ z. z ++ rest) f.whole ∙ ap (λ z. (z ++ (f.q ++ f.r)) ++ rest) s.whole in
      let same = same_head s.first g.flags ((s.used ++ (f.q ++ f.r)) ++ rest) ((g.p ++ g.q) ++ rest') (sym begins ∙ e ∙ ap (λ z. z ++ rest') g.whole) in
      let bad : false ≡ true = sym s.request ∙ ap opens_reply same.0 ∙ marked_reply g.flags g.marked.0 g.marked.1 in
      cc

  pub message_same : (waits : Waits) (heard : Heard) (m m' : Message) (b b' : List ℕ) (after after' : Heard) (rest rest' : List ℕ) (f : SpellsMessage reg waits heard m b after)
      (g : SpellsMessage reg waits heard m' b' after') → b ++ rest ≡ b' ++ rest'
      → message_announces reg waits heard m b after f ≡ message_announces reg waits heard m' b' after' g
  unfolding message_announces
  message_same waits heard m m' b b' after after' rest rest' (inl f) (inl g) e = request_same heard m m' b b' after after' rest rest' f g e
  message_same waits heard m m' b b' after after' rest rest' (inl f) (inr g) e = absurd (no_reply waits heard m m' b b' after after' rest rest' f g e)
  message_same waits heard m m' b b' after after' rest rest' (inr f) (inl g) e = absurd (no_reply waits heard m' m b' b after' after rest' rest g f (sym e))
  message_same waits heard m m' b b' after after' rest rest' (inr f) (inr g) e = reply_same waits heard m m' b b' after after' rest rest' f g e

  -- where what is remembered is the same
  message_at_same : (waits : Waits) (heard heard' : Heard) (m m' : Message) (b b' : List ℕ) (after after' : Heard) (rest rest' : List ℕ) (f : SpellsMessage reg waits heard m b after)
      (g : SpellsMessage reg waits heard' m' b' after') → heard ≡ heard' → b ++ rest ≡ b' ++ rest'
      → (message_announces reg waits heard m b after f ≡ message_announces reg waits heard' m' b' after' g) × (after ≡ after') × (rest ≡ rest')
  message_at_same waits heard heard' m m' b b' after after' rest rest' f g heards e = subst At heards base m' b' after' rest' g e
    where
      At : Heard → Type 0
      At heard' = (m' : Message) (b' : List ℕ) (after' : Heard) (rest' : List ℕ) (g : SpellsMessage reg waits heard' m' b' after') → b ++ rest ≡ b' ++ rest'
          → (message_announces reg waits heard m b after f ≡ message_announces reg waits heard' m' b' after' g) × (after ≡ after') × (rest ≡ rest')

      base : At heard
      base m' b' after' rest' g e =
          let one = one_front triple triple_maker (message_agrees reg waits heard named) (m, after) (m', after') b b' rest rest' f g e in
          (message_same waits heard m m' b b' after after' rest rest' f g e, ap (λ (z : Message × Heard). z.1) one.0, one.2)

  pub body_same : (ws : List Waits) (b b' : List ℕ) (heard heard' : Heard) (ms ms' : List Message) (after after' : Heard) (f : SpellsBody reg ws b heard ms after)
      (g : SpellsBody reg ws b' heard' ms' after') → heard ≡ heard' → b ≡ b'
      → (body_announces reg ws b heard ms after f ≡ body_announces reg ws b' heard' ms' after' g) × (after ≡ after')
  unfolding SpellsBody body_announces
  body_same [] b b' heard heard' [] [] after after' f g heards e = (refl, f.1 ∙ heards ∙ sym g.1)
  body_same [] b b' heard heard' [] (n ∷ ns) after after' f g heards e = absurd g
  body_same [] b b' heard heard' (m ∷ ms) ns after after' f g heards e = absurd f
  body_same (w ∷ ws) b b' heard heard' [] ns after after' f g heards e = absurd f
  body_same (w ∷ ws) b b' heard heard' (m ∷ ms) [] after after' f g heards e = absurd g
  body_same (w ∷ ws) b b' heard heard' (m ∷ ms) (n ∷ ns) after after' (used, rest, between, is, first, others) (used', rest', between', is', first', others') heards e =
      let one = message_at_same w heard heard' m n used used' between between' rest rest' first first' heards (sym is ∙ e ∙ is') in
      let behind = body_same ws rest rest' between between' ms ns after after' others others' one.1 one.2 in (
        both (body_announces reg ws rest between ms after others) (message_announces reg w heard m used between first) (body_announces reg ws rest' between' ns after' others')
            (message_announces reg w heard' n used' between' first') behind.0 one.0,
        behind.1,
      )

  pub stream_same : (wss : List (List Waits)) (b b' : List ℕ) (heard heard' : Heard) (mss mss' : List (List Message)) (after after' : Heard) (f : SpellsStream reg wss b heard mss after)
      (g : SpellsStream reg wss b' heard' mss' after') → heard ≡ heard' → b ≡ b'
      → stream_announces reg wss b heard mss after f ≡ stream_announces reg wss b' heard' mss' after' g
  unfolding SpellsStream stream_announces
  stream_same [] b b' heard heard' [] [] after after' f g heards e = refl
  stream_same [] b b' heard heard' [] (ns ∷ nss) after after' f g heards e = absurd g
  stream_same [] b b' heard heard' (ms ∷ mss) nss after after' f g heards e = absurd f
  stream_same (ws ∷ wss) b b' heard heard' [] nss after after' f g heards e = absurd f
  stream_same (ws ∷ wss) b b' heard heard' (ms ∷ mss) [] after after' f g heards e = absurd g
  stream_same (ws ∷ wss) b b' heard heard' (ms ∷ mss) (ns ∷ nss) after after' (body, rest, between, is, block, first, others) (body', rest', between', is', block', first', others') heards e =
      let front = spell_block-front (length ms) (length ns) body body' rest rest' (fits block) (fits block') (sym is ∙ e ∙ is') in
      let one = body_same ws body body' heard heard' ms ns between between' first first' heards front.1 in
      both (stream_announces reg wss rest between mss after others) (body_announces reg ws body heard ms between first) (stream_announces reg wss rest' between' nss after' others')
      (body_announces reg ws body' heard' ns between' first') (stream_same wss rest rest' between between' mss nss after after' others others' one.1 front.2) one.0
    where
      fits : {count : ℕ} {body : List ℕ} → IsStreamBlock count body → IsBlock count body
      fits is = record { count_fits = is.few; size_fits = omega (arith, is.size) }
