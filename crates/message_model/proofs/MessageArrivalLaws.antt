-- The values of a message that bytes spell fit the function that it names, and what is remembered after it goes on to mean what it should.
use Rattle.std.proofs.Common.{◌≡◌, ◌≢◌, ℕ, ◌≤◌, Bool, true, false, List, [], ◌∷◌, Option, None, Some, refl, sym, ap, subst, ◌∙◌, inl, inr, arith}
use Rattle.std.specs.List.{list_all}
use Rattle.std.proofs.lemmas.Bool.{and_parts}
use Rattle.uno_model.specs.Entities.{Entity}
use Rattle.uno_model.specs.Fits.{Fits, FitEach}
use Rattle.uno_model.specs.Functions.{Function}
use Rattle.uno_model.specs.Kinds.{Kind}
use Rattle.uno_model.specs.Kinds as kd
use Rattle.uno_model.specs.Sound.{IsSound, is_storable}
use Rattle.uno_model.specs.Types.{is_type}
use Rattle.uno_model.specs.Values.{Plain, plains, depth, depth_in}
use Rattle.uno_model.proofs.UsedKindLaws.{is_member}
use Rattle.uno_model.proofs.Options.{same_some, none_some}
use Rattle.urp_model.specs.Carried.{MeansOnly, MeansIdentities}
use Rattle.urp_model.specs.Spelling.{IsThreadName, SpellsKind, SpellsOid, SpellsTid, SpellsEach, Spells}
use Rattle.urp_model.specs.Tables.{Table, Tables, no_tables, with_types, with_tids}
use Rattle.urp_model.proofs.ArrivedLaws.{value_arrives}
use Rattle.urp_model.proofs.ThreadLaws.{value_keeps, each_keeps}
use Rattle.urp_model.proofs.FittingLaws.{spelled_type, name_fits, oid_fits, no_identities, nothing_meant}
use Rattle.message_model.specs.Arriving.{IsObject, IsHeard, MessageFits}
use Rattle.message_model.specs.Calls.{goes, comes, argument_kinds, out_kinds, may_raise, Waits}
use Rattle.message_model.specs.Headers.{Last, Heard, hearing, nothing_heard, has, new_tid_flag, exception_flag, Opening, Target, oid_text}
use Rattle.message_model.specs.Messages.{Answer, Message}
use Rattle.message_model.specs.Sayable.{AnswerFits, IsThread}
use Rattle.message_model.specs.SpellingMessages.{SpellsNewOrLast, SpellsOidText, SpellsTarget, SpellsAsked, a_release, a_call}
use Rattle.message_model.specs.SpellingMessages.{SpellsRequest, SpellsAnswer, SpellsReply, SpellsMessage}
use Rattle.message_model.proofs.FunctionKindLaws.{numbered_typed, on_way_typed}

-- before any message
pub nothing_is_heard : (reg : List Entity) → IsHeard reg nothing_heard
unfolding no_tables
nothing_is_heard reg = record {
  oids = no_identities;
  tids = nothing_meant IsThread;
  kind = λ k is. absurd (none_some is);
  oid = λ oid is. absurd (none_some is);
  tid = λ tid is. absurd (none_some is);
}

-- ---- headers

-- the identity of an object that bytes spell, or null
oid_named : (table : Table) (oid : Option (List ℕ)) (x b : List ℕ) (after : Table) → MeansIdentities table → x ≡ oid_text oid → SpellsOid table oid b after
    → IsObject x × MeansIdentities after
oid_named table None x b after each is spelled = (inl is, subst MeansIdentities (sym spelled.5) each)
oid_named table (Some oid) x b after each is spelled =
    let o = oid_fits table oid b after spelled.0 each in
    (subst IsObject (sym is) (inr o.0), o.1)

new_oid_named : (new : Bool) (last : Option (List ℕ)) (table : Table) (x b : List ℕ) (after : Table) → MeansIdentities table
    → ((oid : List ℕ) → last ≡ Some oid → IsObject oid) → SpellsNewOrLast new last SpellsOidText table x b after → IsObject x × MeansIdentities after
new_oid_named true last table x b after each lasts spelled = oid_named table spelled.0 x b after each spelled.1 spelled.2
new_oid_named false last table x b after each lasts spelled = (lasts x spelled.0, subst MeansIdentities (sym spelled.2) each)

-- the identity of a thread that bytes spell
thread_is : (p tid : List ℕ) → tid ≢ [] → IsThreadName p tid → IsThread tid
thread_is p [] some name = absurd (some refl)
thread_is p (b ∷ tid) some name = record { some = omega arith; bounded = name.1 }

new_tid_fits : (new : Bool) (last : Option (List ℕ)) (table : Table) (tid b : List ℕ) (after : Table) → MeansOnly IsThread table
    → ((tid : List ℕ) → last ≡ Some tid → IsThread tid) → SpellsNewOrLast new last SpellsTid table tid b after → IsThread tid × MeansOnly IsThread after
new_tid_fits true last table tid b after each lasts spelled = name_fits IsThread IsThreadName thread_is table tid b after spelled each
new_tid_fits false last table tid b after each lasts spelled = (lasts tid spelled.0, subst (MeansOnly IsThread) (sym spelled.2) each)

module _ (reg : List Entity) where
  new_kind_type : (new : Bool) (last : Option Kind) (table : Table) (k : Kind) (b : List ℕ) (after : Table)
      → ((k : Kind) → last ≡ Some k → is_type reg k ≡ true) → SpellsNewOrLast new last (SpellsKind reg) table k b after → is_type reg k ≡ true
  new_kind_type true last table k b after lasts spelled = spelled_type reg table k b after spelled
  new_kind_type false last table k b after lasts spelled = lasts k spelled.0

  -- the type and the object of a target, and what is remembered after it
  pub record TargetFits (target : Target) (after : Heard) : Type 0 where
    pub type : is_type reg target.kind ≡ true
    pub object : IsObject target.oid
    pub thread : IsThread target.tid
    pub heard : IsHeard reg after

  target_fits : (o : Opening) (heard : Heard) (target : Target) (b : List ℕ) (after : Heard) → IsHeard reg heard → SpellsTarget reg o heard target b after
      → TargetFits target after
  target_fits o heard target b after is h =
      let type = new_kind_type o.new_type heard.last.kind heard.tables.types target.kind h.p after.tables.types is.kind h.kind in
      let oid = new_oid_named o.new_oid heard.last.oid heard.tables.oids target.oid h.q after.tables.oids is.oids is.oid h.oid in
      let tid = new_tid_fits o.new_tid heard.last.tid heard.tables.tids target.tid h.r after.tables.tids is.tids is.tid h.tid in
      record {
        type = type;
        object = oid.0;
        thread = tid.0;
        heard = record {
          oids = oid.1;
          tids = tid.1;
          kind = λ k last. subst (λ (z : Kind). is_type reg z ≡ true) (same_some (sym (ap (λ (l : Last). l.kind) h.remembered) ∙ last)) type;
          oid = λ x last. subst IsObject (same_some (sym (ap (λ (l : Last). l.oid) h.remembered) ∙ last)) oid.0;
          tid = λ x last. subst IsThread (same_some (sym (ap (λ (l : Last). l.tid) h.remembered) ∙ last)) tid.0;
        };
      }

  -- after values
  heard_on : (heard : Heard) (s : Tables) → IsHeard reg heard → MeansIdentities s.oids → s.tids ≡ heard.tables.tids → IsHeard reg (hearing heard s)
  heard_on heard s is each kept = record { oids = each; tids = subst (MeansOnly IsThread) (sym kept) is.tids; kind = is.kind; oid = is.oid; tid = is.tid }

  module _ (sound : IsSound reg) where
    -- ---- values

    -- values of these types
    pub record Filled (d : ℕ) (ks : List Kind) (xs : List Plain) (t : Tables) : Type 0 where
      pub fit : FitEach reg (plains xs) ks
      pub deep : depth_in (plains xs) ≤ d
      pub oids : MeansIdentities t.oids

    each_fills : (d : ℕ) (ks : List Kind) (xs : List Plain) (s t : Tables) (b : List ℕ) → list_all (is_member reg) ks ≡ true → MeansIdentities s.oids
        → SpellsEach (Spells d reg) ks s xs b t → Filled d ks xs t
    unfolding SpellsEach FitEach depth_in
    each_fills d [] xs s t b are each spelled =
        let oids = subst (λ (u : Tables). MeansIdentities u.oids) (sym spelled.2) each in
        subst (λ ys. Filled d [] ys t) (sym spelled.0) (record { fit = tt; deep = omega arith; oids = oids })
    each_fills d (k ∷ ks) xs s t b are each spelled =
        let p = and_parts (is_member reg k) (list_all (is_member reg) ks) are in
        let first = value_arrives reg sound d k s spelled.4 spelled.0 spelled.2 (and_parts (is_storable k) (is_type reg k) p.0).1 each spelled.7 in
        let others = each_fills d ks spelled.1 spelled.4 t spelled.3 p.1 first.oids spelled.8 in
        subst (λ ys. Filled d (k ∷ ks) ys t) (sym spelled.5)
        (record { fit = (first.fits, others.fit); deep = omega (arith, first.deep, others.deep); oids = others.oids })

    -- ---- requests

    asked_fits : (o : Opening) (target : Target) (heard : Heard) (m : Message) (b : List ℕ) (after : Heard) → TargetFits target heard
        → SpellsAsked reg o target heard m b after → MessageFits reg m × IsHeard reg after
    asked_fits o target heard m b after fits (a_release face is function answered said none same) = (
      subst (MessageFits reg) (sym said) (fits.thread, record { interface = subst (λ (k : Kind). is_type reg k ≡ true) is fits.type; object = fits.object }),
      subst (IsHeard reg) (sym same) fits.heard,
    )
    asked_fits o target heard m b after fits (a_call face f args s is no_release no_acquire found oneway said spelled same) =
        let kinds = on_way_typed reg goes f.params (numbered_typed reg sound face o.function f found).1 in
        let a = each_fills 64 (argument_kinds f) args heard.tables s b kinds fits.heard.oids spelled in (
          subst (MessageFits reg) (sym said) (
            fits.thread,
            record {
              f = f;
              interface = subst (λ (k : Kind). is_type reg k ≡ true) is fits.type;
              found = found;
              no_release = no_release;
              no_acquire = no_acquire;
              object = fits.object;
              fill = record { fit = a.fit; deep = a.deep };
            },
          ),
          subst (IsHeard reg) (sym same) (heard_on heard s fits.heard a.oids (each_keeps (Spells 64 reg) (value_keeps reg 64) (argument_kinds f) args heard.tables s b spelled)),
        )

    request_fits : (heard : Heard) (m : Message) (b : List ℕ) (after : Heard) → IsHeard reg heard → SpellsRequest reg heard m b after
        → MessageFits reg m × IsHeard reg after
    request_fits heard m b after is h =
        asked_fits h.opening h.target h.between m h.r after (target_fits h.opening heard h.target h.q h.between is h.targets) h.asks

    -- ---- replies

    raises_no_any : (f : Function) (k : Kind) → may_raise reg f k ≡ true → k ≢ kd.any
    unfolding may_raise
    raises_no_any f k may is = let bad : false ≡ true = ap (may_raise reg f) (sym is) ∙ may in cc

    answer_fits : (exception : Bool) (f : Function) (s : Tables) (answer : Answer) (b : List ℕ) (t : Tables)
        → is_type reg f.result_kind ≡ true → list_all (is_member reg) (out_kinds f) ≡ true → MeansIdentities s.oids
        → SpellsAnswer exception reg f s answer b t → AnswerFits reg f answer × MeansIdentities t.oids
    unfolding Fits depth
    answer_fits true f s answer b t result outs each (k, v, p, q, after, said, split, type, may, spelled) =
        let type_is = spelled_type reg s.types k p after type in
        let a = value_arrives reg sound 63 k (with_types s after) t v q type_is each spelled in
        (subst (AnswerFits reg f) (sym said) (may, (refl, raises_no_any f k may, type_is, a.fits), omega (arith, a.deep)), a.oids)
    answer_fits false f s answer b t result outs each (v, xs, p, q, u, said, split, value, others) =
        let a = value_arrives reg sound 64 f.result_kind s u v p result each value in
        let o = each_fills 64 (out_kinds f) xs u t q outs a.oids others in
        (subst (AnswerFits reg f) (sym said) (a.fits, a.deep, record { fit = o.fit; deep = o.deep }), o.oids)

    answer_keeps : (exception : Bool) (f : Function) (s : Tables) (answer : Answer) (b : List ℕ) (t : Tables) → SpellsAnswer exception reg f s answer b t → t.tids ≡ s.tids
    answer_keeps true f s answer b t (k, v, p, q, after, said, split, type, may, spelled) = value_keeps reg 63 k (with_types s after) t v q spelled
    answer_keeps false f s answer b t (v, xs, p, q, u, said, split, value, others) =
        each_keeps (Spells 64 reg) (value_keeps reg 64) (out_kinds f) xs u t q others ∙ value_keeps reg 64 f.result_kind s u v p value

    reply_fits : (waits : Waits) (heard : Heard) (m : Message) (b : List ℕ) (after : Heard) → IsHeard reg heard → SpellsReply reg waits heard m b after
        → MessageFits reg m × IsHeard reg after
    reply_fits waits heard m b after is h =
        let typed = numbered_typed reg sound h.call.face h.call.function h.function h.called in
        let outs = on_way_typed reg comes h.function.params typed.1 in
        let s : Tables = with_tids heard.tables h.tids in
        let a = answer_fits (has exception_flag h.flags) h.function s h.answer h.q after.tables typed.0 outs is.oids h.answers in
        let thread = new_tid_fits (has new_tid_flag h.flags) heard.last.tid heard.tables.tids h.tid h.p h.tids is.tids is.tid h.thread in
        let tids = subst (MeansOnly IsThread) (sym (answer_keeps (has exception_flag h.flags) h.function s h.answer h.q after.tables h.answers)) thread.1 in (
          subst (MessageFits reg) (sym h.said) (thread.0, record { f = h.function; found = h.called; fits = a.0 }),
          subst (IsHeard reg) (sym h.remembered)
              (record { oids = a.1; tids = tids; kind = is.kind; oid = is.oid; tid = λ x last. subst IsThread (same_some last) thread.0 }),
        )

    -- ---- messages

    pub message_fits : (waits : Waits) (heard : Heard) (m : Message) (b : List ℕ) (after : Heard) → IsHeard reg heard → SpellsMessage reg waits heard m b after
        → MessageFits reg m × IsHeard reg after
    message_fits waits heard m b after is spelled = elim spelled [
      | inl asked ↦ request_fits heard m b after is asked
      | inr answered ↦ reply_fits waits heard m b after is answered
    ]
