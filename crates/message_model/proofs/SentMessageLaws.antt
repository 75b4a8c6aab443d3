-- A message that a sender writes spells it as it arrives, and the reader goes on to answer to the sender.
use Rattle.std.proofs.Common.{◌≡◌, ℕ, ◌^◌, ◌<◌, ◌≤◌, Bool, true, List, [], Some, refl, sym, ap, subst, ◌∙◌, inl, inr, arith}
use Rattle.uno_model.specs.Entities.{Entity}
use Rattle.uno_model.specs.Fits.{Fits}
use Rattle.uno_model.specs.Functions.{Function}
use Rattle.uno_model.specs.Kinds.{Kind}
use Rattle.uno_model.specs.Kinds as kd
use Rattle.uno_model.specs.Sound.{IsSound}
use Rattle.uno_model.specs.Types.{is_type}
use Rattle.uno_model.specs.Values.{Plain, any, plains, depth}
use Rattle.uno_model.specs.Weights.{weight, weights}
use Rattle.uno_model.specs.Spellable.{IsSpellable, AreSpellable}
use Rattle.urp_model.specs.Carried.{carried, AllCorrespond}
use Rattle.urp_model.specs.Spelling.{SpellsTid}
use Rattle.urp_model.specs.Tables.{Table, Tables, with_types, with_tids}
use Rattle.urp_model.specs.Writing.{HeldNames, holding_types, kind_spelling, kind_after, name_spelling, after, afters, spelling, spellings}
use Rattle.urp_model.proofs.PieceLaws.{kind_is}
use Rattle.message_model.specs.Calls.{is_oneway, argument_kinds, out_kinds, may_raise, Waits, waiting, release_number}
use Rattle.message_model.specs.Headers.{Last, Heard, hearing, has, new_tid_flag}
use Rattle.message_model.specs.Messages.{Answer, returned, raised, Message, request, release, reply}
use Rattle.message_model.specs.ReadingMessages.{hearing_tid}
use Rattle.message_model.specs.Sayable.{IsThread, IsCalled, Fill, AnswerFits, MayBeSaid, answer_weight, message_weight, AnswerSpellable, MessageSpellable}
use Rattle.message_model.specs.Sayable.{carried_each, arguments_of, answer_arrived, arrived, IsAwaited, MemoriesCorrespond}
use Rattle.message_model.specs.SpellingMessages.{SpellsNewOrLast, SpellsAsked, a_release, a_call, SpellsAnswer, SpellsMessage}
use Rattle.message_model.specs.WritingMessages.{Spoken, is_new, if_new, Heading, opening_spelling, target_spelling, after_target, request_spelling}
use Rattle.message_model.specs.WritingMessages.{after_request, answer_spelling, after_answer, is_raised, reply_flags, after_thread, reply_spelling}
use Rattle.message_model.specs.WritingMessages.{after_reply, call_heading, release_heading, message_spelling, after_message}
use Rattle.message_model.proofs.CarriedLaws.{each_is, value_is}
use Rattle.message_model.proofs.FlagLaws.{reply_says}
use Rattle.message_model.proofs.OpeningLaws.{opening_of, opening_is}
use Rattle.message_model.proofs.TargetLaws.{thread_is, CanHead, target_of, target_is}

-- a message as it is written, and that the reader goes on to answer
abbrev pub MessageCarried : List Entity → Waits → Heard → Message → List ℕ → Spoken → Type 0
MessageCarried reg waits heard m b spoken = (t : Heard) × SpellsMessage reg waits heard m b t × MemoriesCorrespond t spoken

module _ (reg : List Entity) (waits : Waits) (heard : Heard) (spoken : Spoken) (sound : IsSound reg) (agree : MemoriesCorrespond heard spoken) where
  -- ---- requests

  -- a request, of which what stands behind the header is spelled
  request_is : (h : Heading) (args : List Plain) (m : Message) → h.function < 2 ^ 16 → CanHead reg h
      → ((between : Heard) → MemoriesCorrespond between (after_target h spoken)
      → (t : Heard) × SpellsAsked reg (opening_of h spoken.last) (target_of h) between m (spellings (plains args) (after_target h spoken).names) t × MemoriesCorrespond t (after_request h args spoken))
      → MessageCarried reg waits heard m (request_spelling h args spoken) (after_request h args spoken)
  request_is h args m low can behind =
      let target = target_is reg h heard spoken sound can agree in
      let asked = behind target.0 target.2 in (
        asked.0,
        inl (record {
          opening = opening_of h spoken.last;
          target = target_of h;
          between = target.0;
          p = opening_spelling h spoken.last;
          q = target_spelling h spoken;
          r = spellings (plains args) (after_target h spoken).names;
          whole = refl;
          opens = opening_is h spoken.last low;
          targets = target.1;
          asks = asked.1;
        }),
        asked.2,
      )

  -- a release has nothing behind its header
  release_is : (tid oid face : List ℕ) → CanHead reg (release_heading tid oid face)
      → MessageCarried reg waits heard (release tid oid face) (request_spelling (release_heading tid oid face) [] spoken) (after_request (release_heading tid oid face) [] spoken)
  unfolding spellings afters
  release_is tid oid face can =
      let low : release_number < 2 ^ 16 = omega arith in
      request_is (release_heading tid oid face) [] (release tid oid face) low can
      (λ between same. (between, a_release face refl refl refl refl refl refl, same))

  -- a call has its arguments there
  call_is : (tid oid face : List ℕ) (function : ℕ) (args : List Plain) (f : Function) → CanHead reg (call_heading reg tid oid face function) → IsCalled reg face function f
      → Fill reg args (argument_kinds f) → weights (plains args) ≤ 16777216 → AreSpellable (plains args)
      → MessageCarried reg waits heard (request tid oid face function (carried_each reg args (argument_kinds f)))
      (request_spelling (call_heading reg tid oid face function) args spoken) (after_request (call_heading reg tid oid face function) args spoken)
  call_is tid oid face function args f can called fill light ranged =
      let h = call_heading reg tid oid face function in
      request_is h args (request tid oid face function (carried_each reg args (argument_kinds f))) called.small can
      (λ between same.
      let each = each_is reg args (argument_kinds f) between.tables (after_target h spoken).names sound fill light ranged same.names in (
        hearing between each.0,
        a_call face f (carried_each reg args (argument_kinds f)) each.0 refl called.no_release called.no_acquire called.found
            (λ oneway. ap is_oneway called.found ∙ oneway) refl each.1 refl,
        record { names = each.2; last = same.last },
      ))

  -- ---- replies

  -- an answer as it is written
  abbrev AnswerCarried : Function → Tables → Answer → Answer → HeldNames → Type 0
  AnswerCarried f s arrives answer names =
      (t : Tables) × SpellsAnswer (is_raised answer) reg f s arrives (answer_spelling answer names) t × AllCorrespond t (after_answer answer names)

  -- what is said of an exception as an any
  any_fits : (k : Kind) (v : Plain) → Fits reg (any k v) kd.any → (is_type reg k ≡ true) × Fits reg v k
  unfolding Fits
  any_fits k v fit = (fit.2, fit.3)

  any_deep : (k : Kind) (v : Plain) → depth (any k v) ≤ 64 → depth v ≤ 63
  unfolding depth
  any_deep k v deep = omega arith

  any_light : (k : Kind) (v : Plain) → weight (any k v) ≤ 16777216 → weight v ≤ 16777216
  unfolding weight
  any_light k v low = omega arith

  exception_is : (f : Function) (k : Kind) (v : Plain) (s : Tables) (names : HeldNames) → may_raise reg f k ≡ true → (is_type reg k ≡ true) × Fits reg v k → depth v ≤ 63
      → weight v ≤ 16777216 → IsSpellable v → AllCorrespond s names → AnswerCarried f s (raised k (carried reg v k)) (raised k v) names
  unfolding answer_spelling after_answer spelling after
  exception_is f k v s names may fit deep low ranged c =
      let w = kind_is reg s.types k names.types sound.named fit.0 c.types in
      let inside = value_is reg 63 v k (with_types s w.0) (holding_types names (kind_after k names.types)) sound fit.1 deep low ranged
      (record { types = w.2; oids = c.oids; tids = c.tids }) in
      (inside.0, (k, carried reg v k, kind_spelling k names.types, spelling v (holding_types names (kind_after k names.types)), w.0, refl, refl, w.1, may, inside.1), inside.2)

  answer_is : (f : Function) (answer : Answer) (s : Tables) (names : HeldNames) → AnswerFits reg f answer → answer_weight answer ≤ 16777216 → AnswerSpellable answer
      → AllCorrespond s names → AnswerCarried f s (answer_arrived reg (Some f) answer) answer names
  unfolding answer_spelling after_answer
  answer_is f (returned v outs) s names fits light ranged c =
      let first = value_is reg 64 v f.result_kind s names sound fits.0 fits.1 (omega arith) ranged.0 c in
      let others = each_is reg outs (out_kinds f) first.0 (after v names) sound fits.2 (omega arith) ranged.1 first.2 in
      (others.0, (carried reg v f.result_kind, carried_each reg outs (out_kinds f), spelling v names, spellings (plains outs) (after v names), first.0, refl, refl, first.1, others.1), others.2)
  answer_is f (raised k v) s names fits light ranged c =
      exception_is f k v s names fits.0 (any_fits k v fits.1) (any_deep k v fits.2) (any_light k v light) ranged c

  -- a reply to the call for which its thread waits
  reply_is : (tid face : List ℕ) (function : ℕ) (answer : Answer) (f : Function) → IsCalled reg face function f → IsThread tid → AnswerFits reg f answer
      → answer_weight answer ≤ 16777216 → AnswerSpellable answer → waiting tid waits ≡ Some (record { face = face; function = function })
      → MessageCarried reg waits heard (reply tid face function (answer_arrived reg (Some f) answer)) (reply_spelling tid answer spoken) (after_reply tid answer spoken)
  unfolding reply_spelling after_reply
  reply_is tid face function answer f called thread fits light ranged awaited =
      let new = is_new tid spoken.last.tid in
      let flags = reply_flags (is_raised answer) new in
      let says = reply_says (is_raised answer) new in
      let t = thread_is tid spoken.last.tid heard.tables.tids spoken.names.tids thread agree.names.tids in
      let tables = with_tids heard.tables t.0 in
      let same : AllCorrespond tables (after_thread tid spoken) = record { types = agree.names.types; oids = agree.names.oids; tids = t.2 } in
      let a = answer_is f answer tables (after_thread tid spoken) fits light ranged same in (
        hearing_tid heard tid a.0,
        inr (record {
          flags = flags;
          tid = tid;
          tids = t.0;
          call = record { face = face; function = function };
          function = f;
          answer = answer_arrived reg (Some f) answer;
          p = if_new new (name_spelling tid spoken.names.tids);
          q = answer_spelling answer (after_thread tid spoken);
          whole = refl;
          marked = says.marked;
          thread = heard_thread t.0 (has new_tid_flag flags) says.tid_is t.1;
          waited = awaited;
          called = called.found;
          answers = subst (λ b. SpellsAnswer b reg f tables (answer_arrived reg (Some f) answer) (answer_spelling answer (after_thread tid spoken)) a.0) (sym says.raised_is) a.1;
          said = refl;
          remembered = refl;
        }),
        record { names = a.2; last = λ i. record { kind = (agree.last i).kind; oid = (agree.last i).oid; tid = Some tid } },
      )
    where
      heard_thread : (after : Table) (flag : Bool) → flag ≡ is_new tid spoken.last.tid
          → SpellsNewOrLast (is_new tid spoken.last.tid) spoken.last.tid SpellsTid heard.tables.tids tid (if_new (is_new tid spoken.last.tid) (name_spelling tid spoken.names.tids)) after
          → SpellsNewOrLast flag heard.last.tid SpellsTid heard.tables.tids tid (if_new (is_new tid spoken.last.tid) (name_spelling tid spoken.names.tids)) after
      heard_thread after flag same is =
          subst (λ b. SpellsNewOrLast b heard.last.tid SpellsTid heard.tables.tids tid (if_new (is_new tid spoken.last.tid) (name_spelling tid spoken.names.tids)) after) (sym same)
          (subst (λ (l : Last). SpellsNewOrLast (is_new tid spoken.last.tid) l.tid SpellsTid heard.tables.tids tid
          (if_new (is_new tid spoken.last.tid) (name_spelling tid spoken.names.tids)) after) (sym agree.last) is)

  -- ---- messages

  pub message_is : (m : Message) → MayBeSaid reg m → message_weight m ≤ 16777216 → MessageSpellable m → IsAwaited waits m
      → MessageCarried reg waits heard (arrived reg m) (message_spelling reg m spoken) (after_message reg m spoken)
  unfolding arrived message_spelling after_message
  message_is (request tid oid face function args) (f, called, thread, object, fill) light ranged awaited =
      let can : CanHead reg (call_heading reg tid oid face function) = record { interface = called.interface; object = object; text = ranged.0; thread = thread } in
      subst (λ g. MessageCarried reg waits heard (request tid oid face function (carried_each reg args (arguments_of g)))
      (request_spelling (call_heading reg tid oid face function) args spoken) (after_request (call_heading reg tid oid face function) args spoken)) (sym called.found)
      (call_is tid oid face function args f can called fill (omega arith) ranged.1)
  message_is (release tid oid face) (interface, thread, object) light ranged awaited =
      release_is tid oid face (record { interface = interface; object = object; text = ranged; thread = thread })
  message_is (reply tid face function answer) (f, called, thread, fits) light ranged awaited =
      subst (λ g. MessageCarried reg waits heard (reply tid face function (answer_arrived reg g answer)) (reply_spelling tid answer spoken) (after_reply tid answer spoken))
      (sym called.found) (reply_is tid face function answer f called thread fits (omega arith) ranged awaited)
