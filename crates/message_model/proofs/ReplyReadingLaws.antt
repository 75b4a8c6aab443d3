-- Replies are read as they are spelled.
use Rattle.std.proofs.Common.{◌≡◌, ℕ, Bool, true, false, List, ◌∷◌, ◌++◌, Option, None, Some, refl, sym, ap, subst, inl, inr}
use Rattle.std.specs.List.{list_all}
use Rattle.uno_model.specs.Entities.{Entity}
use Rattle.uno_model.specs.Functions.{Function}
use Rattle.uno_model.specs.Kinds.{Kind}
use Rattle.uno_model.specs.Kinds as kd
use Rattle.uno_model.specs.Sound.{is_named}
use Rattle.uno_model.specs.Values.{Plain}
use Rattle.uno_model.proofs.Options.{same_some, none_some}
use Rattle.urp_model.specs.Agreement.{Agrees, triple}
use Rattle.urp_model.specs.NamedKinds.{is_any}
use Rattle.urp_model.specs.Reading.{value_at}
use Rattle.urp_model.specs.ReadingNames.{tid_at}
use Rattle.urp_model.specs.Spelling.{SpellsTid, SpellsEach, Spells}
use Rattle.urp_model.specs.Tables.{Table, Tables, with_types, with_tids}
use Rattle.urp_model.specs.declared.reason.Reason.TheVariants.{NobodyWaits, BadAny, BadException}
use Rattle.urp_model.proofs.Agreeing.{weaken, fail_agrees, choice_agrees, if_agrees, judged_agrees, bind_agrees, map_agrees}
use Rattle.urp_model.proofs.OidReadingLaws.{tid_agrees}
use Rattle.urp_model.proofs.TypeReadingLaws.{kind_agrees}
use Rattle.urp_model.proofs.ValueLaws.{members_agree, value_agrees}
use Rattle.message_model.specs.Calls.{numbered, out_kinds, may_raise, Waiting, Waits, waiting}
use Rattle.message_model.specs.Headers.{Heard, has, new_tid_flag, exception_flag}
use Rattle.message_model.specs.Messages.{Answer, returned, raised, Message, reply}
use Rattle.message_model.specs.ReadingMessages.{returned_at, exception_at, raised_at, answer_at, awaited, hearing_tid, reply_at, opens_reply}
use Rattle.message_model.specs.SpellingMessages.{SpellsNewOrLast, SpellsAnswer, SpellsReply}
use Rattle.message_model.proofs.OpeningReadingLaws.{reply_marked}
use Rattle.message_model.proofs.TargetReadingLaws.{new_or_last_agrees}

module _ (reg : List Entity) (named : list_all is_named reg ≡ true) where
  -- ---- answers

  returned_agrees : (f : Function) (s : Tables) → Agrees triple (returned_at reg f s) (λ (x : Answer × Tables) used. SpellsAnswer false reg f s x.0 used x.1)
  unfolding returned_at
  returned_agrees f s =
      weaken triple
      (bind_agrees triple triple _ (value_agrees 64 reg named f.result_kind s) (λ (value : Plain × Tables).
      map_agrees triple triple _ (λ (outs : List Plain × Tables). (returned value.0 outs.0, outs.1))
      (members_agree (value_at 64 reg) (Spells 64 reg) (value_agrees 64 reg named) (out_kinds f) value.1) (λ outs rest. refl)))
      (λ x used t.
      let outs = t.5 in (
        t.0.0,
        outs.0.0,
        t.1,
        t.2,
        t.0.1,
        ap (λ (z : Answer × Tables). z.0) outs.1,
        t.3,
        t.4,
        subst (SpellsEach (Spells 64 reg) (out_kinds f) t.0.1 outs.0.0 t.2) (sym (ap (λ (z : Answer × Tables). z.1) outs.1)) outs.2,
      ))
      (λ x used t. ((t.0, t.4), t.2, t.3, t.6, t.7, ((t.1, x.1), (λ i. (t.5 i, x.1)), t.8)))

  -- an exception that the function may raise
  abbrev pub IsRaised : Function → Kind → Tables → Answer × Tables → List ℕ → Type 0
  IsRaised f k s x used = (may_raise reg f k ≡ true) × ((value : Plain × Tables) × (x ≡ (raised k value.0, value.1)) × Spells 63 reg k s value.0 used value.1)

  exception_agrees : (f : Function) (k : Kind) (s : Tables) → Agrees triple (exception_at reg f k s) (IsRaised f k s)
  unfolding exception_at
  exception_agrees f k s =
      if_agrees triple (may_raise reg f k) BadException
      (λ is. map_agrees triple triple _ (λ (value : Plain × Tables). (raised k value.0, value.1)) (value_agrees 63 reg named k s) (λ value rest. refl))

  -- what may be raised is no any
  raises_no_any : (f : Function) (k : Kind) → may_raise reg f k ≡ true → is_any k ≡ false
  unfolding may_raise
  raises_no_any f kd.any is = absurd cc
  raises_no_any f _ is = refl

  raised_agrees : (f : Function) (s : Tables) → Agrees triple (raised_at reg f s) (λ (x : Answer × Tables) used. SpellsAnswer true reg f s x.0 used x.1)
  unfolding raised_at
  raised_agrees f s =
      weaken triple
      (bind_agrees triple triple _ (kind_agrees reg s.types named) (λ (k : Kind × Table). choice_agrees triple (is_any k.0) (λ is. fail_agrees triple BadAny)
      (λ is. exception_agrees f k.0 (with_types s k.1))))
      (λ x used t. elim t.5 [
        | inl bad ↦ absurd bad.1
        | inr good ↦
            let value = good.1.1 in (
              t.0.0,
              value.0.0,
              t.1,
              t.2,
              t.0.1,
              ap (λ (z : Answer × Tables). z.0) value.1,
              t.3,
              t.4,
              good.1.0,
              subst (Spells 63 reg t.0.0 (with_types s t.0.1) value.0.0 t.2) (sym (ap (λ (z : Answer × Tables). z.1) value.1)) value.2,
            )
      ])
      (λ x used t. ((t.0, t.4), t.2, t.3, t.6, t.7, inr (raises_no_any f t.0 t.8, (t.8, ((t.1, x.1), (λ i. (t.5 i, x.1)), t.9)))))

  pub answer_agrees : (exception : Bool) (f : Function) (s : Tables)
      → Agrees triple (answer_at exception reg f s) (λ (x : Answer × Tables) used. SpellsAnswer exception reg f s x.0 used x.1)
  unfolding answer_at
  answer_agrees true f s = raised_agrees f s
  answer_agrees false f s = returned_agrees f s

  -- ---- calls that wait

  -- the call for which a thread waits, and its function
  awaited_parts : (o : Option Waiting) (x : Waiting × Function) → awaited reg o ≡ Some x → (o ≡ Some x.0) × (numbered reg x.0.face x.0.function ≡ Some x.1)
  awaited_parts None x is = absurd (none_some is)
  awaited_parts (Some call) x is = by_function (numbered reg call.face call.function) refl
    where
      by_function : (o : Option Function) → numbered reg call.face call.function ≡ o → (Some call ≡ Some x.0) × (numbered reg x.0.face x.0.function ≡ Some x.1)
      by_function None found = absurd (none_some (rw found at is))
      by_function (Some f) found =
          let same : (call, f) ≡ x = same_some (rw found at is) in
          subst (λ (y : Waiting × Function). (Some call ≡ Some y.0) × (numbered reg y.0.face y.0.function ≡ Some y.1)) same (refl, found)

  parts_awaited : (o : Option Waiting) (call : Waiting) (f : Function) → o ≡ Some call → numbered reg call.face call.function ≡ Some f
      → awaited reg o ≡ Some (call, f)
  parts_awaited o call f is found = rw (is, found) refl

  -- ---- replies

  pub reply_agrees : (waits : Waits) (heard : Heard) (flags : ℕ) → opens_reply flags ≡ true
      → Agrees triple (reply_at reg waits heard flags) (λ (x : Message × Heard) used. SpellsReply reg waits heard x.0 (flags ∷ used) x.1)
  unfolding reply_at
  reply_agrees waits heard flags is =
      weaken triple
      (bind_agrees triple triple _ (new_or_last_agrees (has new_tid_flag flags) heard.last.tid tid_at SpellsTid tid_agrees heard.tables.tids)
      (λ (tid : List ℕ × Table).
      judged_agrees triple NobodyWaits (awaited reg (waiting tid.0 waits)) _ (λ (call : Waiting × Function) found.
      map_agrees triple triple _ (λ (answer : Answer × Tables). (reply tid.0 call.0.face call.0.function answer.0, hearing_tid heard tid.0 answer.1))
      (answer_agrees (has exception_flag flags) call.1 (with_tids heard.tables tid.1)) (λ answer rest. refl))))
      (λ x used t.
      let behind = t.5 in
      let last = behind.2 in
      let call = awaited_parts (waiting t.0.0 waits) behind.0 behind.1 in
      subst (λ (z : Message × Heard). SpellsReply reg waits heard z.0 (flags ∷ used) z.1) (sym last.1)
      (record {
        flags = flags;
        tid = t.0.0;
        tids = t.0.1;
        call = behind.0.0;
        function = behind.0.1;
        answer = last.0.0;
        p = t.1;
        q = t.2;
        whole = ap (λ z. flags ∷ z) t.3;
        marked = reply_marked flags is;
        thread = t.4;
        waited = call.0;
        called = call.1;
        answers = last.2;
        said = refl;
        remembered = refl;
      }))
      (λ x used h.
      let one : h.flags ≡ flags = cc (h.whole) in
      let split : used ≡ h.p ++ h.q = cc (h.whole) in
      let thread = subst (λ z. SpellsNewOrLast (has new_tid_flag z) heard.last.tid SpellsTid heard.tables.tids h.tid h.p h.tids) one h.thread in
      let answers = subst (λ z. SpellsAnswer (has exception_flag z) reg h.function (with_tids heard.tables h.tids) h.answer h.q x.1.tables) one h.answers in
      let call = parts_awaited (waiting h.tid waits) h.call h.function h.waited h.called in
      ((h.tid, h.tids), h.p, h.q, split, thread, ((h.call, h.function), call, ((h.answer, x.1.tables), (λ i. (h.said i, h.remembered i)), answers))))
