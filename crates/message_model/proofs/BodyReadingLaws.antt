-- The body of a block is read as the messages that it spells, up to the first fault, and only so.
use Rattle.std.proofs.Common.{◌≡◌, ℕ, zero, suc, ◌+◌, ◌-◌, List, [], ◌∷◌, ◌++◌, length, Option, None, Some, Result, Ok, Err, refl, sym, ap, subst, ◌∙◌, ◌↔◌}
use Rattle.std.proofs.Common.{append_assoc, append-nil, length-append, arith}
use Rattle.uno_model.specs.Entities.{Entity}
use Rattle.uno_model.specs.Sound.{IsSound}
use Rattle.urp_model.specs.declared.fault.Fault.{Fault}
use Rattle.urp_model.specs.declared.fault.Fault.TheVariants.{Short, Bad}
use Rattle.message_model.specs.Calls.{Waits}
use Rattle.message_model.specs.Headers.{Heard}
use Rattle.message_model.specs.Messages.{Message}
use Rattle.message_model.specs.ReadingMessages.{message_at}
use Rattle.message_model.specs.ReadingStreams.{Awaiting, along, BodyFault, left_over, unread, offset_of, BodyRead, with_first, body_end, body_with, body_at, offset_with, offset_at, Ends, IsFinal, IsBodyRead, BeginsWith}
use Rattle.message_model.specs.SpellingMessages.{SpellsMessage}
use Rattle.message_model.specs.Streams.{SpellsBody}
use Rattle.message_model.proofs.MessageReadingLaws.{message_agrees}

-- what a reader makes of a message
abbrev Verdict : Type 0
Verdict = Result (Message × Heard × List ℕ) Fault

module _ (reg : List Entity) (sound : IsSound reg) where
  -- a message is read where it is spelled
  message_read : (waits : Waits) (heard between : Heard) (m : Message) (used rest : List ℕ) → SpellsMessage reg waits heard m used between
      → message_at reg waits heard (used ++ rest) ≡ Ok (m, between, rest)
  message_read waits heard between m used rest spelled = (message_agrees reg waits heard sound.named).complete (m, between) used rest spelled

  -- ---- what is read is so

  -- one message more at the front
  ends_behind : (waits : Awaiting) (n size : ℕ) (m : Message) (ms : List Message) (t : Heard) (rest : List ℕ) (offset : ℕ) (fault : Option BodyFault)
      → Ends reg (λ ns. waits (m ∷ ns)) n ms t rest offset fault
      → Ends reg waits (suc n) (m ∷ ms) t rest (size + offset) (with_first m size (record { messages = ms; heard = t; fault = fault })).fault
  ends_behind waits n size m ms t rest offset None ends = (ap suc ends.0, ends.1)
  ends_behind waits n size m ms t rest offset (Some (left_over at)) ends = (ap (λ k. size + k) ends.0, ap suc ends.1, ends.2)
  ends_behind waits n size m ms t rest offset (Some (unread reason at)) ends = (ap (λ k. size + k) ends.0, omega (arith, ends.1), ends.2)

  -- a message that was read, and the body behind it
  body_behind : (waits : Awaiting) (n : ℕ) (heard between : Heard) (bytes used rest : List ℕ) (m : Message) (read : BodyRead) → bytes ≡ used ++ rest
      → SpellsMessage reg (waits []) heard m used between → IsBodyRead reg (λ ns. waits (m ∷ ns)) n between rest read
      → IsBodyRead reg waits (suc n) heard bytes (with_first m (length bytes - length rest) read)
  unfolding SpellsBody along
  body_behind waits n heard between bytes used rest m read split spelled is =
      let size : length bytes - length rest ≡ length used = omega (arith, ap length split, length-append used rest) in
      let long : (length bytes - length rest) + length is.front ≡ length (used ++ is.front) = omega (arith, size, length-append used is.front) in
      record {
        front = used ++ is.front;
        rest = is.rest;
        split = split ∙ ap (λ b. used ++ b) is.split ∙ sym (append_assoc used is.front is.rest);
        spelled = (used, is.front, between, refl, spelled, is.spelled);
        ends = subst (λ k. Ends reg waits (suc n) (m ∷ read.messages) read.heard is.rest k (with_first m (length bytes - length rest) read).fault) long
            (ends_behind waits n (length bytes - length rest) m read.messages read.heard is.rest (length is.front) read.fault is.ends);
      }

  end_is : (waits : Awaiting) (heard : Heard) (bytes : List ℕ) → IsBodyRead reg waits 0 heard bytes (body_end heard bytes)
  unfolding SpellsBody along
  end_is waits heard [] = record { front = []; rest = []; split = refl; spelled = (refl, refl); ends = (refl, refl) }
  end_is waits heard (b ∷ bytes) = record { front = []; rest = b ∷ bytes; split = refl; spelled = (refl, refl); ends = (refl, refl, λ same. cc) }

  body_is_with : (n : ℕ) (waits : Awaiting) (heard : Heard) (bytes : List ℕ)
      → ((m : Message) (between : Heard) (rest : List ℕ) → IsBodyRead reg (λ ms. waits (m ∷ ms)) n between rest (body_at reg (λ ms. waits (m ∷ ms)) n between rest))
      → (v : Verdict) → message_at reg (waits []) heard bytes ≡ v
      → IsBodyRead reg waits (suc n) heard bytes (body_with (λ m. body_at reg (λ ms. waits (m ∷ ms)) n) heard bytes v)
  unfolding SpellsBody along
  body_is_with n waits heard bytes others (Err fault) read =
      record { front = []; rest = bytes; split = refl; spelled = (refl, refl); ends = (refl, omega arith, (fault, read, refl)) }
  body_is_with n waits heard bytes others (Ok x) read =
      let s = (message_agrees reg (waits []) heard sound.named).sound bytes x read in
      let m = s.0.0 in
      let between = s.0.1 in
      let behind = body_at reg (λ ms. waits (m ∷ ms)) n between s.2 in
      subst (λ y. IsBodyRead reg waits (suc n) heard bytes (body_with (λ m. body_at reg (λ ms. waits (m ∷ ms)) n) heard bytes (Ok y))) (sym s.3)
      (body_behind waits n heard between bytes s.1 s.2 m behind s.4 s.5 (others m between s.2))

  pub body_is : (count : ℕ) (waits : Awaiting) (heard : Heard) (bytes : List ℕ) → IsBodyRead reg waits count heard bytes (body_at reg waits count heard bytes)
  unfolding body_at
  body_is zero waits heard bytes = end_is waits heard bytes
  body_is (suc n) waits heard bytes =
      body_is_with n waits heard bytes (λ m between rest. body_is n (λ ms. waits (m ∷ ms)) between rest) (message_at reg (waits []) heard bytes) refl

  -- ---- what is so is read

  -- what is read where no message stands in front
  abbrev stopped : Heard → Option BodyFault → BodyRead
  stopped heard fault = record { messages = []; heard = heard; fault = fault }

  stop_read : (count : ℕ) (waits : Awaiting) (heard : Heard) (rest : List ℕ) (fault : Option BodyFault) → Ends reg waits count [] heard rest 0 fault
      → body_at reg waits count heard rest ≡ stopped heard fault
  unfolding body_at
  stop_read zero waits heard rest None ends = rw (ends.1) refl
  stop_read zero waits heard [] (Some (left_over at)) ends = absurd (ends.2 refl)
  stop_read zero waits heard (b ∷ rest) (Some (left_over at)) ends = ap (λ k. stopped heard (Some (left_over k))) (sym ends.0)
  stop_read zero waits heard rest (Some (unread reason at)) ends = let bad : ⊥ = omega (arith, ends.1) in absurd bad
  stop_read (suc n) waits heard rest None ends = let bad : ⊥ = omega (arith, ends.0) in absurd bad
  stop_read (suc n) waits heard rest (Some (left_over at)) ends = let bad : ⊥ = omega (arith, ends.1) in absurd bad
  stop_read (suc n) waits heard rest (Some (unread reason at)) ends =
      ap (body_with (λ m. body_at reg (λ ms. waits (m ∷ ms)) n) heard rest) ends.2.1
      ∙ ap (λ r. stopped heard (Some (unread r 0))) (sym ends.2.2) ∙ ap (λ k. stopped heard (Some (unread reason k))) (sym ends.0)

  -- a body of no message has none in front
  none_in_front : (waits : Awaiting) (m : Message) (ms : List Message) (t : Heard) (rest : List ℕ) (offset : ℕ) (fault : Option BodyFault)
      → Ends reg waits 0 (m ∷ ms) t rest offset fault → ⊥
  none_in_front waits m ms t rest offset None ends = omega (arith, ends.0)
  none_in_front waits m ms t rest offset (Some (left_over at)) ends = omega (arith, ends.1)
  none_in_front waits m ms t rest offset (Some (unread reason at)) ends = omega (arith, ends.1)

  -- the fault as it is seen from behind the first message
  pub record SeenBehind (waits : Awaiting) (n size inner : ℕ) (m : Message) (ms : List Message) (t : Heard) (rest : List ℕ) (fault : Option BodyFault) : Type 0 where
    pub behind : Option BodyFault
    pub ends : Ends reg (λ ns. waits (m ∷ ns)) n ms t rest inner behind
    pub same : (with_first m size (record { messages = ms; heard = t; fault = behind })).fault ≡ fault

  ends_seen : (waits : Awaiting) (n size inner : ℕ) (m : Message) (ms : List Message) (t : Heard) (rest : List ℕ) (offset : ℕ) (fault : Option BodyFault) → offset ≡ size + inner
      → Ends reg waits (suc n) (m ∷ ms) t rest offset fault → SeenBehind waits n size inner m ms t rest fault
  ends_seen waits n size inner m ms t rest offset None is ends = record { behind = None; ends = (omega (arith, ends.0), ends.1); same = refl }
  ends_seen waits n size inner m ms t rest offset (Some (left_over at)) is ends = record {
    behind = Some (left_over inner);
    ends = (refl, omega (arith, ends.1), ends.2);
    same = ap (λ k. Some (left_over k)) (sym is ∙ sym ends.0);
  }
  ends_seen waits n size inner m ms t rest offset (Some (unread reason at)) is ends = record {
    behind = Some (unread reason inner);
    ends = (refl, omega (arith, ends.1), ends.2);
    same = ap (λ k. Some (unread reason k)) (sym is ∙ sym ends.0);
  }

  -- a message is read in front of what is read behind it
  first_read : (n : ℕ) (waits : Awaiting) (heard between : Heard) (m : Message) (used rest : List ℕ) → SpellsMessage reg (waits []) heard m used between
      → body_at reg waits (suc n) heard (used ++ rest) ≡ with_first m (length used) (body_at reg (λ ms. waits (m ∷ ms)) n between rest)
  unfolding body_at
  first_read n waits heard between m used rest spelled =
      let size : length (used ++ rest) - length rest ≡ length used = omega (arith, length-append used rest) in
      ap (body_with (λ m. body_at reg (λ ms. waits (m ∷ ms)) n) heard (used ++ rest)) (message_read (waits []) heard between m used rest spelled)
      ∙ ap (λ k. with_first m k (body_at reg (λ ms. waits (m ∷ ms)) n between rest)) size

  spelled_read : (ms : List Message) (count : ℕ) (waits : Awaiting) (heard t : Heard) (front rest : List ℕ) (fault : Option BodyFault)
      → SpellsBody reg (along waits ms) front heard ms t → Ends reg waits count ms t rest (length front) fault
      → body_at reg waits count heard (front ++ rest) ≡ record { messages = ms; heard = t; fault = fault }
  unfolding SpellsBody along
  spelled_read [] count waits heard t front rest fault spelled ends =
      let at_front : Ends reg waits count [] t rest 0 fault = subst (λ f. Ends reg waits count [] t rest (length f) fault) spelled.0 ends in
      let there : Ends reg waits count [] heard rest 0 fault = subst (λ h. Ends reg waits count [] h rest 0 fault) spelled.1 at_front in
      ap (λ f. body_at reg waits count heard (f ++ rest)) spelled.0 ∙ stop_read count waits heard rest fault there ∙ ap (λ h. stopped h fault) (sym spelled.1)
  spelled_read (m ∷ ms) zero waits heard t front rest fault spelled ends = absurd (none_in_front waits m ms t rest (length front) fault ends)
  spelled_read (m ∷ ms) (suc n) waits heard t front rest fault (used, behind, between, split, spelled, others) ends =
      let long : length front ≡ length used + length behind = ap length split ∙ length-append used behind in
      let seen = ends_seen waits n (length used) (length behind) m ms t rest (length front) fault long ends in
      ap (λ f. body_at reg waits (suc n) heard (f ++ rest)) split ∙ ap (body_at reg waits (suc n) heard) (append_assoc used behind rest)
      ∙ first_read n waits heard between m used (behind ++ rest) spelled
      ∙ ap (with_first m (length used)) (spelled_read ms n (λ ns. waits (m ∷ ns)) between t behind rest seen.behind others seen.ends)
      ∙ ap (λ f. body m f) seen.same
    where
      body : Message → Option BodyFault → BodyRead
      body m f = record { messages = m ∷ ms; heard = t; fault = f }

  -- ---- the law

  pub body_reads : (waits : Awaiting) (count : ℕ) (heard : Heard) (bytes : List ℕ) (read : BodyRead)
      → (body_at reg waits count heard bytes ≡ read) ↔ IsBodyRead reg waits count heard bytes read
  body_reads waits count heard bytes read = (
    λ same. subst (IsBodyRead reg waits count heard bytes) same (body_is count waits heard bytes),
    λ is.
        ap (body_at reg waits count heard) is.split
        ∙ spelled_read read.messages count waits heard read.heard is.front is.rest read.fault is.spelled is.ends,
  )

  -- a body with no fault is its messages
  abbrev pub whole_read : List Message → Heard → BodyRead
  whole_read ms t = record { messages = ms; heard = t; fault = None }

  pub whole_reads : (waits : Awaiting) (count : ℕ) (heard t : Heard) (bytes : List ℕ) (ms : List Message)
      → (body_at reg waits count heard bytes ≡ whole_read ms t) ↔ ((length ms ≡ count) × SpellsBody reg (along waits ms) bytes heard ms t)
  whole_reads waits count heard t bytes ms = (
    λ same.
        let is = (body_reads waits count heard bytes (whole_read ms t)).0 same in
        let all : bytes ≡ is.front = is.split ∙ ap (λ r. is.front ++ r) is.ends.1 ∙ append-nil is.front in
        (is.ends.0, subst (λ b. SpellsBody reg (along waits ms) b heard ms t) (sym all) is.spelled),
    λ is.
        (body_reads waits count heard bytes (whole_read ms t)).1
        (record { front = bytes; rest = []; split = sym (append-nil bytes); spelled = is.1; ends = (is.0, refl) }),
  )

  -- ---- faults stay

  ends_stay : (waits : Awaiting) (count : ℕ) (ms : List Message) (t : Heard) (rest more : List ℕ) (offset : ℕ) (fault : BodyFault) → IsFinal fault
      → Ends reg waits count ms t rest offset (Some fault) → Ends reg waits count ms t (rest ++ more) offset (Some fault)
  ends_stay waits count ms t [] more offset (left_over at) final ends = absurd (ends.2 refl)
  ends_stay waits count ms t (b ∷ rest) more offset (left_over at) final ends = (ends.0, ends.1, λ same. cc)
  ends_stay waits count ms t rest more offset (unread reason at) final (at_is, few, (Short, read, why)) = absurd (final why)
  ends_stay waits count ms t rest more offset (unread reason at) final (at_is, few, (Bad broken, read, why)) =
      (at_is, few, (Bad broken, (message_agrees reg (waits ms) t sound.named).steady rest more broken read, why))

  -- two faults are one
  pub body_stays : (waits : Awaiting) (count : ℕ) (heard : Heard) (bytes more : List ℕ) (fault : BodyFault) → (body_at reg waits count heard bytes).fault ≡ Some fault → IsFinal fault
      → body_at reg waits count heard (bytes ++ more) ≡ body_at reg waits count heard bytes
  body_stays waits count heard bytes more fault has final =
      let read = body_at reg waits count heard bytes in
      let is = body_is count waits heard bytes in
      let ends : Ends reg waits count read.messages read.heard is.rest (length is.front) (Some fault)
      = subst (Ends reg waits count read.messages read.heard is.rest (length is.front)) has is.ends in
      let stays = ends_stay waits count read.messages read.heard is.rest more (length is.front) fault final ends in
      (body_reads waits count heard (bytes ++ more) read).1 (record {
        front = is.front;
        rest = is.rest ++ more;
        split = ap (λ b. b ++ more) is.split ∙ append_assoc is.front is.rest more;
        spelled = is.spelled;
        ends = subst (Ends reg waits count read.messages read.heard (is.rest ++ more) (length is.front)) (sym has) stays;
      })

  -- ---- the offsets of messages

  pub offset_is : (ms : List Message) (waits : Awaiting) (heard t : Heard) (front rest : List ℕ) → SpellsBody reg (along waits ms) front heard ms t
      → offset_at reg waits (length ms) heard (front ++ rest) ≡ length front
  unfolding SpellsBody along offset_at
  offset_is [] waits heard t front rest spelled = sym (ap length spelled.0)
  offset_is (m ∷ ms) waits heard t front rest (used, behind, between, split, spelled, others) =
      let whole : front ++ rest ≡ used ++ (behind ++ rest) = ap (λ z. z ++ rest) split ∙ append_assoc used behind rest in
      let read : message_at reg (waits []) heard (front ++ rest) ≡ Ok (m, between, behind ++ rest)
      = ap (message_at reg (waits []) heard) whole ∙ message_read (waits []) heard between m used (behind ++ rest) spelled in
      let inner = offset_is ms (λ ns. waits (m ∷ ns)) between t behind rest others in
      ap (offset_with (λ m. offset_at reg (λ ms. waits (m ∷ ms)) (length ms)) (front ++ rest)) read
      ∙ omega (arith, inner, ap length whole, length-append used (behind ++ rest), ap length split, length-append used behind)

  -- the bytes of messages are those of the first ones and those of the others
  pub record Parted (waits : Awaiting) (heard t : Heard) (body : List ℕ) (ms ns : List Message) : Type 0 where
    pub front : List ℕ
    pub behind : List ℕ
    pub between : Heard
    pub split : body ≡ front ++ behind
    pub first : SpellsBody reg (along waits ms) front heard ms between
    pub others : SpellsBody reg (along (λ os. waits (ms ++ os)) ns) behind between ns t

  body_parted : (ms ns : List Message) (waits : Awaiting) (heard t : Heard) (body : List ℕ) → SpellsBody reg (along waits (ms ++ ns)) body heard (ms ++ ns) t
      → Parted waits heard t body ms ns
  unfolding SpellsBody along
  body_parted [] ns waits heard t body spelled = record { front = []; behind = body; between = heard; split = refl; first = (refl, refl); others = spelled }
  body_parted (m ∷ ms) ns waits heard t body (used, rest, between, split, spelled, others) =
      let p = body_parted ms ns (λ os. waits (m ∷ os)) between t rest others in
      record {
        front = used ++ p.front;
        behind = p.behind;
        between = p.between;
        split = split ∙ ap (λ z. used ++ z) p.split ∙ sym (append_assoc used p.front p.behind);
        first = (used, p.front, between, refl, spelled, p.first);
        others = p.others;
      }

  pub begins_with : (waits : Awaiting) (count : ℕ) (heard : Heard) (body : List ℕ) (ms ns : List Message) → (body_at reg waits count heard body).messages ≡ ms ++ ns
      → BeginsWith reg waits heard body ms
  begins_with waits count heard body ms ns same =
      let read = body_at reg waits count heard body in
      let is = body_is count waits heard body in
      let p = body_parted ms ns waits heard read.heard is.front (subst (λ os. SpellsBody reg (along waits os) is.front heard os read.heard) same is.spelled) in
      let whole : body ≡ p.front ++ (p.behind ++ is.rest) = is.split ∙ ap (λ z. z ++ is.rest) p.split ∙ append_assoc p.front p.behind is.rest in
      record {
        front = p.front;
        rest = p.behind ++ is.rest;
        between = p.between;
        split = whole;
        spelled = p.first;
        offset = ap (offset_at reg waits (length ms) heard) whole ∙ offset_is ms waits heard p.between p.front (p.behind ++ is.rest) p.first;
      }

  -- a fault begins behind the messages that are read
  fault_at : (waits : Awaiting) (count : ℕ) (ms : List Message) (t : Heard) (rest : List ℕ) (offset : ℕ) (fault : BodyFault)
      → Ends reg waits count ms t rest offset (Some fault) → offset_of fault ≡ offset
  fault_at waits count ms t rest offset (left_over at) ends = ends.0
  fault_at waits count ms t rest offset (unread reason at) ends = ends.0

  pub fault_behind : (waits : Awaiting) (count : ℕ) (heard : Heard) (body : List ℕ) (fault : BodyFault) → (body_at reg waits count heard body).fault ≡ Some fault
      → offset_of fault ≡ offset_at reg waits (length (body_at reg waits count heard body).messages) heard body
  fault_behind waits count heard body fault has =
      let read = body_at reg waits count heard body in
      let is = body_is count waits heard body in
      let ends = subst (Ends reg waits count read.messages read.heard is.rest (length is.front)) has is.ends in
      fault_at waits count read.messages read.heard is.rest (length is.front) fault ends
      ∙ sym (ap (offset_at reg waits (length read.messages) heard) is.split ∙ offset_is read.messages waits heard read.heard is.front is.rest is.spelled)
