-- The first message in flight comes with the rest of its block, which is the next of what the other end said.
use Rattle.std.proofs.Common.{◌≡◌, refl, sym, ap, subst, ◌∙◌, ℕ, ◌+◌, ◌≤◌, ◌⊎◌, inl, inr, Bool, true, false, not, ◌&&◌, nat_lt, List, [], ◌∷◌, ◌++◌, length, Ok, arith}
use Rattle.std.proofs.lemmas.Bool.{and_from, le-ltb, true≢false}
use Rattle.std.proofs.lemmas.List.{append_assoc, append-nil, append_cancel_left}
use Rattle.message_model.specs.Headers.{Heard}
use Rattle.message_model.specs.Messages.{Message}
use Rattle.message_model.specs.ReadingMessages.{message_at}
use Rattle.message_model.specs.Said.{spoken_after, spell, AreLight}
use Rattle.message_model.specs.Sayable.{arrived}
use Rattle.message_model.specs.WritingMessages.{message_spelling, after_message, messages_spelling}
use Rattle.message_model.proofs.MessageWeightLaws.{message_bounded}
use Rattle.message_model.proofs.SaidLaws.{spell_append}
use Rattle.message_model.proofs.StreamLaws.{read_back}
use Rattle.uno_model.specs.Sound.{IsSound}
use Rattle.urp_model.specs.Blocks.{spell_block}
use Rattle.bridge_model.specs.Entries.{fed}
use Rattle.bridge_model.specs.Feeding.{Hearing, gets, heard_nothing, takes_block, feeds, ends_part, remembers}
use Rattle.bridge_model.specs.Histories.{Told}
use Rattle.bridge_model.specs.Settings.{Setting}
use Rattle.bridge_model.specs.Sides.{Side, stands}
use Rattle.bridge_model.specs.Stacks.{waits_of}
use Rattle.bridge_model.specs.Steps.{most_fed, fed_count, may_feed, has_entries, but_last, is_some_bytes, may, does}
use Rattle.bridge_laws.proofs.PieceLaws.{ends_more}
use Rattle.world_model.specs.Flights.{flight}
use Rattle.world_model.specs.Readings.{IsRead, MayArrive, ArrivesWithItsBlock}
use Rattle.world_laws.proofs.PieceFronts.{two_fronts, ends_whole, no_end_in_part}
use Rattle.world_laws.proofs.ReadingLaws.{receives_keeps, feeds_ending, first_block, light_behind, flight_read}

-- ---- the rest of a block

-- what is held is a part of the block at the front
rest_by : (body held later more : List ℕ) → length body ≤ 16777216 → ends_part held ≡ false
    → ((v : List ℕ) × (spell_block 1 body ≡ held ++ v)) ⊎ ((v : List ℕ) × (held ≡ spell_block 1 body ++ v)) → (v : List ℕ) × (held ++ v ≡ spell_block 1 body)
rest_by body held later more small part (inl (v, is)) = (v, sym is)
rest_by body held later more small part (inr (v, is)) = absurd (true≢false (sym (ends_more (spell_block 1 body) v (ends_whole body small)) ∙ (ap ends_part (sym is) ∙ part)))

rest_of : (body held later more : List ℕ) → length body ≤ 16777216 → ends_part held ≡ false → held ++ later ≡ spell_block 1 body ++ more → (v : List ℕ) × (held ++ v ≡ spell_block 1 body)
rest_of body held later more small part is = rest_by body held later more small part (two_fronts held later (spell_block 1 body) more is)

-- it is not empty
some_rest : (body held v : List ℕ) → length body ≤ 16777216 → ends_part held ≡ false → held ++ v ≡ spell_block 1 body → is_some_bytes v ≡ true
some_rest body held [] small part is = absurd (true≢false (sym (ends_whole body small) ∙ (ap ends_part (sym is ∙ append-nil held) ∙ part)))
some_rest body held (c ∷ v) small part is = refl

last_of : (c : ℕ) (v : List ℕ) → (d : ℕ) × (c ∷ v ≡ but_last (c ∷ v) ++ d ∷ [])
last_of c [] = (c, refl)
last_of c (d ∷ v) = let more = last_of d v in (more.0, ap (λ s. c ∷ s) more.1)

-- and no byte of it but its last ends the block
last_ends : (body held v : List ℕ) → length body ≤ 16777216 → is_some_bytes v ≡ true → held ++ v ≡ spell_block 1 body → ends_part (held ++ but_last v) ≡ false
last_ends body held [] small some is = absurd (cc)
last_ends body held (c ∷ v) small some is =
    let more = last_of c v in
    no_end_in_part body (held ++ but_last (c ∷ v)) [] more.0 small (sym is ∙ (ap (λ s. held ++ s) more.1 ∙ sym (append_assoc held (but_last (c ∷ v)) (more.0 ∷ []))))

-- ---- feeding it

rest_may : (g : Setting) (s : Side) (body v : List ℕ) → length body ≤ 16777216 → stands s ≡ true → is_some_bytes v ≡ true → s.incoming.held ++ v ≡ spell_block 1 body → has_entries s ≡ false
    → fed_count s.incoming + length v ≤ most_fed → may g s (fed v) ≡ true
unfolding may
rest_may g s body v small up some is room fits =
    let feeding =
    and_from (is_some_bytes v) (not (nat_lt most_fed (fed_count s.incoming + length v)) && not (ends_part (s.incoming.held ++ but_last v))) some
    (and_from (not (nat_lt most_fed (fed_count s.incoming + length v))) (not (ends_part (s.incoming.held ++ but_last v)))
    (ap not (le-ltb most_fed (fed_count s.incoming + length v) fits)) (ap not (last_ends body s.incoming.held v small some is))) in
    and_from (stands s) (not (has_entries s) && may_feed v s.incoming) up (and_from (not (has_entries s)) (may_feed v s.incoming) (ap not room) feeding)

record IsGot (g : Setting) (m : Message) (h : Hearing) : Type 0 where
  comes : h.got ≡ m ∷ []
  up : stands h.side ≡ true

fed_got : (g : Setting) (s : Side) (b : List ℕ) (m : Message) (h : Hearing) → feeds g b s ≡ h → IsGot g m h → IsGot g m (does g (fed b) s)
unfolding does
fed_got g s b m h is got = subst (IsGot g m) (sym is) got

got_one : (g : Setting) (s : Side) (whole : List ℕ) (m : Message) (after : Heard) → stands s ≡ true → IsGot g m (gets g m after (heard_nothing (takes_block whole s)))
got_one g s whole m after up = record { comes = refl; up = (receives_keeps g m (remembers after (takes_block whole s))).up ∙ up }

-- ---- the first message in flight

module _ (g : Setting) (x y : Told) (r : IsRead g.registry x y) (later : List ℕ) (sound : IsSound g.registry) (light : AreLight x.said) (up : stands y.side ≡ true)
    (is : spell g.registry x.said ≡ y.bytes_in ++ later) (m : Message) (ms : List Message) (flies : flight x y ≡ m ∷ ms) (arrives : MayArrive g y m) where
  rest : r.rest ≡ m ∷ ms
  rest = sym (flight_read g.registry x y r) ∙ flies

  abbrev body : List ℕ
  body = message_spelling g.registry m (spoken_after g.registry r.front)

  abbrev more : List ℕ
  more = messages_spelling g.registry ms (after_message g.registry m (spoken_after g.registry r.front))

  small : length body ≤ 16777216
  small =
      let weighs = (light_behind r.front (m ∷ ms) (subst AreLight (r.said ∙ ap (λ zs. r.front ++ zs) rest) light)).0 in
      let bounded = message_bounded g.registry m (spoken_after g.registry r.front) in omega arith

  -- what is held, and all that is to come, is the block and what follows it
  comes : y.side.incoming.held ++ later ≡ spell_block 1 body ++ more
  comes =
      append_cancel_left (spell g.registry r.front) (y.side.incoming.held ++ later) (spell_block 1 body ++ more)
      (sym (append_assoc (spell g.registry r.front) y.side.incoming.held later)
      ∙ (ap (λ s. s ++ later) (sym r.bytes)
      ∙ (sym is
      ∙ (ap (spell g.registry) (r.said ∙ ap (λ zs. r.front ++ zs) rest)
      ∙ (spell_append g.registry r.front (m ∷ ms) ∙ ap (λ s. spell g.registry r.front ++ s) (first_block g.registry m ms (spoken_after g.registry r.front)))))))

  pub arrives_with_block : ArrivesWithItsBlock g x y m
  arrives_with_block =
      let held = y.side.incoming.held in
      let found = rest_of body held later more small r.part comes in
      let v = found.0 in
      let whole : held ++ v ≡ spell_block 1 body = found.1 in
      let some = some_rest body held v small r.part whole in
      let behind : later ≡ v ++ more = append_cancel_left held later (v ++ more) (comes ∙ (ap (λ s. s ++ more) (sym whole) ∙ append_assoc held v more)) in
      let back = read_back g.registry sound (waits_of y.side.stacks) y.side.incoming.heard m (spoken_after g.registry r.front) [] arrives.can r.heard in
      let reads : message_at g.registry (waits_of y.side.stacks) y.side.incoming.heard body ≡ Ok (arrived g.registry m, back.0, []) =
      ap (message_at g.registry (waits_of y.side.stacks) y.side.incoming.heard) (sym (append-nil body)) ∙ back.1 in
      let got =
      fed_got g y.side v (arrived g.registry m) (gets g (arrived g.registry m) back.0 (heard_nothing (takes_block (spell_block 1 body) y.side)))
      (feeds_ending g v body (arrived g.registry m) back.0 y.side whole small reads arrives.passes) (got_one g y.side (spell_block 1 body) (arrived g.registry m) back.0 up) in
      record {
        rest = v;
        behind = more;
        next = is ∙ (ap (λ s. y.bytes_in ++ s) behind ∙ sym (append_assoc y.bytes_in v more));
        ends = ap ends_part whole ∙ ends_whole body small;
        room = λ room fits. rest_may g y.side body v small up some whole room fits;
        comes = got.comes;
        up = got.up;
      }
