-- Messages that are spelled for a drain: how few serve, and which bytes they give.
use Rattle.std.proofs.Common.{◌≡◌, ◌≢◌, refl, sym, ap, subst, ◌∙◌, ℕ, ◌+◌, ◌<◌, ◌≤◌, Bool, true, false, nat_lt, List, [], ◌∷◌, ◌++◌, length, take, drop, min, arith, inl, inr, if◌then◌else◌}
use Rattle.std.proofs.Common.{append_assoc, length-append}
use Rattle.std.specs.Prelude.{◌⊎◌, ◌↔◌, IsTrue, not}
use Rattle.std.specs.Int.{w32, to_be_bytes}
use Rattle.std.proofs.lemmas.Bool.{ltb-true, ltb-false, lt-ltb, le-ltb, false≢true}
use Rattle.std.proofs.lemmas.List.{append-nil, length-take, take-append-le, take_min}
use Rattle.message_model.specs.Messages.{Message}
use Rattle.message_model.specs.WritingMessages.{Spoken, message_spelling, after_message, bodies_spelling, messages_spelling}
use Rattle.uno_model.specs.Entities.{Entity}
use Rattle.urp_model.specs.Blocks.{spell_block}
use Rattle.urp_model.proofs.BlockLaws.{length-spell_block}
use Rattle.bridge_model.specs.Answers.{is_some_piece}
use Rattle.bridge_model.specs.Going.{Spelling, spells, spells_for, less_ready}
use Rattle.bridge_model.specs.Sides.{Outgoing}
use Rattle.bridge_model.specs.Saying.{IsSayable, AreSayable}
use Rattle.bridge_streams.specs.Draining.{waiting_bytes, Drained}
use Rattle.bridge_streams.specs.Queues.{Queue, with_said}

-- a block has eight bytes at least
block_long : (count : ℕ) (body : List ℕ) → 8 ≤ length (spell_block count body)
block_long count body = omega (arith, length-spell_block count body)

-- ---- one message

-- where enough is spelled no more is
pub enough : (reg : List Entity) (n : ℕ) (ms : List Message) (o : Outgoing) → n ≤ length o.ready → spells_for reg n ms o ≡ record { outgoing = o; unsaid = ms }
unfolding spells_for
enough reg n [] o le = refl
enough reg n (m ∷ ms) o le = rw (le-ltb (length o.ready) n le) refl

-- and else the next one is
pub one_spelled : (reg : List Entity) (n : ℕ) (m : Message) (ms : List Message) (o : Outgoing) → length o.ready < n
    → spells_for reg n (m ∷ ms) o ≡ spells_for reg n ms (spells reg m o)
unfolding spells_for
one_spelled reg n m ms o below = rw (lt-ltb (length o.ready) n below) refl

-- a message more gives eight bytes at least
spelled_long : (reg : List Entity) (m : Message) (o : Outgoing) → length o.ready + 8 ≤ length (spells reg m o).ready
spelled_long reg m o =
    let block = spell_block 1 (message_spelling reg m o.spoken) in
    omega (arith, block_long 1 (message_spelling reg m o.spoken), length-append o.ready block)

-- ---- all that are spelled

abbrev spelled : List Entity → ℕ → Message → List Message → Outgoing → Bool → Spelling
spelled reg n m ms o b = if b then spells_for reg n ms (spells reg m o) else record { outgoing = o; unsaid = m ∷ ms }

-- the bytes that were there are there
grows_by : (reg : List Entity) (n : ℕ) (m : Message) (ms : List Message) (o : Outgoing) (b : Bool)
    → length (spells reg m o).ready ≤ length (spells_for reg n ms (spells reg m o)).outgoing.ready → length o.ready ≤ length (spelled reg n m ms o b).outgoing.ready
grows_by reg n m ms o true later = omega (arith, later, spelled_long reg m o)
grows_by reg n m ms o false later = omega arith

grows : (reg : List Entity) (n : ℕ) (ms : List Message) (o : Outgoing) → length o.ready ≤ length (spells_for reg n ms o).outgoing.ready
unfolding spells_for
grows reg n [] o = omega arith
grows reg n (m ∷ ms) o = grows_by reg n m ms o (nat_lt (length o.ready) n) (grows reg n ms (spells reg m o))

-- enough are spelled, or all
enough_by : (reg : List Entity) (n : ℕ) (m : Message) (ms : List Message) (o : Outgoing) (b : Bool) → nat_lt (length o.ready) n ≡ b
    → ((n ≤ length (spells_for reg n ms (spells reg m o)).outgoing.ready) ⊎ ((spells_for reg n ms (spells reg m o)).unsaid ≡ []))
    → (n ≤ length (spelled reg n m ms o b).outgoing.ready) ⊎ ((spelled reg n m ms o b).unsaid ≡ [])
enough_by reg n m ms o true is later = later
enough_by reg n m ms o false is later = inl (ltb-false (length o.ready) n is)

enough_or_all : (reg : List Entity) (n : ℕ) (ms : List Message) (o : Outgoing) → (n ≤ length (spells_for reg n ms o).outgoing.ready) ⊎ ((spells_for reg n ms o).unsaid ≡ [])
unfolding spells_for
enough_or_all reg n [] o = inr refl
enough_or_all reg n (m ∷ ms) o = enough_by reg n m ms o (nat_lt (length o.ready) n) refl (enough_or_all reg n ms (spells reg m o))

-- what is spelled waited, and waits still
one_waits : (reg : List Entity) (m : Message) (ms : List Message) (o : Outgoing) → waiting_bytes reg ms (spells reg m o) ≡ waiting_bytes reg (m ∷ ms) o
unfolding bodies_spelling
one_waits reg m ms o = append_assoc o.ready (spell_block 1 (message_spelling reg m o.spoken)) (messages_spelling reg ms (after_message reg m o.spoken))

waits_by : (reg : List Entity) (n : ℕ) (m : Message) (ms : List Message) (o : Outgoing) (b : Bool)
    → waiting_bytes reg (spells_for reg n ms (spells reg m o)).unsaid (spells_for reg n ms (spells reg m o)).outgoing ≡ waiting_bytes reg ms (spells reg m o)
    → waiting_bytes reg (spelled reg n m ms o b).unsaid (spelled reg n m ms o b).outgoing ≡ waiting_bytes reg (m ∷ ms) o
waits_by reg n m ms o true later = later ∙ one_waits reg m ms o
waits_by reg n m ms o false later = refl

spelled_waits : (reg : List Entity) (n : ℕ) (ms : List Message) (o : Outgoing)
    → waiting_bytes reg (spells_for reg n ms o).unsaid (spells_for reg n ms o).outgoing ≡ waiting_bytes reg ms o
unfolding spells_for
spelled_waits reg n [] o = refl
spelled_waits reg n (m ∷ ms) o = waits_by reg n m ms o (nat_lt (length o.ready) n) (spelled_waits reg n ms (spells reg m o))

-- ---- what is drained

-- so many bytes, where they are spelled
abbrev pub given : ℕ → Outgoing → ℕ
given n o = min n (length o.ready)

-- they are the next that wait
next_of : (reg : List Entity) (n : ℕ) (ms : List Message) (o : Outgoing) → ((n ≤ length o.ready) ⊎ (ms ≡ [])) → take n o.ready ≡ take n (waiting_bytes reg ms o)
unfolding bodies_spelling
next_of reg n ms o (inl all) = sym (take-append-le n o.ready (messages_spelling reg ms o.spoken) all)
next_of reg n ms o (inr none) = rw (none) (ap (take n) (sym (append-nil o.ready)))

pub given_bytes : (reg : List Entity) (n : ℕ) (ms : List Message) (o : Outgoing)
    → take (given n (spells_for reg n ms o).outgoing) (spells_for reg n ms o).outgoing.ready ≡ take n (waiting_bytes reg ms o)
given_bytes reg n ms o =
    let x = spells_for reg n ms o in
    take_min n x.outgoing.ready ∙ (next_of reg n x.unsaid x.outgoing (enough_or_all reg n ms o) ∙ ap (take n) (spelled_waits reg n ms o))

-- as few messages serve for the bytes that are given as for those that were asked for
fewest_by : (reg : List Entity) (n k : ℕ) (m : Message) (ms : List Message) (o : Outgoing) (b : Bool) → nat_lt (length o.ready) n ≡ b
    → k ≡ given n (spelled reg n m ms o b).outgoing
    → (k ≡ given n (spells_for reg n ms (spells reg m o)).outgoing → spells_for reg k ms (spells reg m o) ≡ spells_for reg n ms (spells reg m o))
    → spells_for reg k (m ∷ ms) o ≡ spelled reg n m ms o b
fewest_by reg n k m ms o true is at later =
    let below = ltb-true (length o.ready) n is in
    let more = grows reg n ms (spells reg m o) in
    let long = spelled_long reg m o in
    let short : length o.ready < k = omega (arith, at, below, more, long) in
    one_spelled reg k m ms o short ∙ later at
fewest_by reg n k m ms o false is at later =
    let within : k ≤ length o.ready = omega (arith, at) in
    enough reg k (m ∷ ms) o within

fewest : (reg : List Entity) (n k : ℕ) (ms : List Message) (o : Outgoing) → k ≡ given n (spells_for reg n ms o).outgoing → spells_for reg k ms o ≡ spells_for reg n ms o
unfolding spells_for
fewest reg n k [] o at = refl
fewest reg n k (m ∷ ms) o at = fewest_by reg n k m ms o (nat_lt (length o.ready) n) refl at (fewest reg n k ms (spells reg m o))

-- ---- messages that are spelled one after the other

-- no more are spelled where none is said
pub stops : (reg : List Entity) (n : ℕ) (ms : List Message) (o : Outgoing) → ms ≡ [] → spells_for reg n ms o ≡ record { outgoing = o; unsaid = ms }
unfolding spells_for
stops reg n [] o none = refl
stops reg n (m ∷ ms) o none = let bad : ⊥ = cc in absurd bad

-- where no more are spelled this is all that was to be done
module _ (reg : List Entity) (n : ℕ) (o : Outgoing) (q before : Queue) (all : Spelling) (stop : spells_for reg n q.said o ≡ record { outgoing = o; unsaid = q.said })
    (same : spells_for reg n q.said o ≡ all) (rest : q ≡ with_said q.said before) where
  pub stopped_outgoing : o ≡ all.outgoing
  stopped_outgoing = ap (λ (x : Spelling). x.outgoing) (sym stop ∙ same)

  pub stopped_unsaid : q ≡ with_said all.unsaid before
  stopped_unsaid = rest ∙ ap (λ (x : Spelling). with_said x.unsaid before) (sym stop ∙ same)

-- after a message what is left to do is the same
module _ (reg : List Entity) (n : ℕ) (m : Message) (ms : List Message) (o p : Outgoing) (q after before : Queue) (first : q.said ≡ m ∷ ms) (spelt : p ≡ spells reg m o)
    (dropped : after ≡ with_said (drop 1 q.said) q) where
  left_said : after.said ≡ ms
  left_said = ap (λ (x : Queue). x.said) dropped ∙ ap (drop 1) first

  pub step_same : (all : Spelling) → length o.ready < n → spells_for reg n q.said o ≡ all → spells_for reg n after.said p ≡ all
  step_same all below same =
      ap (λ ms. spells_for reg n ms p) left_said ∙ (ap (spells_for reg n ms) spelt ∙ (sym (one_spelled reg n m ms o below) ∙ (ap (λ ms. spells_for reg n ms o) (sym first) ∙ same)))

  pub step_rest : q ≡ with_said q.said before → after ≡ with_said after.said before
  step_rest rest =
      dropped ∙ (ap (with_said (drop 1 q.said)) rest ∙ ap (λ ms. with_said ms before) (sym (ap (λ (x : Queue). x.said) dropped)))

  pub step_sayable : AreSayable reg q.said → AreSayable reg after.said
  step_sayable are = subst (AreSayable reg) (sym left_said) (subst (AreSayable reg) first are).1

-- a message more
pub sayable_more : (reg : List Entity) (ms : List Message) (m : Message) → AreSayable reg ms → IsSayable reg m → AreSayable reg (ms ++ m ∷ [])
sayable_more reg [] m are is = (is, tt)
sayable_more reg (n ∷ ms) m are is = (are.0, sayable_more reg ms m are.1 is)

-- what is left after so many bytes of what was spelled are taken
pub drained : (reg : List Entity) (n k : ℕ) (queue : Queue) (before after : Outgoing) (rest : Queue) → k ≡ given n (spells_for reg n queue.said before).outgoing
    → after ≡ less_ready k (spells_for reg n queue.said before).outgoing → rest ≡ with_said (spells_for reg n queue.said before).unsaid queue
    → Drained reg k before queue after rest
drained reg n k queue before after rest at out unsaid =
    let same = fewest reg n k queue.said before at in
    record {
      outgoing = out ∙ ap (λ x. less_ready k x.outgoing) (sym same);
      unsaid = unsaid ∙ ap (λ x. with_said x.unsaid queue) (sym same);
    }

-- what is ready, and what is remembered
abbrev pub outgoing_of : List ℕ → Spoken → Outgoing
outgoing_of ready spoken = record { ready = ready; spoken = spoken }

-- the bytes that are taken of what is spelled
module _ (reg : List Entity) (n count : ℕ) (queue : Queue) (before mid : Outgoing) (bytes : List ℕ) (spelt : mid ≡ (spells_for reg n queue.said before).outgoing)
    (few : count ≡ min n (length mid.ready)) (taken : bytes ≡ take count mid.ready) where
  count_is : count ≡ given n (spells_for reg n queue.said before).outgoing
  count_is = few ∙ ap (given n) spelt

  pub taken_bytes : bytes ≡ take n (waiting_bytes reg queue.said before)
  taken_bytes = taken ∙ (ap (take count) (ap (λ (o : Outgoing). o.ready) spelt) ∙ (ap (λ k. take k (spells_for reg n queue.said before).outgoing.ready) count_is ∙ given_bytes reg n queue.said before))

  taken_long : length bytes ≡ count
  taken_long = omega (arith, ap length taken, length-take count mid.ready, few)

  pub taken_drained : (after : Outgoing) (rest : Queue) → after ≡ less_ready count mid → rest ≡ with_said (spells_for reg n queue.said before).unsaid queue
      → Drained reg (length bytes) before queue after rest
  taken_drained after rest left unsaid =
      drained reg n (length bytes) queue before after rest (taken_long ∙ count_is) (left ∙ (ap (less_ready count) spelt ∙ ap (λ k. less_ready k (spells_for reg n queue.said before).outgoing) (sym taken_long))) unsaid

-- ---- whether bytes wait

some_by : (xs ys : List ℕ) → 0 < length xs → is_some_piece (xs ++ ys) ≡ true
some_by [] ys some = absurd (omega arith)
some_by (x ∷ xs) ys some = refl

pub ready_waits : (reg : List Entity) (said : List Message) (o : Outgoing) → 0 < length o.ready → true ≡ is_some_piece (waiting_bytes reg said o)
ready_waits reg said o some = sym (some_by o.ready (messages_spelling reg said o.spoken) some)

spelled_some : (reg : List Entity) (said : List Message) (o : Outgoing) → said ≢ [] → is_some_piece (waiting_bytes reg said o) ≡ true
unfolding bodies_spelling
spelled_some reg [] o some = absurd (some refl)
spelled_some reg (m ∷ ms) o some =
    let rest = messages_spelling reg ms (after_message reg m o.spoken) in
    let more = length-append o.ready (spell_block 1 (message_spelling reg m o.spoken)) in
    let long : 0 < length (o.ready ++ spell_block 1 (message_spelling reg m o.spoken)) = omega (arith, block_long 1 (message_spelling reg m o.spoken), more) in
    ap is_some_piece (sym (append_assoc o.ready (spell_block 1 (message_spelling reg m o.spoken)) rest)) ∙ some_by (o.ready ++ spell_block 1 (message_spelling reg m o.spoken)) rest long

none_by : (reg : List Entity) (xs : List ℕ) (o : Outgoing) → xs ≡ o.ready → length xs ≡ 0 → is_some_piece (waiting_bytes reg [] o) ≡ false
unfolding bodies_spelling
none_by reg [] o same none = rw (sym same) refl
none_by reg (x ∷ xs) o same none = absurd (omega arith)

pub unsaid_waits : (reg : List Entity) (said : List Message) (o : Outgoing) (b : Bool) → length o.ready ≡ 0 → IsTrue b ↔ (said ≡ []) → not b ≡ is_some_piece (waiting_bytes reg said o)
unsaid_waits reg said o true none empty = rw (empty.0 refl) (sym (none_by reg o.ready o refl none))
unsaid_waits reg said o false none empty = sym (spelled_some reg said o (λ is. false≢true (empty.1 is)))
