-- Messages that are spelled, and bytes that are drained: nothing that waits is lost, and its order stays.
use Rattle.std.proofs.Common.{◌≡◌, refl, sym, ap, subst, ◌∙◌, ℕ, ◌≤◌, Bool, true, false, nat_lt, List, [], ◌∷◌, ◌++◌, length, take, drop, arith, if◌then◌else◌}
use Rattle.std.specs.List.{flat_map}
use Rattle.std.specs.Str.{bytes_eq}
use Rattle.std.proofs.lemmas.Bool.{ltb-false}
use Rattle.std.proofs.lemmas.Grind.{flat_map-append}
use Rattle.std.proofs.lemmas.List.{append_assoc, append-nil, take-append-drop, drop-append-le, length-take, drop_at}
use Rattle.std.proofs.lemmas.Slice.Eq.{bytes_eq-Decides}
use Rattle.message_model.specs.Messages.{Message}
use Rattle.message_model.specs.Said.{spoken_after, spell}
use Rattle.message_model.specs.WritingMessages.{Spoken, message_spelling, after_message, bodies_spelling, after_messages, messages_spelling}
use Rattle.message_model.proofs.SaidLaws.{spell_append, spoken_append}
use Rattle.uno_model.specs.Entities.{Entity}
use Rattle.urp_model.specs.Blocks.{spell_block}
use Rattle.bridge_model.specs.Going.{spells, spells_for, less_ready}
use Rattle.bridge_model.specs.Sides.{Outgoing}

-- ---- what waits

-- the bytes that wait where these messages are not spelled
abbrev pub waiting : List Entity → List Message → Outgoing → List ℕ
waiting reg ms o = o.ready ++ messages_spelling reg ms o.spoken

one_spelled : (reg : List Entity) (m : Message) (ms : List Message) (o : Outgoing) → waiting reg ms (spells reg m o) ≡ waiting reg (m ∷ ms) o
unfolding bodies_spelling
one_spelled reg m ms o = append_assoc o.ready (spell_block 1 (message_spelling reg m o.spoken)) (messages_spelling reg ms (after_message reg m o.spoken))

-- what is spelled waited, and waits still
pub spelled_waits : (reg : List Entity) (n : ℕ) (ms : List Message) (o : Outgoing)
    → waiting reg (spells_for reg n ms o).unsaid (spells_for reg n ms o).outgoing ≡ waiting reg ms o
unfolding spells_for
spelled_waits reg n [] o = refl
spelled_waits reg n (m ∷ ms) o = elim (nat_lt (length o.ready) n) as (λ b. waiting reg (if b then spells_for reg n ms (spells reg m o) else record { outgoing = o; unsaid = m ∷ ms }).unsaid (if b then spells_for reg n ms (spells reg m o) else record { outgoing = o; unsaid = m ∷ ms }).outgoing ≡ waiting reg (m ∷ ms) o) [
  | true ↦ spelled_waits reg n ms (spells reg m o) ∙ one_spelled reg m ms o
  | false ↦ refl
]

-- and what is remembered after all is the same
pub spelled_remembers : (reg : List Entity) (n : ℕ) (ms : List Message) (o : Outgoing)
    → after_messages reg (spells_for reg n ms o).unsaid (spells_for reg n ms o).outgoing.spoken ≡ after_messages reg ms o.spoken
unfolding spells_for after_messages
spelled_remembers reg n [] o = refl
spelled_remembers reg n (m ∷ ms) o = elim (nat_lt (length o.ready) n) as (λ b. after_messages reg (if b then spells_for reg n ms (spells reg m o) else record { outgoing = o; unsaid = m ∷ ms }).unsaid (if b then spells_for reg n ms (spells reg m o) else record { outgoing = o; unsaid = m ∷ ms }).outgoing.spoken ≡ after_messages reg ms (after_message reg m o.spoken)) [
  | true ↦ spelled_remembers reg n ms (spells reg m o)
  | false ↦ refl
]

-- so many bytes are spelled, where so many wait
enough_by : (reg : List Entity) (n : ℕ) (m : Message) (ms : List Message) (o : Outgoing) (b : Bool) → nat_lt (length o.ready) n ≡ b
    → (n ≤ length (waiting reg ms (spells reg m o)) → n ≤ length (spells_for reg n ms (spells reg m o)).outgoing.ready)
    → n ≤ length (waiting reg (m ∷ ms) o)
    → n ≤ length (if b then spells_for reg n ms (spells reg m o) else record { outgoing = o; unsaid = m ∷ ms }).outgoing.ready
enough_by reg n m ms o true is later wait = later (subst (λ w. n ≤ length w) (sym (one_spelled reg m ms o)) wait)
enough_by reg n m ms o false is later wait = ltb-false (length o.ready) n is

pub enough_spelled : (reg : List Entity) (n : ℕ) (ms : List Message) (o : Outgoing) → n ≤ length (waiting reg ms o) → n ≤ length (spells_for reg n ms o).outgoing.ready
unfolding spells_for bodies_spelling
enough_spelled reg n [] o wait = subst (λ w. n ≤ length w) (append-nil o.ready) wait
enough_spelled reg n (m ∷ ms) o wait = enough_by reg n m ms o (nat_lt (length o.ready) n) refl (enough_spelled reg n ms (spells reg m o)) wait

-- ---- what is said, drained and waits

-- what went out with what waits is what was said, and what is remembered after what waits is what is remembered after all
pub record IsSpelled (reg : List Entity) (out : List ℕ) (unsaid : List Message) (o : Outgoing) (said : List Message) : Type 0 where
  pub bytes : out ++ waiting reg unsaid o ≡ spell reg said
  pub spoken : after_messages reg unsaid o.spoken ≡ spoken_after reg said

-- new messages stand behind those before, and what goes out is as it was
pub record Speaks (before after : List Message) (o p : Outgoing) : Type 0 where
  pub new : List Message
  pub said : after ≡ before ++ new
  pub same : p ≡ o

pub speaks_same : (ms : List Message) (o : Outgoing) → Speaks ms ms o o
speaks_same ms o = record { new = []; said = sym (append-nil ms); same = refl }

after_two : (reg : List Entity) (ms ns : List Message) (spoken : Spoken) → after_messages reg (ms ++ ns) spoken ≡ after_messages reg ns (after_messages reg ms spoken)
unfolding after_messages
after_two reg [] ns spoken = refl
after_two reg (m ∷ ms) ns spoken = after_two reg ms ns (after_message reg m spoken)

bodies_two : (reg : List Entity) (ms ns : List Message) (spoken : Spoken)
    → bodies_spelling reg (ms ++ ns) spoken ≡ bodies_spelling reg ms spoken ++ bodies_spelling reg ns (after_messages reg ms spoken)
unfolding bodies_spelling after_messages
bodies_two reg [] ns spoken = refl
bodies_two reg (m ∷ ms) ns spoken = ap (λ bs. message_spelling reg m spoken ∷ bs) (bodies_two reg ms ns (after_message reg m spoken))

spelling_two : (reg : List Entity) (ms ns : List Message) (spoken : Spoken)
    → messages_spelling reg (ms ++ ns) spoken ≡ messages_spelling reg ms spoken ++ messages_spelling reg ns (after_messages reg ms spoken)
spelling_two reg ms ns spoken =
    ap (flat_map (spell_block 1)) (bodies_two reg ms ns spoken)
    ∙ flat_map-append (spell_block 1) (bodies_spelling reg ms spoken) (bodies_spelling reg ns (after_messages reg ms spoken))

-- one list behind three
behind : (out ready old new all : List ℕ) → out ++ (ready ++ old) ≡ all → (out ++ []) ++ (ready ++ (old ++ new)) ≡ all ++ new
behind out ready old new all is = rw (append-nil out, sym is) (simp append_assoc)

new_behind : (unsaid new : List Message) → drop (length unsaid) (unsaid ++ new) ≡ new
new_behind unsaid new = drop_at unsaid new (length unsaid) refl

new_bytes : (reg : List Entity) (out : List ℕ) (unsaid new : List Message) (o : Outgoing) (said : List Message) → IsSpelled reg out unsaid o said
    → (out ++ []) ++ waiting reg (unsaid ++ new) o ≡ spell reg (said ++ new)
new_bytes reg out unsaid new o said is =
    ap (λ w. (out ++ []) ++ (o.ready ++ w)) (spelling_two reg unsaid new o.spoken)
    ∙ (behind out o.ready (messages_spelling reg unsaid o.spoken) (messages_spelling reg new (after_messages reg unsaid o.spoken)) (spell reg said) is.bytes
    ∙ (ap (λ p. spell reg said ++ messages_spelling reg new p) is.spoken ∙ sym (spell_append reg said new)))

new_spoken : (reg : List Entity) (out : List ℕ) (unsaid new : List Message) (o : Outgoing) (said : List Message) → IsSpelled reg out unsaid o said
    → after_messages reg (unsaid ++ new) o.spoken ≡ spoken_after reg (said ++ new)
new_spoken reg out unsaid new o said is = after_two reg unsaid new o.spoken ∙ (ap (after_messages reg new) is.spoken ∙ sym (spoken_append reg said new))

-- it stays so where messages are said
pub spelled_on : (reg : List Entity) (out : List ℕ) (unsaid now : List Message) (o p : Outgoing) (said : List Message) → IsSpelled reg out unsaid o said
    → Speaks unsaid now o p → IsSpelled reg (out ++ []) now p (said ++ drop (length unsaid) now)
spelled_on reg out unsaid now o p said is more =
    subst
    (λ q. IsSpelled reg (out ++ []) now q (said ++ drop (length unsaid) now))
    (sym more.same)
    (subst
    (λ ms. IsSpelled reg (out ++ []) ms o (said ++ drop (length unsaid) ms))
    (sym more.said)
    (subst
    (λ ns. IsSpelled reg (out ++ []) (unsaid ++ more.new) o (said ++ ns))
    (sym (new_behind unsaid more.new))
    (record { bytes = new_bytes reg out unsaid more.new o said is; spoken = new_spoken reg out unsaid more.new o said is })))

-- ---- draining

-- bytes go from the one to the other
drained_bytes : (out b ready rest all : List ℕ) → b ≡ take (length b) (ready ++ rest) → length b ≤ length ready → out ++ (ready ++ rest) ≡ all
    → (out ++ b) ++ (drop (length b) ready ++ rest) ≡ all
drained_bytes out b ready rest all next enough is =
    append_assoc out b (drop (length b) ready ++ rest)
    ∙ (ap (λ w. out ++ w) (ap (λ w. b ++ w) (sym (drop-append-le (length b) ready rest enough)) ∙ (ap (λ w. w ++ drop (length b) (ready ++ rest)) next ∙ take-append-drop (length b) (ready ++ rest)))
    ∙ is)

-- what is the front of a list is no longer than it
front_within : (b w : List ℕ) → b ≡ take (length b) w → length b ≤ length w
front_within b w is = let long : length b ≡ length (take (length b) w) = ap length is in let least = length-take (length b) w in omega arith

-- it stays so where bytes are drained that were the next to go
pub spelled_drained : (reg : List Entity) (out b : List ℕ) (unsaid : List Message) (o : Outgoing) (said : List Message) → IsSpelled reg out unsaid o said
    → bytes_eq b (take (length b) (waiting reg unsaid o)) ≡ true
    → IsSpelled
    reg
    (out ++ b)
    (spells_for reg (length b) unsaid o).unsaid
    (less_ready (length b) (spells_for reg (length b) unsaid o).outgoing)
    (said ++ [])
spelled_drained reg out b unsaid o said is may =
    let x = spells_for reg (length b) unsaid o in
    let next = (bytes_eq-Decides b (take (length b) (waiting reg unsaid o))).0 may in
    let enough = enough_spelled reg (length b) unsaid o (front_within b (waiting reg unsaid o) next) in
    let waits = spelled_waits reg (length b) unsaid o in
    let all = sym (append-nil said) in
    record {
      bytes =
          drained_bytes out b x.outgoing.ready (messages_spelling reg x.unsaid x.outgoing.spoken) (spell reg said) (next ∙ ap (take (length b)) (sym waits)) enough (ap (λ w. out ++ w) waits ∙ is.bytes)
          ∙ ap (spell reg) all;
      spoken = spelled_remembers reg (length b) unsaid o ∙ (is.spoken ∙ ap (spoken_after reg) all);
    }
