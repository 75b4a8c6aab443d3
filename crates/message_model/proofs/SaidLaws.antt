-- What one end says grows by one block a message, and what it holds of names is what all their uses leave.
use Rattle.std.proofs.Common.{◌≡◌, ℕ, Bool, true, false, List, [], ◌∷◌, ◌++◌, refl, sym, ap, subst, ◌∙◌, if◌then◌else◌}
use Rattle.std.specs.List.{flat_map}
use Rattle.std.proofs.lemmas.Grind.{flat_map-append}
use Rattle.std.proofs.lemmas.List.{append_assoc, append-nil}
use Rattle.uno_model.specs.Entities.{Entity}
use Rattle.uno_model.specs.Kinds.{Kind, name_of}
use Rattle.uno_model.specs.Values.{Ref, null, own, peer, Plain, Plains, none, more, plains}
use Rattle.uno_model.specs.Values as v
use Rattle.urp_model.specs.Blocks.{spell_block}
use Rattle.urp_model.specs.Held.{used, held_after}
use Rattle.urp_model.specs.NamedKinds.{is_simple}
use Rattle.urp_model.specs.Writing.{Names, HeldNames, no_names, kind_after, ref_after, after, afters}
use Rattle.message_model.specs.Messages.{Answer, returned, raised, Message, request, release, reply}
use Rattle.message_model.specs.Said.{spoken_after, spell, next_block, Uses, kind_use, ref_use, type_uses, types_used, oid_uses, oids_used, answer_values}
use Rattle.message_model.specs.Said.{name_use, request_uses, message_uses, last_after, behind_uses, uses_on, uses_of, AreLeftBy}
use Rattle.message_model.specs.WritingMessages.{Spoken, nothing_spoken, message_spelling, after_message, bodies_spelling, after_messages, messages_spelling}
use Rattle.message_model.specs.WritingMessages.{Heading, is_new, is_new_face, held_if_new, after_target, after_answer, after_thread, after_reply, call_heading, release_heading}

-- ---- bytes

after_append : (reg : List Entity) (ms ns : List Message) (spoken : Spoken) → after_messages reg (ms ++ ns) spoken ≡ after_messages reg ns (after_messages reg ms spoken)
unfolding after_messages
after_append reg [] ns spoken = refl
after_append reg (m ∷ ms) ns spoken = after_append reg ms ns (after_message reg m spoken)

bodies_append : (reg : List Entity) (ms ns : List Message) (spoken : Spoken)
    → bodies_spelling reg (ms ++ ns) spoken ≡ bodies_spelling reg ms spoken ++ bodies_spelling reg ns (after_messages reg ms spoken)
unfolding bodies_spelling after_messages
bodies_append reg [] ns spoken = refl
bodies_append reg (m ∷ ms) ns spoken = ap (λ bs. message_spelling reg m spoken ∷ bs) (bodies_append reg ms ns (after_message reg m spoken))

-- the bytes of messages and of others behind them, which go on from what is remembered
pub spell_append : (reg : List Entity) (ms ns : List Message) → spell reg (ms ++ ns) ≡ spell reg ms ++ messages_spelling reg ns (spoken_after reg ms)
unfolding spell spoken_after
spell_append reg ms ns =
    ap (flat_map (spell_block 1)) (bodies_append reg ms ns nothing_spoken)
    ∙ flat_map-append (spell_block 1) (bodies_spelling reg ms nothing_spoken) (bodies_spelling reg ns (after_messages reg ms nothing_spoken))

pub spoken_append : (reg : List Entity) (ms ns : List Message) → spoken_after reg (ms ++ ns) ≡ after_messages reg ns (spoken_after reg ms)
unfolding spoken_after
spoken_append reg ms ns = after_append reg ms ns nothing_spoken

-- one message more is one block more
pub spell_more : (reg : List Entity) (said : List Message) (m : Message) → spell reg (said ++ m ∷ []) ≡ spell reg said ++ next_block reg said m
unfolding bodies_spelling
spell_more reg said m = spell_append reg said (m ∷ []) ∙ ap (λ bs. spell reg said ++ bs) (append-nil (next_block reg said m))

pub spoken_more : (reg : List Entity) (said : List Message) (m : Message) → spoken_after reg (said ++ m ∷ []) ≡ after_message reg m (spoken_after reg said)
unfolding after_messages
spoken_more reg said m = spoken_append reg said (m ∷ [])

-- a prefix of what was said stays one
pub prefix_stays : (reg : List Entity) (ms ns : List Message) (front back : List ℕ) → spell reg ms ≡ front ++ back
    → spell reg (ms ++ ns) ≡ front ++ (back ++ messages_spelling reg ns (spoken_after reg ms))
prefix_stays reg ms ns front back is =
    spell_append reg ms ns ∙ ap (λ s. s ++ messages_spelling reg ns (spoken_after reg ms)) is ∙ append_assoc front back (messages_spelling reg ns (spoken_after reg ms))

-- ---- uses

-- a type, a name or a reference that is used, and what was used before
kind_left : (k : Kind) (names : Names) (us : List (List ℕ)) → names ≡ held_after us → kind_after k names ≡ held_after (kind_use k ++ us)
unfolding kind_after held_after
kind_left k names us is = elim (is_simple k) as (λ t. (if t then names else used (name_of k) names) ≡ held_after ((if t then [] else name_of k ∷ []) ++ us)) [
  | true ↦ is
  | false ↦ ap (used (name_of k)) is
]

name_left : (t : Bool) (name : List ℕ) (names : Names) (us : List (List ℕ)) → names ≡ held_after us → held_if_new t (used name names) names ≡ held_after (name_use t name ++ us)
unfolding held_after
name_left true name names us is = ap (used name) is
name_left false name names us is = is

ref_left : (r : Ref) (names : Names) (us : List (List ℕ)) → names ≡ held_after us → ref_after r names ≡ held_after (ref_use r ++ us)
unfolding held_after
ref_left null names us is = is
ref_left (own oid face) names us is = ap (used oid) is
ref_left (peer oid face) names us is = ap (used oid) is

-- what names leave, and those before and behind them
further : (new newer old : List (List ℕ)) (names : Names) → names ≡ held_after (newer ++ (new ++ old)) → names ≡ held_after ((newer ++ new) ++ old)
further new newer old names is = is ∙ ap held_after (sym (append_assoc newer new old))

-- the types that a value names
mutual
  unfolding after afters type_uses types_used

  types_left : (x : Plain) (h : HeldNames) (us : List (List ℕ)) → h.types ≡ held_after us → (after x h).types ≡ held_after (type_uses x ++ us)
  types_left (v.kind k) h us is = kind_left k h.types us is
  types_left (v.any k x) h us is =
      further (kind_use k) (type_uses x) us _ (types_left x (record { types = kind_after k h.types; oids = h.oids; tids = h.tids }) (kind_use k ++ us) (kind_left k h.types us is))
  types_left (v.tuple name xs) h us is = all_types_left xs h us is
  types_left (v.list k xs) h us is = all_types_left xs h us is
  types_left (v.ref r) h us is = is
  types_left x h us is = is

  all_types_left : (xs : Plains) (h : HeldNames) (us : List (List ℕ)) → h.types ≡ held_after us → (afters xs h).types ≡ held_after (types_used xs ++ us)
  all_types_left none h us is = is
  all_types_left (more x xs) h us is = further (type_uses x) (types_used xs) us _ (all_types_left xs (after x h) (type_uses x ++ us) (types_left x h us is))

-- and the objects
mutual
  unfolding after afters oid_uses oids_used

  oids_left : (x : Plain) (h : HeldNames) (us : List (List ℕ)) → h.oids ≡ held_after us → (after x h).oids ≡ held_after (oid_uses x ++ us)
  oids_left (v.any k x) h us is = oids_left x (record { types = kind_after k h.types; oids = h.oids; tids = h.tids }) us is
  oids_left (v.tuple name xs) h us is = all_oids_left xs h us is
  oids_left (v.list k xs) h us is = all_oids_left xs h us is
  oids_left (v.ref r) h us is = ref_left r h.oids us is
  oids_left x h us is = is

  all_oids_left : (xs : Plains) (h : HeldNames) (us : List (List ℕ)) → h.oids ≡ held_after us → (afters xs h).oids ≡ held_after (oids_used xs ++ us)
  all_oids_left none h us is = is
  all_oids_left (more x xs) h us is = further (oid_uses x) (oids_used xs) us _ (all_oids_left xs (after x h) (oid_uses x ++ us) (oids_left x h us is))

-- a value names no thread
mutual
  unfolding after afters

  tids_stay : (x : Plain) (h : HeldNames) → (after x h).tids ≡ h.tids
  tids_stay (v.any k x) h = tids_stay x (record { types = kind_after k h.types; oids = h.oids; tids = h.tids })
  tids_stay (v.tuple name xs) h = all_tids_stay xs h
  tids_stay (v.list k xs) h = all_tids_stay xs h
  tids_stay x h = refl

  all_tids_stay : (xs : Plains) (h : HeldNames) → (afters xs h).tids ≡ h.tids
  all_tids_stay none h = refl
  all_tids_stay (more x xs) h = all_tids_stay xs (after x h) ∙ tids_stay x h

values_left : (xs : Plains) (names : HeldNames) (types oids tids : List (List ℕ)) (uses : Uses)
    → AreLeftBy names (record { types = types ++ uses.types; oids = oids ++ uses.oids; tids = tids ++ uses.tids })
    → AreLeftBy (afters xs names) (behind_uses (record { types = types_used xs ++ types; oids = oids_used xs ++ oids; tids = tids }) uses)
values_left xs names types oids tids uses is = record {
  types = further types (types_used xs) uses.types _ (all_types_left xs names (types ++ uses.types) is.types);
  oids = further oids (oids_used xs) uses.oids _ (all_oids_left xs names (oids ++ uses.oids) is.oids);
  tids = all_tids_stay xs names ∙ is.tids;
}

target_left : (h : Heading) (spoken : Spoken) (uses : Uses) → AreLeftBy spoken.names uses
    → AreLeftBy (after_target h spoken).names (record {
      types = name_use (is_new_face h.face spoken.last.kind) h.face ++ uses.types;
      oids = name_use (is_new h.oid spoken.last.oid) h.oid ++ uses.oids;
      tids = name_use (is_new h.tid spoken.last.tid) h.tid ++ uses.tids;
    })
unfolding after_target kind_after
target_left h spoken uses is = record {
  types = name_left (is_new_face h.face spoken.last.kind) h.face spoken.names.types uses.types is.types;
  oids = name_left (is_new h.oid spoken.last.oid) h.oid spoken.names.oids uses.oids is.oids;
  tids = name_left (is_new h.tid spoken.last.tid) h.tid spoken.names.tids uses.tids is.tids;
}

request_left : (h : Heading) (xs : Plains) (spoken : Spoken) (uses : Uses) → AreLeftBy spoken.names uses
    → AreLeftBy (afters xs (after_target h spoken).names) (behind_uses (request_uses h.tid h.oid h.face xs spoken.last) uses)
request_left h xs spoken uses is =
    values_left xs (after_target h spoken).names (name_use (is_new_face h.face spoken.last.kind) h.face) (name_use (is_new h.oid spoken.last.oid) h.oid)
    (name_use (is_new h.tid spoken.last.tid) h.tid) uses (target_left h spoken uses is)

answer_after : (answer : Answer) (h : HeldNames) → after_answer answer h ≡ afters (answer_values answer) h
unfolding after_answer afters
answer_after (returned x outs) h = refl
answer_after (raised k x) h = refl

reply_left : (tid : List ℕ) (answer : Answer) (spoken : Spoken) (uses : Uses) → AreLeftBy spoken.names uses
    → AreLeftBy (after_reply tid answer spoken).names
    (behind_uses (record { types = types_used (answer_values answer); oids = oids_used (answer_values answer); tids = name_use (is_new tid spoken.last.tid) tid }) uses)
unfolding after_reply
reply_left tid answer spoken uses is =
    let held = after_thread tid spoken in
    let before : AreLeftBy held (record { types = [] ++ uses.types; oids = [] ++ uses.oids; tids = name_use (is_new tid spoken.last.tid) tid ++ uses.tids })
    = record { types = is.types; oids = is.oids; tids = name_left (is_new tid spoken.last.tid) tid spoken.names.tids uses.tids is.tids } in
    let all = values_left (answer_values answer) held [] [] (name_use (is_new tid spoken.last.tid) tid) uses before in
    let left : AreLeftBy (afters (answer_values answer) held)
    (behind_uses (record { types = types_used (answer_values answer); oids = oids_used (answer_values answer); tids = name_use (is_new tid spoken.last.tid) tid }) uses)
    = rw (append-nil (types_used (answer_values answer)), append-nil (oids_used (answer_values answer))) at all in
    subst (λ n. AreLeftBy n (behind_uses (record { types = types_used (answer_values answer); oids = oids_used (answer_values answer); tids = name_use (is_new tid spoken.last.tid) tid }) uses))
    (sym (answer_after answer held)) left

message_left : (reg : List Entity) (m : Message) (spoken : Spoken) (uses : Uses) → AreLeftBy spoken.names uses
    → AreLeftBy (after_message reg m spoken).names (behind_uses (message_uses m spoken.last) uses)
unfolding after_message message_uses after_target
message_left reg (request tid oid face function args) spoken uses is = request_left (call_heading reg tid oid face function) (plains args) spoken uses is
message_left reg (release tid oid face) spoken uses is = request_left (release_heading tid oid face) none spoken uses is
message_left reg (reply tid face function answer) spoken uses is = reply_left tid answer spoken uses is

last_message : (reg : List Entity) (m : Message) (spoken : Spoken) → (after_message reg m spoken).last ≡ last_after m spoken.last
unfolding after_message last_after after_target after_reply
last_message reg (request tid oid face function args) spoken = refl
last_message reg (release tid oid face) spoken = refl
last_message reg (reply tid face function answer) spoken = refl

messages_left : (reg : List Entity) (ms : List Message) (spoken : Spoken) (uses : Uses) → AreLeftBy spoken.names uses
    → AreLeftBy (after_messages reg ms spoken).names (uses_on ms spoken.last uses)
unfolding after_messages uses_on
messages_left reg [] spoken uses is = is
messages_left reg (m ∷ ms) spoken uses is =
    subst (λ last. AreLeftBy (after_messages reg ms (after_message reg m spoken)).names (uses_on ms last (behind_uses (message_uses m spoken.last) uses))) (last_message reg m spoken)
    (messages_left reg ms (after_message reg m spoken) (behind_uses (message_uses m spoken.last) uses) (message_left reg m spoken uses is))

-- what is held after all that was said is what all its uses leave
pub all_left : (reg : List Entity) (said : List Message) → AreLeftBy (spoken_after reg said).names (uses_of said)
unfolding spoken_after uses_of held_after no_names
all_left reg said = messages_left reg said nothing_spoken (record { types = []; oids = []; tids = [] }) (record { types = refl; oids = refl; tids = refl })
