-- A message is written in as many bytes as it weighs, less what its header and the names that are held save.
use Rattle.std.proofs.Common.{◌≡◌, ℕ, ◌+◌, nat_lt, not, Bool, true, false, List, [], ◌∷◌, ◌++◌, length, refl, sym, ap, ◌∙◌, if◌then◌else◌, arith}
use Rattle.std.proofs.lemmas.List.{length-append}
use Rattle.std.proofs.lemmas.Bool.{lt-ltb}
use Rattle.std.specs.Int.{w16, to_be_bytes, from_bool}
use Rattle.uno_model.specs.Entities.{Entity}
use Rattle.uno_model.specs.Kinds.{Kind, name_of}
use Rattle.uno_model.specs.Kinds as kd
use Rattle.uno_model.specs.TypeClasses.{class_code, class_of}
use Rattle.uno_model.specs.Values.{Ref, null, own, peer, Plain, Plains, none, more, plains}
use Rattle.uno_model.specs.Values as v
use Rattle.uno_model.specs.Weights.{text_weight, kind_weight, ref_weight, count, weight, weights}
use Rattle.urp_model.specs.Held.{holds, slot_for, used, held_after}
use Rattle.urp_model.specs.NamedKinds.{is_simple}
use Rattle.urp_model.specs.Slots.{is_held}
use Rattle.urp_model.specs.Writing.{Names, HeldNames, holding_types, compressed, measured, slot_bytes, kind_written, kind_spelling, kind_after, name_spelling, ref_spelling, ref_after}
use Rattle.urp_model.specs.Writing.{after, afters, spelling, spellings}
use Rattle.urp_model.proofs.UseByUse.{same_held}
use Rattle.urp_model.proofs.WeightLaws.{compressed_some, compressed_long, measured_long, slot_long, simple_weight, named_weight, written_long}
use Rattle.message_model.specs.Headers.{Last}
use Rattle.message_model.specs.Messages.{Answer, returned, raised, Message, request, release, reply}
use Rattle.message_model.specs.Said.{kind_use, ref_use, type_uses, types_used, oid_uses, oids_used, answer_values, name_use, request_uses, message_uses}
use Rattle.message_model.specs.Savings.{held_on, saved_by, type_saving, name_saving, uses_saved, AreNewUses, left_out, opening_saved, heading_saved, header_saved, IsLongest, HasLongestHeader, message_saved, IsAllNew}
use Rattle.message_model.specs.Sayable.{name_weight, answer_weight, message_weight}
use Rattle.message_model.specs.WritingMessages.{Spoken, is_new, is_new_face, if_new, held_if_new, Heading, is_long, long_flags, function_bytes, short_bytes, opening_spelling, target_spelling}
use Rattle.message_model.specs.WritingMessages.{after_target, request_spelling, answer_spelling, after_thread, reply_spelling, call_heading, release_heading, message_spelling}

-- ---- uses

-- uses behind others
held_behind : (new old : List (List ℕ)) (held : Names) → held_on (new ++ old) held ≡ held_on new (held_on old held)
unfolding held_on
held_behind [] old held = refl
held_behind (name ∷ new) old held = ap (used name) (held_behind new old held)

module _ (saving : List ℕ → ℕ) where
  saved_behind : (new old : List (List ℕ)) (held : Names) → saved_by saving (new ++ old) held ≡ saved_by saving new (held_on old held) + saved_by saving old held
  unfolding saved_by
  saved_behind [] old held = omega arith
  saved_behind (name ∷ new) old held =
      let one = λ (names : Names). if holds name names then saving name else 0 in
      omega (arith, ap one (held_behind new old held), saved_behind new old held)

  -- names that are new save nothing
  new_save_nothing : (uses : List (List ℕ)) (held : Names) → AreNewUses uses held → saved_by saving uses held ≡ 0
  unfolding saved_by AreNewUses
  new_save_nothing [] held fresh = refl
  new_save_nothing (name ∷ uses) held fresh = rw (fresh.0) (omega (arith, new_save_nothing uses held fresh.1))

-- ---- what is held after a value

kind_left : (k : Kind) (names : Names) → kind_after k names ≡ held_on (kind_use k) names
unfolding kind_after held_on
kind_left k names = elim (is_simple k) as (λ t. (if t then names else used (name_of k) names) ≡ held_on (if t then [] else name_of k ∷ []) names) [ true ↦ refl | false ↦ refl ]

ref_left : (r : Ref) (names : Names) → ref_after r names ≡ held_on (ref_use r) names
unfolding held_on
ref_left null names = refl
ref_left (own oid face) names = refl
ref_left (peer oid face) names = refl

mutual
  unfolding after afters type_uses types_used held_on

  types_left : (x : Plain) (h : HeldNames) → (after x h).types ≡ held_on (type_uses x) h.types
  types_left (v.kind k) h = kind_left k h.types
  types_left (v.any k x) h =
      types_left x (holding_types h (kind_after k h.types)) ∙ ap (held_on (type_uses x)) (kind_left k h.types) ∙ sym (held_behind (type_uses x) (kind_use k) h.types)
  types_left (v.tuple name xs) h = all_types_left xs h
  types_left (v.list k xs) h = all_types_left xs h
  types_left (v.ref r) h = refl
  types_left x h = refl

  all_types_left : (xs : Plains) (h : HeldNames) → (afters xs h).types ≡ held_on (types_used xs) h.types
  all_types_left none h = refl
  all_types_left (more x xs) h =
      all_types_left xs (after x h) ∙ ap (held_on (types_used xs)) (types_left x h) ∙ sym (held_behind (types_used xs) (type_uses x) h.types)

mutual
  unfolding after afters oid_uses oids_used held_on

  oids_left : (x : Plain) (h : HeldNames) → (after x h).oids ≡ held_on (oid_uses x) h.oids
  oids_left (v.any k x) h = oids_left x (holding_types h (kind_after k h.types))
  oids_left (v.tuple name xs) h = all_oids_left xs h
  oids_left (v.list k xs) h = all_oids_left xs h
  oids_left (v.ref r) h = ref_left r h.oids
  oids_left x h = refl

  all_oids_left : (xs : Plains) (h : HeldNames) → (afters xs h).oids ≡ held_on (oids_used xs) h.oids
  all_oids_left none h = refl
  all_oids_left (more x xs) h =
      all_oids_left xs (after x h) ∙ ap (held_on (oids_used xs)) (oids_left x h) ∙ sym (held_behind (oids_used xs) (oid_uses x) h.oids)

-- ---- parts

-- a name in the place of which its slot may stand
name_saves : (name : List ℕ) (held : Names) → length (name_spelling name held) + saved_by name_saving (name ∷ []) held ≡ name_weight name
unfolding name_spelling saved_by held_on
name_saves name held = by_test (holds name held)
  where
    by_test : (t : Bool) → length ((if t then 0 ∷ [] else measured name) ++ slot_bytes (slot_for name held)) + ((if t then name_saving name else 0) + 0) ≡ name_weight name
    by_test true = omega (arith, slot_long (slot_for name held), compressed_some (length name))
    by_test false = omega (arith, length-append (measured name) (slot_bytes (slot_for name held)), slot_long (slot_for name held), measured_long name)

ref_saves : (r : Ref) (held : Names) → length (ref_spelling r held) + saved_by name_saving (ref_use r) held ≡ ref_weight r
unfolding saved_by
ref_saves null held = refl
ref_saves (own oid face) held = name_saves oid held
ref_saves (peer oid face) held = name_saves oid held

module _ (k : Kind) (held : Names) where
  kind_saves : length (kind_spelling k held) + saved_by type_saving (kind_use k) held ≡ kind_weight k
  unfolding kind_spelling saved_by held_on
  kind_saves = by_simple (is_simple k) refl
    where
      by_held : (t : Bool)
          → length (if t then class_code (class_of k) ∷ slot_bytes (slot_for (name_of k) held) else kind_written k (slot_for (name_of k) held))
          + ((if t then text_weight (name_of k) else 0) + 0) ≡ 3 + text_weight (name_of k)
      by_held true = omega (arith, slot_long (slot_for (name_of k) held))
      by_held false = omega (arith, written_long k (slot_for (name_of k) held))

      by_simple : (t : Bool) → is_simple k ≡ t
          → length (if t then class_code (class_of k) ∷ [] else
          (if holds (name_of k) held then class_code (class_of k) ∷ slot_bytes (slot_for (name_of k) held) else kind_written k (slot_for (name_of k) held)))
          + saved_by type_saving (if t then [] else name_of k ∷ []) held ≡ kind_weight k
      by_simple true is = sym (simple_weight k is)
      by_simple false is = by_held (holds (name_of k) held) ∙ sym (named_weight k is)

-- ---- values

-- what the names in values save
abbrev pub value_saved : Plain → HeldNames → ℕ
value_saved x h = saved_by type_saving (type_uses x) h.types + saved_by name_saving (oid_uses x) h.oids

abbrev pub values_saved : Plains → HeldNames → ℕ
values_saved xs h = saved_by type_saving (types_used xs) h.types + saved_by name_saving (oids_used xs) h.oids

-- what is saved behind a value that uses these
behind_saved : (saving : List ℕ → ℕ) (new old : List (List ℕ)) (held now : Names) → now ≡ held_on old held
    → saved_by saving (new ++ old) held ≡ saved_by saving new now + saved_by saving old held
behind_saved saving new old held now is = saved_behind saving new old held ∙ ap (λ names. saved_by saving new names + saved_by saving old held) (sym is)

mutual
  unfolding spelling spellings weight weights type_uses types_used oid_uses oids_used saved_by

  pub value_saves : (x : Plain) (h : HeldNames) → length (spelling x h) + value_saved x h ≡ weight x
  value_saves (v.str s) h = omega (arith, measured_long s)
  value_saves (v.kind k) h = omega (arith, kind_saves k h.types)
  value_saves (v.any k x) h =
      let g = holding_types h (kind_after k h.types) in
      omega (
        arith,
        length-append (kind_spelling k h.types) (spelling x g),
        kind_saves k h.types,
        value_saves x g,
        behind_saved type_saving (type_uses x) (kind_use k) h.types (kind_after k h.types) (kind_left k h.types),
      )
  value_saves (v.tuple name xs) h = values_save xs h
  value_saves (v.list k xs) h = omega (arith, length-append (compressed (count xs)) (spellings xs h), compressed_long (count xs), values_save xs h)
  value_saves (v.bytes b) h = omega (arith, measured_long b)
  value_saves (v.ref r) h = omega (arith, ref_saves r h.oids)
  value_saves _ h = omega arith

  pub values_save : (xs : Plains) (h : HeldNames) → length (spellings xs h) + values_saved xs h ≡ weights xs
  values_save none h = omega arith
  values_save (more x xs) h =
      omega (
        arith,
        length-append (spelling x h) (spellings xs (after x h)),
        value_saves x h,
        values_save xs (after x h),
        behind_saved type_saving (types_used xs) (type_uses x) h.types (after x h).types (types_left x h),
        behind_saved name_saving (oids_used xs) (oid_uses x) h.oids (after x h).oids (oids_left x h),
      )

-- ---- headers

-- how a request begins: in four bytes, less those that it has not
function_saves : (function : ℕ) → length (function_bytes function) + from_bool (not (nat_lt 255 function)) ≡ 2
function_saves function = by_test (nat_lt 255 function)
  where
    by_test : (t : Bool) → length (if t then to_be_bytes w16 function else function ∷ []) + from_bool (not t) ≡ 2
    by_test true = refl
    by_test false = refl

short_saves : (function : ℕ) → length (short_bytes function) + (if nat_lt function 64 then 3 else 2) ≡ 4
short_saves function = by_test (nat_lt function 64)
  where
    by_test : (t : Bool) → length (if t then function ∷ [] else to_be_bytes w16 (16384 + function)) + (if t then 3 else 2) ≡ 4
    by_test true = refl
    by_test false = refl

answered_saves : (answered : Bool) → length (if_new answered (192 ∷ [])) + from_bool (not answered) ≡ 1
answered_saves true = refl
answered_saves false = refl

opening_saves : (h : Heading) (last : Last) → length (opening_spelling h last) + opening_saved h last ≡ 4
unfolding opening_spelling opening_saved
opening_saves h last = by_test (is_long h last)
  where
    by_test : (t : Bool)
        → length (if t then long_flags h last ∷ (if_new h.answered (192 ∷ []) ++ function_bytes h.function) else short_bytes h.function)
        + (if t then from_bool (not h.answered) + from_bool (not (nat_lt 255 h.function)) else (if nat_lt h.function 64 then 3 else 2)) ≡ 4
    by_test true =
        omega (arith, length-append (if_new h.answered (192 ∷ [])) (function_bytes h.function), answered_saves h.answered, function_saves h.function)
    by_test false = short_saves h.function

-- a name in a header, which is written where it is new
header_name_saves : (new : Bool) (name : List ℕ) (held : Names)
    → length (if_new new (name_spelling name held)) + (left_out new (name_weight name) + saved_by name_saving (name_use new name) held) ≡ name_weight name
unfolding saved_by
header_name_saves true name held = omega (arith, name_saves name held)
header_name_saves false name held = omega arith

face_saves : (new : Bool) (face : List ℕ) (held : Names)
    → length (if_new new (kind_spelling (kd.interface face) held)) + (left_out new (kind_weight (kd.interface face)) + saved_by type_saving (name_use new face) held)
    ≡ kind_weight (kd.interface face)
unfolding saved_by
face_saves true face held = omega (arith, kind_saves (kd.interface face) held)
face_saves false face held = omega arith

-- what is held after a name in a header
name_left : (new : Bool) (name : List ℕ) (held : Names) → held_if_new new (used name held) held ≡ held_on (name_use new name) held
unfolding held_on
name_left true name held = refl
name_left false name held = refl

request_saves : (h : Heading) (args : List Plain) (spoken : Spoken)
    → length (request_spelling h args spoken) + (heading_saved h spoken.last + uses_saved (request_uses h.tid h.oid h.face (plains args) spoken.last) spoken.names)
    ≡ 4 + (kind_weight (kd.interface h.face) + (name_weight h.oid + name_weight h.tid)) + weights (plains args)
unfolding target_spelling after_target kind_after
request_saves h args spoken =
    let new_face = is_new_face h.face spoken.last.kind in
    let new_oid = is_new h.oid spoken.last.oid in
    let new_tid = is_new h.tid spoken.last.tid in
    let names = spoken.names in
    let face = if_new new_face (kind_spelling (kd.interface h.face) names.types) in
    let oid = if_new new_oid (name_spelling h.oid names.oids) in
    let tid = if_new new_tid (name_spelling h.tid names.tids) in
    let held = (after_target h spoken).names in
    let values = spellings (plains args) held in
    omega (
      arith,
      opening_saves h spoken.last,
      length-append (opening_spelling h spoken.last) (target_spelling h spoken ++ values),
      length-append (target_spelling h spoken) values,
      length-append face (oid ++ tid),
      length-append oid tid,
      face_saves new_face h.face names.types,
      header_name_saves new_oid h.oid names.oids,
      header_name_saves new_tid h.tid names.tids,
      values_save (plains args) held,
      behind_saved type_saving (types_used (plains args)) (name_use new_face h.face) names.types held.types (name_left new_face h.face names.types),
      behind_saved name_saving (oids_used (plains args)) (name_use new_oid h.oid) names.oids held.oids (name_left new_oid h.oid names.oids),
    )

-- ---- replies

answer_saves : (answer : Answer) (h : HeldNames) → length (answer_spelling answer h) + values_saved (answer_values answer) h ≡ answer_weight answer
unfolding answer_spelling spellings weights
answer_saves (returned x outs) h = values_save (more x (plains outs)) h
answer_saves (raised k x) h = omega (arith, values_save (more (v.any k x) none) h, length-append (spelling (v.any k x) h) [])

reply_saves : (tid : List ℕ) (answer : Answer) (spoken : Spoken)
    → length (reply_spelling tid answer spoken) + (left_out (is_new tid spoken.last.tid) (name_weight tid) + (saved_by type_saving (types_used (answer_values answer)) spoken.names.types
    + (saved_by name_saving (oids_used (answer_values answer)) spoken.names.oids + saved_by name_saving (name_use (is_new tid spoken.last.tid) tid) spoken.names.tids)))
    ≡ 1 + (name_weight tid + answer_weight answer)
unfolding reply_spelling
reply_saves tid answer spoken =
    let new = is_new tid spoken.last.tid in
    let name = if_new new (name_spelling tid spoken.names.tids) in
    let held = after_thread tid spoken in
    omega (arith, length-append name (answer_spelling answer held), header_name_saves new tid spoken.names.tids, answer_saves answer held)

-- ---- messages

pub message_saves : (reg : List Entity) (m : Message) (spoken : Spoken) → length (message_spelling reg m spoken) + message_saved reg m spoken ≡ message_weight m
unfolding message_spelling message_saved message_uses weights
message_saves reg (request tid oid face function args) spoken = request_saves (call_heading reg tid oid face function) args spoken
message_saves reg (release tid oid face) spoken = omega (arith, request_saves (release_heading tid oid face) [] spoken)
message_saves reg (reply tid face function answer) spoken = reply_saves tid answer spoken

-- ---- where nothing is saved

longest_opening : (h : Heading) (last : Last) → IsLongest h last → opening_saved h last ≡ 0
unfolding opening_saved
longest_opening h last is = rw (is.face, is.answered, lt-ltb 255 h.function is.wide) refl

longest_heading : (h : Heading) (last : Last) → IsLongest h last → heading_saved h last ≡ 0
longest_heading h last is =
    let left = λ (b : Bool) (w : ℕ). left_out b w in
    omega (
      arith,
      longest_opening h last is,
      ap (λ b. left b (kind_weight (kd.interface h.face))) is.face,
      ap (λ b. left b (name_weight h.oid)) is.oid,
      ap (λ b. left b (name_weight h.tid)) is.tid,
    )

longest_header : (reg : List Entity) (m : Message) (last : Last) → HasLongestHeader reg m last → header_saved reg m last ≡ 0
longest_header reg (request tid oid face function args) last is = longest_heading (call_heading reg tid oid face function) last is
longest_header reg (release tid oid face) last is = longest_heading (release_heading tid oid face) last is
longest_header reg (reply tid face function answer) last is = ap (λ b. left_out b (name_weight tid)) is

pub nothing_saved : (reg : List Entity) (m : Message) (spoken : Spoken) → IsAllNew reg m spoken → message_saved reg m spoken ≡ 0
unfolding message_saved
nothing_saved reg m spoken is =
    let uses = message_uses m spoken.last in
    omega (
      arith,
      longest_header reg m spoken.last is.header,
      new_save_nothing type_saving uses.types spoken.names.types is.types,
      new_save_nothing name_saving uses.oids spoken.names.oids is.oids,
      new_save_nothing name_saving uses.tids spoken.names.tids is.tids,
    )

-- what is held on is what all uses leave
held_is_after : (uses old : List (List ℕ)) → held_on uses (held_after old) ≡ held_after (uses ++ old)
unfolding held_on held_after
held_is_after [] old = refl
held_is_after (name ∷ uses) old = ap (used name) (held_is_after uses old)

pub held_by_uses : (uses old : List (List ℕ)) (name : List ℕ) → holds name (held_on uses (held_after old)) ≡ is_held (uses ++ old) name
held_by_uses uses old name = ap (holds name) (held_is_after uses old) ∙ same_held (uses ++ old) name
