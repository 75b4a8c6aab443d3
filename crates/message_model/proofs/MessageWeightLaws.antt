-- A message is written in no more bytes than it weighs.
use Rattle.std.proofs.Common.{ℕ, ◌+◌, ◌≤◌, nat_lt, Bool, true, false, List, [], ◌∷◌, ◌++◌, length, if◌then◌else◌, arith, length-append}
use Rattle.std.specs.Int.{w16, to_be_bytes}
use Rattle.uno_model.specs.Entities.{Entity}
use Rattle.uno_model.specs.Kinds as kd
use Rattle.uno_model.specs.Values.{Plain, plains}
use Rattle.uno_model.specs.Weights.{kind_weight, weights}
use Rattle.urp_model.specs.Writing.{HeldNames, kind_spelling, name_spelling, after, spelling, spellings}
use Rattle.urp_model.proofs.WeightLaws.{kind_bounded, oid_bounded, value_bounded, values_bounded}
use Rattle.message_model.specs.Headers.{Last}
use Rattle.message_model.specs.Messages.{Answer, returned, raised, Message, request, release, reply}
use Rattle.message_model.specs.Sayable.{name_weight, answer_weight, message_weight}
use Rattle.message_model.specs.WritingMessages.{Spoken, is_new, is_new_face, if_new, Heading, is_long, long_flags, function_bytes, short_bytes}
use Rattle.message_model.specs.WritingMessages.{opening_spelling, target_spelling, after_target, request_spelling, answer_spelling, after_thread}
use Rattle.message_model.specs.WritingMessages.{reply_spelling, call_heading, release_heading, message_spelling}

-- a part that may be left out
if_new_bounded : (new : Bool) (b : List ℕ) (most : ℕ) → length b ≤ most → length (if_new new b) ≤ most
if_new_bounded true b most low = low
if_new_bounded false b most low = omega arith

function_bounded : (function : ℕ) → length (function_bytes function) ≤ 2
function_bounded function = by_test (nat_lt 255 function)
  where
    by_test : (b : Bool) → length (if b then to_be_bytes w16 function else function ∷ []) ≤ 2
    by_test true = omega arith
    by_test false = omega arith

short_bounded : (function : ℕ) → length (short_bytes function) ≤ 2
short_bounded function = by_test (nat_lt function 64)
  where
    by_test : (b : Bool) → length (if b then function ∷ [] else to_be_bytes w16 (16384 + function)) ≤ 2
    by_test true = omega arith
    by_test false = omega arith

opening_bounded : (h : Heading) (last : Last) → length (opening_spelling h last) ≤ 4
unfolding opening_spelling
opening_bounded h last = by_test (is_long h last)
  where
    by_test : (b : Bool) → length (if b then long_flags h last ∷ (if_new h.answered (192 ∷ []) ++ function_bytes h.function) else short_bytes h.function) ≤ 4
    by_test true =
        omega (arith, length-append (if_new h.answered (192 ∷ [])) (function_bytes h.function), if_new_bounded h.answered (192 ∷ []) 1 (omega arith), function_bounded h.function)
    by_test false = omega (arith, short_bounded h.function)

target_bounded : (h : Heading) (spoken : Spoken) → length (target_spelling h spoken) ≤ kind_weight (kd.interface h.face) + (name_weight h.oid + name_weight h.tid)
unfolding target_spelling
target_bounded h spoken =
    let face = kind_spelling (kd.interface h.face) spoken.names.types in
    let oid = name_spelling h.oid spoken.names.oids in
    let tid = name_spelling h.tid spoken.names.tids in
    let faces = if_new_bounded (is_new_face h.face spoken.last.kind) face (kind_weight (kd.interface h.face)) (kind_bounded (kd.interface h.face) spoken.names.types) in
    let oids = if_new_bounded (is_new h.oid spoken.last.oid) oid (name_weight h.oid) (oid_bounded h.oid spoken.names.oids) in
    let tids = if_new_bounded (is_new h.tid spoken.last.tid) tid (name_weight h.tid) (oid_bounded h.tid spoken.names.tids) in
    omega (
      arith,
      faces,
      oids,
      tids,
      length-append (if_new (is_new_face h.face spoken.last.kind) face) (if_new (is_new h.oid spoken.last.oid) oid ++ if_new (is_new h.tid spoken.last.tid) tid),
      length-append (if_new (is_new h.oid spoken.last.oid) oid) (if_new (is_new h.tid spoken.last.tid) tid),
    )

request_bounded : (h : Heading) (args : List Plain) (spoken : Spoken)
    → length (request_spelling h args spoken) ≤ 4 + (kind_weight (kd.interface h.face) + (name_weight h.oid + name_weight h.tid)) + weights (plains args)
request_bounded h args spoken =
    let opening = opening_spelling h spoken.last in
    let target = target_spelling h spoken in
    let values = spellings (plains args) (after_target h spoken).names in
    omega (
      arith,
      opening_bounded h spoken.last,
      target_bounded h spoken,
      values_bounded (plains args) (after_target h spoken).names,
      length-append opening (target ++ values),
      length-append target values,
    )

answer_bounded : (answer : Answer) (h : HeldNames) → length (answer_spelling answer h) ≤ answer_weight answer
unfolding answer_spelling
answer_bounded (returned v outs) h = omega (arith, value_bounded v h, values_bounded (plains outs) (after v h), length-append (spelling v h) (spellings (plains outs) (after v h)))
answer_bounded (raised k v) h = value_bounded _ h

reply_bounded : (tid : List ℕ) (answer : Answer) (spoken : Spoken) → length (reply_spelling tid answer spoken) ≤ 1 + (name_weight tid + answer_weight answer)
unfolding reply_spelling
reply_bounded tid answer spoken =
    let name = name_spelling tid spoken.names.tids in
    let part = if_new (is_new tid spoken.last.tid) name in
    omega (
      arith,
      if_new_bounded (is_new tid spoken.last.tid) name (name_weight tid) (oid_bounded tid spoken.names.tids),
      answer_bounded answer (after_thread tid spoken),
      length-append part (answer_spelling answer (after_thread tid spoken)),
    )

pub message_bounded : (reg : List Entity) (m : Message) (spoken : Spoken) → length (message_spelling reg m spoken) ≤ message_weight m
unfolding message_spelling weights
message_bounded reg (request tid oid face function args) spoken = request_bounded (call_heading reg tid oid face function) args spoken
message_bounded reg (release tid oid face) spoken = omega (arith, request_bounded (release_heading tid oid face) [] spoken)
message_bounded reg (reply tid face function answer) spoken = reply_bounded tid answer spoken
