-- Messages that are written out, and what is read of them.
use Rattle.std.proofs.Common.{◌≡◌, ℕ, pos, Bool, true, false, List, [], ◌∷◌, None, Some, Ok, Err, refl, codes}
use Rattle.uno_model.specs.Reaches.{is_base_of}
use Rattle.uno_model.specs.Entities.{Entity, Method, method, interface, exception}
use Rattle.uno_model.specs.Functions.{Function, call, is_met, visit_all, met_within}
use Rattle.uno_model.specs.Kinds as kd
use Rattle.uno_model.specs.NamedTypes.{simple_of, kind_within, type_of_text}
use Rattle.uno_model.specs.Reaches.{reaches_within}
use Rattle.uno_model.specs.Registry.{find_entity, members_within}
use Rattle.uno_model.specs.Values.{none, more}
use Rattle.uno_model.specs.Values as plain
use Rattle.uno_model.specs.declared.way.Way.TheVariants.{Into, Out, Both}
use Rattle.urp_model.specs.NamedKinds.{class_among, kind_named}
use Rattle.urp_model.specs.Parts.{byte_at, number_at, slot_at}
use Rattle.urp_model.specs.Reading.{members_at, tuple_at, value_step, value_at}
use Rattle.urp_model.specs.ReadingNames.{held_kind_at, kind_behind, kind_at}
use Rattle.urp_model.specs.Tables.{Tables, meaning}
use Rattle.urp_model.specs.declared.fault.Fault.TheVariants.{Short, Bad}
use Rattle.urp_model.specs.declared.reason.Reason.TheVariants.{BadFlags, NoLast, NotInterface, UnknownFunction, Acquire, OneWay}
use Rattle.urp_model.specs.declared.reason.Reason.TheVariants.{NobodyWaits, BadAny, BadException}
use Rattle.message_model.specs.Calls.{numbered, kinds_on, may_raise, Waits}
use Rattle.message_model.specs.Headers.{nothing_said, Heard}
use Rattle.message_model.specs.Messages.{returned, raised, request, release, reply}
use Rattle.message_model.specs.ReadingMessages.{function_at, answered_at, long_opening_at, short_opening, two_byte_opening_at, opening_at}
use Rattle.message_model.specs.ReadingMessages.{new_or_last_at, target_at, release_at, arguments_at, call_at, asked_at, request_at}
use Rattle.message_model.specs.ReadingMessages.{returned_at, exception_at, raised_at, answer_at, reply_at, message_at}

-- ---- openings

-- the functions 63, 64 and 16,383 in short headers, and 16,384 behind flags
last_of_one_byte_row : opening_at 63 [] ≡ Ok (short_opening 63, [])
unfolding opening_at
last_of_one_byte_row = refl

first_of_two_bytes_row : opening_at 64 (64 ∷ []) ≡ Ok (short_opening 64, [])
unfolding opening_at two_byte_opening_at byte_at
first_of_two_bytes_row = refl

last_of_two_bytes_row : opening_at 127 (255 ∷ []) ≡ Ok (short_opening 16383, [])
unfolding opening_at two_byte_opening_at byte_at
last_of_two_bytes_row = refl

first_wide_row : opening_at 196 (64 ∷ 0 ∷ []) ≡ Ok (short_opening 16384, [])
unfolding opening_at long_opening_at answered_at function_at number_at
first_wide_row = refl

-- two bytes for a function that one would hold, and for one that it would not
low_in_two_bytes_row : opening_at 64 (3 ∷ []) ≡ Ok (short_opening 3, [])
unfolding opening_at two_byte_opening_at byte_at
low_in_two_bytes_row = refl

three_hundred_row : opening_at 65 (44 ∷ []) ≡ Ok (short_opening 300, [])
unfolding opening_at two_byte_opening_at byte_at
three_hundred_row = refl

-- all is new, and an answer comes
all_new_row : opening_at 249 (192 ∷ 3 ∷ []) ≡ Ok (record { function = 3; answered = true; new_type = true; new_oid = true; new_tid = true }, [])
unfolding opening_at long_opening_at answered_at function_at byte_at
all_new_row = refl

-- nothing is new, and an answer comes
answered_four_row : opening_at 193 (192 ∷ 4 ∷ []) ≡ Ok (record { function = 4; answered = true; new_type = false; new_oid = false; new_tid = false }, [])
unfolding opening_at long_opening_at answered_at function_at byte_at
answered_four_row = refl

-- the second byte of flags with both of its high bits, with neither, and with one of them
answered_row : answered_at true (192 ∷ []) ≡ Ok (true, [])
unfolding answered_at byte_at
answered_row = refl

unanswered_row : answered_at true (63 ∷ []) ≡ Ok (false, [])
unfolding answered_at byte_at
unanswered_row = refl

one_high_bit_row : answered_at true (128 ∷ []) ≡ Err (Bad BadFlags)
unfolding answered_at byte_at
one_high_bit_row = refl

other_high_bit_row : answered_at true (64 ∷ []) ≡ Err (Bad BadFlags)
unfolding answered_at byte_at
other_high_bit_row = refl

-- ---- a registry of an interface and two exceptions, of which the one derives from the other

abbrev plain_method : List ℕ → Bool → Method
plain_method name oneway = record { name = name; oneway = oneway; result_kind = kd.void; params = []; raises = [] }

-- boolean f([in] byte a, [out] boolean b, [inout] char c) raises (e)
abbrev f_method : Method
f_method = record {
  name = codes "f";
  oneway = false;
  result_kind = kd.boolean;
  params =
      record { way = Into; name = codes "a"; kind = kd.byte }
      ∷ (record { way = Out; name = codes "b"; kind = kd.boolean } ∷ (record { way = Both; name = codes "c"; kind = kd.char } ∷ []));
  raises = codes "e" ∷ [];
}

abbrev pub tiny : List Entity
tiny =
    record { name = codes "d"; published = true; body = exception (Some (codes "e")) [] }
    ∷ (record { name = codes "e"; published = true; body = exception None (record { name = codes "m"; kind = kd.boolean } ∷ []) }
    ∷ (record {
      name = codes "x";
      published = true;
      body =
          interface []
          (method (plain_method (codes "q") false)
          ∷ (method (plain_method (codes "acquire") true)
          ∷ (method (plain_method (codes "release") true) ∷ (method f_method ∷ (method (plain_method (codes "g") true) ∷ [])))));
    } ∷ []))

-- a reader that heard a request of this type
abbrev pub hears : kd.Kind → Heard
hears k = record {
  tables = record { types = Some (codes "d") ∷ (Some (codes "x") ∷ []); oids = []; tids = [] };
  last = record { kind = Some k; oid = Some (codes "o"); tid = Some (codes "t") };
}

abbrev pub x : kd.Kind
x = kd.interface (codes "x")

abbrev d : kd.Kind
d = kd.exception (codes "d")

-- the functions f and g of the interface, and a number that no function has
abbrev f : Function
f = call (codes "x") f_method

abbrev g : Function
g = call (codes "x") (plain_method (codes "g") true)

f_is_there : numbered tiny (codes "x") 3 ≡ Some f
unfolding numbered met_within is_met visit_all find_entity
f_is_there = refl

g_is_there : numbered tiny (codes "x") 4 ≡ Some g
unfolding numbered met_within is_met visit_all find_entity
g_is_there = refl

nothing_is_there : numbered tiny (codes "x") 5 ≡ None
unfolding numbered met_within is_met visit_all find_entity
nothing_is_there = refl

-- f may raise what derives from an exception that it declares
f_may_raise_d : may_raise tiny f d ≡ true
unfolding may_raise is_base_of reaches_within find_entity
f_may_raise_d = refl

-- types in slots
x_in_a_slot : kind_at tiny (hears x).tables.types (22 ∷ 0 ∷ 1 ∷ []) ≡ Ok (x, (hears x).tables.types, [])
unfolding kind_at byte_at class_among kind_behind held_kind_at slot_at number_at meaning kind_named type_of_text kind_within simple_of find_entity
x_in_a_slot = refl

d_in_a_slot : kind_at tiny (hears x).tables.types (19 ∷ 0 ∷ 0 ∷ 1 ∷ []) ≡ Ok (d, (hears x).tables.types, 1 ∷ [])
unfolding kind_at byte_at class_among kind_behind held_kind_at slot_at number_at meaning kind_named type_of_text kind_within simple_of find_entity
d_in_a_slot = refl

-- ---- requests

-- a call of f behind a short header, and the byte behind it; and one whose last argument is not whole
call_row : message_at tiny [] (hears x) (3 ∷ 7 ∷ 0 ∷ 65 ∷ 9 ∷ [])
    ≡ Ok (request (codes "t") (codes "o") (codes "x") 3 (plain.byte (pos 7) ∷ plain.char 65 ∷ []), hears x, 9 ∷ [])
unfolding message_at byte_at request_at opening_at target_at new_or_last_at asked_at call_at arguments_at kinds_on members_at value_at value_step number_at
call_row = rw f_is_there refl

short_call_row : message_at tiny [] (hears x) (3 ∷ 7 ∷ 0 ∷ []) ≡ Err Short
unfolding message_at byte_at request_at opening_at target_at new_or_last_at asked_at call_at arguments_at kinds_on members_at value_at value_step number_at
short_call_row = rw f_is_there refl

-- a release, whose type is new; one that is sent as one that has an answer; and acquire
release_row : message_at tiny [] (hears kd.long) (224 ∷ 2 ∷ 22 ∷ 0 ∷ 1 ∷ []) ≡ Ok (release (codes "t") (codes "o") (codes "x"), hears x, [])
unfolding message_at byte_at request_at opening_at long_opening_at answered_at function_at target_at new_or_last_at asked_at release_at
release_row = rw x_in_a_slot refl

answered_release_row : message_at tiny [] (hears x) (193 ∷ 192 ∷ 2 ∷ []) ≡ Err (Bad OneWay)
unfolding message_at byte_at request_at opening_at long_opening_at answered_at function_at target_at new_or_last_at asked_at release_at
answered_release_row = refl

acquire_row : message_at tiny [] (hears x) (1 ∷ []) ≡ Err (Bad Acquire)
unfolding message_at byte_at request_at opening_at target_at new_or_last_at asked_at
acquire_row = refl

-- a one-way function, sent as one that has no answer, and as one that has
oneway_row : message_at tiny [] (hears x) (4 ∷ []) ≡ Err (Bad OneWay)
unfolding message_at byte_at request_at opening_at target_at new_or_last_at asked_at call_at
oneway_row = rw g_is_there refl

answered_oneway_row : message_at tiny [] (hears x) (193 ∷ 192 ∷ 4 ∷ []) ≡ Ok (request (codes "t") (codes "o") (codes "x") 4 [], hears x, [])
unfolding message_at byte_at request_at target_at new_or_last_at asked_at call_at arguments_at kinds_on members_at
answered_oneway_row = rw (answered_four_row, g_is_there) refl

-- a function that is not there, a type that is no interface, and a type that nothing names
pub unknown_function_row : message_at tiny [] (hears x) (5 ∷ []) ≡ Err (Bad UnknownFunction)
unfolding message_at byte_at request_at opening_at target_at new_or_last_at asked_at call_at
unknown_function_row = rw nothing_is_there refl

not_interface_row : message_at tiny [] (hears kd.long) (3 ∷ []) ≡ Err (Bad NotInterface)
unfolding message_at byte_at request_at opening_at target_at new_or_last_at
not_interface_row = refl

no_last_row : (s : Tables) → message_at tiny [] (record { tables = s; last = nothing_said }) (3 ∷ []) ≡ Err (Bad NoLast)
unfolding message_at byte_at request_at opening_at target_at new_or_last_at
no_last_row s = refl

-- ---- replies

-- the thread waits for f
abbrev waits : Waits
waits = (codes "t", record { face = codes "x"; function = 3 }) ∷ []

returned_row : message_at tiny waits (hears x) (128 ∷ 1 ∷ 0 ∷ 0 ∷ 66 ∷ [])
    ≡ Ok (reply (codes "t") (codes "x") 3 (returned (plain.boolean true) (plain.boolean false ∷ plain.char 66 ∷ [])), hears x, [])
unfolding message_at byte_at reply_at new_or_last_at answer_at returned_at kinds_on members_at value_at value_step number_at
returned_row = rw f_is_there refl

-- an exception that derives from one that f declares
raised_row : message_at tiny waits (hears x) (160 ∷ 19 ∷ 0 ∷ 0 ∷ 1 ∷ [])
    ≡ Ok (reply (codes "t") (codes "x") 3 (raised d (plain.tuple (codes "d") (more (plain.boolean true) none))), hears x, [])
unfolding message_at byte_at reply_at new_or_last_at answer_at raised_at exception_at value_at value_step tuple_at members_within find_entity members_at
raised_row = rw (f_is_there, d_in_a_slot, f_may_raise_d) refl

-- what is no exception, an any in an any, and nobody who waits
bad_exception_row : message_at tiny waits (hears x) (160 ∷ 2 ∷ []) ≡ Err (Bad BadException)
unfolding message_at byte_at reply_at new_or_last_at answer_at raised_at kind_at class_among kind_behind exception_at may_raise
bad_exception_row = rw f_is_there refl

bad_any_row : message_at tiny waits (hears x) (160 ∷ 14 ∷ []) ≡ Err (Bad BadAny)
unfolding message_at byte_at reply_at new_or_last_at answer_at raised_at kind_at class_among kind_behind
bad_any_row = rw f_is_there refl

nobody_waits_row : message_at tiny [] (hears x) (128 ∷ []) ≡ Err (Bad NobodyWaits)
unfolding message_at byte_at reply_at new_or_last_at
nobody_waits_row = refl
