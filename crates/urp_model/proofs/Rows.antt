-- Bytes that are written out, and what is read of them.
use Rattle.std.proofs.Common.{◌≡◌, ℕ, pos, negsuc, List, [], ◌∷◌, ◌++◌, Ok, Err, refl, codes}
use Rattle.std.proofs.lemmas.Str.{is_utf8-from_IsUtf8, IsUtf8-nil}
use Rattle.uno_model.specs.Kinds as kd
use Rattle.uno_model.specs.NamedTypes.{simple_of, kind_within, type_of_text}
use Rattle.uno_model.specs.Values.{Plain, none, more, null, own}
use Rattle.uno_model.specs.Values as plain
use Rattle.urp_model.specs.NamedKinds.{class_among, kind_named}
use Rattle.urp_model.specs.Parts.{byte_at, number_at, length_at, raw_at, text_at, name_at, text_name_at, slot_at}
use Rattle.urp_model.specs.Reading.{elements_at, bytes_at, list_at, content_at, any_at, value_step, value_at}
use Rattle.urp_model.specs.ReadingNames.{written_kind, written_kind_at, kind_behind, kind_at, oid_at}
use Rattle.urp_model.specs.Slots.{announced}
use Rattle.urp_model.specs.Held.{holds, next_slot, slot_for, used}
use Rattle.urp_model.specs.Writing.{no_names, compressed, measured, slot_bytes, kind_written, kind_spelling}
use Rattle.urp_model.specs.Writing.{kind_after, name_spelling, after, afters, spelling, spellings}
use Rattle.urp_model.specs.Tables.{Table, Tables, noted, with_types}
use Rattle.urp_model.proofs.Utf8Laws.{is_utf8_ascii}
use Rattle.urp_model.specs.declared.fault.Fault.TheVariants.{Short, Bad}
use Rattle.urp_model.specs.declared.reason.Reason.TheVariants.{BadClass, BadAny, BadBoolean, Deep}

-- bytes
bytes_row : (s : Tables) → value_at 3 [] (kd.sequence kd.byte) s (3 ∷ 1 ∷ 2 ∷ 3 ∷ []) ≡ Ok (plain.bytes (1 ∷ 2 ∷ 3 ∷ []), s, [])
unfolding value_at value_step bytes_at raw_at length_at byte_at
bytes_row s = refl

-- two longs
longs_row : (s : Tables)
    → value_at 3 [] (kd.sequence kd.long) s (2 ∷ 0 ∷ 0 ∷ 0 ∷ 1 ∷ 255 ∷ 255 ∷ 255 ∷ 255 ∷ []) ≡ Ok (plain.list kd.long (more (plain.long (pos 1)) (more (plain.long (negsuc 0)) none)), s, [])
unfolding value_at value_step list_at elements_at length_at byte_at number_at
longs_row s = refl

-- a long in an any
any_row : (s : Tables) → value_at 3 [] kd.any s (6 ∷ 0 ∷ 0 ∷ 0 ∷ 5 ∷ []) ≡ Ok (plain.any kd.long (plain.long (pos 5)), s, [])
unfolding value_at value_step any_at content_at kind_at byte_at class_among kind_behind number_at
any_row s = refl

-- strings in an any, whose type is written out at slot 0
strings_row : (s : Tables) → value_at 3 [] kd.any s ((148 ∷ 0 ∷ 0 ∷ 8 ∷ codes "[]string") ++ (1 ∷ 1 ∷ codes "a"))
    ≡ Ok (plain.any (kd.sequence kd.str) (plain.list kd.str (more (plain.str (codes "a")) none)), with_types s (announced 0 (codes "[]string") s.types), [])
unfolding value_at value_step any_at content_at kind_at byte_at class_among kind_behind written_kind_at written_kind number_at text_name_at name_at
    length_at kind_named type_of_text kind_within simple_of noted list_at elements_at text_at raw_at
strings_row s = rw (is_utf8_ascii (codes "[]string") refl, is_utf8_ascii (codes "a") refl) refl

-- nothing in an any
void_row : (s : Tables) → value_at 3 [] kd.any s (0 ∷ []) ≡ Ok (plain.any kd.void plain.void, s, [])
unfolding value_at value_step any_at content_at kind_at byte_at class_among kind_behind
void_row s = refl

-- a class that is not accepted, an any in an any, and one that is not whole
bad_class_row : (s : Tables) → value_at 3 [] kd.any s (11 ∷ []) ≡ Err (Bad BadClass)
unfolding value_at value_step any_at kind_at byte_at class_among kind_behind
bad_class_row s = refl

bad_any_row : (s : Tables) → value_at 3 [] kd.any s (14 ∷ []) ≡ Err (Bad BadAny)
unfolding value_at value_step any_at kind_at byte_at class_among kind_behind
bad_any_row s = refl

short_row : (s : Tables) → value_at 3 [] kd.any s (6 ∷ 0 ∷ []) ≡ Err Short
unfolding value_at value_step any_at content_at kind_at byte_at class_among kind_behind number_at
short_row s = refl

-- a boolean
boolean_row : (s : Tables) → value_at 3 [] kd.boolean s (2 ∷ []) ≡ Err (Bad BadBoolean)
unfolding value_at value_step byte_at
boolean_row s = refl

-- null
null_row : (s : Tables) (face : List ℕ) → value_at 3 [] (kd.interface face) s (0 ∷ 255 ∷ 255 ∷ []) ≡ Ok (plain.ref null, s, [])
unfolding value_at value_step oid_at text_name_at name_at length_at byte_at slot_at number_at
null_row s face = rw (is_utf8-from_IsUtf8 [] IsUtf8-nil) refl

-- a type whose name is not whole, with a slot that is none
short_name_row : (table : Table) → kind_at [] table (150 ∷ 1 ∷ 0 ∷ []) ≡ Err Short
unfolding kind_at byte_at class_among kind_behind written_kind_at number_at text_name_at name_at length_at
short_name_row table = refl

-- a void any at the last level
deep_row : (s : Tables) → value_at 1 [] kd.any s (0 ∷ []) ≡ Err (Bad Deep)
unfolding value_at value_step any_at content_at kind_at byte_at class_among kind_behind
deep_row s = refl

-- numbers in the short form and in the long one
three_row : length_at (255 ∷ 0 ∷ 0 ∷ 0 ∷ 3 ∷ []) ≡ Ok (3, [])
unfolding length_at byte_at number_at
three_row = refl

last_short_row : compressed 254 ≡ 254 ∷ []
unfolding compressed
last_short_row = refl

first_long_row : compressed 255 ≡ 255 ∷ 0 ∷ 0 ∷ 0 ∷ 255 ∷ []
unfolding compressed
first_long_row = refl

last_long_row : compressed 4294967295 ≡ 255 ∷ 255 ∷ 255 ∷ 255 ∷ 255 ∷ []
unfolding compressed
last_long_row = refl

-- ---- what a sender writes first, and again

abbrev strings : Plain
strings = plain.any (kd.sequence kd.str) (plain.list kd.str (more (plain.str (codes "a")) none))

first_strings_row : spelling strings no_names ≡ (148 ∷ 0 ∷ 0 ∷ 8 ∷ codes "[]string") ++ (1 ∷ 1 ∷ codes "a")
unfolding spelling spellings no_names kind_spelling kind_written holds slot_for next_slot slot_bytes measured compressed
first_strings_row = refl

next_strings_row : spelling strings (after strings no_names) ≡ 20 ∷ 0 ∷ 0 ∷ 1 ∷ 1 ∷ codes "a"
unfolding spelling spellings after afters kind_after used no_names kind_spelling kind_written holds slot_for next_slot slot_bytes measured compressed
next_strings_row = refl

long_row : spelling (plain.any kd.long (plain.long (negsuc 0))) no_names ≡ 6 ∷ 255 ∷ 255 ∷ 255 ∷ 255 ∷ []
unfolding spelling no_names kind_spelling
long_row = refl

-- an object, and the same again
objects_row : spelling (plain.list (kd.interface (codes "x")) (more (plain.ref (own (codes "o") (codes "y"))) (more (plain.ref null) (more (plain.ref (own (codes "o") (codes "z"))) none)))) no_names
    ≡ 3 ∷ (1 ∷ (codes "o" ++ (0 ∷ 0 ∷ (0 ∷ 255 ∷ 255 ∷ (0 ∷ 0 ∷ 0 ∷ [])))))
unfolding spelling spellings after afters name_spelling used no_names holds slot_for next_slot slot_bytes measured compressed
objects_row = refl
