-- What is printed is ASCII without line feeds.
use Rattle.std.proofs.Common.{◌≡◌, ℕ, ℤ, Bool, true, false, not, ◌&&◌, ◌==◌, List, ◌∷◌, refl, arith}
use Rattle.std.specs.Prelude.{nat_lt}
use Rattle.std.specs.List.{list_all}
use Rattle.uno_model.proofs.AllLaws.{all_append}
use Rattle.uno_model.specs.Kinds.{Kind, name_of}
use Rattle.uno_model.specs.Kinds as kd
use Rattle.uno_model.specs.Names.{goes_on_identifier, is_identifier, is_entity_name}
use Rattle.uno_model.specs.declared.flags.Flags.{Flags}
use Rattle.uno_model.specs.declared.way.Way.{Way}
use Rattle.uno_model.specs.declared.way.Way.TheVariants as way
use Rattle.registry_text_model.specs.Lines.{spaced, numeral, flag_words, joined_by_commas, way_word, access_word}
use Rattle.registry_text_model.specs.Reading.{is_spelled}
use Rattle.registry_reading_model.specs.Numbers.{is_digit}
use Rattle.registry_reading_model.proofs.FlagLaws.{flags_all}
use Rattle.registry_reading_model.proofs.NumberLaws.{numeral_all}
use Rattle.registry_reading_model.proofs.WordLaws.{identifier_all, entity_name_all}

abbrev pub is_text_byte : ℕ → Bool
is_text_byte c = nat_lt c 128 && not (c == 10)

abbrev pub is_text : List ℕ → Bool
is_text line = list_all is_text_byte line

name_byte : (c : ℕ) → goes_on_identifier c ≡ true → is_text_byte c ≡ true
name_byte c on = grind arith

digit_byte : (c : ℕ) → is_digit c ≡ true → is_text_byte c ≡ true
digit_byte c digit = grind arith

pub identifier_text : (w : List ℕ) → is_identifier w ≡ true → is_text w ≡ true
identifier_text w is = identifier_all is_text_byte name_byte w is

pub entity_name_text : (w : List ℕ) → is_entity_name w ≡ true → is_text w ≡ true
entity_name_text w is = entity_name_all is_text_byte name_byte w refl is

pub numeral_text : (z : ℤ) → is_text (numeral z) ≡ true
numeral_text z = numeral_all is_text_byte digit_byte z refl

pub flags_text : (f : Flags) → is_text (joined_by_commas (flag_words f)) ≡ true
flags_text f = flags_all is_text_byte f refl refl refl

pub spaced_text : (w b : List ℕ) → is_text w ≡ true → is_text b ≡ true → is_text (spaced w b) ≡ true
unfolding spaced
spaced_text w b first second = all_append is_text_byte w (32 ∷ b) first second

pub kind_text : (k : Kind) → is_spelled k ≡ true → is_text (name_of k) ≡ true
kind_text (kd.enum name) spelled = entity_name_text name spelled
kind_text (kd.struct name) spelled = entity_name_text name spelled
kind_text (kd.exception name) spelled = entity_name_text name spelled
kind_text (kd.interface name) spelled = entity_name_text name spelled
kind_text (kd.sequence k) spelled = kind_text k spelled
kind_text _ spelled = refl

pub way_text : (w : Way) → is_text (way_word w) ≡ true
unfolding way_word
way_text way.Into = refl
way_text way.Out = refl
way_text way.Both = refl

pub access_text : (read_only : Bool) → is_text (access_word read_only) ≡ true
unfolding access_word
access_text true = refl
access_text false = refl
