-- Parts that are printed are read: members of structs, items, constants, parameters, and the parts of old services.
use Rattle.std.proofs.Common.{◌≡◌, ℕ, Bool, true, false, not, ◌==◌, List, Some, refl, codes}
use Rattle.std.proofs.lemmas.Bool.{and_parts}
use Rattle.uno_model.specs.Entities.{Field, Param, Item, Constant, Part, face, subservice, property}
use Rattle.uno_model.specs.Kinds.{Kind, name_of}
use Rattle.uno_model.specs.Kinds as kd
use Rattle.uno_model.specs.Names.{is_identifier, is_entity_name}
use Rattle.uno_model.specs.declared.flags.Flags.{Flags}
use Rattle.uno_model.specs.declared.way.Way.{Way}
use Rattle.uno_model.specs.declared.way.Way.TheVariants as way
use Rattle.registry_text_model.specs.Lines.{spaced, numeral, way_word, field_line, item_line, constant_line, part_line, face_word, subservice_word}
use Rattle.registry_text_model.specs.Lines.{flag_words, joined_by_commas}
use Rattle.registry_text_model.specs.Reading.{is_spelled}
use Rattle.registry_reading_model.specs.Bodies.{changed_kind, field_of, param_of, item_of, constant_of, property_of, part_of, behind_word}
use Rattle.registry_reading_model.specs.Changes.{same, field_changed, param_changed, item_changed, constant_changed, part_changed}
use Rattle.registry_reading_model.specs.Kept.{resolved, unresolved}
use Rattle.registry_reading_model.specs.Words.{on_some, behind}
use Rattle.registry_reading_model.proofs.FlagLaws.{flags_forth, flags_all}
use Rattle.registry_reading_model.proofs.KindLaws.{kind_forth}
use Rattle.registry_reading_model.proofs.NumberLaws.{number_forth, numeral_no_blank}
use Rattle.registry_reading_model.proofs.RunLaws.{behind_word_forth, behind_spaced}
use Rattle.registry_reading_model.proofs.WordLaws.{lacks, word_forth, identifier_forth, way_forth}
use Rattle.registry_reading_model.proofs.GoodParts.{is_good_field, is_good_param, is_good_constant, is_good_part}

pub changed_kind_forth : (k : Kind) → is_spelled k ≡ true → changed_kind same (name_of k) ≡ Some (resolved kd.struct k)
changed_kind_forth k spelled = rw (kind_forth k spelled) refl

-- `NAME TYPE`
pub field_forth : (f : Field) → is_good_field f ≡ true → field_of same (spaced f.name (name_of f.kind)) ≡ Some (field_changed unresolved f)
unfolding field_of
field_forth f good =
    let both = and_parts (is_identifier f.name) (is_spelled f.kind) good in
    rw (identifier_forth f.name (name_of f.kind) both.0, kind_forth f.kind both.1) refl

no_blank_way : (w : Way) → lacks 32 (way_word w) ≡ true
unfolding way_word
no_blank_way way.Into = refl
no_blank_way way.Out = refl
no_blank_way way.Both = refl

-- `WAY NAME TYPE`
pub param_forth : (p : Param) → is_good_param p ≡ true → param_of same (spaced (way_word p.way) (spaced p.name (name_of p.kind))) ≡ Some
    (param_changed unresolved p)
unfolding param_of
param_forth p good =
    let both = and_parts (is_identifier p.name) (is_spelled p.kind) good in
    rw (
      word_forth (way_word p.way) (spaced p.name (name_of p.kind)) (no_blank_way p.way),
      way_forth p.way,
      identifier_forth p.name (name_of p.kind) both.0,
      kind_forth p.kind both.1,
    )
    refl

-- ---- lines that begin with a word of their own

pub member_forth : (f : Field) → is_good_field f ≡ true → on_some (behind (codes "member ") (field_line f)) (field_of same) ≡ Some
    (field_changed unresolved f)
member_forth f good = rw (behind_spaced (codes "member") (spaced f.name (name_of f.kind))) (field_forth f good)

pub item_forth : (i : Item) → is_identifier i.name ≡ true → on_some (behind (codes "value ") (item_line i)) (item_of same) ≡ Some
    (item_changed unresolved i)
unfolding item_of
item_forth i named = rw (
  behind_spaced (codes "value") (spaced i.name (numeral i.number)),
  identifier_forth i.name
      (numeral i.number) named,
  number_forth i.number,
) refl

pub constant_forth : (k : Constant) → is_good_constant k ≡ true
    → on_some (behind (codes "const ") (constant_line k)) (constant_of same) ≡ Some (constant_changed unresolved k)
unfolding constant_of
constant_forth k good =
    let both = and_parts (is_identifier k.name) (is_spelled k.kind) good in
    let rest = spaced (numeral k.number) (name_of k.kind) in
    rw (
      behind_spaced (codes "const") (spaced k.name rest),
      identifier_forth k.name rest both.0,
      word_forth (numeral k.number) (name_of k.kind) (numeral_no_blank k.number),
      number_forth k.number,
      kind_forth k.kind both.1,
    )
    refl

-- ---- parts of old services

flags_no_blank : (f : Flags) → lacks 32 (joined_by_commas (flag_words f)) ≡ true
flags_no_blank f = flags_all (λ c. not (c == 32)) f refl refl refl

face_forth : (optional : Bool) (name : List ℕ) → is_entity_name name ≡ true
    → behind_word (spaced (face_word optional) name) (part_of same) ≡ Some (face optional name)
unfolding part_of face_word
face_forth true name named = rw (behind_word_forth (codes "optinterface") name (part_of same) refl, named) refl
face_forth false name named = rw (behind_word_forth (codes "interface") name (part_of same) refl, named) refl

subservice_forth : (optional : Bool) (name : List ℕ) → is_entity_name name ≡ true
    → behind_word (spaced (subservice_word optional) name) (part_of same) ≡ Some (subservice optional name)
unfolding part_of subservice_word
subservice_forth true name named = rw (behind_word_forth (codes "optservice") name (part_of same) refl, named) refl
subservice_forth false name named = rw (behind_word_forth (codes "service") name (part_of same) refl, named) refl

pub part_forth : (p : Part) → is_good_part p ≡ true → behind_word (part_line p) (part_of same) ≡ Some (part_changed unresolved p)
unfolding part_of property_of
part_forth (face optional name) good = face_forth optional name good
part_forth (subservice optional name) good = subservice_forth optional name good
part_forth (property name flags k) good =
    let both = and_parts (is_identifier name) (is_spelled k) good in
    let written = joined_by_commas (flag_words flags) in
    rw (
      behind_word_forth (codes "property") (spaced name (spaced written (name_of k))) (part_of same) refl,
      identifier_forth name (spaced written (name_of k)) both.0,
      word_forth written (name_of k) (flags_no_blank flags),
      flags_forth flags,
      kind_forth k both.1,
    )
    refl
