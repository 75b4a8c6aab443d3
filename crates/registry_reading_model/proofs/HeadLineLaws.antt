-- What the look for headers finds on each line of an entity's text.
use Rattle.std.proofs.Common.{◌≡◌, ℕ, Bool, true, false, not, ◌&&◌, ◌||◌, List, [], ◌∷◌, ◌++◌, map, Option, None, Some, if◌then◌else◌, refl, sym, ap}
use Rattle.std.proofs.Common.{ap₂, ◌∙◌, codes}
use Rattle.std.proofs.lemmas.Bool.{and_parts, and_from, or_from, not-true}
use Rattle.std.specs.List.{flat_map, list_all, list_any}
use Rattle.std.specs.Str.{bytes_eq}
use Rattle.uno_model.proofs.AllLaws.{all_append}
use Rattle.uno_model.specs.Entities.{Field, Base, Member, attribute, method, Item, Constant, Constructor, Part, face, subservice, property}
use Rattle.uno_model.specs.Entities.{Body, interface, struct, exception, enum, constants, typedef, new_service, old_service, new_singleton}
use Rattle.uno_model.specs.Entities.{old_singleton, Entity}
use Rattle.uno_model.specs.Kinds.{name_of}
use Rattle.uno_model.specs.Names.{is_entity_name, is_identifier}
use Rattle.uno_model.specs.Sound.{is_named}
use Rattle.uno_model.specs.Uses.{inner_names}
use Rattle.uno_model.specs.declared.type_class.TypeClass.{TypeClass}
use Rattle.uno_model.specs.declared.type_class.TypeClass.TheVariants as class
use Rattle.registry_text_model.specs.EnumValues.{is_long, items_are_long, values_are_long}
use Rattle.registry_text_model.specs.Lines.{header_line, header_words, body_lines, member_lines, method_line, param_line, field_line, item_line}
use Rattle.registry_text_model.specs.Lines.{constant_line, base_line}
use Rattle.registry_text_model.specs.Lines.{constructor_lines, given_line, part_line, spaced, base_word, face_word, subservice_word, name_lines}
use Rattle.registry_text_model.specs.Lines.{rest_lines, numeral, name_and_base}
use Rattle.registry_text_model.specs.Reading.{is_writable}
use Rattle.registry_reading_model.proofs.NumberLaws.{number_forth}
use Rattle.registry_reading_model.proofs.WordLaws.{split_forth, split_none, entity_name_no_blank, identifier_forth}
use Rattle.registry_reading_model.specs.Heads.{Head, class_of_word, or_alone, first_word, or_whole, head_of, beyond_long}
use Rattle.registry_reading_model.specs.Words.{behind, split_at}

-- the class of the type that an entity is
abbrev pub class_of_body : Body → Option TypeClass
class_of_body (interface bases members) = Some class.Interface
class_of_body (struct base members) = Some class.Struct
class_of_body (exception base members) = Some class.Exception
class_of_body (enum items) = Some class.Enum
class_of_body _ = None

-- ---- headers

abbrev words_read : ℕ → List ℕ → Head
words_read number words =
    let parts = first_word words in
    record { name = (first_word parts.1).0; class = class_of_word parts.0; line = number; beyond = false }

alone_name : (name : List ℕ) → is_entity_name name ≡ true → or_alone name (split_at 32 name) ≡ (name, [])
alone_name name named = ap (or_alone name) (split_none 32 name (entity_name_no_blank name named))

name_in_front : (name rest : List ℕ) → is_entity_name name ≡ true → or_alone (name ++ 32 ∷ rest) (split_at 32 (name ++ 32 ∷ rest)) ≡ (name, rest)
name_in_front name rest named = ap (or_alone (name ++ 32 ∷ rest)) (split_forth 32 name rest (entity_name_no_blank name named))

based_name : (name : List ℕ) (base : Option (List ℕ)) → is_entity_name name ≡ true → (first_word (name_and_base name base)).0 ≡ name
unfolding spaced
based_name name None named = ap (λ x. x.0) (alone_name name named)
based_name name (Some base) named = ap (λ x. x.0) (name_in_front name base named)

words_head : (number : ℕ) (name : List ℕ) (body : Body) → is_entity_name name ≡ true
    → words_read number (header_words name body) ≡ record { name = name; class = class_of_body body; line = number; beyond = false }
unfolding spaced split_at class_of_word
words_head number name (interface bases members) named = rw (alone_name name named) refl
words_head number name (struct base members) named = rw (based_name name base named) refl
words_head number name (exception base members) named = rw (based_name name base named) refl
words_head number name (enum items) named = rw (alone_name name named) refl
words_head number name (constants cs) named = rw (alone_name name named) refl
words_head number name (typedef k) named = rw (name_in_front name (name_of k) named) refl
words_head number name (new_service base constructors) named = rw (name_in_front name (codes "new" ++ 32 ∷ base) named) refl
words_head number name (old_service parts) named = rw (name_in_front name (codes "old") named) refl
words_head number name (new_singleton base) named = rw (name_in_front name (codes "new" ++ 32 ∷ base) named) refl
words_head number name (old_singleton service) named = rw (name_in_front name (codes "old" ++ 32 ∷ service) named) refl

behind_published : (published : Bool) (name : List ℕ) (body : Body) → (line : List ℕ)
    → line ≡ (if published then spaced (codes "published") (header_words name body) else header_words name body)
    → or_whole line (behind (codes "published ") line) ≡ header_words name body
unfolding spaced behind
behind_published true name body line is = rw is refl
behind_published false name (interface bases members) line is = rw is refl
behind_published false name (struct base members) line is = rw is refl
behind_published false name (exception base members) line is = rw is refl
behind_published false name (enum items) line is = rw is refl
behind_published false name (constants cs) line is = rw is refl
behind_published false name (typedef k) line is = rw is refl
behind_published false name (new_service base constructors) line is = rw is refl
behind_published false name (old_service parts) line is = rw is refl
behind_published false name (new_singleton base) line is = rw is refl
behind_published false name (old_singleton service) line is = rw is refl

named_when_writable : (e : Entity) → is_writable e ≡ true → is_named e ≡ true
unfolding is_writable
named_when_writable e writable = (and_parts (is_named e) _ writable).0

pub header_head : (number : ℕ) (e : Entity) → is_writable e ≡ true
    → head_of number (header_line e) ≡ record { name = e.name; class = class_of_body e.body; line = number; beyond = false }
unfolding head_of
header_head number e writable =
    let named = (and_parts (is_entity_name e.name) (list_all is_identifier (inner_names e.body)) (named_when_writable e writable)).0 in
    ap (words_read number) (behind_published e.published e.name e.body (header_line e) refl) ∙ words_head number e.name e.body named

-- ---- the lines under a header

abbrev pub is_no_end : List ℕ → Bool
is_no_end line = not (bytes_eq line (codes "end"))

header_goes_on : (published : Bool) (name : List ℕ) (body : Body)
    → bytes_eq (if published then spaced (codes "published") (header_words name body) else header_words name body) (codes "end") ≡ false
unfolding spaced
header_goes_on true name body = refl
header_goes_on false name (interface bases members) = refl
header_goes_on false name (struct base members) = refl
header_goes_on false name (exception base members) = refl
header_goes_on false name (enum items) = refl
header_goes_on false name (constants cs) = refl
header_goes_on false name (typedef k) = refl
header_goes_on false name (new_service base constructors) = refl
header_goes_on false name (old_service parts) = refl
header_goes_on false name (new_singleton base) = refl
header_goes_on false name (old_singleton service) = refl

pub header_no_end : (e : Entity) → bytes_eq (header_line e) (codes "end") ≡ false
header_no_end e = header_goes_on e.published e.name e.body

-- neither an `end` nor a value
abbrev is_quiet : List ℕ → Bool
is_quiet line = is_no_end line && not (beyond_long line)

all_mapped : {X : Type 0} (P : List ℕ → Bool) (f : X → List ℕ) → ((x : X) → P (f x) ≡ true) → (xs : List X) → list_all P (map f xs) ≡ true
all_mapped P f each [] = refl
all_mapped P f each (x ∷ xs) = and_from (P (f x)) (list_all P (map f xs)) (each x) (all_mapped P f each xs)

all_flat_mapped : {X : Type 0} (P : List ℕ → Bool) (f : X → List (List ℕ)) → ((x : X) → list_all P (f x) ≡ true) → (xs : List X)
    → list_all P (flat_map f xs) ≡ true
all_flat_mapped P f each [] = refl
all_flat_mapped P f each (x ∷ xs) = all_append P (f x) (flat_map f xs) (each x) (all_flat_mapped P f each xs)

base_quiet : (b : Base) → is_quiet (base_line b) ≡ true
unfolding spaced beyond_long behind base_word
base_quiet b = by_word b.optional
  where
    by_word : (optional : Bool) → is_quiet (spaced (base_word optional) b.name) ≡ true
    by_word true = refl
    by_word false = refl

member_quiet : (m : Member) → list_all is_quiet (member_lines m) ≡ true
unfolding spaced beyond_long behind
member_quiet (attribute a) =
    all_append is_quiet (name_lines (codes "getraises") a.get_raises) (name_lines (codes "setraises") a.set_raises)
    (all_mapped is_quiet (spaced (codes "getraises")) (λ n. refl) a.get_raises) (all_mapped is_quiet (spaced (codes "setraises")) (λ n. refl) a.set_raises)
member_quiet (method m) =
    and_from (is_quiet (method_line m)) _ (by_word m.oneway)
    (all_append is_quiet (map param_line m.params) (name_lines (codes "raises") m.raises)
    (all_mapped is_quiet param_line (λ p. refl) m.params) (all_mapped is_quiet (spaced (codes "raises")) (λ n. refl) m.raises))
  where
    by_word : (oneway : Bool) → is_quiet (if oneway then spaced (codes "oneway") m.name else spaced (codes "method") (spaced m.name (name_of m.result_kind))) ≡ true
    by_word true = refl
    by_word false = refl

constructor_quiet : (k : Constructor) → list_all is_quiet (constructor_lines k) ≡ true
unfolding spaced beyond_long behind
constructor_quiet k =
    all_append is_quiet (map given_line k.params) (rest_lines k.rest ++ name_lines (codes "raises") k.raises) (all_mapped is_quiet given_line (λ f. refl) k.params)
    (all_append is_quiet (rest_lines k.rest) (name_lines (codes "raises") k.raises) (by_rest k.rest) (all_mapped is_quiet (spaced (codes "raises")) (λ n. refl) k.raises))
  where
    by_rest : (o : Option (List ℕ)) → list_all is_quiet (rest_lines o) ≡ true
    by_rest None = refl
    by_rest (Some name) = refl

part_quiet : (p : Part) → is_quiet (part_line p) ≡ true
unfolding spaced beyond_long behind face_word subservice_word
part_quiet (face true name) = refl
part_quiet (face false name) = refl
part_quiet (subservice true name) = refl
part_quiet (subservice false name) = refl
part_quiet (property name flags k) = refl

fields_quiet : (fields : List Field) → list_all is_quiet (map field_line fields) ≡ true
unfolding spaced beyond_long behind
fields_quiet fields = all_mapped is_quiet field_line (λ f. refl) fields

constants_quiet : (cs : List Constant) → list_all is_quiet (map constant_line cs) ≡ true
unfolding spaced beyond_long behind
constants_quiet cs = all_mapped is_quiet constant_line (λ k. refl) cs

-- what is quiet is no end, and no line is beyond
of_quiet : (lines : List (List ℕ)) → list_all is_quiet lines ≡ true → (list_all is_no_end lines ≡ true) × (list_any beyond_long lines ≡ false)
of_quiet [] quiet = (refl, refl)
of_quiet (line ∷ lines) quiet =
    let parts = and_parts (is_quiet line) (list_all is_quiet lines) quiet in
    let own = and_parts (is_no_end line) (not (beyond_long line)) parts.0 in
    let rest = of_quiet lines parts.1 in
    (and_from _ _ own.0 rest.0, or_from (beyond_long line) (list_any beyond_long lines) (not-true _ own.1) rest.1)

-- ---- values

behind_value : (text : List ℕ) → behind (codes "value ") (spaced (codes "value") text) ≡ Some text
unfolding spaced behind
behind_value text = refl

value_goes_on : (text : List ℕ) → is_no_end (spaced (codes "value") text) ≡ true
unfolding spaced
value_goes_on text = refl

item_seen : (i : Item) → is_identifier i.name ≡ true → beyond_long (item_line i) ≡ not (is_long i.number)
unfolding beyond_long
item_seen i named =
    let rest : behind (codes "value ") (item_line i) ≡ Some (spaced i.name (numeral i.number)) = behind_value (spaced i.name (numeral i.number)) in
    rw (rest, identifier_forth i.name (numeral i.number) named, number_forth i.number) refl

items_seen : (items : List Item) → list_all is_identifier (map (λ i. i.name) items) ≡ true
    → (list_all is_no_end (map item_line items) ≡ true) × (list_any beyond_long (map item_line items) ≡ not (list_all (λ i. is_long i.number) items))
items_seen [] named = (refl, refl)
items_seen (i ∷ items) named =
    let parts = and_parts (is_identifier i.name) (list_all is_identifier (map (λ d. d.name) items)) named in
    let rest = items_seen items parts.1 in (
      and_from (is_no_end (item_line i)) _ (value_goes_on (spaced i.name (numeral i.number))) rest.0,
      ap₂ (λ a b. a || b) (item_seen i parts.0) rest.1 ∙ sym (not_both (is_long i.number) (list_all (λ d. is_long d.number) items)),
    )
  where
    not_both : (a b : Bool) → not (a && b) ≡ (not a || not b)
    not_both true b = refl
    not_both false b = refl

body_seen : (b : Body) → list_all is_identifier (inner_names b) ≡ true
    → (list_all is_no_end (body_lines b) ≡ true) × (list_any beyond_long (body_lines b) ≡ not (items_are_long b))
body_seen (interface bases members) named =
    of_quiet (map base_line bases ++ flat_map member_lines members)
    (all_append is_quiet (map base_line bases) (flat_map member_lines members) (all_mapped is_quiet base_line base_quiet bases) (all_flat_mapped is_quiet member_lines member_quiet members))
body_seen (struct base members) named = of_quiet (map field_line members) (fields_quiet members)
body_seen (exception base members) named = of_quiet (map field_line members) (fields_quiet members)
body_seen (enum items) named = items_seen items named
body_seen (constants cs) named = of_quiet (map constant_line cs) (constants_quiet cs)
body_seen (typedef k) named = (refl, refl)
body_seen (new_service base constructors) named = of_quiet (flat_map constructor_lines constructors) (all_flat_mapped is_quiet constructor_lines constructor_quiet constructors)
body_seen (old_service parts) named = of_quiet (map part_line parts) (all_mapped is_quiet part_line part_quiet parts)
body_seen (new_singleton base) named = (refl, refl)
body_seen (old_singleton service) named = (refl, refl)

-- no line under a header is an `end`, and one is beyond where a value is
pub lines_seen : (e : Entity) → is_writable e ≡ true
    → (list_all is_no_end (body_lines e.body) ≡ true) × (list_any beyond_long (body_lines e.body) ≡ not (values_are_long e))
unfolding values_are_long
lines_seen e writable = body_seen e.body (and_parts (is_entity_name e.name) (list_all is_identifier (inner_names e.body)) (named_when_writable e writable)).1
