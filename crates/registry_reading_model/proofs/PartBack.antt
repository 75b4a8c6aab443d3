-- Parts that are read are printed as they were read: members of structs, items, constants, and the parts of old services.
use Rattle.std.proofs.Common.{◌≡◌, ℕ, Bool, true, false, List, [], ◌∷◌, ◌++◌, Some, refl, sym, ap, subst, ◌∙◌, append_assoc, codes}
use Rattle.std.specs.Str.{bytes_eq}
use Rattle.std.proofs.lemmas.Bool.{and_from}
use Rattle.uno_model.proofs.Options.{same_some, none_some}
use Rattle.uno_model.specs.Entities.{Field, Param, Item, Constant, Part, face, subservice, property}
use Rattle.uno_model.specs.Kinds.{Kind, name_of}
use Rattle.uno_model.specs.Names.{is_identifier}
use Rattle.registry_text_model.specs.Lines.{spaced, numeral, way_word, field_line, item_line, constant_line, part_line, face_word, subservice_word}
use Rattle.registry_text_model.specs.Lines.{flag_words, joined_by_commas}
use Rattle.registry_text_model.specs.Reading.{is_spelled}
use Rattle.registry_reading_model.specs.Bodies.{changed_kind, field_of, param_of, item_of, constant_of, property_of, part_of}
use Rattle.registry_reading_model.specs.Changes.{same}
use Rattle.registry_reading_model.specs.Kinds.{kind_of_text}
use Rattle.registry_reading_model.specs.Numbers.{number_of}
use Rattle.registry_reading_model.specs.Words.{on_some, word_of, identifier_of, entity_name_of, behind, way_of, flags_of}
use Rattle.registry_reading_model.proofs.FlagLaws.{flags_back}
use Rattle.registry_reading_model.proofs.GrowthLaws.{Made}
use Rattle.registry_reading_model.proofs.KindLaws.{kind_back}
use Rattle.registry_reading_model.proofs.NumberLaws.{number_back}
use Rattle.registry_reading_model.proofs.PrintedLaws.{is_text, identifier_text, entity_name_text, numeral_text, flags_text, spaced_text, kind_text}
use Rattle.registry_reading_model.proofs.PrintedLaws.{way_text}
use Rattle.registry_reading_model.proofs.WordLaws.{given, chosen, same_word, word_back, behind_back, identifier_back, entity_name_back, way_back}
use Rattle.registry_reading_model.proofs.GoodParts.{is_good_field, is_good_param, is_good_constant, is_good_part}

-- the text is printed of a type
pub record Spells (text : List ℕ) (k : Kind) : Type 0 where
  pub named : text ≡ name_of k
  pub spelled : is_spelled k ≡ true
  pub bytes : is_text text ≡ true

pub changed_kind_back : (text : List ℕ) (k : Kind) → changed_kind same text ≡ Some k → Spells text k
changed_kind_back text k read =
    let j = given (kind_of_text text) (λ i. Some i) k read in
    let is = kind_back text j.0 j.1 in
    let whole : Spells text j.0 = record { named = sym is.0; spelled = is.1; bytes = subst (λ t. is_text t ≡ true) is.0 (kind_text j.0 is.1) } in
    subst (λ i. Spells text i) (same_some j.2) whole

-- `NAME TYPE`
pub record IsField (text : List ℕ) (f : Field) : Type 0 where
  pub split : text ≡ spaced f.name (name_of f.kind)
  pub good : is_good_field f ≡ true
  pub bytes : is_text text ≡ true

pub field_back : (text : List ℕ) (f : Field) → field_of same text ≡ Some f → IsField text f
unfolding field_of
field_back text f read =
    let x = given (identifier_of text) (λ x. on_some (changed_kind same x.1) (λ k. Some (record { name = x.0; kind = k }))) f read in
    let k = given (changed_kind same x.0.1) (λ k. Some (record { name = x.0.0; kind = k })) f x.2 in
    let name = identifier_back text x.0 x.1 in
    let type = changed_kind_back x.0.1 k.0 k.1 in
    let split : text ≡ spaced x.0.0 (name_of k.0) = name.0 ∙ ap (λ t. spaced x.0.0 t) type.named in
    let bytes : is_text (spaced x.0.0 (name_of k.0)) ≡ true = spaced_text x.0.0 (name_of k.0) (identifier_text x.0.0 name.1)
    (kind_text k.0 type.spelled) in
    let whole : IsField text (record { name = x.0.0; kind = k.0 }) =
    record {
      split = split;
      good = and_from (is_identifier x.0.0) (is_spelled k.0) name.1 type.spelled;
      bytes = subst (λ t. is_text t ≡ true) (sym split) bytes;
    } in
    subst (λ g. IsField text g) (same_some k.2) whole

-- `WAY NAME TYPE`
pub record IsParam (text : List ℕ) (p : Param) : Type 0 where
  pub split : text ≡ spaced (way_word p.way) (spaced p.name (name_of p.kind))
  pub good : is_good_param p ≡ true
  pub bytes : is_text text ≡ true

pub param_back : (text : List ℕ) (p : Param) → param_of same text ≡ Some p → IsParam text p
unfolding param_of
param_back text p read =
    let x = given (word_of text) _ p read in
    let w = given (way_of x.0.0) _ p x.2 in
    let y = given (identifier_of x.0.1) _ p w.2 in
    let k = given (changed_kind same y.0.1) _ p y.2 in
    let name = identifier_back x.0.1 y.0 y.1 in
    let type = changed_kind_back y.0.1 k.0 k.1 in
    let behind_way : x.0.1 ≡ spaced y.0.0 (name_of k.0) = name.0 ∙ ap (λ t. spaced y.0.0 t) type.named in
    let split : text ≡ spaced (way_word w.0) (spaced y.0.0 (name_of k.0)) =
    word_back text x.0 x.1 ∙ ap (λ t. spaced t x.0.1) (way_back x.0.0 w.0 w.1) ∙ ap (λ t. spaced (way_word w.0) t) behind_way in
    let bytes = spaced_text (way_word w.0) (spaced y.0.0 (name_of k.0)) (way_text w.0)
    (spaced_text y.0.0 (name_of k.0) (identifier_text y.0.0 name.1) (kind_text k.0 type.spelled)) in
    let whole : IsParam text (record { way = w.0; name = y.0.0; kind = k.0 }) =
    record {
      split = split;
      good = and_from (is_identifier y.0.0) (is_spelled k.0) name.1 type.spelled;
      bytes = subst (λ t. is_text t ≡ true) (sym split) bytes;
    } in
    subst (λ q. IsParam text q) (same_some k.2) whole

-- ---- lines that begin with a word of their own

pub behind_word_back : (word line rest : List ℕ) → behind (word ++ 32 ∷ []) line ≡ Some rest → line ≡ spaced word rest
unfolding spaced
behind_word_back word line rest read = behind_back (word ++ 32 ∷ []) line rest read ∙ append_assoc word (32 ∷ []) rest

-- `member NAME TYPE`
pub member_made : (line : List ℕ) (f : Field) → on_some (behind (codes "member ") line) (field_of same) ≡ Some f
    → Made (λ g. field_line g ∷ []) is_good_field f line
member_made line f read =
    let rest = given (behind (codes "member ") line) (field_of same) f read in
    let is = field_back rest.0 f rest.2 in
    let split = behind_word_back (codes "member") line rest.0 rest.1 in
    record {
      printed = ap (λ t. spaced (codes "member") t ∷ []) (sym is.split) ∙ ap (λ t. t ∷ []) (sym split);
      passes = is.good;
      text = subst (λ t. is_text t ≡ true) (sym split) (spaced_text (codes "member") rest.0 refl is.bytes);
    }

-- `value NAME NUMBER`
pub item_made : (line : List ℕ) (i : Item) → on_some (behind (codes "value ") line) (item_of same) ≡ Some i
    → Made (λ j. item_line j ∷ []) (λ j. is_identifier j.name) i line
unfolding item_of
item_made line i read =
    let rest = given (behind (codes "value ") line) (item_of same) i read in
    let x = given (identifier_of rest.0) _ i rest.2 in
    let n = given (number_of x.0.1) _ i x.2 in
    let name = identifier_back rest.0 x.0 x.1 in
    let number = number_back x.0.1 n.0 n.1 in
    let split : line ≡ spaced (codes "value") (spaced x.0.0 (numeral n.0)) =
    behind_word_back (codes "value") line rest.0 rest.1 ∙ ap (λ t. spaced (codes "value") t) (name.0 ∙ ap (λ t. spaced x.0.0 t) number) in
    let bytes = spaced_text (codes "value") (spaced x.0.0 (numeral n.0)) refl
    (spaced_text x.0.0 (numeral n.0) (identifier_text x.0.0 name.1) (numeral_text n.0)) in
    let whole : Made (λ j. item_line j ∷ []) (λ j. is_identifier j.name) (record { name = x.0.0; number = n.0 }) line =
    record { printed = ap (λ t. t ∷ []) (sym split); passes = name.1; text = subst (λ t. is_text t ≡ true) (sym split) bytes } in
    subst (λ j. Made (λ j. item_line j ∷ []) (λ j. is_identifier j.name) j line) (same_some n.2) whole

-- `const NAME NUMBER TYPE`
pub constant_made : (line : List ℕ) (k : Constant) → on_some (behind (codes "const ") line) (constant_of same) ≡ Some k
    → Made (λ j. constant_line j ∷ []) is_good_constant k line
unfolding constant_of
constant_made line c read =
    let rest = given (behind (codes "const ") line) (constant_of same) c read in
    let x = given (identifier_of rest.0) _ c rest.2 in
    let y = given (word_of x.0.1) _ c x.2 in
    let n = given (number_of y.0.0) _ c y.2 in
    let k = given (changed_kind same y.0.1) _ c n.2 in
    let name = identifier_back rest.0 x.0 x.1 in
    let number = number_back y.0.0 n.0 n.1 in
    let type = changed_kind_back y.0.1 k.0 k.1 in
    let behind_name : x.0.1 ≡ spaced (numeral n.0) (name_of k.0) =
    word_back x.0.1 y.0 y.1 ∙ ap (λ t. spaced t y.0.1) number ∙ ap (λ t. spaced (numeral n.0) t) type.named in
    let split : line ≡ spaced (codes "const") (spaced x.0.0 (spaced (numeral n.0) (name_of k.0))) =
    behind_word_back (codes "const") line rest.0 rest.1 ∙ ap (λ t. spaced (codes "const") t) (name.0 ∙ ap (λ t. spaced x.0.0 t) behind_name) in
    let bytes =
    spaced_text (codes "const") (spaced x.0.0 (spaced (numeral n.0) (name_of k.0))) refl
    (spaced_text x.0.0 (spaced (numeral n.0) (name_of k.0)) (identifier_text x.0.0 name.1)
    (spaced_text (numeral n.0) (name_of k.0) (numeral_text n.0) (kind_text k.0 type.spelled))) in
    let whole : Made (λ j. constant_line j ∷ []) is_good_constant (record { name = x.0.0; number = n.0; kind = k.0 }) line =
    record {
      printed = ap (λ t. t ∷ []) (sym split);
      passes = and_from (is_identifier x.0.0) (is_spelled k.0) name.1 type.spelled;
      text = subst (λ t. is_text t ≡ true) (sym split) bytes;
    } in
    subst (λ j. Made (λ j. constant_line j ∷ []) is_good_constant j line) (same_some k.2) whole

-- ---- parts of old services

abbrev pub IsPart : Part → List ℕ → Type 0
IsPart p line = Made (λ q. part_line q ∷ []) is_good_part p line

face_bytes : (optional : Bool) → is_text (face_word optional) ≡ true
unfolding face_word
face_bytes true = refl
face_bytes false = refl

subservice_bytes : (optional : Bool) → is_text (subservice_word optional) ≡ true
unfolding subservice_word
subservice_bytes true = refl
subservice_bytes false = refl

face_made : (word text : List ℕ) (optional : Bool) (p : Part) → word ≡ face_word optional
    → on_some (entity_name_of text) (λ name. Some (face optional name)) ≡ Some p → IsPart p (spaced word text)
face_made word text optional p is read =
    let name = given (entity_name_of text) (λ name. Some (face optional name)) p read in
    let named = entity_name_back text name.0 name.1 in
    let split : spaced word text ≡ spaced (face_word optional) name.0 = ap (λ t. spaced t text) is
    ∙ ap (λ t. spaced (face_word optional) t) named.0 in
    let bytes = spaced_text (face_word optional) name.0 (face_bytes optional) (entity_name_text name.0 named.1) in
    let whole : IsPart (face optional name.0) (spaced word text) =
    record { printed = ap (λ t. t ∷ []) (sym split); passes = named.1; text = subst (λ t. is_text t ≡ true) (sym split) bytes } in
    subst (λ q. IsPart q (spaced word text)) (same_some name.2) whole

service_made : (word text : List ℕ) (optional : Bool) (p : Part) → word ≡ subservice_word optional
    → on_some (entity_name_of text) (λ name. Some (subservice optional name)) ≡ Some p → IsPart p (spaced word text)
service_made word text optional p is read =
    let name = given (entity_name_of text) (λ name. Some (subservice optional name)) p read in
    let named = entity_name_back text name.0 name.1 in
    let split : spaced word text ≡ spaced (subservice_word optional) name.0 = ap (λ t. spaced t text) is
    ∙ ap (λ t. spaced (subservice_word optional) t) named.0 in
    let bytes = spaced_text (subservice_word optional) name.0 (subservice_bytes optional) (entity_name_text name.0 named.1) in
    let whole : IsPart (subservice optional name.0) (spaced word text) =
    record { printed = ap (λ t. t ∷ []) (sym split); passes = named.1; text = subst (λ t. is_text t ≡ true) (sym split) bytes } in
    subst (λ q. IsPart q (spaced word text)) (same_some name.2) whole

-- `property NAME FLAGS TYPE`
property_made : (text : List ℕ) (p : Part) → property_of same text ≡ Some p → IsPart p (spaced (codes "property") text)
unfolding property_of
property_made text p read =
    let x = given (identifier_of text) _ p read in
    let y = given (word_of x.0.1) _ p x.2 in
    let f = given (flags_of y.0.0) _ p y.2 in
    let k = given (changed_kind same y.0.1) _ p f.2 in
    let name = identifier_back text x.0 x.1 in
    let flags = flags_back y.0.0 f.0 f.1 in
    let type = changed_kind_back y.0.1 k.0 k.1 in
    let written = joined_by_commas (flag_words f.0) in
    let behind_name : x.0.1 ≡ spaced written (name_of k.0) = word_back x.0.1 y.0 y.1 ∙ ap (λ t. spaced t y.0.1) flags
    ∙ ap (λ t. spaced written t) type.named in
    let split : spaced (codes "property") text ≡ spaced (codes "property") (spaced x.0.0 (spaced written (name_of k.0))) =
    ap (λ t. spaced (codes "property") t) (name.0 ∙ ap (λ t. spaced x.0.0 t) behind_name) in
    let bytes =
    spaced_text (codes "property") (spaced x.0.0 (spaced written (name_of k.0))) refl
    (spaced_text x.0.0 (spaced written (name_of k.0)) (identifier_text x.0.0 name.1)
    (spaced_text written (name_of k.0) (flags_text f.0) (kind_text k.0 type.spelled))) in
    let whole : IsPart (property x.0.0 f.0 k.0) (spaced (codes "property") text) =
    record {
      printed = ap (λ t. t ∷ []) (sym split);
      passes = and_from (is_identifier x.0.0) (is_spelled k.0) name.1 type.spelled;
      text = subst (λ t. is_text t ≡ true) (sym split) bytes;
    } in
    subst (λ q. IsPart q (spaced (codes "property") text)) (same_some k.2) whole

pub part_made : (word text : List ℕ) (p : Part) → part_of same word text ≡ Some p → IsPart p (spaced word text)
unfolding part_of face_word subservice_word
part_made word text p read =
    chosen (bytes_eq word (codes "interface")) _ _ p read (λ e r. face_made word text false p (same_word word (codes "interface") e) r) (λ read.
    chosen (bytes_eq word (codes "optinterface")) _ _ p read (λ e r. face_made word text true p (same_word word (codes "optinterface") e) r) (λ read.
    chosen (bytes_eq word (codes "service")) _ _ p read (λ e r. service_made word text false p (same_word word (codes "service") e) r) (λ read.
    chosen (bytes_eq word (codes "optservice")) _ _ p read (λ e r. service_made word text true p (same_word word (codes "optservice") e) r) (λ read.
    chosen (bytes_eq word (codes "property")) _ _ p read (λ e r. subst (λ w. IsPart p (spaced w text)) (sym (same_word word (codes "property") e))
    (property_made text p r)) (λ read. absurd (none_some read))))))
