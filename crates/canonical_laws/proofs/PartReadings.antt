-- The printed words of what stands in structs, enums, groups of constants and services are read as what writes it.
use Rattle.std.proofs.Common.{◌≡◌, ℕ, Bool, true, false, ◌&&◌, List, [], ◌∷◌, ◌++◌, map, Option, None, Some, ◌⊎◌, inl, inr, refl, sym, ap, ◌∙◌, flat_map, codes}
use Rattle.std.proofs.lemmas.Bool.{and_parts, and_from}
use Rattle.std.proofs.lemmas.Grind.{flat_map-append}
use Rattle.std.proofs.lemmas.List.{append_assoc, append-nil}
use Rattle.std.proofs.lemmas.List.Folds.{flat_map-map, list_all-append}
use Rattle.std.specs.List.{list_all}
use Rattle.grammar_model.specs.Relations.{Image, Either, Many, ◌&>◌, ◌<&◌}
use Rattle.idl_model.specs.Grammar.{Tokens, Keyword, Mark, IsId, IsName, of_table, IsType, IsFlag, IsFlags}
use Rattle.idl_model.specs.Grammar.{fields_of, AreFields, item_of, IsItem, constant_of, IsConstant, constructor_parameter_of, IsConstructorParameter}
use Rattle.idl_model.specs.Grammar.{constructor_of, IsConstructor}
use Rattle.idl_model.specs.Grammar.{property_of, IsPart, IsProperty, IsServiceMember}
use Rattle.idl_model.specs.Grammar as grammar
use Rattle.idl_model.specs.Trees.{Id, Path, WrittenType, Flag}
use Rattle.idl_model.specs.Trees as tree
use Rattle.idl_text_model.specs.Tokens.{quoted}
use Rattle.literal_model.specs.Shapes.{is_word}
use Rattle.registry_text_model.specs.Canonical.{absolute, kind_tokens, raises_tokens, listed, field_tokens, item_tokens, constant_tokens}
use Rattle.registry_text_model.specs.Canonical.{given_tokens, rest_param, rest_tokens}
use Rattle.registry_text_model.specs.Canonical.{constructor_tokens, part_tokens}
use Rattle.registry_text_model.specs.Canonical as text
use Rattle.registry_text_model.specs.Lines.{flag_word, flag_words}
use Rattle.uno_model.specs.Entities as uno
use Rattle.uno_model.specs.Kinds.{Kind}
use Rattle.uno_model.specs.Kinds as kd
use Rattle.uno_model.specs.Names.{is_identifier, is_entity_name}
use Rattle.uno_model.specs.Registry.{at_most_one}
use Rattle.uno_model.specs.Sound.{is_some_list}
use Rattle.uno_model.specs.declared.flags.Flags.{Flags}
use Rattle.canonical_laws.proofs.ChunkWords.{keyword_chunk}
use Rattle.canonical_laws.proofs.RuleReadings.{Reads, reads_one, reads_keyword, reads_mark, reads_id}
use Rattle.canonical_laws.proofs.RuleReadings.{reads_seq, reads_image, reads_so, reads_as, reads_then, reads_before, reads_left, reads_right, reads_none}
use Rattle.canonical_laws.proofs.RuleReadings.{reads_some}
use Rattle.canonical_laws.proofs.RuleReadings.{reads_no_more, reads_one_more, reads_listed, many_joined}
use Rattle.canonical_laws.proofs.TypeReadings.{fine_kind, reads_name, reads_kind, is_small, reads_number, reads_raises}
use Rattle.canonical_laws.proofs.MemberReadings.{reads_parentheses, IsSame, same_flags}
use Rattle.canonical_laws.specs.Written.{Each, WritesName, WritesType, expression_of, WritesField, WritesItem, WritesConstant, WritesGiven, WritesRest}
use Rattle.canonical_laws.specs.Written.{WritesConstructor}
use Rattle.canonical_laws.specs.Written.{flag_if, property_flags, WritesPart}

-- ---- members of structs

abbrev pub fine_field : uno.Field → Bool
fine_field f = is_identifier f.name && fine_kind f.kind

abbrev IsNamed : Id → List ℕ → Type 0
IsNamed id n = id.name ≡ n

one_name : (t : WrittenType) (ids : List Id) (f : uno.Field) → WritesType t f.kind → Each IsNamed ids (f.name ∷ [])
    → WritesField (record { type = t; names = ids }) f
one_name t [] f type is = absurd is
one_name t (id ∷ []) f type is = record { id = id; names = refl; type = type; name = is.0 }
one_name t (id ∷ (other ∷ ids)) f type is = absurd is.1

pub reads_field : (f : uno.Field) → fine_field f ≡ true → Reads AreFields (λ t. WritesField t f) (field_tokens f)
unfolding listed
reads_field f fine =
    let parts = and_parts (is_identifier f.name) (fine_kind f.kind) fine in
    let one : list_all is_identifier (f.name ∷ []) ≡ true = and_from (is_identifier f.name) true parts.0 refl in
    reads_image fields_of (λ t. WritesField t f) (λ z is. one_name z.0 z.1 f is.0 is.1)
    (reads_seq (reads_kind f.kind parts.1)
    (reads_before (reads_listed IsId IsNamed (λ n. n ∷ []) is_identifier reads_id (f.name ∷ []) refl one) (reads_mark (codes ";") refl)))

-- ---- items and constants

abbrev pub fine_item : uno.Item → Bool
fine_item i = is_identifier i.name && is_small i.number

pub reads_item : (i : uno.Item) → fine_item i ≡ true → Reads IsItem (λ t. WritesItem t i) (item_tokens i)
reads_item i fine =
    let parts = and_parts (is_identifier i.name) (is_small i.number) fine in
    reads_image item_of (λ t. WritesItem t i) (λ z is. record { name = is.0; value = is.1 })
    (reads_seq (reads_id i.name parts.0)
    (reads_some (λ o. o ≡ Some (expression_of i.number)) (λ e is. ap Some is) (reads_then (reads_mark (codes "=") refl) (reads_number i.number parts.1))))

abbrev pub fine_constant : uno.Constant → Bool
fine_constant c = is_identifier c.name && (fine_kind c.kind && is_small c.number)

pub reads_constant : (c : uno.Constant) → fine_constant c ≡ true → Reads IsConstant (λ t. WritesConstant t c) (constant_tokens c)
reads_constant c fine =
    let parts = and_parts (is_identifier c.name) (fine_kind c.kind && is_small c.number) fine in
    let rest = and_parts (fine_kind c.kind) (is_small c.number) parts.1 in
    reads_image constant_of (λ t. WritesConstant t c) (λ z is. record { type = is.0; name = (is.1).0; value = (is.1).1 })
    (reads_then (reads_keyword (codes "const") refl refl) (reads_seq (reads_kind c.kind rest.0) (reads_seq (reads_id c.name parts.0)
    (reads_then (reads_mark (codes "=") refl) (reads_before (reads_number c.number rest.1) (reads_mark (codes ";") refl))))))

-- ---- constructors: parameters, and the rest parameter as the last of them

abbrev Given : Type 0
Given = uno.Field ⊎ List ℕ

abbrev given_words : Given → List (List ℕ)
given_words (inl f) = given_tokens f
given_words (inr n) = rest_param n

abbrev fine_given : Given → Bool
fine_given (inl f) = fine_field f
fine_given (inr n) = is_identifier n

abbrev WritesParam : tree.ConstructorParameter → Given → Type 0
WritesParam t (inl f) = WritesGiven t f
WritesParam t (inr n) = WritesRest t n

any_words : kind_tokens kd.any ≡ codes "any" ∷ []
unfolding kind_tokens
any_words = refl

reads_given : (g : Given) → fine_given g ≡ true → Reads IsConstructorParameter (λ t. WritesParam t g) (given_words g)
reads_given (inl f) fine =
    let parts = and_parts (is_identifier f.name) (fine_kind f.kind) fine in
    reads_image constructor_parameter_of (λ t. WritesGiven t f) (λ z is. record { type = is.0; rest = rw (is.1).0 refl; name = (is.1).1 })
    (reads_then (reads_mark (codes "[") refl) (reads_then (reads_keyword (codes "in") refl refl) (reads_then (reads_mark (codes "]") refl)
    (reads_seq (reads_kind f.kind parts.1) (reads_seq (reads_none (Mark (codes "...")) (λ o. o ≡ None) refl) (reads_id f.name parts.0))))))
reads_given (inr n) fine =
    reads_image constructor_parameter_of (λ t. WritesRest t n) (λ z is. record { type = is.0; rest = rw (is.1).0 refl; name = (is.1).1 })
    (reads_then (reads_mark (codes "[") refl) (reads_then (reads_keyword (codes "in") refl refl) (reads_then (reads_mark (codes "]") refl)
    (reads_seq any_type (reads_seq (reads_some (λ o. o ≡ Some tt) (λ x is. refl) (reads_mark (codes "...") refl)) (reads_id n fine))))))
  where
    any_type : Reads IsType (λ t. WritesType t kd.any) (codes "any" ∷ [])
    any_type = reads_as (kind_tokens kd.any) (codes "any" ∷ []) any_words (reads_kind kd.any refl)

pub each_split : {X A : Type 0} (R : X → A → Type 0) (ts : List X) (xs ys : List A) → Each R ts (xs ++ ys)
    → (front : List X) × (behind : List X) × (ts ≡ front ++ behind) × Each R front xs × Each R behind ys
each_split R ts [] ys each = ([], ts, refl, tt, each)
each_split R [] (x ∷ xs) ys each = absurd each
each_split R (t ∷ ts) (x ∷ xs) ys each =
    let inner = each_split R ts xs ys each.1 in
    (t ∷ inner.0, inner.1, ap (λ l. t ∷ l) inner.2, (each.0, inner.3), inner.4)

each_given : (ts : List tree.ConstructorParameter) (fs : List uno.Field) → Each WritesParam ts (map (λ f. inl f) fs) → Each WritesGiven ts fs
each_given [] [] each = tt
each_given [] (f ∷ fs) each = each
each_given (t ∷ ts) [] each = each
each_given (t ∷ ts) (f ∷ fs) each = (each.0, each_given ts fs each.1)

each_rest : (ts : List tree.ConstructorParameter) (ns : List (List ℕ)) → Each WritesParam ts (map (λ n. inr n) ns) → Each WritesRest ts ns
each_rest [] [] each = tt
each_rest [] (n ∷ ns) each = each
each_rest (t ∷ ts) [] each = each
each_rest (t ∷ ts) (n ∷ ns) each = (each.0, each_rest ts ns each.1)

abbrev all_given : uno.Constructor → List Given
all_given c = map (λ f. inl f) c.params ++ map (λ n. inr n) (at_most_one c.rest)

given_in_front : (g : Given) (gs : List Given) (o : Option (List ℕ))
    → listed given_words (g ∷ (gs ++ map (λ n. inr n) (at_most_one o))) ≡ listed given_words (g ∷ gs) ++ rest_tokens true o
unfolding listed
given_in_front g gs None = rw (append-nil gs, append-nil (given_words g ++ flat_map (λ y. codes "," ∷ given_words y) gs)) refl
given_in_front g gs (Some n) =
    rw (
      flat_map-append (λ y. codes "," ∷ given_words y) gs (inr n ∷ []),
      append_assoc (given_words g) (flat_map (λ y. codes "," ∷ given_words y) gs)
          (codes "," ∷ rest_param n),
    ) refl

given_fields : (f : uno.Field) (fs : List uno.Field) → listed given_words (inl f ∷ map (λ x. inl x) fs) ≡ listed given_tokens (f ∷ fs)
unfolding listed
given_fields f fs = ap (λ x. given_tokens f ++ x) (flat_map-map (λ y. codes "," ∷ given_words y) (λ (x : uno.Field). inl x) fs)

given_printed : (fs : List uno.Field) (o : Option (List ℕ))
    → listed given_words (map (λ f. inl f) fs ++ map (λ n. inr n) (at_most_one o)) ≡ listed given_tokens fs ++ rest_tokens (is_some_list fs) o
unfolding listed
given_printed [] None = refl
given_printed [] (Some n) = append-nil (rest_param n)
given_printed (f ∷ fs) o = given_in_front (inl f) (map (λ x. inl x) fs) o ∙ ap (λ x. x ++ rest_tokens true o) (given_fields f fs)

abbrev pub fine_constructor : uno.Constructor → Bool
fine_constructor c = (is_identifier c.name && list_all fine_field c.params) && (list_all is_identifier (at_most_one c.rest) && list_all is_entity_name c.raises)

all_mapped : {A B : Type 0} (p : B → Bool) (f : A → B) (xs : List A) → list_all (λ x. p (f x)) xs ≡ true → list_all p (map f xs) ≡ true
all_mapped p f [] all = refl
all_mapped p f (x ∷ xs) all =
    let parts = and_parts (p (f x)) (list_all (λ y. p (f y)) xs) all in
    and_from (p (f x)) (list_all p (map f xs)) parts.0 (all_mapped p f xs parts.1)

written_constructor : (c : uno.Constructor) (name : Id) (ts : List tree.ConstructorParameter) (raises : List Path) → name.name ≡ c.name
    → Each WritesParam ts (all_given c)
    → Each WritesName raises c.raises → WritesConstructor (record { name = name; parameters = ts; raises = raises }) c
written_constructor c name ts raises named each raised =
    let split = each_split WritesParam ts (map (λ f. inl f) c.params) (map (λ n. inr n) (at_most_one c.rest)) each in
    record {
      name = named;
      front = split.0;
      behind = split.1;
      split = split.2;
      given = each_given split.0 c.params split.3;
      rest = each_rest split.1 (at_most_one c.rest) split.4;
      raises = raised;
    }

pub reads_constructor : (c : uno.Constructor) → fine_constructor c ≡ true → Reads IsConstructor (λ t. WritesConstructor t c) (constructor_tokens c)
reads_constructor c fine =
    let parts = and_parts (is_identifier c.name && list_all fine_field c.params) _ fine in
    let own = and_parts (is_identifier c.name) (list_all fine_field c.params) parts.0 in
    let other = and_parts (list_all is_identifier (at_most_one c.rest)) (list_all is_entity_name c.raises) parts.1 in
    let all : list_all fine_given (all_given c) ≡ true =
    list_all-append fine_given (map (λ f. inl f) c.params) (map (λ n. inr n) (at_most_one c.rest))
    ∙ and_from _ _ (all_mapped fine_given (λ f. inl f) c.params own.1) (all_mapped fine_given (λ n. inr n) (at_most_one c.rest) other.0) in
    let params = listed given_tokens c.params in
    let rest = rest_tokens (is_some_list c.params) c.rest in
    let raises = raises_tokens c.raises ++ codes ";" ∷ [] in
    let grouped : (listed given_words (all_given c) ++ codes ")" ∷ []) ++ raises ≡ params ++ (rest ++ (codes ")" ∷ raises)) =
    ap (λ x. (x ++ codes ")" ∷ []) ++ raises) (given_printed c.params c.rest) ∙ append_assoc (params ++ rest)
    (codes ")" ∷ []) raises ∙ append_assoc params rest (codes ")" ∷ raises) in
    reads_as (c.name ∷ (codes "(" ∷ ((listed given_words (all_given c) ++ codes ")" ∷ []) ++ raises))) (constructor_tokens c)
    (ap (λ x. c.name ∷ (codes "(" ∷ x)) grouped)
    (reads_image constructor_of (λ t. WritesConstructor t c) (λ z is. written_constructor c z.0 (z.1).0 (z.1).1 is.0 (is.1).0 (is.1).1)
    (reads_seq (reads_id c.name own.0)
    (reads_seq (reads_parentheses IsConstructorParameter WritesParam given_words fine_given reads_given (all_given c) all) (reads_raises c.raises other.1))))

-- ---- parts of services of the old form

abbrev MoreFlags : List Flag → Tokens → Type 0
MoreFlags = Many (Mark (codes ",") &> IsFlag grammar.property_flags)

abbrev with_comma : List ℕ → List (List ℕ)
with_comma w = codes "," ∷ (w ∷ [])

abbrev FlagsRead : List (List ℕ) → List Flag → Type 0
FlagsRead words flags = Reads MoreFlags (λ fs. fs ≡ flags) (flat_map with_comma words)

one_flag : (on : Bool) (w : List ℕ) (flag : Flag) → is_word w ≡ true → is_identifier w ≡ false → of_table grammar.property_flags (quoted w) ≡ Some flag
    → FlagsRead (flag_word on w) (flag_if on flag)
one_flag true w flag word other row =
    reads_so (λ fs. fs ≡ flag ∷ []) (λ fs is. same_flags fs (flag ∷ []) is)
    (reads_one_more flag [] here (reads_no_more (Mark (codes ",") &> IsFlag grammar.property_flags) IsSame))
  where
    here : Reads (Mark (codes ",") &> IsFlag grammar.property_flags) (λ f. f ≡ flag) (with_comma w)
    here =
        reads_then (reads_mark (codes ",") refl)
        (reads_one (λ t. of_table grammar.property_flags t.word) (λ f. f ≡ flag) w (quoted w) (keyword_chunk w word other)
        (λ t said. (flag, rw said row, refl)))
one_flag false w flag word other row =
    reads_so (λ fs. fs ≡ []) (λ fs is. same_flags fs [] is) (reads_no_more (Mark (codes ",") &> IsFlag grammar.property_flags) IsSame)

flags_joined : (ws vs : List (List ℕ)) (fs gs : List Flag) → FlagsRead ws fs → FlagsRead vs gs → FlagsRead (ws ++ vs) (fs ++ gs)
flags_joined ws vs fs gs a b =
    reads_as (flat_map with_comma ws ++ flat_map with_comma vs) (flat_map with_comma (ws ++ vs)) (sym (flat_map-append with_comma ws vs))
    (many_joined (Mark (codes ",") &> IsFlag grammar.property_flags) (λ xs. xs ≡ fs) (λ ys. ys ≡ gs) (λ zs. zs ≡ fs ++ gs) (λ xs ys e f. rw (e, f) refl)
    (flat_map with_comma ws) (flat_map with_comma vs) a b)

all_flags : (f : Flags) → FlagsRead (flag_words f) (property_flags f)
unfolding flag_words property_flags
all_flags f =
    flags_joined _ _ _ _ (one_flag f.bound (codes "bound") tree.bound_flag refl refl refl)
    (flags_joined _ _ _ _ (one_flag f.constrained (codes "constrained") tree.constrained_flag refl refl refl)
    (flags_joined _ _ _ _ (one_flag f.maybeambiguous (codes "maybeambiguous") tree.maybeambiguous_flag refl refl refl)
    (flags_joined _ _ _ _ (one_flag f.maybedefault (codes "maybedefault") tree.maybedefault_flag refl refl refl)
    (flags_joined _ _ _ _ (one_flag f.maybevoid (codes "maybevoid") tree.maybevoid_flag refl refl refl)
    (flags_joined _ _ _ _ (one_flag f.optional (codes "optional") tree.optional_flag refl refl refl)
    (flags_joined _ _ _ _ (one_flag f.readonly (codes "readonly") tree.readonly_flag refl refl refl)
    (flags_joined _ _ _ _ (one_flag f.removable (codes "removable") tree.removable_flag refl refl refl)
    (one_flag f.transient (codes "transient") tree.transient_flag refl refl refl))))))))

reads_property_flags : (f : Flags)
    → Reads (IsFlags grammar.property_flags (codes "property")) (λ fs. fs ≡ property_flags f) (codes "property" ∷ flat_map with_comma (flag_words f))
reads_property_flags f =
    reads_image (λ z. z.0 ++ z.1) (λ fs. fs ≡ property_flags f) (λ z is. ap (λ x. x ++ z.1) (same_flags z.0 [] is.0) ∙ is.1)
    (reads_seq (reads_no_more (IsFlag grammar.property_flags <& Mark (codes ",")) IsSame)
    (reads_then (reads_keyword (codes "property") refl refl) (all_flags f)))

abbrev pub fine_part : uno.Part → Bool
fine_part (uno.face optional full) = is_entity_name full
fine_part (uno.subservice optional full) = is_entity_name full
fine_part (uno.property name flags k) = is_identifier name && fine_kind k

face_part : (flag : Bool) (full : List ℕ) → is_entity_name full ≡ true
    → Reads (IsPart flag) (λ t. WritesPart t (uno.face flag full)) (codes "interface" ∷ (absolute full ∷ (codes ";" ∷ [])))
face_part flag full fine =
    reads_left (Image (tree.subservice flag) (Keyword (codes "service") &> IsName <& Mark (codes ";")))
    (reads_image (tree.face flag) (λ t. WritesPart t (uno.face flag full)) (λ path is. (full, refl, is))
    (reads_then (reads_keyword (codes "interface") refl refl) (reads_before (reads_name full fine) (reads_mark (codes ";") refl))))

subservice_part : (flag : Bool) (full : List ℕ) → is_entity_name full ≡ true
    → Reads (IsPart flag) (λ t. WritesPart t (uno.subservice flag full)) (codes "service" ∷ (absolute full ∷ (codes ";" ∷ [])))
subservice_part flag full fine =
    reads_right (Image (tree.face flag) (Keyword (codes "interface") &> IsName <& Mark (codes ";")))
    (reads_image (tree.subservice flag) (λ t. WritesPart t (uno.subservice flag full)) (λ path is. (full, refl, is))
    (reads_then (reads_keyword (codes "service") refl refl) (reads_before (reads_name full fine) (reads_mark (codes ";") refl))))

part_by_flag : (flag : Bool) (R : tree.ServiceMember → Type 0) (ts : List (List ℕ)) → Reads (IsPart flag) R ts
    → Reads IsServiceMember R (text.optional_flag flag ++ ts)
part_by_flag true R ts inner =
    reads_left (Either IsProperty (IsPart false))
    (reads_then (reads_mark (codes "[") refl) (reads_then (reads_keyword (codes "optional") refl refl) (reads_then (reads_mark (codes "]") refl) inner)))
part_by_flag false R ts inner = reads_right (Mark (codes "[") &> Keyword (codes "optional") &> Mark (codes "]") &> IsPart true) (reads_right IsProperty inner)

reads_property : (name : List ℕ) (flags : Flags) (k : Kind) → is_identifier name ≡ true → fine_kind k ≡ true
    → Reads IsProperty (λ t. WritesPart t (uno.property name flags k)) (part_tokens (uno.property name flags k))
reads_property name flags k named kind =
    reads_image property_of (λ t. WritesPart t (uno.property name flags k))
    (λ z is. (name, flags, k, refl, record { flags = is.0; type = (is.1).0; name = (is.1).1 }))
    (reads_then (reads_mark (codes "[") refl) (reads_seq (reads_property_flags flags)
    (reads_then (reads_mark (codes "]") refl) (reads_seq (reads_kind k kind) (reads_before (reads_id name named) (reads_mark (codes ";") refl))))))

pub reads_part : (p : uno.Part) → fine_part p ≡ true → Reads IsServiceMember (λ t. WritesPart t p) (part_tokens p)
reads_part (uno.face optional full) fine = part_by_flag optional (λ t. WritesPart t (uno.face optional full)) _ (face_part optional full fine)
reads_part (uno.subservice optional full) fine = part_by_flag optional (λ t. WritesPart t (uno.subservice optional full)) _ (subservice_part optional full fine)
reads_part (uno.property name flags k) fine =
    let parts = and_parts (is_identifier name) (fine_kind k) fine in
    reads_right (Mark (codes "[") &> Keyword (codes "optional") &> Mark (codes "]") &> IsPart true)
    (reads_left (IsPart false) (reads_property name flags k parts.0 parts.1))
