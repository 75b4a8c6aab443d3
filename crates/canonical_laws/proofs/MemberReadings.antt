-- The printed words of the members of interfaces are read as members that write them.
use Rattle.std.proofs.Common.{◌≡◌, ℕ, Bool, true, false, ◌&&◌, ◌||◌, List, [], ◌∷◌, ◌++◌, Option, None, Some, if◌then◌else◌, refl, ap, ◌∙◌, flat_map, codes}
use Rattle.std.proofs.Common.{option_to_list}
use Rattle.std.proofs.lemmas.Bool.{and_parts}
use Rattle.std.proofs.lemmas.List.{append_assoc}
use Rattle.std.specs.List.{list_all}
use Rattle.grammar_model.specs.Relations.{One, Image, Either, Optional, Many, Separated, Empty, ◌&◌, ◌&>◌, ◌<&◌}
use Rattle.idl_model.specs.Grammar.{Tokens, Keyword, Mark, IsName, of_table, listed_of, Listed, ways, parameter_of, IsParameter, IsFlag, IsFlags}
use Rattle.idl_model.specs.Grammar.{attribute_flags, IsAccessor, Accessors, get_first, set_first, AreAccessors, accessors_of, IsBase, attribute_of, method_of}
use Rattle.idl_model.specs.Grammar.{IsMethod, IsAttribute}
use Rattle.idl_model.specs.Grammar.{IsFlaggedMember, IsInterfaceMember, MayHaveBase}
use Rattle.idl_model.specs.Trees.{Flag}
use Rattle.idl_model.specs.Trees as tree
use Rattle.idl_text_model.specs.Tokens.{quoted}
use Rattle.registry_text_model.specs.Canonical.{absolute, kind_tokens, raises_tokens, listed, is_only_base, only_base, base_members, behind_colon}
use Rattle.registry_text_model.specs.Canonical.{accessor_tokens, accessors, access_flag}
use Rattle.registry_text_model.specs.Canonical.{param_tokens, member_tokens, base_tokens}
use Rattle.registry_text_model.specs.Canonical as text
use Rattle.registry_text_model.specs.Lines.{way_word}
use Rattle.uno_model.specs.Entities as uno
use Rattle.uno_model.specs.Names.{is_identifier, is_entity_name}
use Rattle.uno_model.specs.Registry.{at_most_one}
use Rattle.uno_model.specs.Sound.{is_some_list}
use Rattle.uno_model.specs.declared.way.Way.{Way}
use Rattle.uno_model.specs.declared.way.Way.TheVariants.{Into, Out, Both}
use Rattle.canonical_laws.proofs.ChunkWords.{keyword_chunk}
use Rattle.canonical_laws.proofs.RuleReadings.{Reads, reads_one, Anything, reads_keyword, reads_mark, reads_id}
use Rattle.canonical_laws.proofs.RuleReadings.{reads_seq, reads_image, reads_as, reads_then, reads_before, reads_left, reads_right, reads_none, reads_some}
use Rattle.canonical_laws.proofs.RuleReadings.{reads_no_more, reads_one_more, reads_many, reads_listed}
use Rattle.canonical_laws.proofs.TypeReadings.{fine_kind, reads_name, reads_kind, Raised, reads_some_raises, reads_raises}
use Rattle.canonical_laws.specs.Written.{Each, WritesName, WritesRaised, access_flags, WritesParameter, WritesMember, WritesBase}
use Rattle.canonical_laws.specs.Written.{bases_behind_colon, bases_among_members, WritesBaseOf}

-- ---- lists in parentheses

pub reads_parentheses : {X A : Type 0} (P : X → Tokens → Type 0) (R : X → A → Type 0) (tokens : A → List (List ℕ)) (fine : A → Bool)
    → ((a : A) → fine a ≡ true → Reads P (λ x. R x a) (tokens a)) → (list : List A) → list_all fine list ≡ true
    → Reads (Listed P) (λ xs. Each R xs list) (codes "(" ∷ (listed tokens list ++ codes ")" ∷ []))
unfolding listed
reads_parentheses P R tokens fine each [] all =
    reads_image listed_of (λ xs. Each R xs []) (λ o is. is)
    (reads_then (reads_mark (codes "(") refl) (reads_before (reads_none (Separated P (Mark (codes ","))) (λ o. Each R (listed_of o) []) tt)
    (reads_mark (codes ")") refl)))
reads_parentheses P R tokens fine each (a ∷ list) all =
    reads_image listed_of (λ xs. Each R xs (a ∷ list)) (λ o is. is)
    (reads_then (reads_mark (codes "(") refl) (reads_before (reads_some (λ o. Each R (listed_of o) (a ∷ list)) (λ xs is. is)
    (reads_listed P R tokens fine each (a ∷ list) refl all)) (reads_mark (codes ")") refl)))

-- ---- methods

abbrev pub fine_param : uno.Param → Bool
fine_param p = is_identifier p.name && fine_kind p.kind

abbrev pub fine_method : uno.Method → Bool
fine_method m = (is_identifier m.name && fine_kind m.result_kind) && (list_all fine_param m.params && list_all is_entity_name m.raises)

reads_way : (w : Way) → Reads (One (λ t. of_table ways t.word)) (λ v. v ≡ w) (way_word w ∷ [])
unfolding way_word
reads_way Into =
    reads_one (λ t. of_table ways t.word) (λ v. v ≡ Into) (codes "in") (quoted (codes "in")) (keyword_chunk (codes "in") refl refl)
    (λ t said. (Into, rw said refl, refl))
reads_way Out =
    reads_one (λ t. of_table ways t.word) (λ v. v ≡ Out) (codes "out") (quoted (codes "out")) (keyword_chunk (codes "out") refl refl)
    (λ t said. (Out, rw said refl, refl))
reads_way Both =
    reads_one (λ t. of_table ways t.word) (λ v. v ≡ Both) (codes "inout") (quoted (codes "inout")) (keyword_chunk (codes "inout") refl refl)
    (λ t said. (Both, rw said refl, refl))

reads_param : (p : uno.Param) → fine_param p ≡ true → Reads IsParameter (λ t. WritesParameter t p) (param_tokens p)
reads_param p fine =
    let parts = and_parts (is_identifier p.name) (fine_kind p.kind) fine in
    reads_image parameter_of (λ t. WritesParameter t p) (λ z is. record { way = is.0; type = (is.1).0; name = (is.1).1 })
    (reads_then (reads_mark (codes "[") refl) (reads_seq (reads_way p.way) (reads_then (reads_mark (codes "]") refl)
    (reads_seq (reads_kind p.kind parts.1) (reads_id p.name parts.0)))))

abbrev plain_method : uno.Method → List (List ℕ)
plain_method m =
    kind_tokens m.result_kind ++ (m.name ∷ (codes "(" ∷ (listed param_tokens m.params ++ (codes ")" ∷ (raises_tokens m.raises ++ codes ";" ∷ [])))))

reads_method : (flag : Bool) (m : uno.Method) → flag ≡ m.oneway → fine_method m ≡ true
    → Reads (IsMethod flag) (λ t. WritesMember t (uno.method m)) (plain_method m)
reads_method flag m same fine =
    let parts = and_parts (is_identifier m.name && fine_kind m.result_kind) _ fine in
    let own = and_parts (is_identifier m.name) (fine_kind m.result_kind) parts.0 in
    let rest = and_parts (list_all fine_param m.params) (list_all is_entity_name m.raises) parts.1 in
    let params = listed param_tokens m.params in
    let raises = raises_tokens m.raises ++ codes ";" ∷ [] in
    reads_as (kind_tokens m.result_kind ++ (m.name ∷ (codes "(" ∷ ((params ++ codes ")" ∷ []) ++ raises)))) (plain_method m)
    (ap (λ x. kind_tokens m.result_kind ++ (m.name ∷ (codes "(" ∷ x))) (append_assoc params (codes ")" ∷ []) raises))
    (reads_image (method_of flag) (λ t. WritesMember t (uno.method m))
    (λ z is. (m, refl, record { oneway = same; result = is.0; name = (is.1).0; parameters = ((is.1).1).0; raises = ((is.1).1).1 }))
    (reads_seq (reads_kind m.result_kind own.1) (reads_seq (reads_id m.name own.0)
    (reads_seq (reads_parentheses IsParameter WritesParameter param_tokens fine_param reads_param m.params rest.0) (reads_raises m.raises rest.1)))))

-- ---- attributes

abbrev pub fine_attribute : uno.Attribute → Bool
fine_attribute a = (is_identifier a.name && fine_kind a.kind) && (list_all is_entity_name a.get_raises && list_all is_entity_name a.set_raises)

readonly_here : Reads (Mark (codes ",") &> IsFlag attribute_flags) (λ f. f ≡ tree.readonly_flag) (codes "," ∷ (codes "readonly" ∷ []))
readonly_here =
    reads_then (reads_mark (codes ",") refl)
    (reads_one (λ t. of_table attribute_flags t.word) (λ f. f ≡ tree.readonly_flag) (codes "readonly") (quoted (codes "readonly"))
    (keyword_chunk (codes "readonly") refl refl)
    (λ t said. (tree.readonly_flag, rw said refl, refl)))

abbrev pub IsSame : Flag → Flag → Type 0
IsSame f g = f ≡ g

pub same_flags : (fs gs : List Flag) → Each IsSame fs gs → fs ≡ gs
same_flags [] [] is = refl
same_flags [] (g ∷ gs) is = absurd is
same_flags (f ∷ fs) [] is = absurd is
same_flags (f ∷ fs) (g ∷ gs) is = flag_in_front f g fs gs is.0 (same_flags fs gs is.1)
  where
    flag_in_front : (f g : Flag) (fs gs : List Flag) → f ≡ g → fs ≡ gs → f ∷ fs ≡ g ∷ gs
    flag_in_front f g fs gs here others = rw (here, others) refl

-- no flag before the word that must stand, and at most one behind it
reads_access : (ro : Bool) → Reads (IsFlags attribute_flags (codes "attribute")) (λ fs. fs ≡ access_flags ro) (codes "attribute" ∷ access_flag ro)
reads_access true =
    reads_image (λ z. z.0 ++ z.1) (λ fs. fs ≡ tree.readonly_flag ∷ [])
    (λ z is. ap (λ x. x ++ z.1) (same_flags z.0 [] is.0) ∙ same_flags z.1 (tree.readonly_flag ∷ []) is.1)
    (reads_seq (reads_no_more (IsFlag attribute_flags <& Mark (codes ",")) IsSame)
    (reads_then (reads_keyword (codes "attribute") refl refl)
    (reads_one_more tree.readonly_flag [] readonly_here (reads_no_more (Mark (codes ",") &> IsFlag attribute_flags) IsSame))))
reads_access false =
    reads_image (λ z. z.0 ++ z.1) (λ fs. fs ≡ []) (λ z is. ap (λ x. x ++ z.1) (same_flags z.0 [] is.0) ∙ same_flags z.1 [] is.1)
    (reads_seq (reads_no_more (IsFlag attribute_flags <& Mark (codes ",")) IsSame)
    (reads_then (reads_keyword (codes "attribute") refl refl) (reads_no_more (Mark (codes ",") &> IsFlag attribute_flags) IsSame)))

reads_accessor : (word n : List ℕ) (ns : List (List ℕ)) → Reads (Keyword word) Anything (word ∷ []) → list_all is_entity_name (n ∷ ns) ≡ true
    → Reads (IsAccessor word) (Raised (n ∷ ns)) (accessor_tokens word (n ∷ ns))
reads_accessor word n ns here all = reads_then here (reads_before (reads_some_raises n ns all) (reads_mark (codes ";") refl))

-- what `get` and `set` raise
abbrev Told : List (List ℕ) → List (List ℕ) → Accessors → Type 0
Told get set z = WritesRaised z.0 get × WritesRaised z.1 set

abbrev ToldIf : List (List ℕ) → List (List ℕ) → Option Accessors → Type 0
ToldIf get set o = Told get set (accessors_of o)

get_word : Reads (Keyword (codes "get")) Anything (codes "get" ∷ [])
get_word = reads_keyword (codes "get") refl refl

set_word : Reads (Keyword (codes "set")) Anything (codes "set" ∷ [])
set_word = reads_keyword (codes "set") refl refl

in_braces : (get set : List (List ℕ)) (ts : List (List ℕ)) → Reads AreAccessors (Told get set) ts
    → Reads (Optional (Mark (codes "{") &> AreAccessors <& Mark (codes "}"))) (ToldIf get set) (codes "{" ∷ (ts ++ codes "}" ∷ []))
in_braces get set ts inner =
    reads_some (ToldIf get set) (λ z is. is) (reads_then (reads_mark (codes "{") refl) (reads_before inner (reads_mark (codes "}") refl)))

abbrev accessors_printed : List (List ℕ) → List (List ℕ) → List (List ℕ)
accessors_printed get set = if is_some_list get || is_some_list set
    then codes "{" ∷ (accessor_tokens (codes "get") get ++ (accessor_tokens (codes "set") set ++ codes "}" ∷ []))
    else []

reads_accessors : (get set : List (List ℕ)) → list_all is_entity_name get ≡ true → list_all is_entity_name set ≡ true
    → Reads (Optional (Mark (codes "{") &> AreAccessors <& Mark (codes "}"))) (ToldIf get set) (accessors_printed get set)
reads_accessors [] [] fine other = reads_none (Mark (codes "{") &> AreAccessors <& Mark (codes "}")) (ToldIf [] []) (refl, refl)
reads_accessors (n ∷ ns) [] fine other =
    let g = accessor_tokens (codes "get") (n ∷ ns) in
    reads_as (codes "{" ∷ ((g ++ []) ++ codes "}" ∷ [])) (codes "{" ∷ (g ++ codes "}" ∷ [])) (ap (λ x. codes "{" ∷ x) (append_assoc g [] (codes "}" ∷ [])))
    (in_braces (n ∷ ns) [] (g ++ [])
    (reads_left (Either (Image set_first (IsAccessor (codes "set") & Optional (IsAccessor (codes "get")))) (Empty (None, None)))
    (reads_image get_first (Told (n ∷ ns) []) (λ z is. ((refl, is.0), is.1))
    (reads_seq (reads_accessor (codes "get") n ns get_word fine) (reads_none (IsAccessor (codes "set")) (λ o. WritesRaised o []) refl)))))
reads_accessors [] (m ∷ ms) fine other =
    let s = accessor_tokens (codes "set") (m ∷ ms) in
    reads_as (codes "{" ∷ ((s ++ []) ++ codes "}" ∷ [])) (codes "{" ∷ (s ++ codes "}" ∷ [])) (ap (λ x. codes "{" ∷ x) (append_assoc s [] (codes "}" ∷ [])))
    (in_braces [] (m ∷ ms) (s ++ [])
    (reads_right (Image get_first (IsAccessor (codes "get") & Optional (IsAccessor (codes "set"))))
    (reads_left (Empty (None, None))
    (reads_image set_first (Told [] (m ∷ ms)) (λ z is. (is.1, (refl, is.0)))
    (reads_seq (reads_accessor (codes "set") m ms set_word other) (reads_none (IsAccessor (codes "get")) (λ o. WritesRaised o []) refl))))))
reads_accessors (n ∷ ns) (m ∷ ms) fine other =
    let g = accessor_tokens (codes "get") (n ∷ ns) in
    let s = accessor_tokens (codes "set") (m ∷ ms) in
    reads_as (codes "{" ∷ ((g ++ s) ++ codes "}" ∷ [])) (codes "{" ∷ (g ++ (s ++ codes "}" ∷ []))) (ap (λ x. codes "{" ∷ x) (append_assoc g s (codes "}" ∷ [])))
    (in_braces (n ∷ ns) (m ∷ ms) (g ++ s)
    (reads_left (Either (Image set_first (IsAccessor (codes "set") & Optional (IsAccessor (codes "get")))) (Empty (None, None)))
    (reads_image get_first (Told (n ∷ ns) (m ∷ ms)) (λ z is. ((refl, is.0), is.1))
    (reads_seq (reads_accessor (codes "get") n ns get_word fine)
    (reads_some (λ o. WritesRaised o (m ∷ ms)) (λ paths is. (refl, is)) (reads_accessor (codes "set") m ms set_word other))))))

-- behind the `[`
abbrev attribute_printed : uno.Attribute → List (List ℕ)
attribute_printed a = codes "attribute" ∷ (access_flag a.read_only ++ (codes "]" ∷ (kind_tokens a.kind ++ (a.name ∷ (accessors a ++ codes ";" ∷ [])))))

reads_attribute : (a : uno.Attribute) → fine_attribute a ≡ true → Reads IsAttribute (λ t. WritesMember t (uno.attribute a)) (attribute_printed a)
reads_attribute a fine =
    let parts = and_parts (is_identifier a.name && fine_kind a.kind) _ fine in
    let own = and_parts (is_identifier a.name) (fine_kind a.kind) parts.0 in
    let rest = and_parts (list_all is_entity_name a.get_raises) (list_all is_entity_name a.set_raises) parts.1 in
    reads_image attribute_of (λ t. WritesMember t (uno.attribute a))
    (λ z is. (a, refl, record { flags = is.0; type = (is.1).0; name = ((is.1).1).0; get = (((is.1).1).1).0; set = (((is.1).1).1).1 }))
    (reads_seq (reads_access a.read_only) (reads_then (reads_mark (codes "]") refl) (reads_seq (reads_kind a.kind own.1) (reads_seq (reads_id a.name own.0)
    (reads_before (reads_accessors a.get_raises a.set_raises rest.0 rest.1) (reads_mark (codes ";") refl))))))

-- ---- members

abbrev pub fine_member : uno.Member → Bool
fine_member (uno.attribute a) = fine_attribute a
fine_member (uno.method m) = fine_method m

method_by_flag : (flag : Bool) (m : uno.Method) → flag ≡ m.oneway → fine_method m ≡ true
    → Reads IsInterfaceMember (λ t. WritesMember t (uno.method m)) (text.oneway_flag flag ++ plain_method m)
method_by_flag true m same fine =
    reads_left (Either (IsBase false) (IsMethod false)) (reads_then (reads_mark (codes "[") refl)
    (reads_right (Keyword (codes "optional") &> Mark (codes "]") &> IsBase true) (reads_left IsAttribute
    (reads_then (reads_keyword (codes "oneway") refl refl) (reads_then (reads_mark (codes "]") refl) (reads_method true m same fine))))))
method_by_flag false m same fine = reads_right (Mark (codes "[") &> IsFlaggedMember) (reads_right (IsBase false) (reads_method false m same fine))

pub reads_member : (m : uno.Member) → fine_member m ≡ true → Reads IsInterfaceMember (λ t. WritesMember t m) (member_tokens m)
reads_member (uno.attribute a) fine =
    reads_left (Either (IsBase false) (IsMethod false)) (reads_then (reads_mark (codes "[") refl)
    (reads_right (Keyword (codes "optional") &> Mark (codes "]") &> IsBase true) (reads_right (Keyword (codes "oneway") &> Mark (codes "]") &> IsMethod true)
    (reads_attribute a fine))))
reads_member (uno.method m) fine = method_by_flag m.oneway m refl fine

-- ---- bases

abbrev pub fine_base : uno.Base → Bool
fine_base b = is_entity_name b.name

reads_base : (flag : Bool) (b : uno.Base) → flag ≡ b.optional → fine_base b ≡ true
    → Reads (IsBase flag) (λ t. WritesBase t b) (codes "interface" ∷ (absolute b.name ∷ (codes ";" ∷ [])))
reads_base flag b same fine =
    reads_image (tree.base_member flag) (λ t. WritesBase t b) (λ path is. (same, is))
    (reads_then (reads_keyword (codes "interface") refl refl) (reads_before (reads_name b.name fine) (reads_mark (codes ";") refl)))

base_by_flag : (flag : Bool) (b : uno.Base) → flag ≡ b.optional → fine_base b ≡ true
    → Reads IsInterfaceMember (λ t. WritesBase t b) (text.optional_flag flag ++ (codes "interface" ∷ (absolute b.name ∷ (codes ";" ∷ []))))
base_by_flag true b same fine =
    reads_left (Either (IsBase false) (IsMethod false)) (reads_then (reads_mark (codes "[") refl)
    (reads_left (Either (Keyword (codes "oneway") &> Mark (codes "]") &> IsMethod true) IsAttribute)
    (reads_then (reads_keyword (codes "optional") refl refl) (reads_then (reads_mark (codes "]") refl) (reads_base true b same fine)))))
base_by_flag false b same fine = reads_right (Mark (codes "[") &> IsFlaggedMember) (reads_left (IsMethod false) (reads_base false b same fine))

one_base : (b : uno.Base) → fine_base b ≡ true → Reads IsInterfaceMember (λ t. WritesBase t b) (text.base_member b)
one_base b fine = base_by_flag b.optional b refl fine

reads_behind_colon : (full : List ℕ) → is_entity_name full ≡ true → Reads MayHaveBase (λ o. Each WritesName (option_to_list o) (full ∷ [])) (behind_colon full)
reads_behind_colon full is =
    reads_some (λ o. Each WritesName (option_to_list o) (full ∷ [])) (λ path written. (written, tt))
    (reads_then (reads_mark (codes ":") refl) (reads_name full is))

nothing_behind_colon : Reads MayHaveBase (λ o. Each WritesName (option_to_list o) []) []
nothing_behind_colon = reads_none (Mark (codes ":") &> IsName) (λ o. Each WritesName (option_to_list o) []) tt

pub reads_base_of : (base : Option (List ℕ)) → list_all is_entity_name (at_most_one base) ≡ true
    → Reads MayHaveBase (λ o. WritesBaseOf o base) (base_tokens base)
reads_base_of None all = nothing_behind_colon
reads_base_of (Some full) all = reads_behind_colon full (and_parts (is_entity_name full) true all).0

pub reads_only_base : (bases : List uno.Base) → list_all fine_base bases ≡ true
    → Reads MayHaveBase (λ o. Each WritesName (option_to_list o) (bases_behind_colon bases)) (only_base bases)
reads_only_base [] all = nothing_behind_colon
reads_only_base (b ∷ []) all = by_flag b.optional refl (and_parts (fine_base b) true all).0
  where
    by_flag : (flag : Bool) → b.optional ≡ flag → fine_base b ≡ true
        → Reads MayHaveBase (λ o. Each WritesName (option_to_list o) (bases_behind_colon (b ∷ []))) (only_base (b ∷ []))
    by_flag true e fine = rw e nothing_behind_colon
    by_flag false e fine = rw e (reads_behind_colon b.name fine)
reads_only_base (b ∷ (c ∷ bases)) all = nothing_behind_colon

pub reads_base_members : (bases : List uno.Base) → list_all fine_base bases ≡ true
    → Reads (Many IsInterfaceMember) (λ ts. Each WritesBase ts (bases_among_members bases)) (base_members bases)
reads_base_members bases all = by_only (is_only_base bases)
  where
    by_only : (only : Bool)
        → Reads (Many IsInterfaceMember) (λ ts. Each WritesBase ts (if only then [] else bases)) (if only then [] else flat_map text.base_member bases)
    by_only true = reads_no_more IsInterfaceMember WritesBase
    by_only false = reads_many IsInterfaceMember WritesBase text.base_member fine_base one_base bases all
