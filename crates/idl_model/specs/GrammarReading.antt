-- The reading of UNOIDL: each rule of `Grammar` under its name, as what stands at the front of tokens. Limits are numbers: how many `<`, parentheses and
-- modules may still open.
use Rattle.std.specs.Prelude.{ℕ, zero, suc, Bool, true, false, not, ◌&&◌, ◌||◌, ◌==◌, List, [], ◌∷◌, ◌++◌, is_some, Option, None, Some, Result, codes}
use Rattle.std.specs.Prelude.{if◌then◌else◌}
use Rattle.grammar_model.specs.Readings.{Reads, one, touching, empty, image, choice, optional, many, separated, separated_and_last, closed}
use Rattle.grammar_model.specs.Readings.{verdict, ◌&◌, ◌&>◌, ◌<&◌}
use Rattle.grammar_model.specs.declared.fault.Fault.{Fault}
use Rattle.idl_model.specs.Grammar.{terminal_at, place_of_terminal, of_table, of_marks, id_at, path_of}
use Rattle.idl_model.specs.Grammar.{simple_at, unsigned_at}
use Rattle.idl_model.specs.Grammar.{operator_marks, shift_marks, sign_marks, truth_words, number_of, property_flags, property_of, listed_of}
use Rattle.idl_model.specs.Grammar.{constructor_parameter_of, constructor_of}
use Rattle.idl_model.specs.Grammar.{ways, parameter_of, attribute_flags, Accessors, get_first, set_first, attribute_of, method_of, item_of}
use Rattle.idl_model.specs.Grammar.{items_of, decl_of, fields_of, constant_of, typedef_of}
use Rattle.idl_model.specs.Places.{Place}
use Rattle.idl_model.specs.PlacedTokens.{PlacedToken, next_word, is_word, is_next, touches}
use Rattle.idl_model.specs.Trees.{Id, Path, Simple, WrittenType, simple, named, sequence_of, no_arguments, Operator, strength, Sign, Expr, number, truth}
use Rattle.idl_model.specs.Trees.{constant, parentheses, signed, chain, operands}
use Rattle.idl_model.specs.Trees.{Fields, Item, Constant, Flag, optional_flag, Parameter, InterfaceMember, base_member}
use Rattle.idl_model.specs.Trees.{ConstructorParameter, Constructor, ServiceMember, face, subservice}
use Rattle.idl_model.specs.Trees.{Declaration, forward, interface, struct, exception, constants, new_service, old_service, new_singleton, old_singleton}
use Rattle.idl_model.specs.Trees.{Decl, Def, in_module, declared, defs, Tree}
use Rattle.idl_text_model.specs.Tokens.{Word}
use Rattle.idl_text_model.specs.Tokens as token

abbrev pub ReadsTokens : Type 0 → Type 0
ReadsTokens X = Reads PlacedToken X

-- ---- words, marks and identifiers

abbrev pub keyword : List ℕ → ReadsTokens (Unit {0})
keyword w = one (terminal_at (token.quoted w))

abbrev pub mark : List ℕ → ReadsTokens (Unit {0})
mark w = one (terminal_at (token.mark w))

abbrev pub keyword_place : List ℕ → ReadsTokens Place
keyword_place w = one (place_of_terminal (token.quoted w))

abbrev pub mark_place : List ℕ → ReadsTokens Place
mark_place w = one (place_of_terminal (token.mark w))

-- what the next token is asked
abbrev pub is_keyword : List ℕ → Option PlacedToken → Bool
is_keyword w o = is_next (token.quoted w) o

abbrev pub is_mark : List ℕ → Option PlacedToken → Bool
is_mark w o = is_next (token.mark w) o

abbrev pub is_in_table : {X : Type 0} → List (List ℕ × X) → Option Word → Bool
is_in_table rows None = false
is_in_table rows (Some w) = is_some (of_table rows w)

abbrev pub is_in_marks : {X : Type 0} → List (List ℕ × X) → Option Word → Bool
is_in_marks rows None = false
is_in_marks rows (Some w) = is_some (of_marks rows w)

abbrev pub is_one_of : {X : Type 0} → List (List ℕ × X) → Option PlacedToken → Bool
is_one_of rows o = is_in_table rows (next_word o)

abbrev pub is_mark_of : {X : Type 0} → List (List ℕ × X) → Option PlacedToken → Bool
is_mark_of rows o = is_in_marks rows (next_word o)

abbrev pub id : ReadsTokens Id
id = one id_at

abbrev pub is_identifier_word : Option Word → Bool
is_identifier_word (Some (token.identifier name)) = true
is_identifier_word _ = false

abbrev pub is_identifier : Option PlacedToken → Bool
is_identifier o = is_identifier_word (next_word o)

abbrev pub is_number_word : Option Word → Bool
is_number_word (Some (token.number n)) = true
is_number_word _ = false

abbrev pub is_number : Option PlacedToken → Bool
is_number o = is_number_word (next_word o)

-- ---- name, type

unfoldable pub name : ReadsTokens Path
name = image path_of (optional (is_mark (codes "::")) (mark_place (codes "::")) & id & many (is_mark (codes "::")) (mark (codes "::") &> id))

abbrev pub simple_of : Place × Simple → WrittenType
simple_of z = simple z.0 z.1

abbrev pub named_of : Path → WrittenType
named_of path = named path no_arguments

abbrev pub sequence_type : Place × WrittenType → WrittenType
sequence_type z = sequence_of z.0 z.1

unfoldable pub simple_type : ReadsTokens (Place × Simple)
simple_type = choice (is_keyword (codes "unsigned")) (keyword_place (codes "unsigned") & one unsigned_at) (one simple_at)

-- a simple type or a name, or a sequence whose `<`, type and `>` are read so
abbrev pub begins_name : Option PlacedToken → Bool
begins_name o = is_mark (codes "::") o || is_identifier o

abbrev pub type_by : ReadsTokens WrittenType → ReadsTokens WrittenType
type_by element = choice (is_keyword (codes "sequence")) (image sequence_type (keyword_place (codes "sequence") & element))
    (choice begins_name (image named_of name) (image simple_of simple_type))

unfoldable pub element_at : (types : ℕ) → ReadsTokens WrittenType
element_at zero = closed (is_mark (codes "<"))
element_at (suc types) = mark (codes "<") &> type_by (element_at types) <& mark (codes ">")

unfoldable pub type : (types : ℕ) → ReadsTokens WrittenType
type types = type_by (element_at types)

-- ---- expr

abbrev pub signed_of : List Sign × Expr → Expr
signed_of ([], e) = e
signed_of (s ∷ signs, e) = signed (s ∷ signs) e

abbrev pub chained : Expr × List (Operator × Expr) → Expr
chained (e, []) = e
chained (e, x ∷ xs) = chain e (operands (x ∷ xs))

abbrev pub of_level : ℕ → Option Operator → Option Operator
of_level level None = None
of_level level (Some op) = if strength op == level then Some op else None

abbrev pub operator_at : ℕ → PlacedToken → Option Operator
operator_at level t = of_level level (of_marks operator_marks t.word)

abbrev pub shift_at : PlacedToken → Option Operator
shift_at t = of_marks shift_marks t.word

abbrev pub is_operator_word : ℕ → Option Word → Bool
is_operator_word level None = false
is_operator_word level (Some w) = is_some (of_level level (of_marks operator_marks w))

abbrev pub is_operator : ℕ → Option PlacedToken → Bool
is_operator level o = is_operator_word level (next_word o)

-- an atom, where parentheses with what stands in them are read so
abbrev pub atom_by : ReadsTokens Expr → ReadsTokens Expr
atom_by group = choice (is_mark (codes "(")) (image parentheses group)
    (choice is_number (image number (one (λ t. number_of t.word)))
    (choice (is_one_of truth_words) (image truth (one (λ t. of_table truth_words t.word))) (image constant name)))

abbrev pub signed_by : ReadsTokens Expr → ReadsTokens Expr
signed_by group = image signed_of (many (is_mark_of sign_marks) (one (λ t. of_marks sign_marks t.word)) & atom_by group)

abbrev pub chain_by : (Option PlacedToken → Bool) → ReadsTokens Operator → ReadsTokens Expr → ReadsTokens Expr
chain_by c operator operand = image chained (operand & many c (operator & operand))

abbrev pub level_by : ℕ → ReadsTokens Expr → ReadsTokens Expr
level_by level operand = chain_by (is_operator level) (one (operator_at level)) operand

abbrev pub products_by : ReadsTokens Expr → ReadsTokens Expr
products_by group = level_by 5 (signed_by group)

abbrev pub sums_by : ReadsTokens Expr → ReadsTokens Expr
sums_by group = level_by 4 (products_by group)

abbrev pub shifts_by : ReadsTokens Expr → ReadsTokens Expr
shifts_by group = chain_by (is_mark_of shift_marks) (touching shift_at touches) (sums_by group)

abbrev pub expr_by : ReadsTokens Expr → ReadsTokens Expr
expr_by group = level_by 0 (level_by 1 (level_by 2 (shifts_by group)))

unfoldable pub group_at : (brackets : ℕ) → ReadsTokens Expr
group_at zero = closed (is_mark (codes "("))
group_at (suc brackets) = mark (codes "(") &> expr_by (group_at brackets) <& mark (codes ")")

unfoldable pub expr : (brackets : ℕ) → ReadsTokens Expr
expr brackets = expr_by (group_at brackets)

-- ---- flags, raises, lists in parentheses

abbrev pub flag : List (List ℕ × Flag) → ReadsTokens Flag
flag table = one (λ t. of_table table t.word)

unfoldable pub flags : List (List ℕ × Flag) → List ℕ → ReadsTokens (List Flag)
flags table word = image (λ z. z.0 ++ z.1) (many (is_one_of table) (flag table <& mark (codes ",")) & keyword word &> many (is_mark (codes ","))
    (mark (codes ",") &> flag table))

unfoldable pub raises : ReadsTokens (List Path)
raises = keyword (codes "raises") &> mark (codes "(") &> separated (is_mark (codes ",")) name (mark (codes ",")) <& mark (codes ")")

abbrev pub may_raise : ReadsTokens (List Path)
may_raise = image listed_of (optional (is_keyword (codes "raises")) raises <& mark (codes ";"))

abbrev pub listed_by : {X : Type 0} → (Option PlacedToken → Bool) → ReadsTokens X → ReadsTokens (List X)
listed_by c r = image listed_of (mark (codes "(") &> optional c (separated (is_mark (codes ",")) r (mark (codes ","))) <& mark (codes ")"))

-- ---- services

abbrev pub part : Bool → ReadsTokens ServiceMember
part optional = choice (is_keyword (codes "interface")) (image (face optional) (keyword (codes "interface") &> name <& mark (codes ";")))
    (image (subservice optional) (keyword (codes "service") &> name <& mark (codes ";")))

unfoldable pub constructor_parameter : (types : ℕ) → ReadsTokens ConstructorParameter
constructor_parameter types = image constructor_parameter_of
    (mark (codes "[") &> keyword (codes "in") &> mark (codes "]") &> type types & optional (is_mark (codes "...")) (mark (codes "...")) & id)

unfoldable pub constructor : (types : ℕ) → ReadsTokens Constructor
constructor types = image constructor_of
    (id & listed_by (is_mark (codes "[")) (constructor_parameter types) & may_raise)

abbrev pub property_tail : (types : ℕ) → ReadsTokens (WrittenType × Id)
property_tail types = mark (codes "]") &> type types & id <& mark (codes ";")

-- behind `optional` in brackets: the end of the brackets, or other flags
abbrev pub optional_property_of : List Flag × (WrittenType × Id) → ServiceMember
optional_property_of z = property_of (optional_flag ∷ z.0, z.1)

unfoldable pub flagged_service_member : (types : ℕ) → ReadsTokens ServiceMember
flagged_service_member types = choice (is_keyword (codes "optional"))
    (keyword (codes "optional") &> choice (is_mark (codes "]")) (mark (codes "]") &> part true)
    (mark (codes ",") &> image optional_property_of (flags property_flags (codes "property") & property_tail types)))
    (image property_of (flags property_flags (codes "property") & property_tail types))

unfoldable pub service_member : (types : ℕ) → ReadsTokens ServiceMember
service_member types = choice (is_mark (codes "[")) (mark (codes "[") &> flagged_service_member types) (part false)

-- ---- interfaces

unfoldable pub parameter : (types : ℕ) → ReadsTokens Parameter
parameter types = image parameter_of (mark (codes "[") &> one (λ t. of_table ways t.word) & mark (codes "]") &> type types & id)

unfoldable pub accessor : List ℕ → ReadsTokens (List Path)
accessor word = keyword word &> raises <& mark (codes ";")

unfoldable pub accessors : ReadsTokens Accessors
accessors = choice (is_keyword (codes "get")) (image get_first (accessor (codes "get") & optional (is_keyword (codes "set")) (accessor (codes "set"))))
    (choice (is_keyword (codes "set")) (image set_first (accessor (codes "set") & optional (is_keyword (codes "get")) (accessor (codes "get"))))
    (empty (None, None)))

abbrev pub base : Bool → ReadsTokens InterfaceMember
base optional = image (base_member optional) (keyword (codes "interface") &> name <& mark (codes ";"))

unfoldable pub method : (types : ℕ) → Bool → ReadsTokens InterfaceMember
method types oneway = image (method_of oneway)
    (type types & id & listed_by (is_mark (codes "[")) (parameter types) & may_raise)

unfoldable pub attribute : (types : ℕ) → ReadsTokens InterfaceMember
attribute types = image attribute_of (flags attribute_flags (codes "attribute") & mark (codes "]") &> type types & id
    & optional (is_mark (codes "{")) (mark (codes "{") &> accessors <& mark (codes "}")) <& mark (codes ";"))

unfoldable pub flagged_member : (types : ℕ) → ReadsTokens InterfaceMember
flagged_member types = choice (is_keyword (codes "optional")) (keyword (codes "optional") &> mark (codes "]") &> base true)
    (choice (is_keyword (codes "oneway")) (keyword (codes "oneway") &> mark (codes "]") &> method types true) (attribute types))

unfoldable pub interface_member : (types : ℕ) → ReadsTokens InterfaceMember
interface_member types = choice (is_mark (codes "[")) (mark (codes "[") &> flagged_member types)
    (choice (is_keyword (codes "interface")) (base false) (method types false))

-- ---- declarations

-- as long as neither the mark that closes stands there nor the text is over
abbrev pub is_open_word : List ℕ → Option Word → Bool
is_open_word w o = is_some o && not (is_word (token.mark w) o)

abbrev pub is_open : List ℕ → Option PlacedToken → Bool
is_open w o = is_open_word w (next_word o)

abbrev pub braced : {X : Type 0} → ReadsTokens X → ReadsTokens X
braced r = mark (codes "{") &> r <& mark (codes "}")

abbrev pub braced_list : {X : Type 0} → ReadsTokens X → ReadsTokens (List X)
braced_list r = braced (many (is_open (codes "}")) r)

abbrev pub may_have_base : ReadsTokens (Option Path)
may_have_base = optional (is_mark (codes ":")) (mark (codes ":") &> name)

unfoldable pub interface_decl : (types : ℕ) → ReadsTokens Declaration
interface_decl types = choice (is_mark (codes ";")) (image (λ z. forward) (mark (codes ";")))
    (image (λ z. interface z.0 z.1) (may_have_base & braced_list (interface_member types) <& mark (codes ";")))

unfoldable pub fields : (types : ℕ) → ReadsTokens Fields
fields types = image fields_of (type types & separated (is_mark (codes ",")) id (mark (codes ",")) <& mark (codes ";"))

unfoldable pub struct_decl : (types : ℕ) → ReadsTokens Declaration
struct_decl types = image (λ z. struct z.0 z.1) (may_have_base & braced_list (fields types) <& mark (codes ";"))

unfoldable pub exception_decl : (types : ℕ) → ReadsTokens Declaration
exception_decl types = image (λ z. exception z.0 z.1) (may_have_base & braced_list (fields types) <& mark (codes ";"))

unfoldable pub item : (brackets : ℕ) → ReadsTokens Item
item brackets = image item_of (id & optional (is_mark (codes "=")) (mark (codes "=") &> expr brackets))

unfoldable pub enum_decl : (brackets : ℕ) → ReadsTokens Declaration
enum_decl brackets = image items_of (braced (separated_and_last (is_mark (codes ",")) is_identifier (item brackets) (mark (codes ","))) <& mark (codes ";"))

unfoldable pub const : (types brackets : ℕ) → ReadsTokens Constant
const types brackets = image constant_of (keyword (codes "const") &> type types & id & mark (codes "=") &> expr brackets <& mark (codes ";"))

unfoldable pub constants_decl : (types brackets : ℕ) → ReadsTokens Declaration
constants_decl types brackets = image constants (braced_list (const types brackets) <& mark (codes ";"))

unfoldable pub typedef_decl : (types : ℕ) → ReadsTokens Decl
typedef_decl types = image typedef_of (keyword (codes "typedef") &> type types & id <& mark (codes ";"))

unfoldable pub service_decl : (types : ℕ) → ReadsTokens Declaration
service_decl types = choice (is_mark (codes ":"))
    (image (λ z. new_service z.0 z.1) (mark (codes ":") &> name & image listed_of (optional (is_mark (codes "{")) (braced_list (constructor types)) <& mark
    (codes ";"))))
    (image old_service (braced_list (service_member types) <& mark (codes ";")))

unfoldable pub singleton_decl : ReadsTokens Declaration
singleton_decl = choice (is_mark (codes ":"))
    (image new_singleton (mark (codes ":") &> name <& mark (codes ";")))
    (image old_singleton (braced (keyword (codes "service") &> name <& mark (codes ";")) <& mark (codes ";")))

abbrev pub named_decl : List ℕ → ReadsTokens Declaration → ReadsTokens Decl
named_decl word r = image decl_of (keyword word &> id & r)

unfoldable pub decl : (types brackets : ℕ) → ReadsTokens Decl
decl types brackets =
    choice (is_keyword (codes "interface")) (named_decl (codes "interface") (interface_decl types))
    (choice (is_keyword (codes "struct")) (named_decl (codes "struct") (struct_decl types))
    (choice (is_keyword (codes "exception")) (named_decl (codes "exception") (exception_decl types))
    (choice (is_keyword (codes "enum")) (named_decl (codes "enum") (enum_decl brackets))
    (choice (is_keyword (codes "constants")) (named_decl (codes "constants") (constants_decl types brackets))
    (choice (is_keyword (codes "typedef")) (typedef_decl types)
    (choice (is_keyword (codes "service")) (named_decl (codes "service") (service_decl types)) (named_decl (codes "singleton") singleton_decl)))))))

-- ---- definitions, and all of a file

abbrev pub module_of : Id × List Def → Def
module_of z = in_module z.0 (defs z.1)

abbrev pub declared_of : Option (Unit {0}) × Decl → Def
declared_of z = declared (is_some z.0) z.1

-- a module whose `{`, definitions and `}` are read so, or a declaration
abbrev pub def_by : (types brackets : ℕ) → ReadsTokens (List Def) → ReadsTokens Def
def_by types brackets body = choice (is_keyword (codes "module")) (image module_of (keyword (codes "module") &> id & body <& mark (codes ";")))
    (image declared_of (optional (is_keyword (codes "published")) (keyword (codes "published")) & decl types brackets))

unfoldable pub body_at : (types brackets modules : ℕ) → ReadsTokens (List Def)
body_at types brackets zero = closed (is_mark (codes "{"))
body_at types brackets (suc modules) = braced_list (def_by types brackets (body_at types brackets modules))

unfoldable pub def : (types brackets modules : ℕ) → ReadsTokens Def
def types brackets modules = def_by types brackets (body_at types brackets modules)

unfoldable pub tree : (types brackets modules : ℕ) → ReadsTokens Tree
tree types brackets modules = many is_some (def types brackets modules)

-- with the limits of the language: the tree of tokens, or where they go wrong and why
abbrev pub read_tree : List PlacedToken → Result Tree Fault
read_tree = verdict (tree 64 64 64)
