-- The grammar of UNOIDL: which tokens spell which tree, of any depth. Each rule stands under its line of the grammar; a rule stands before those that use it,
-- so the last line of the grammar is the first here.
use Rattle.std.specs.Prelude.{◌≡◌, ℕ, Bool, true, false, ◌&&◌, ◌==◌, nat_lt, List, [], ◌∷◌, ◌++◌, map, is_some, Option, None, Some, codes}
use Rattle.std.specs.Prelude.{if◌then◌else◌}
use Rattle.grammar_model.specs.Relations.{One, Touching, Empty, Image, Either, Optional, Many, Separated, Bracketed, ◌&◌, ◌&>◌, ◌<&◌}
use Rattle.idl_model.specs.Places.{Place}
use Rattle.idl_model.specs.PlacedTokens.{PlacedToken, is_terminal, touches}
use Rattle.idl_model.specs.Trees.{Id, Path, Simple, void, char, boolean, byte, short, unsigned_short, long, unsigned_long, hyper, unsigned_hyper, float}
use Rattle.idl_model.specs.Trees.{double, str, kind, any}
use Rattle.idl_model.specs.Trees.{WrittenType, simple, named, sequence_of, no_arguments, argument}
use Rattle.idl_model.specs.Trees.{Operator, bit_or, bit_xor, bit_and, shift_left, shift_right, plus, minus, times, divided_by, remainder, strength}
use Rattle.idl_model.specs.Trees.{Sign, positive, negative, complement, Expr, number, truth, constant, parentheses, signed, chain, Operands, no_operands}
use Rattle.idl_model.specs.Trees.{operand}
use Rattle.idl_model.specs.Trees.{Fields, Item, Constant, Flag, bound_flag, constrained_flag, maybeambiguous_flag, maybedefault_flag, maybevoid_flag}
use Rattle.idl_model.specs.Trees.{optional_flag, readonly_flag, removable_flag, transient_flag}
use Rattle.idl_model.specs.Trees.{Parameter, InterfaceMember, base_member, attribute, method, ConstructorParameter, Constructor}
use Rattle.idl_model.specs.Trees.{ServiceMember, face, subservice, property}
use Rattle.idl_model.specs.Trees.{Declaration, forward, interface, struct, exception, enum, constants, typedef, new_service, old_service, new_singleton}
use Rattle.idl_model.specs.Trees.{old_singleton, Decl, Def, in_module, declared, Defs, no_defs, def, Tree}
use Rattle.idl_text_model.specs.Tokens.{Word}
use Rattle.idl_text_model.specs.Tokens as token
use Rattle.uno_model.specs.Sound.{is_some_list}
use Rattle.uno_model.specs.declared.way.Way.{Way}
use Rattle.uno_model.specs.declared.way.Way.TheVariants.{Into, Out, Both}

abbrev pub Tokens : Type 0
Tokens = List PlacedToken

-- ---- words, marks and identifiers

-- a word of the grammar, or a mark; its tree says nothing, or its place
abbrev pub terminal_at : Word → PlacedToken → Option (Unit {0})
terminal_at w t = if is_terminal w t.word then Some tt else None

abbrev pub Keyword : List ℕ → Unit {0} → Tokens → Type 0
Keyword w = One (terminal_at (token.quoted w))

abbrev pub Mark : List ℕ → Unit {0} → Tokens → Type 0
Mark w = One (terminal_at (token.mark w))

abbrev pub place_of_terminal : Word → PlacedToken → Option Place
place_of_terminal w t = if is_terminal w t.word then Some t.place else None

abbrev pub KeywordPlace : List ℕ → Place → Tokens → Type 0
KeywordPlace w = One (place_of_terminal (token.quoted w))

abbrev pub MarkPlace : List ℕ → Place → Tokens → Type 0
MarkPlace w = One (place_of_terminal (token.mark w))

-- which of the words of a table a token is
abbrev pub of_table : {X : Type 0} → List (List ℕ × X) → Word → Option X
of_table [] w = None
of_table (row ∷ rows) w = if is_terminal (token.quoted row.0) w then Some row.1 else of_table rows w

abbrev pub of_marks : {X : Type 0} → List (List ℕ × X) → Word → Option X
of_marks [] w = None
of_marks (row ∷ rows) w = if is_terminal (token.mark row.0) w then Some row.1 else of_marks rows w

-- ID
abbrev pub identifier_of : Place → Word → Option Id
identifier_of place (token.identifier name) = Some (record { name = name; place = place })
identifier_of place _ = None

abbrev pub id_at : PlacedToken → Option Id
id_at t = identifier_of t.place t.word

abbrev pub IsId : Id → Tokens → Type 0
IsId = One id_at

-- ---- name = [ "::" ] ID { "::" ID }

abbrev pub begins_at : Option Place → Place → Place
begins_at None place = place
begins_at (Some mark) place = mark

abbrev pub path_of : Option Place × (Id × List Id) → Path
path_of z = record { place = begins_at z.0 (z.1).0.place; absolute = is_some z.0; parts = (z.1).0.name ∷ map (λ i. i.name) (z.1).1 }

abbrev pub IsName : Path → Tokens → Type 0
IsName = Image path_of (Optional (MarkPlace (codes "::")) & IsId & Many (Mark (codes "::") &> IsId))

-- ---- type = simple | name | "sequence" "<" type ">"

abbrev pub simple_words : List (List ℕ × Simple)
simple_words =
    (codes "void", void) ∷ ((codes "char", char) ∷ ((codes "boolean", boolean) ∷ ((codes "byte", byte) ∷ ((codes "short", short) ∷ ((codes "long", long)
    ∷ ((codes "hyper", hyper) ∷ ((codes "float", float) ∷ ((codes "double", double) ∷
    ((codes "string", str) ∷ ((codes "type", kind) ∷ ((codes "any", any) ∷ [])))))))))))

abbrev pub unsigned_words : List (List ℕ × Simple)
unsigned_words = (codes "short", unsigned_short) ∷ ((codes "long", unsigned_long) ∷ ((codes "hyper", unsigned_hyper) ∷ []))

abbrev pub placed_simple : Place → Option Simple → Option (Place × Simple)
placed_simple place None = None
placed_simple place (Some s) = Some (place, s)

abbrev pub simple_at : PlacedToken → Option (Place × Simple)
simple_at t = placed_simple t.place (of_table simple_words t.word)

abbrev pub unsigned_at : PlacedToken → Option Simple
unsigned_at t = of_table unsigned_words t.word

abbrev pub IsSimple : Place × Simple → Tokens → Type 0
IsSimple = Either (KeywordPlace (codes "unsigned") & One unsigned_at) (One simple_at)

unfoldable pub IsType : WrittenType → Tokens → Type 0
IsType (simple place s) u = IsSimple (place, s) u
IsType (named path no_arguments) u = IsName path u
IsType (named path (argument t ts)) u = ⊥
IsType (sequence_of place t) u = Bracketed (KeywordPlace (codes "sequence") <& Mark (codes "<")) (λ v. IsType t v) (Mark (codes ">")) place u

-- ---- expr: from the weakest to the strongest `|`, `^`, `&`, shifts, `+` and `-`, `*`, `/` and `%`; then `+`, `-`, `~` before an operand; then numbers,
-- truths, names and parentheses

abbrev pub operator_marks : List (List ℕ × Operator)
operator_marks =
    (codes "|", bit_or) ∷ ((codes "^", bit_xor) ∷ ((codes "&", bit_and) ∷ ((codes "+", plus) ∷ ((codes "-", minus) ∷ ((codes "*", times)
    ∷ ((codes "/", divided_by) ∷ ((codes "%", remainder) ∷ [])))))))

abbrev pub shift_marks : List (List ℕ × Operator)
shift_marks = (codes "<", shift_left) ∷ ((codes ">", shift_right) ∷ [])

abbrev pub sign_marks : List (List ℕ × Sign)
sign_marks = (codes "+", positive) ∷ ((codes "-", negative) ∷ ((codes "~", complement) ∷ []))

abbrev pub truth_words : List (List ℕ × Bool)
truth_words = (codes "TRUE", true) ∷ ((codes "True", true) ∷ ((codes "FALSE", false) ∷ ((codes "False", false) ∷ [])))

-- a shift is its mark twice, side by side
abbrev pub IsOperator : Operator → Tokens → Type 0
IsOperator = Either (One (λ t. of_marks operator_marks t.word)) (Touching (λ t. of_marks shift_marks t.word) touches)

abbrev pub IsSign : Sign → Tokens → Type 0
IsSign = One (λ t. of_marks sign_marks t.word)

abbrev pub number_of : Word → Option ℕ
number_of (token.number n) = Some n
number_of _ = None

abbrev pub IsNumber : ℕ → Tokens → Type 0
IsNumber = One (λ t. number_of t.word)

abbrev pub IsTruth : Bool → Tokens → Type 0
IsTruth = One (λ t. of_table truth_words t.word)

-- how strongly an expression binds: a chain as its first operator
abbrev pub binding_of_chain : Operands → ℕ
binding_of_chain no_operands = 0
binding_of_chain (operand op e es) = strength op

abbrev pub binding : Expr → ℕ
binding (number n) = 7
binding (truth b) = 7
binding (constant path) = 7
binding (parentheses e) = 7
binding (signed signs e) = 6
binding (chain e es) = binding_of_chain es

-- operators of one level, whose operands bind more strongly
unfoldable pub bind_above : ℕ → Operands → Bool
bind_above level no_operands = true
bind_above level (operand op e es) = (strength op == level) && (nat_lt level (binding e) && bind_above level es)

-- an operand and at least one other behind it
abbrev pub is_chain : Expr → Operands → Bool
is_chain e no_operands = false
is_chain e (operand op o es) = nat_lt (strength op) (binding e) && bind_above (strength op) (operand op o es)

abbrev pub is_signed : List Sign → Expr → Bool
is_signed signs e = is_some_list signs && (binding e == 7)

unfoldable mutual
  pub IsExpr : Expr → Tokens → Type 0
  IsExpr (number n) u = IsNumber n u
  IsExpr (truth b) u = IsTruth b u
  IsExpr (constant path) u = IsName path u
  IsExpr (parentheses e) u = Bracketed (Mark (codes "(")) (λ v. IsExpr e v) (Mark (codes ")")) tt u
  IsExpr (signed signs e) u = (p : Tokens) × (q : Tokens) × (u ≡ p ++ q) × Many IsSign signs p × IsExpr e q × (is_signed signs e ≡ true)
  IsExpr (chain e es) u = (p : Tokens) × (q : Tokens) × (u ≡ p ++ q) × IsExpr e p × AreOperands es q × (is_chain e es ≡ true)

  pub AreOperands : Operands → Tokens → Type 0
  AreOperands no_operands u = u ≡ []
  AreOperands (operand op e es) u = (o : Tokens) × (p : Tokens) × (q : Tokens) × (u ≡ o ++ (p ++ q)) × IsOperator op o × IsExpr e p × AreOperands es q

-- ---- pflag = "property" | "bound" | "constrained" | "maybeambiguous" | "maybedefault" | "maybevoid" | "optional" | "readonly" | "removable" | "transient";
-- property once

abbrev pub property_flags : List (List ℕ × Flag)
property_flags =
    (codes "bound", bound_flag) ∷ ((codes "constrained", constrained_flag) ∷ ((codes "maybeambiguous", maybeambiguous_flag) ∷
    ((codes "maybedefault", maybedefault_flag)
    ∷ ((codes "maybevoid", maybevoid_flag) ∷ ((codes "optional", optional_flag) ∷ ((codes "readonly", readonly_flag) ∷ ((codes "removable", removable_flag)
    ∷ ((codes "transient", transient_flag) ∷ []))))))))

abbrev pub IsFlag : List (List ℕ × Flag) → Flag → Tokens → Type 0
IsFlag flags = One (λ t. of_table flags t.word)

-- flags in any order, and among them once the word that must stand: { flag "," } word { "," flag }
abbrev pub IsFlags : List (List ℕ × Flag) → List ℕ → List Flag → Tokens → Type 0
IsFlags flags word = Image (λ z. z.0 ++ z.1) (Many (IsFlag flags <& Mark (codes ",")) & Keyword word &> Many (Mark (codes ",") &> IsFlag flags))

-- ---- smem = [ "[" "optional" "]" ] ( "interface" | "service" ) name ";" | "[" pflag { "," pflag } "]" type ID ";"

abbrev pub property_of : List Flag × (WrittenType × Id) → ServiceMember
property_of z = property (record { flags = z.0; type = (z.1).0; name = (z.1).1 })

abbrev pub IsPart : Bool → ServiceMember → Tokens → Type 0
IsPart optional = Either (Image (face optional) (Keyword (codes "interface") &> IsName <& Mark (codes ";")))
    (Image (subservice optional) (Keyword (codes "service") &> IsName <& Mark (codes ";")))

-- "]" type ID ";"
abbrev pub IsPropertyTail : WrittenType × Id → Tokens → Type 0
IsPropertyTail = Mark (codes "]") &> IsType & IsId <& Mark (codes ";")

abbrev pub IsProperty : ServiceMember → Tokens → Type 0
IsProperty = Image property_of (Mark (codes "[") &> IsFlags property_flags (codes "property") & IsPropertyTail)

abbrev pub IsServiceMember : ServiceMember → Tokens → Type 0
IsServiceMember = Either (Mark (codes "[") &> Keyword (codes "optional") &> Mark (codes "]") &> IsPart true) (Either IsProperty (IsPart false))

-- ---- raises = "raises" "(" name { "," name } ")"

abbrev pub IsRaises : List Path → Tokens → Type 0
IsRaises = Keyword (codes "raises") &> Mark (codes "(") &> Separated IsName (Mark (codes ",")) <& Mark (codes ")")

-- what is left out is empty
abbrev pub listed_of : {X : Type 0} → Option (List X) → List X
listed_of None = []
listed_of (Some xs) = xs

-- [ raises ] ";"
abbrev pub MayRaise : List Path → Tokens → Type 0
MayRaise = Image listed_of (Optional IsRaises <& Mark (codes ";"))

-- ---- cpar = "[" "in" "]" type [ "..." ] ID

abbrev pub constructor_parameter_of : WrittenType × (Option (Unit {0}) × Id) → ConstructorParameter
constructor_parameter_of z = record { type = z.0; rest = is_some (z.1).0; name = (z.1).1 }

abbrev pub IsConstructorParameter : ConstructorParameter → Tokens → Type 0
IsConstructorParameter = Image constructor_parameter_of
    (Mark (codes "[") &> Keyword (codes "in") &> Mark (codes "]") &> IsType & Optional (Mark (codes "...")) & IsId)

-- ---- ctor = ID "(" [ cpar { "," cpar } ] ")" [ raises ] ";"

-- "(" [ p { "," p } ] ")"
abbrev pub Listed : {X : Type 0} → (X → Tokens → Type 0) → List X → Tokens → Type 0
Listed P = Image listed_of (Mark (codes "(") &> Optional (Separated P (Mark (codes ","))) <& Mark (codes ")"))

abbrev pub constructor_of : Id × (List ConstructorParameter × List Path) → Constructor
constructor_of z = record { name = z.0; parameters = (z.1).0; raises = (z.1).1 }

abbrev pub IsConstructor : Constructor → Tokens → Type 0
IsConstructor = Image constructor_of (IsId & Listed IsConstructorParameter & MayRaise)

-- ---- par = "[" ( "in" | "out" | "inout" ) "]" type ID

abbrev pub ways : List (List ℕ × Way)
ways = (codes "in", Into) ∷ ((codes "out", Out) ∷ ((codes "inout", Both) ∷ []))

abbrev pub parameter_of : Way × (WrittenType × Id) → Parameter
parameter_of z = record { way = z.0; type = (z.1).0; name = (z.1).1 }

abbrev pub IsParameter : Parameter → Tokens → Type 0
IsParameter = Image parameter_of (Mark (codes "[") &> One (λ t. of_table ways t.word) & Mark (codes "]") &> IsType & IsId)

-- ---- aflag = "attribute" | "readonly" | "bound"; attribute once

abbrev pub attribute_flags : List (List ℕ × Flag)
attribute_flags = (codes "readonly", readonly_flag) ∷ ((codes "bound", bound_flag) ∷ [])

-- ---- aget = "get" raises ";"    aset = "set" raises ";"

abbrev pub IsAccessor : List ℕ → List Path → Tokens → Type 0
IsAccessor word = Keyword word &> IsRaises <& Mark (codes ";")

-- what `get` and `set` raise, each where it is written
abbrev pub Accessors : Type 0
Accessors = Option (List Path) × Option (List Path)

abbrev pub get_first : List Path × Option (List Path) → Accessors
get_first z = (Some z.0, z.1)

abbrev pub set_first : List Path × Option (List Path) → Accessors
set_first z = (z.1, Some z.0)

-- [ aget ] [ aset ] | aset aget
abbrev pub AreAccessors : Accessors → Tokens → Type 0
AreAccessors = Either (Image get_first (IsAccessor (codes "get") & Optional (IsAccessor (codes "set"))))
    (Either (Image set_first (IsAccessor (codes "set") & Optional (IsAccessor (codes "get")))) (Empty (None, None)))

abbrev pub accessors_of : Option Accessors → Accessors
accessors_of None = (None, None)
accessors_of (Some z) = z

-- ---- imem = [ "[" "optional" "]" ] "interface" name ";"
-- ----      | "[" aflag { "," aflag } "]" type ID [ "{" ( [ aget ] [ aset ] | aset aget ) "}" ] ";"
-- ----      | [ "[" "oneway" "]" ] type ID "(" [ par { "," par } ] ")" [ raises ] ";"

abbrev pub IsBase : Bool → InterfaceMember → Tokens → Type 0
IsBase optional = Image (base_member optional) (Keyword (codes "interface") &> IsName <& Mark (codes ";"))

abbrev pub attribute_of : List Flag × (WrittenType × (Id × Option Accessors)) → InterfaceMember
attribute_of (flags, (type, (name, z))) =
    attribute (record { flags = flags; type = type; name = name; get = (accessors_of z).0; set = (accessors_of z).1 })

abbrev pub method_of : Bool → WrittenType × (Id × (List Parameter × List Path)) → InterfaceMember
method_of oneway z = method (record { oneway = oneway; result_type = z.0; name = (z.1).0; parameters = ((z.1).1).0; raises = ((z.1).1).1 })

abbrev pub IsMethod : Bool → InterfaceMember → Tokens → Type 0
IsMethod oneway = Image (method_of oneway) (IsType & IsId & Listed IsParameter & MayRaise)

abbrev pub IsAttribute : InterfaceMember → Tokens → Type 0
IsAttribute = Image attribute_of (IsFlags attribute_flags (codes "attribute") & Mark (codes "]") &> IsType & IsId
    & Optional (Mark (codes "{") &> AreAccessors <& Mark (codes "}")) <& Mark (codes ";"))

-- behind the `[` of a flag: `optional` and a base, `oneway` and a method, or an attribute
abbrev pub IsFlaggedMember : InterfaceMember → Tokens → Type 0
IsFlaggedMember = Either (Keyword (codes "optional") &> Mark (codes "]") &> IsBase true)
    (Either (Keyword (codes "oneway") &> Mark (codes "]") &> IsMethod true) IsAttribute)

abbrev pub IsInterfaceMember : InterfaceMember → Tokens → Type 0
IsInterfaceMember = Either (Mark (codes "[") &> IsFlaggedMember) (Either (IsBase false) (IsMethod false))

-- ---- item = ID [ "=" expr ]

abbrev pub item_of : Id × Option Expr → Item
item_of z = record { name = z.0; value = z.1 }

abbrev pub IsItem : Item → Tokens → Type 0
IsItem = Image item_of (IsId & Optional (Mark (codes "=") &> IsExpr))

-- ---- the forms of decl

-- { p } between braces
abbrev pub Braced : {X : Type 0} → (X → Tokens → Type 0) → X → Tokens → Type 0
Braced P = Mark (codes "{") &> P <& Mark (codes "}")

-- [ ":" name ]
abbrev pub MayHaveBase : Option Path → Tokens → Type 0
MayHaveBase = Optional (Mark (codes ":") &> IsName)

abbrev pub decl_of : Id × Declaration → Decl
decl_of z = record { name = z.0; body = z.1 }

-- word ID p
abbrev pub Named : List ℕ → (Declaration → Tokens → Type 0) → Decl → Tokens → Type 0
Named word P = Image decl_of (Keyword word &> IsId & P)

-- decl = "interface" ID ( ";" | [ ":" name ] "{" { imem } "}" ";" ); each form stands here from behind its word and its name on
abbrev pub IsInterface : Declaration → Tokens → Type 0
IsInterface = Either (Image (λ z. forward) (Mark (codes ";")))
    (Image (λ z. interface z.0 z.1) (MayHaveBase & Braced (Many IsInterfaceMember) <& Mark (codes ";")))

-- type ID { "," ID } ";"
abbrev pub fields_of : WrittenType × List Id → Fields
fields_of z = record { type = z.0; names = z.1 }

abbrev pub AreFields : Fields → Tokens → Type 0
AreFields = Image fields_of (IsType & Separated IsId (Mark (codes ",")) <& Mark (codes ";"))

-- ( "struct" | "exception" ) ID [ ":" name ] "{" { type ID { "," ID } ";" } "}" ";"
abbrev pub IsStruct : Declaration → Tokens → Type 0
IsStruct = Image (λ z. struct z.0 z.1) (MayHaveBase & Braced (Many AreFields) <& Mark (codes ";"))

abbrev pub IsException : Declaration → Tokens → Type 0
IsException = Image (λ z. exception z.0 z.1) (MayHaveBase & Braced (Many AreFields) <& Mark (codes ";"))

-- "enum" ID "{" item { "," item } [ "," ] "}" ";"
abbrev pub items_of : List Item × Option (Unit {0}) → Declaration
items_of z = enum z.0

abbrev pub IsEnum : Declaration → Tokens → Type 0
IsEnum = Image items_of (Braced (Separated IsItem (Mark (codes ",")) & Optional (Mark (codes ","))) <& Mark (codes ";"))

-- "constants" ID "{" { "const" type ID "=" expr ";" } "}" ";"
abbrev pub constant_of : WrittenType × (Id × Expr) → Constant
constant_of z = record { type = z.0; name = (z.1).0; value = (z.1).1 }

abbrev pub IsConstant : Constant → Tokens → Type 0
IsConstant = Image constant_of (Keyword (codes "const") &> IsType & IsId & Mark (codes "=") &> IsExpr <& Mark (codes ";"))

abbrev pub AreConstants : Declaration → Tokens → Type 0
AreConstants = Image constants (Braced (Many IsConstant) <& Mark (codes ";"))

-- "typedef" type ID ";"
abbrev pub typedef_of : WrittenType × Id → Decl
typedef_of z = record { name = z.1; body = typedef z.0 }

abbrev pub IsTypedef : Decl → Tokens → Type 0
IsTypedef = Image typedef_of (Keyword (codes "typedef") &> IsType & IsId <& Mark (codes ";"))

-- "service" ID ( ":" name ( ";" | "{" { ctor } "}" ";" ) | "{" { smem } "}" ";" )
abbrev pub IsService : Declaration → Tokens → Type 0
IsService = Either
    (Image (λ z. new_service z.0 z.1) (Mark (codes ":") &> IsName & Image listed_of (Optional (Braced (Many IsConstructor)) <& Mark (codes ";"))))
    (Image old_service (Braced (Many IsServiceMember) <& Mark (codes ";")))

-- "singleton" ID ( ":" name ";" | "{" "service" name ";" "}" ";" )
abbrev pub IsSingleton : Declaration → Tokens → Type 0
IsSingleton = Either
    (Image new_singleton (Mark (codes ":") &> IsName <& Mark (codes ";")))
    (Image old_singleton (Braced (Keyword (codes "service") &> IsName <& Mark (codes ";")) <& Mark (codes ";")))

abbrev pub IsDecl : Decl → Tokens → Type 0
IsDecl =
    Either (Named (codes "interface") IsInterface)
    (Either (Named (codes "struct") IsStruct)
    (Either (Named (codes "exception") IsException)
    (Either (Named (codes "enum") IsEnum)
    (Either (Named (codes "constants") AreConstants)
    (Either IsTypedef
    (Either (Named (codes "service") IsService) (Named (codes "singleton") IsSingleton)))))))

-- ---- def = "module" ID "{" { def } "}" ";" | [ "published" ] decl

-- [ "published" ] decl
abbrev pub IsDeclared : Bool × Decl → Tokens → Type 0
IsDeclared = Image (λ z. (is_some z.0, z.1)) (Optional (Keyword (codes "published")) & IsDecl)

unfoldable mutual
  pub IsDef : Def → Tokens → Type 0
  IsDef (in_module name ds) u = Bracketed (Keyword (codes "module") &> IsId <& Mark (codes "{")) (λ v. AreDefs ds v)
      (Mark (codes "}") & Mark (codes ";")) name u
  IsDef (declared published decl) u = IsDeclared (published, decl) u

  pub AreDefs : Defs → Tokens → Type 0
  AreDefs no_defs u = u ≡ []
  AreDefs (def d ds) u = (p : Tokens) × (q : Tokens) × (u ≡ p ++ q) × IsDef d p × AreDefs ds q

-- ---- file = { def }

abbrev pub IsTree : Tree → Tokens → Type 0
IsTree = Many IsDef
