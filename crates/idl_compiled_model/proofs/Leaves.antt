-- What trees of UNOIDL weigh by the names, simple types and numbers in them, and that tokens of a tree weigh no less.
use Rattle.std.proofs.Common.{◌≡◌, ℕ, ◌+◌, ◌≤◌, Bool, true, false, List, [], ◌∷◌, ◌++◌, Option, None, Some, is_some, codes, refl, ap, ◌∙◌, arith}
use Rattle.grammar_model.specs.Relations.{One, Optional, Separated, ◌&◌, ◌<&◌}
use Rattle.idl_model.specs.Grammar.{Tokens, Keyword, Mark, id_at, IsId, IsName, IsSimple, IsType, number_of, IsOperator, IsExpr, AreOperands}
use Rattle.idl_model.specs.Grammar.{IsFlags, property_flags, property_of, IsPart, IsPropertyTail, IsProperty, IsServiceMember, IsRaises, listed_of, MayRaise}
use Rattle.idl_model.specs.Grammar.{constructor_parameter_of, IsConstructorParameter, Listed, constructor_of, IsConstructor, ways, of_table, parameter_of, IsParameter, attribute_flags}
use Rattle.idl_model.specs.Grammar.{IsAccessor, Accessors, get_first, set_first, AreAccessors, IsBase, attribute_of, method_of, IsMethod, IsAttribute, IsInterfaceMember}
use Rattle.idl_model.specs.Grammar.{item_of, IsItem, Braced, MayHaveBase, decl_of, Named, IsInterface, AreFields, IsStruct, IsException, items_of, IsEnum, constant_of, IsConstant, AreConstants}
use Rattle.idl_model.specs.Grammar.{typedef_of, IsTypedef, IsService, IsSingleton, IsDecl, IsDeclared, IsDef, AreDefs, IsTree}
use Rattle.idl_model.specs.Places.{Place}
use Rattle.idl_model.specs.PlacedTokens.{PlacedToken}
use Rattle.idl_model.specs.Trees.{Id, Path, Simple, WrittenType, simple, named, sequence_of, Arguments, no_arguments, argument}
use Rattle.idl_model.specs.Trees.{Expr, number, truth, constant, parentheses, signed, chain, Operands, no_operands, operand}
use Rattle.idl_model.specs.Trees.{Fields, Item, Constant, Flag, Parameter, InterfaceMember, base_member, attribute, method, ConstructorParameter, Constructor}
use Rattle.idl_model.specs.Trees.{ServiceMember, face, subservice, property, Declaration, forward, interface, struct, exception, enum, constants, typedef, new_service, old_service}
use Rattle.idl_model.specs.Trees.{new_singleton, old_singleton, Decl, Def, in_module, declared, Defs, no_defs, def, Tree}
use Rattle.uno_model.specs.declared.way.Way.{Way}
use Rattle.idl_compiled_model.proofs.Weighing.{total, in_parts, in_three, Weighs, nothing, of_option, weighs_nothing, weighs_one, weighs_either, weighs_optional, weighs_many, weighs_image, weighs_seq}
use Rattle.idl_compiled_model.proofs.Weighing.{weighs_behind, weighs_before, weighs_separated}

-- ---- weights of trees

-- what a token weighs, a name that is declared, a name that is used, a simple type at its place, and a number
pub record Weights : Type 0 where
  pub token : PlacedToken → ℕ
  pub id : Id → ℕ
  pub path : Path → ℕ
  pub simple : Place → ℕ
  pub number : ℕ → ℕ

-- each weighs no more than the tokens by which it is spelled
pub record AreWeights (w : Weights) : Type 0 where
  pub ids : (t : PlacedToken) (i : Id) → id_at t ≡ Some i → w.id i ≤ w.token t
  pub paths : Weighs w.token w.path IsName
  pub simples : Weighs w.token (λ (z : Place × Simple). w.simple z.0) IsSimple
  pub numbers : (t : PlacedToken) (n : ℕ) → number_of t.word ≡ Some n → w.number n ≤ w.token t

module _ (w : Weights) where
  unfoldable mutual
    pub type_weight : WrittenType → ℕ
    type_weight (simple p s) = w.simple p
    type_weight (named path ts) = w.path path + arguments_weight ts
    type_weight (sequence_of p t) = type_weight t

    pub arguments_weight : Arguments → ℕ
    arguments_weight no_arguments = 0
    arguments_weight (argument t ts) = type_weight t + arguments_weight ts

  unfoldable mutual
    pub expr_weight : Expr → ℕ
    expr_weight (number n) = w.number n
    expr_weight (truth b) = 0
    expr_weight (constant path) = w.path path
    expr_weight (parentheses e) = expr_weight e
    expr_weight (signed signs e) = expr_weight e
    expr_weight (chain e es) = expr_weight e + operands_weight es

    pub operands_weight : Operands → ℕ
    operands_weight no_operands = 0
    operands_weight (operand op e es) = expr_weight e + operands_weight es

  abbrev pub names_weight : List Path → ℕ
  names_weight paths = total w.path paths

  -- a type of members without a name would be as heavy as nothing that is spelled
  abbrev pub nameless : List Id → ℕ
  nameless [] = 1
  nameless (n ∷ ns) = 0

  abbrev pub fields_weight : Fields → ℕ
  fields_weight m = type_weight m.type + (total w.id m.names + nameless m.names)

  abbrev pub item_weight : Item → ℕ
  item_weight i = w.id i.name + of_option expr_weight i.value

  abbrev pub constant_weight : Constant → ℕ
  constant_weight c = type_weight c.type + (w.id c.name + expr_weight c.value)

  abbrev pub parameter_weight : Parameter → ℕ
  parameter_weight p = type_weight p.type + w.id p.name

  abbrev pub member_weight : InterfaceMember → ℕ
  member_weight (base_member optional path) = w.path path
  member_weight (attribute a) = type_weight a.type + (w.id a.name + (of_option names_weight a.get + of_option names_weight a.set))
  member_weight (method m) = type_weight m.result_type + (w.id m.name + (total parameter_weight m.parameters + names_weight m.raises))

  abbrev pub given_weight : ConstructorParameter → ℕ
  given_weight p = type_weight p.type + w.id p.name

  abbrev pub constructor_weight : Constructor → ℕ
  constructor_weight c = w.id c.name + (total given_weight c.parameters + names_weight c.raises)

  abbrev pub service_weight : ServiceMember → ℕ
  service_weight (face optional path) = w.path path
  service_weight (subservice optional path) = w.path path
  service_weight (property p) = type_weight p.type + w.id p.name

  abbrev pub body_weight : Declaration → ℕ
  body_weight forward = 0
  body_weight (interface base members) = of_option w.path base + total member_weight members
  body_weight (struct base members) = of_option w.path base + total fields_weight members
  body_weight (exception base members) = of_option w.path base + total fields_weight members
  body_weight (enum items) = total item_weight items
  body_weight (constants cs) = total constant_weight cs
  body_weight (typedef t) = type_weight t
  body_weight (new_service base constructors) = w.path base + total constructor_weight constructors
  body_weight (old_service members) = total service_weight members
  body_weight (new_singleton base) = w.path base
  body_weight (old_singleton service) = w.path service

  abbrev pub decl_weight : Decl → ℕ
  decl_weight d = w.id d.name + body_weight d.body

  unfoldable mutual
    pub def_weight : Def → ℕ
    def_weight (in_module name ds) = w.id name + defs_weight ds
    def_weight (declared published d) = decl_weight d

    pub defs_weight : Defs → ℕ
    defs_weight no_defs = 0
    defs_weight (def d ds) = def_weight d + defs_weight ds

-- ---- they weigh no more than their tokens

module _ (w : Weights) (right : AreWeights w) where
  ids_weigh : Weighs w.token w.id IsId
  ids_weigh = weighs_one w.id id_at right.ids

  type_bound : (t : WrittenType) (u : Tokens) → IsType t u → type_weight w t ≤ total w.token u
  unfolding IsType type_weight
  type_bound (simple p s) u is = right.simples.bound (p, s) u is
  type_bound (named path no_arguments) u is = let low = right.paths.bound path u is in omega (arith, low)
  type_bound (named path (argument t ts)) u is = absurd is
  type_bound (sequence_of p t) u (a, b, c, e, opening, inner, closing) =
      let low = in_three w.token a b c u 0 (type_weight w t) e (omega arith) (type_bound t b inner) in
      omega (arith, low)

  types_weigh : Weighs w.token (type_weight w) IsType
  types_weigh = record { bound = type_bound }

  operator_nothing : Weighs w.token nothing IsOperator
  operator_nothing = weighs_nothing IsOperator

mutual
  unfolding IsExpr AreOperands expr_weight operands_weight

  expr_bound : (w : Weights) (right : AreWeights w) (e : Expr) (u : Tokens) → IsExpr e u → expr_weight w e ≤ total w.token u
  expr_bound w right (number n) u is = (weighs_one {w = w.token} w.number (λ (t : PlacedToken). number_of t.word) right.numbers).bound n u is
  expr_bound w right (truth b) u is = omega arith
  expr_bound w right (constant path) u is = right.paths.bound path u is
  expr_bound w right (parentheses e) u (a, b, c, q, opening, inner, closing) =
      let low = in_three w.token a b c u 0 (expr_weight w e) q (omega arith) (expr_bound w right e b inner) in
      omega (arith, low)
  expr_bound w right (signed signs e) u (a, b, q, some, inner, is) =
      let low = in_parts w.token a b u 0 (expr_weight w e) q (omega arith) (expr_bound w right e b inner) in
      omega (arith, low)
  expr_bound w right (chain e es) u (a, b, q, first, others, is) =
      in_parts w.token a b u (expr_weight w e) (operands_weight w es) q (expr_bound w right e a first) (operands_bound w right es b others)

  operands_bound : (w : Weights) (right : AreWeights w) (es : Operands) (u : Tokens) → AreOperands es u → operands_weight w es ≤ total w.token u
  operands_bound w right no_operands u is = omega arith
  operands_bound w right (operand op e es) u (o, a, b, q, is, first, others) =
      let both = in_parts w.token a b (a ++ b) (expr_weight w e) (operands_weight w es) refl (expr_bound w right e a first) (operands_bound w right es b others) in
      let low = in_parts w.token o (a ++ b) u 0 (expr_weight w e + operands_weight w es) q (omega arith) both in
      omega (arith, low)

module _ (w : Weights) (right : AreWeights w) where
  exprs_weigh : Weighs w.token (expr_weight w) IsExpr
  exprs_weigh = record { bound = expr_bound w right }

  abbrev an_id : Weighs w.token w.id IsId
  an_id = ids_weigh w right

  abbrev a_type : Weighs w.token (type_weight w) IsType
  a_type = types_weigh w right

  -- ---- members of services

  name_end_weighs : Weighs w.token w.path (IsName <& Mark (codes ";"))
  name_end_weighs = weighs_before (Mark (codes ";")) right.paths

  part_weighs : (optional : Bool) → Weighs w.token (service_weight w) (IsPart optional)
  part_weighs optional =
      weighs_either (weighs_image (face optional) w.path (service_weight w) (λ x. omega arith) (weighs_behind (Keyword (codes "interface")) name_end_weighs))
      (weighs_image (subservice optional) w.path (service_weight w) (λ x. omega arith) (weighs_behind (Keyword (codes "service")) name_end_weighs))

  tail_weighs : Weighs w.token (λ (z : WrittenType × Id). type_weight w z.0 + w.id z.1) IsPropertyTail
  tail_weighs = weighs_behind (Mark (codes "]")) (weighs_seq a_type (weighs_before (Mark (codes ";")) an_id))

  property_weighs : Weighs w.token (service_weight w) IsProperty
  property_weighs =
      weighs_image property_of (λ (z : List Flag × (WrittenType × Id)). nothing z.0 + (type_weight w (z.1).0 + w.id (z.1).1)) (service_weight w) (λ x. omega arith)
      (weighs_behind (Mark (codes "[")) (weighs_seq (weighs_nothing (IsFlags property_flags (codes "property"))) tail_weighs))

  service_member_weighs : Weighs w.token (service_weight w) IsServiceMember
  service_member_weighs =
      weighs_either (weighs_behind (Mark (codes "[")) (weighs_behind (Keyword (codes "optional")) (weighs_behind (Mark (codes "]")) (part_weighs true))))
      (weighs_either property_weighs (part_weighs false))

  -- ---- what is raised, and lists between parentheses

  listed_weight : {X : Type 0} (m : X → ℕ) (o : Option (List X)) → total m (listed_of o) ≤ of_option (total m) o
  unfolding total
  listed_weight m None = omega arith
  listed_weight m (Some xs) = omega arith

  raises_weigh : Weighs w.token (names_weight w) IsRaises
  raises_weigh = weighs_behind (Keyword (codes "raises")) (weighs_behind (Mark (codes "(")) (weighs_before (Mark (codes ")")) (weighs_separated (Mark (codes ",")) right.paths)))

  may_raise_weighs : Weighs w.token (names_weight w) MayRaise
  may_raise_weighs = weighs_image listed_of (of_option (names_weight w)) (names_weight w) (listed_weight w.path) (weighs_before (Mark (codes ";")) (weighs_optional raises_weigh))

  listed_weighs : {X : Type 0} {m : X → ℕ} {P : X → Tokens → Type 0} → Weighs w.token m P → Weighs w.token (total m) (Listed P)
  listed_weighs {m = m} h =
      weighs_image listed_of (of_option (total m)) (total m) (listed_weight m)
      (weighs_behind (Mark (codes "(")) (weighs_before (Mark (codes ")")) (weighs_optional (weighs_separated (Mark (codes ",")) h))))

  -- ---- constructors, parameters and members of interfaces

  constructor_parameter_weighs : Weighs w.token (given_weight w) IsConstructorParameter
  constructor_parameter_weighs =
      weighs_image constructor_parameter_of (λ (z : WrittenType × (Option (Unit {0}) × Id)). type_weight w z.0 + (nothing (z.1).0 + w.id (z.1).1)) (given_weight w) (λ x. omega arith)
      (weighs_behind (Mark (codes "[")) (weighs_behind (Keyword (codes "in")) (weighs_behind (Mark (codes "]")) (weighs_seq a_type (weighs_seq (weighs_nothing (Optional (Mark (codes "...")))) an_id)))))

  constructor_weighs : Weighs w.token (constructor_weight w) IsConstructor
  constructor_weighs =
      weighs_image constructor_of (λ (z : Id × (List ConstructorParameter × List Path)). w.id z.0 + (total (given_weight w) (z.1).0 + names_weight w (z.1).1)) (constructor_weight w) (λ x. omega arith)
      (weighs_seq an_id (weighs_seq (listed_weighs constructor_parameter_weighs) may_raise_weighs))

  parameter_weighs : Weighs w.token (parameter_weight w) IsParameter
  parameter_weighs =
      weighs_image parameter_of (λ (z : Way × (WrittenType × Id)). nothing z.0 + (type_weight w (z.1).0 + w.id (z.1).1)) (parameter_weight w) (λ x. omega arith)
      (weighs_behind (Mark (codes "[")) (weighs_seq (weighs_nothing (One (λ (t : PlacedToken). of_table ways t.word))) (weighs_behind (Mark (codes "]")) (weighs_seq a_type an_id))))

  accessor_weighs : (word : List ℕ) → Weighs w.token (names_weight w) (IsAccessor word)
  accessor_weighs word = weighs_behind (Keyword word) (weighs_before (Mark (codes ";")) raises_weigh)

  abbrev accessors_weight : Accessors → ℕ
  accessors_weight z = of_option (names_weight w) z.0 + of_option (names_weight w) z.1

  accessors_weigh : Weighs w.token accessors_weight AreAccessors
  accessors_weigh =
      weighs_either
      (weighs_image get_first (λ (z : List Path × Option (List Path)). names_weight w z.0 + of_option (names_weight w) z.1) accessors_weight (λ x. omega arith)
      (weighs_seq (accessor_weighs (codes "get")) (weighs_optional (accessor_weighs (codes "set")))))
      (weighs_either
      (weighs_image set_first (λ (z : List Path × Option (List Path)). names_weight w z.0 + of_option (names_weight w) z.1) accessors_weight (λ x. omega arith)
      (weighs_seq (accessor_weighs (codes "set")) (weighs_optional (accessor_weighs (codes "get")))))
      (record { bound = λ x u p. none x (total w.token u) p.0 }))
    where
      none : (x : Accessors) (n : ℕ) → x ≡ (None, None) → accessors_weight x ≤ n
      none x n is = let weight : accessors_weight x ≡ 0 = ap accessors_weight is in omega (arith, weight)

  base_weighs : (optional : Bool) → Weighs w.token (member_weight w) (IsBase optional)
  base_weighs optional = weighs_image (base_member optional) w.path (member_weight w) (λ x. omega arith) (weighs_behind (Keyword (codes "interface")) name_end_weighs)

  method_weighs : (oneway : Bool) → Weighs w.token (member_weight w) (IsMethod oneway)
  method_weighs oneway =
      weighs_image (method_of oneway) (λ (z : WrittenType × (Id × (List Parameter × List Path))). type_weight w z.0 + (w.id (z.1).0 + (total (parameter_weight w) ((z.1).1).0 + names_weight w ((z.1).1).1)))
      (member_weight w) (λ x. omega arith) (weighs_seq a_type (weighs_seq an_id (weighs_seq (listed_weighs parameter_weighs) may_raise_weighs)))

  abbrev attribute_parts : List Flag × (WrittenType × (Id × Option Accessors)) → ℕ
  attribute_parts z = nothing z.0 + (type_weight w (z.1).0 + (w.id ((z.1).1).0 + of_option accessors_weight ((z.1).1).1))

  attribute_less : (z : List Flag × (WrittenType × (Id × Option Accessors))) → member_weight w (attribute_of z) ≤ attribute_parts z
  attribute_less (flags, (type, (name, None))) = omega arith
  attribute_less (flags, (type, (name, Some z))) = omega arith

  attribute_weighs : Weighs w.token (member_weight w) IsAttribute
  attribute_weighs =
      weighs_image attribute_of attribute_parts (member_weight w) attribute_less
      (weighs_seq (weighs_nothing (IsFlags attribute_flags (codes "attribute"))) (weighs_behind (Mark (codes "]")) (weighs_seq a_type (weighs_seq an_id
      (weighs_before (Mark (codes ";")) (weighs_optional (weighs_behind (Mark (codes "{")) (weighs_before (Mark (codes "}")) accessors_weigh))))))))

  member_weighs : Weighs w.token (member_weight w) IsInterfaceMember
  member_weighs =
      weighs_either
      (weighs_behind (Mark (codes "[")) (weighs_either (weighs_behind (Keyword (codes "optional")) (weighs_behind (Mark (codes "]")) (base_weighs true)))
      (weighs_either (weighs_behind (Keyword (codes "oneway")) (weighs_behind (Mark (codes "]")) (method_weighs true))) attribute_weighs)))
      (weighs_either (base_weighs false) (method_weighs false))

  -- ---- declarations

  braced_weighs : {X : Type 0} {m : X → ℕ} {P : X → Tokens → Type 0} → Weighs w.token m P → Weighs w.token m (Braced P)
  braced_weighs h = weighs_behind (Mark (codes "{")) (weighs_before (Mark (codes "}")) h)

  may_have_base_weighs : Weighs w.token (of_option w.path) MayHaveBase
  may_have_base_weighs = weighs_optional (weighs_behind (Mark (codes ":")) right.paths)

  interface_weighs : Weighs w.token (body_weight w) IsInterface
  interface_weighs =
      weighs_either (weighs_image (λ (z : Unit {0}). forward) nothing (body_weight w) (λ x. omega arith) (weighs_nothing (Mark (codes ";"))))
      (weighs_image (λ (z : Option Path × List InterfaceMember). interface z.0 z.1) (λ (z : Option Path × List InterfaceMember). of_option w.path z.0 + total (member_weight w) z.1) (body_weight w) (λ x. omega arith)
      (weighs_seq may_have_base_weighs (weighs_before (Mark (codes ";")) (braced_weighs (weighs_many member_weighs)))))

  fields_weigh : Weighs w.token (fields_weight w) AreFields
  fields_weigh = record { bound = λ m u p. named m u p }
    where
      counted : Weighs w.token (λ (z : WrittenType × List Id). type_weight w z.0 + total w.id z.1) (IsType & Separated IsId (Mark (codes ",")) <& Mark (codes ";"))
      counted = weighs_seq a_type (weighs_before (Mark (codes ";")) (weighs_separated (Mark (codes ",")) an_id))

      named : (m : Fields) (u : Tokens) → AreFields m u → fields_weight w m ≤ total w.token u
      named m u (z, e, is) =
          let low = counted.bound z u is in
          let parts : type_weight w m.type + total w.id m.names ≡ type_weight w z.0 + total w.id z.1 = ap (λ (k : Fields). type_weight w k.type + total w.id k.names) e in
          let tail = is.4 in
          let others = tail.2 in
          let listed = others.3 in
          let some : nameless w m.names ≡ 0 = ap (λ (k : Fields). nameless w k.names) e ∙ ap (nameless w) tail.1 ∙ ap (nameless w) listed.1 in
          omega (arith, low, parts, some)

  struct_weighs : Weighs w.token (body_weight w) IsStruct
  struct_weighs =
      weighs_image (λ (z : Option Path × List Fields). struct z.0 z.1) (λ (z : Option Path × List Fields). of_option w.path z.0 + total (fields_weight w) z.1) (body_weight w) (λ x. omega arith)
      (weighs_seq may_have_base_weighs (weighs_before (Mark (codes ";")) (braced_weighs (weighs_many fields_weigh))))

  exception_weighs : Weighs w.token (body_weight w) IsException
  exception_weighs =
      weighs_image (λ (z : Option Path × List Fields). exception z.0 z.1) (λ (z : Option Path × List Fields). of_option w.path z.0 + total (fields_weight w) z.1) (body_weight w) (λ x. omega arith)
      (weighs_seq may_have_base_weighs (weighs_before (Mark (codes ";")) (braced_weighs (weighs_many fields_weigh))))

  item_weighs : Weighs w.token (item_weight w) IsItem
  item_weighs =
      weighs_image item_of (λ (z : Id × Option Expr). w.id z.0 + of_option (expr_weight w) z.1) (item_weight w) (λ x. omega arith)
      (weighs_seq an_id (weighs_optional (weighs_behind (Mark (codes "=")) exprs_weigh)))

  enum_weighs : Weighs w.token (body_weight w) IsEnum
  enum_weighs =
      weighs_image items_of (λ (z : List Item × Option (Unit {0})). total (item_weight w) z.0 + nothing z.1) (body_weight w) (λ x. omega arith)
      (weighs_before (Mark (codes ";")) (braced_weighs (weighs_seq (weighs_separated (Mark (codes ",")) item_weighs) (weighs_nothing (Optional (Mark (codes ",")))))))

  constant_weighs : Weighs w.token (constant_weight w) IsConstant
  constant_weighs =
      weighs_image constant_of (λ (z : WrittenType × (Id × Expr)). type_weight w z.0 + (w.id (z.1).0 + expr_weight w (z.1).1)) (constant_weight w) (λ x. omega arith)
      (weighs_behind (Keyword (codes "const")) (weighs_seq a_type (weighs_seq an_id (weighs_behind (Mark (codes "=")) (weighs_before (Mark (codes ";")) exprs_weigh)))))

  constants_weigh : Weighs w.token (body_weight w) AreConstants
  constants_weigh =
      weighs_image constants (total (constant_weight w)) (body_weight w) (λ x. omega arith) (weighs_before (Mark (codes ";")) (braced_weighs (weighs_many constant_weighs)))

  typedef_weighs : Weighs w.token (decl_weight w) IsTypedef
  typedef_weighs =
      weighs_image typedef_of (λ (z : WrittenType × Id). type_weight w z.0 + w.id z.1) (decl_weight w) (λ x. omega arith)
      (weighs_behind (Keyword (codes "typedef")) (weighs_seq a_type (weighs_before (Mark (codes ";")) an_id)))

  service_weighs : Weighs w.token (body_weight w) IsService
  service_weighs =
      weighs_either
      (weighs_image (λ (z : Path × List Constructor). new_service z.0 z.1) (λ (z : Path × List Constructor). w.path z.0 + total (constructor_weight w) z.1) (body_weight w) (λ x. omega arith)
      (weighs_behind (Mark (codes ":")) (weighs_seq right.paths
      (weighs_image listed_of (of_option (total (constructor_weight w))) (total (constructor_weight w)) (listed_weight (constructor_weight w))
      (weighs_before (Mark (codes ";")) (weighs_optional (braced_weighs (weighs_many constructor_weighs))))))))
      (weighs_image old_service (total (service_weight w)) (body_weight w) (λ x. omega arith) (weighs_before (Mark (codes ";")) (braced_weighs (weighs_many service_member_weighs))))

  singleton_weighs : Weighs w.token (body_weight w) IsSingleton
  singleton_weighs =
      weighs_either (weighs_image new_singleton w.path (body_weight w) (λ x. omega arith) (weighs_behind (Mark (codes ":")) name_end_weighs))
      (weighs_image old_singleton w.path (body_weight w) (λ x. omega arith) (weighs_before (Mark (codes ";")) (braced_weighs (weighs_behind (Keyword (codes "service")) name_end_weighs))))

  named_weighs : (word : List ℕ) {P : Declaration → Tokens → Type 0} → Weighs w.token (body_weight w) P → Weighs w.token (decl_weight w) (Named word P)
  named_weighs word h =
      weighs_image decl_of (λ (z : Id × Declaration). w.id z.0 + body_weight w z.1) (decl_weight w) (λ x. omega arith) (weighs_behind (Keyword word) (weighs_seq an_id h))

  decl_weighs : Weighs w.token (decl_weight w) IsDecl
  decl_weighs =
      weighs_either (named_weighs (codes "interface") interface_weighs)
      (weighs_either (named_weighs (codes "struct") struct_weighs)
      (weighs_either (named_weighs (codes "exception") exception_weighs)
      (weighs_either (named_weighs (codes "enum") enum_weighs)
      (weighs_either (named_weighs (codes "constants") constants_weigh)
      (weighs_either typedef_weighs
      (weighs_either (named_weighs (codes "service") service_weighs) (named_weighs (codes "singleton") singleton_weighs)))))))

  abbrev declared_weight : Bool × Decl → ℕ
  declared_weight z = decl_weight w z.1

  declared_weighs : Weighs w.token declared_weight IsDeclared
  declared_weighs =
      weighs_image (λ (z : Option (Unit {0}) × Decl). (is_some z.0, z.1)) (λ (z : Option (Unit {0}) × Decl). nothing z.0 + decl_weight w z.1) declared_weight (λ x. omega arith)
      (weighs_seq (weighs_nothing (Optional (Keyword (codes "published")))) decl_weighs)

mutual
  unfolding IsDef AreDefs def_weight defs_weight

  def_bound : (w : Weights) (right : AreWeights w) (d : Def) (u : Tokens) → IsDef d u → def_weight w d ≤ total w.token u
  def_bound w right (in_module name ds) u (a, b, c, e, opening, inner, closing) =
      in_three w.token a b c u (w.id name) (defs_weight w ds) e
      ((weighs_behind (Keyword (codes "module")) (weighs_before (Mark (codes "{")) (ids_weigh w right))).bound name a opening) (defs_bound w right ds b inner)
  def_bound w right (declared published d) u is = (declared_weighs w right).bound (published, d) u is

  defs_bound : (w : Weights) (right : AreWeights w) (ds : Defs) (u : Tokens) → AreDefs ds u → defs_weight w ds ≤ total w.token u
  defs_bound w right no_defs u is = omega arith
  defs_bound w right (def d ds) u (a, b, e, first, others) = in_parts w.token a b u (def_weight w d) (defs_weight w ds) e (def_bound w right d a first) (defs_bound w right ds b others)

pub tree_bound : (w : Weights) (right : AreWeights w) (tree : Tree) (u : Tokens) → IsTree tree u → total (def_weight w) tree ≤ total w.token u
tree_bound w right tree u is =
    let each : Weighs w.token (def_weight w) IsDef = record { bound = def_bound w right } in
    let all = weighs_many each in
    all.bound tree u is
