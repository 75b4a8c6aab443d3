-- The limits of a tree: at most 64 parentheses, 64 modules and 64 types with their `<` stand open at once, each kind counted by itself.
use Rattle.std.specs.Prelude.{ℕ, zero, suc, Bool, true, false, ◌&&◌, Option, None, Some}
use Rattle.std.specs.List.{list_all}
use Rattle.idl_model.specs.Trees.{WrittenType, simple, named, sequence_of, Arguments, no_arguments, argument}
use Rattle.idl_model.specs.Trees.{Expr, number, truth, constant, parentheses, signed, chain, Operands, no_operands, operand}
use Rattle.idl_model.specs.Trees.{InterfaceMember, base_member, attribute, method, ServiceMember, face, subservice, property}
use Rattle.idl_model.specs.Trees.{Declaration, forward, interface, struct, exception, enum, constants, typedef, new_service, old_service, new_singleton, old_singleton}
use Rattle.idl_model.specs.Trees.{Def, in_module, declared, Defs, no_defs, def, Tree}

-- a type in which at most so many `<` stand open
unfoldable mutual
  pub type_fits : ℕ → WrittenType → Bool
  type_fits d (simple p s) = true
  type_fits d (named path no_arguments) = true
  type_fits zero (named path (argument t ts)) = false
  type_fits (suc d) (named path (argument t ts)) = type_fits d t && arguments_fit d ts
  type_fits zero (sequence_of p t) = false
  type_fits (suc d) (sequence_of p t) = type_fits d t

  pub arguments_fit : ℕ → Arguments → Bool
  arguments_fit d no_arguments = true
  arguments_fit d (argument t ts) = type_fits d t && arguments_fit d ts

-- an expression in which at most so many parentheses stand open
unfoldable mutual
  pub expr_fits : ℕ → Expr → Bool
  expr_fits d (number n) = true
  expr_fits d (truth b) = true
  expr_fits d (constant path) = true
  expr_fits zero (parentheses e) = false
  expr_fits (suc d) (parentheses e) = expr_fits d e
  expr_fits d (signed signs e) = expr_fits d e
  expr_fits d (chain e es) = expr_fits d e && operands_fit d es

  pub operands_fit : ℕ → Operands → Bool
  operands_fit d no_operands = true
  operands_fit d (operand op e es) = expr_fits d e && operands_fit d es

-- a declaration in whose types at most so many `<` stand open, and in whose expressions so many parentheses
abbrev pub value_fits : ℕ → Option Expr → Bool
value_fits brackets None = true
value_fits brackets (Some e) = expr_fits brackets e

abbrev pub interface_member_fits : ℕ → InterfaceMember → Bool
interface_member_fits types (base_member optional path) = true
interface_member_fits types (attribute a) = type_fits types a.type
interface_member_fits types (method m) = type_fits types m.result_type && list_all (λ p. type_fits types p.type) m.parameters

abbrev pub service_member_fits : ℕ → ServiceMember → Bool
service_member_fits types (face optional path) = true
service_member_fits types (subservice optional path) = true
service_member_fits types (property p) = type_fits types p.type

abbrev pub declaration_fits : (types brackets : ℕ) → Declaration → Bool
declaration_fits types brackets forward = true
declaration_fits types brackets (interface base members) = list_all (interface_member_fits types) members
declaration_fits types brackets (struct base members) = list_all (λ m. type_fits types m.type) members
declaration_fits types brackets (exception base members) = list_all (λ m. type_fits types m.type) members
declaration_fits types brackets (enum items) = list_all (λ i. value_fits brackets i.value) items
declaration_fits types brackets (constants cs) = list_all (λ c. type_fits types c.type && expr_fits brackets c.value) cs
declaration_fits types brackets (typedef t) = type_fits types t
declaration_fits types brackets (new_service base constructors) = list_all (λ c. list_all (λ p. type_fits types p.type) c.parameters) constructors
declaration_fits types brackets (old_service members) = list_all (service_member_fits types) members
declaration_fits types brackets (new_singleton base) = true
declaration_fits types brackets (old_singleton service) = true

-- a definition in which at most so many modules stand open, too
unfoldable mutual
  pub def_fits : (types brackets modules : ℕ) → Def → Bool
  def_fits types brackets zero (in_module name ds) = false
  def_fits types brackets (suc modules) (in_module name ds) = defs_fit types brackets modules ds
  def_fits types brackets modules (declared published decl) = declaration_fits types brackets decl.body

  pub defs_fit : (types brackets modules : ℕ) → Defs → Bool
  defs_fit types brackets modules no_defs = true
  defs_fit types brackets modules (def x xs) = def_fits types brackets modules x && defs_fit types brackets modules xs

abbrev pub tree_fits_within : (types brackets modules : ℕ) → Tree → Bool
tree_fits_within types brackets modules tree = list_all (def_fits types brackets modules) tree

unfoldable pub tree_fits : Tree → Bool
tree_fits tree = tree_fits_within 64 64 64 tree
