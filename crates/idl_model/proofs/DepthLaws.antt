-- Every tree keeps some limits, and all that are no less.
use Rattle.std.proofs.Common.{◌≡◌, ℕ, zero, suc, ◌≤◌, max, Bool, true, ◌&&◌, List, [], ◌∷◌, Option, None, Some}
use Rattle.std.proofs.Common.{refl, ◌∙◌, arith}
use Rattle.std.specs.List.{list_all}
use Rattle.grammar_model.proofs.Fronts.{fit_both}
use Rattle.idl_model.specs.Depths.{type_fits, arguments_fit, expr_fits, operands_fit, value_fits, interface_member_fits, service_member_fits}
use Rattle.idl_model.specs.Depths.{declaration_fits, def_fits, defs_fit, tree_fits_within}
use Rattle.idl_model.specs.Trees.{WrittenType, simple, named, sequence_of, Arguments, no_arguments, argument, Expr, number, truth, constant, parentheses}
use Rattle.idl_model.specs.Trees.{signed, chain, Operands, no_operands, operand}
use Rattle.idl_model.specs.Trees.{Fields, Item, Constant, Parameter, InterfaceMember, base_member, attribute, method, ConstructorParameter}
use Rattle.idl_model.specs.Trees.{Constructor, ServiceMember, face, subservice, property}
use Rattle.idl_model.specs.Trees.{Declaration, forward, interface, struct, exception, enum, constants, typedef, new_service, old_service, new_singleton}
use Rattle.idl_model.specs.Trees.{old_singleton, Def, in_module, declared, Defs, no_defs, def, Tree}

-- from some limit on a test passes
abbrev pub Holds : (ℕ → ℕ → ℕ → Bool) → Type 0
Holds f = (n : ℕ) × ((types brackets modules : ℕ) → n ≤ types → n ≤ brackets → n ≤ modules → f types brackets modules ≡ true)

holds_always : Holds (λ types brackets modules. true)
holds_always = (0, λ types brackets modules t b m. refl)

holds_both : (f g : ℕ → ℕ → ℕ → Bool) → Holds f → Holds g → Holds (λ types brackets modules. f types brackets modules && g types brackets modules)
holds_both f g a b = (
  max a.0 b.0,
  λ types brackets modules t k m.
      fit_both (f types brackets modules) (g types brackets modules) (a.1 types brackets modules (omega arith) (omega arith) (omega arith))
      (b.1 types brackets modules (omega arith) (omega arith) (omega arith)),
)

holds_all : {X : Type 0} (f : X → ℕ → ℕ → ℕ → Bool) (xs : List X) → ((x : X) → Holds (f x))
    → Holds (λ types brackets modules. list_all (λ x. f x types brackets modules) xs)
holds_all f [] each = holds_always
holds_all f (x ∷ xs) each = holds_both (f x) (λ types brackets modules. list_all (λ y. f y types brackets modules) xs) (each x) (holds_all f xs each)

-- ---- types and expressions

above : (f : ℕ → ℕ → ℕ → Bool) (g : ℕ → ℕ → ℕ → Bool) → ((types brackets modules : ℕ) → g (suc types) brackets modules ≡ f types brackets modules) → Holds f
    → Holds g
above f g same a = (suc a.0, higher)
  where
    higher : (types brackets modules : ℕ) → suc a.0 ≤ types → suc a.0 ≤ brackets → suc a.0 ≤ modules → g types brackets modules ≡ true
    higher zero brackets modules t b m = let bad : ⊥ = omega arith in absurd bad
    higher (suc types) brackets modules t b m = same types brackets modules ∙ a.1 types brackets modules (omega arith) (omega arith) (omega arith)

above_brackets : (f : ℕ → ℕ → ℕ → Bool) (g : ℕ → ℕ → ℕ → Bool) → ((types brackets modules : ℕ) → g types (suc brackets) modules ≡ f types brackets modules)
    → Holds f → Holds g
above_brackets f g same a = (suc a.0, higher)
  where
    higher : (types brackets modules : ℕ) → suc a.0 ≤ types → suc a.0 ≤ brackets → suc a.0 ≤ modules → g types brackets modules ≡ true
    higher types zero modules t b m = let bad : ⊥ = omega arith in absurd bad
    higher types (suc brackets) modules t b m = same types brackets modules ∙ a.1 types brackets modules (omega arith) (omega arith) (omega arith)

above_modules : (f : ℕ → ℕ → ℕ → Bool) (g : ℕ → ℕ → ℕ → Bool) → ((types brackets modules : ℕ) → g types brackets (suc modules) ≡ f types brackets modules)
    → Holds f → Holds g
above_modules f g same a = (suc a.0, higher)
  where
    higher : (types brackets modules : ℕ) → suc a.0 ≤ types → suc a.0 ≤ brackets → suc a.0 ≤ modules → g types brackets modules ≡ true
    higher types brackets zero t b m = let bad : ⊥ = omega arith in absurd bad
    higher types brackets (suc modules) t b m = same types brackets modules ∙ a.1 types brackets modules (omega arith) (omega arith) (omega arith)

mutual
  unfolding type_fits

  pub type_holds : (x : WrittenType) → Holds (λ types brackets modules. type_fits types x)
  type_holds (simple p s) = holds_always
  type_holds (named path no_arguments) = holds_always
  type_holds (named path (argument x xs)) =
      above (λ types brackets modules. type_fits types x && arguments_fit types xs) (λ types brackets modules. type_fits types (named path (argument x xs)))
      (λ types brackets modules. refl)
      (holds_both (λ types brackets modules. type_fits types x) (λ types brackets modules. arguments_fit types xs) (type_holds x) (arguments_hold xs))
  type_holds (sequence_of p x) =
      above (λ types brackets modules. type_fits types x) (λ types brackets modules. type_fits types (sequence_of p x)) (λ types brackets modules. refl)
      (type_holds x)

  pub arguments_hold : (xs : Arguments) → Holds (λ types brackets modules. arguments_fit types xs)
  arguments_hold no_arguments = holds_always
  arguments_hold (argument x xs) = holds_both (λ types brackets modules. type_fits types x) (λ types brackets modules. arguments_fit types xs) (type_holds x)
      (arguments_hold xs)

mutual
  unfolding expr_fits

  pub expr_holds : (e : Expr) → Holds (λ types brackets modules. expr_fits brackets e)
  expr_holds (number n) = holds_always
  expr_holds (truth b) = holds_always
  expr_holds (constant path) = holds_always
  expr_holds (parentheses e) =
      above_brackets (λ types brackets modules. expr_fits brackets e) (λ types brackets modules. expr_fits brackets (parentheses e))
      (λ types brackets modules. refl) (expr_holds e)
  expr_holds (signed signs e) = expr_holds e
  expr_holds (chain e es) = holds_both (λ types brackets modules. expr_fits brackets e) (λ types brackets modules. operands_fit brackets es) (expr_holds e)
      (operands_hold es)

  pub operands_hold : (es : Operands) → Holds (λ types brackets modules. operands_fit brackets es)
  operands_hold no_operands = holds_always
  operands_hold (operand op e es) = holds_both (λ types brackets modules. expr_fits brackets e) (λ types brackets modules. operands_fit brackets es)
      (expr_holds e) (operands_hold es)

-- ---- declarations and definitions

value_holds : (v : Option Expr) → Holds (λ types brackets modules. value_fits brackets v)
value_holds None = holds_always
value_holds (Some e) = expr_holds e

interface_member_holds : (x : InterfaceMember) → Holds (λ types brackets modules. interface_member_fits types x)
interface_member_holds (base_member optional path) = holds_always
interface_member_holds (attribute a) = type_holds a.type
interface_member_holds (method m) = holds_both (λ types brackets modules. type_fits types m.result_type)
    (λ types brackets modules. list_all (λ (p : Parameter). type_fits types p.type) m.parameters)
    (type_holds m.result_type) (holds_all (λ (p : Parameter) types brackets modules. type_fits types p.type) m.parameters (λ p. type_holds p.type))

service_member_holds : (x : ServiceMember) → Holds (λ types brackets modules. service_member_fits types x)
service_member_holds (face optional path) = holds_always
service_member_holds (subservice optional path) = holds_always
service_member_holds (property p) = type_holds p.type

declaration_holds : (d : Declaration) → Holds (λ types brackets modules. declaration_fits types brackets d)
declaration_holds forward = holds_always
declaration_holds (interface base members) = holds_all (λ (x : InterfaceMember) types brackets modules. interface_member_fits types x) members
    interface_member_holds
declaration_holds (struct base members) = holds_all (λ (x : Fields) types brackets modules. type_fits types x.type) members (λ x. type_holds x.type)
declaration_holds (exception base members) = holds_all (λ (x : Fields) types brackets modules. type_fits types x.type) members (λ x. type_holds x.type)
declaration_holds (enum items) = holds_all (λ (x : Item) types brackets modules. value_fits brackets x.value) items (λ x. value_holds x.value)
declaration_holds (constants cs) = holds_all (λ (x : Constant) types brackets modules. type_fits types x.type && expr_fits brackets x.value) cs
    (λ x. holds_both (λ types brackets modules. type_fits types x.type) (λ types brackets modules. expr_fits brackets x.value) (type_holds x.type)
    (expr_holds x.value))
declaration_holds (typedef t) = type_holds t
declaration_holds (new_service base constructors) = holds_all (λ (x : Constructor) types brackets modules. list_all
    (λ (p : ConstructorParameter). type_fits types p.type) x.parameters) constructors
    (λ x. holds_all (λ (p : ConstructorParameter) types brackets modules. type_fits types p.type) x.parameters (λ p. type_holds p.type))
declaration_holds (old_service members) = holds_all (λ (x : ServiceMember) types brackets modules. service_member_fits types x) members service_member_holds
declaration_holds (new_singleton base) = holds_always
declaration_holds (old_singleton service) = holds_always

mutual
  unfolding def_fits

  pub def_holds : (x : Def) → Holds (λ types brackets modules. def_fits types brackets modules x)
  def_holds (in_module name ds) =
      above_modules (λ types brackets modules. defs_fit types brackets modules ds) (λ types brackets modules. def_fits types brackets modules
      (in_module name ds)) (λ types brackets modules. refl) (defs_hold ds)
  def_holds (declared published decl) = declaration_holds decl.body

  pub defs_hold : (xs : Defs) → Holds (λ types brackets modules. defs_fit types brackets modules xs)
  defs_hold no_defs = holds_always
  defs_hold (def x xs) = holds_both (λ types brackets modules. def_fits types brackets modules x)
      (λ types brackets modules. defs_fit types brackets modules xs) (def_holds x) (defs_hold xs)

pub tree_holds : (x : Tree) → Holds (λ types brackets modules. tree_fits_within types brackets modules x)
tree_holds x = holds_all (λ d types brackets modules. def_fits types brackets modules d) x def_holds
