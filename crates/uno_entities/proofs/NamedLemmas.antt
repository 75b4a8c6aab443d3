-- A type with a name is told by its class and the front of its name.
use Rattle.std.proofs.Common.{◌≡◌, ℕ, List, arith}
use Rattle.std.specs.Prelude.{◌↔◌}
use Rattle.uno_model.specs.Kinds.{Kind}
use Rattle.uno_model.specs.Kinds as kd
use Rattle.uno_model.specs.declared.type_class.TypeClass.TheVariants as class
use Rattle.uno_entities.specs.TypeNames.{IsNamed}

pub enum_named : (name : List ℕ) (k : Kind) → IsNamed class.Enum name k → k ≡ kd.enum name
enum_named name k is = let of_class = is.0 in let named = is.1 in grind arith

pub struct_named : (name : List ℕ) (k : Kind) → IsNamed class.Struct name k → k ≡ kd.struct name
struct_named name k is = let of_class = is.0 in let named = is.1 in grind arith

pub exception_named : (name : List ℕ) (k : Kind) → IsNamed class.Exception name k → k ≡ kd.exception name
exception_named name k is = let of_class = is.0 in let named = is.1 in grind arith

pub interface_named : (name : List ℕ) (k : Kind) → IsNamed class.Interface name k → k ≡ kd.interface name
interface_named name k is = let of_class = is.0 in let named = is.1 in grind arith
