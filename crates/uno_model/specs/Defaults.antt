-- The default of a type.
use Rattle.std.specs.Prelude.{ℕ, zero, suc, ℤ, pos, false, List, [], ◌∷◌, length, map, Option, None, Some, if◌then◌else◌}
use Rattle.uno_model.specs.Codes.{same_kind}
use Rattle.uno_model.specs.Kinds.{Kind}
use Rattle.uno_model.specs.Kinds as kd
use Rattle.uno_model.specs.Entities.{Entity, Body, Item}
use Rattle.uno_model.specs.Entities as plain
use Rattle.uno_model.specs.Registry.{find_entity}
use Rattle.uno_model.specs.Fits.{member_kinds}
use Rattle.uno_model.specs.Values.{null, Plain, Plains, void, char, boolean, byte, short, unsigned_short, long, unsigned_long, plains}
use Rattle.uno_model.specs.Values.{hyper, unsigned_hyper, str, kind, any, enum, tuple, list, bytes, ref, none}

-- the items of an enum
abbrev pub items_in : Body → List Item
items_in (plain.enum items) = items
items_in _ = []

abbrev pub items_of : Option Entity → List Item
items_of None = []
items_of (Some e) = items_in e.body

-- the number of the first item
abbrev pub first_number : List Item → ℤ
first_number [] = pos 0
first_number (i ∷ items) = i.number

-- 0, false, the empty text, the type void, an any of void, no elements, null, the first item of an enum; and what is given for a struct or an exception
abbrev pub default_with : List Entity → (List ℕ → Plain) → Kind → Plain
default_with reg tuple_named kd.void = void
default_with reg tuple_named kd.char = char 0
default_with reg tuple_named kd.boolean = boolean false
default_with reg tuple_named kd.byte = byte (pos 0)
default_with reg tuple_named kd.short = short (pos 0)
default_with reg tuple_named kd.unsigned_short = unsigned_short 0
default_with reg tuple_named kd.long = long (pos 0)
default_with reg tuple_named kd.unsigned_long = unsigned_long 0
default_with reg tuple_named kd.hyper = hyper (pos 0)
default_with reg tuple_named kd.unsigned_hyper = unsigned_hyper 0
default_with reg tuple_named kd.str = str []
default_with reg tuple_named kd.kind = kind kd.void
default_with reg tuple_named kd.any = any kd.void void
default_with reg tuple_named (kd.enum name) = enum name (first_number (items_of (find_entity name reg)))
default_with reg tuple_named (kd.struct name) = tuple_named name
default_with reg tuple_named (kd.exception name) = tuple_named name
default_with reg tuple_named (kd.interface name) = ref null
default_with reg tuple_named (kd.sequence k) = if same_kind k kd.byte then bytes [] else list k none

-- the same, over so many levels of structs in structs; past them a struct has no members
unfoldable pub default_within : ℕ → List Entity → Kind → Plain
default_within zero reg k = default_with reg (λ name. tuple name none) k
default_within (suc levels) reg k = default_with reg (λ name. tuple name (plains (map (default_within levels reg) (member_kinds reg name)))) k

-- the default of a type, of a struct or an exception that of all members: an exception, and then a way over structs that comes to no name twice, have no more
-- levels than there are entities and two
unfoldable pub default_of_kind : List Entity → Kind → Plain
default_of_kind reg k = default_within (suc (suc (length reg))) reg k
