-- The headers of a text, as plain trees.
use Rattle.std.specs.Prelude.{ℕ, ◌||◌, List, Option, map, if◌then◌else◌}
use Rattle.std.specs.Ordering.{nat_cmp}
use Rattle.std.specs.List.Sorted.{IsStrictlySortedBy}
use Rattle.std.specs.Cmp.Lexicographic.{slice_cmp}
use Rattle.std.specs.Str.{bytes_eq}
use Rattle.uno_model.specs.BuiltIn.{x_interface_name, exception_name, runtime_exception_name, disposed_exception_name, factory_name}
use Rattle.uno_model.specs.Kinds.{Kind}
use Rattle.uno_model.specs.Kinds as kd
use Rattle.registry_reading_model.specs.Heads as plain
use Rattle.registry_reading.specs.declared.head.Head.{Head}

abbrev pub plain_head : Head → plain.Head
plain_head h = record { name = h.name.now; class = h.class; line = h.line; beyond = h.beyond }

abbrev pub plain_heads : List Head → List plain.Head
plain_heads = map plain_head

-- each name is below those after it
abbrev pub NamesRise : List plain.Head → Type 0
NamesRise heads = IsStrictlySortedBy (slice_cmp nat_cmp) (map (λ h. h.name) heads)

-- what a name stands for whose header was looked for
unfoldable pub named_by : Option plain.Head → List ℕ → Kind
named_by found name =
    if bytes_eq name x_interface_name || bytes_eq name factory_name then kd.interface name
    else (if bytes_eq name exception_name || (bytes_eq name runtime_exception_name || bytes_eq name disposed_exception_name) then kd.exception name
    else plain.kind_of_head name found)
