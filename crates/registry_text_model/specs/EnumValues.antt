-- The sixth rule: the value of an item is in the range of `long`.
use Rattle.std.specs.Prelude.{ℤ, pos, negsuc, Bool, true, ◌&&◌, int_le}
use Rattle.std.specs.List.{list_all}
use Rattle.uno_model.specs.Entities.{Entity, Body, enum}

abbrev pub is_between : ℤ → ℤ → ℤ → Bool
is_between least most n = int_le least n && int_le n most

abbrev pub is_long : ℤ → Bool
is_long n = is_between (negsuc 2147483647) (pos 2147483647) n

abbrev pub items_are_long : Body → Bool
items_are_long (enum items) = list_all (λ i. is_long i.number) items
items_are_long _ = true

unfoldable pub values_are_long : Entity → Bool
values_are_long e = items_are_long e.body
