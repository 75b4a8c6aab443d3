-- What a reader keeps of what a text says: its types by the entities of their names, and of what is beyond all limits no more than shows it.
use Rattle.std.specs.Prelude.{ℕ, ◌-◌, ◌^◌, min, ℤ, pos, negsuc, List, if◌then◌else◌}
use Rattle.uno_model.specs.Kinds.{Kind, nesting}
use Rattle.uno_model.specs.Kinds as kd
use Rattle.registry_text_model.specs.EnumValues.{is_long}
use Rattle.registry_reading_model.specs.Changes.{Change}
use Rattle.registry_reading_model.specs.Kinds.{sequences}

-- the type below all sequences
unfoldable pub innermost : Kind → Kind
innermost (kd.sequence k) = innermost k
innermost k = k

-- with each name in it as the type that it stands for
unfoldable pub resolved : (List ℕ → Kind) → Kind → Kind
resolved named (kd.enum name) = named name
resolved named (kd.struct name) = named name
resolved named (kd.exception name) = named name
resolved named (kd.interface name) = named name
resolved named (kd.sequence k) = kd.sequence (resolved named k)
resolved named k = k

-- of more than 65 sequences there stand 65, which is one too many
unfoldable pub cut : Kind → Kind
cut k = sequences (min 65 (nesting k)) (innermost k)

-- the greatest number of 128 bits
abbrev pub greatest : ℕ
greatest = 2 ^ 127 - 1

unfoldable pub clamped : ℤ → ℤ
clamped (pos n) = pos (min greatest n)
clamped (negsuc n) = negsuc (min (greatest - 1) n)

-- an item beyond those of `long` has the number 0
unfoldable pub long_or_zero : ℤ → ℤ
long_or_zero n = if is_long n then n else pos 0

abbrev pub limited : Change
limited = record { kind = cut; item = long_or_zero; constant = clamped }

abbrev pub resolving : (List ℕ → Kind) → Change
resolving named = record { kind = resolved named; item = λ n. n; constant = λ n. n }

abbrev pub kept : (List ℕ → Kind) → Change
kept named = record { kind = λ k. cut (resolved named k); item = long_or_zero; constant = clamped }

-- each name as a struct's
abbrev pub unresolved : Change
unresolved = resolving kd.struct
