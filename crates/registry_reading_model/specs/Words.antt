-- The words of a line.
use Rattle.std.specs.Prelude.{ℕ, Bool, true, false, ◌==◌, List, [], ◌∷◌, length, take, drop, Option, None, Some, codes, if◌then◌else◌}
use Rattle.std.specs.Str.{bytes_eq}
use Rattle.uno_model.specs.Names.{is_identifier, is_entity_name}
use Rattle.uno_model.specs.declared.flags.Flags.{Flags}
use Rattle.uno_model.specs.declared.way.Way.{Way}
use Rattle.uno_model.specs.declared.way.Way.TheVariants as way

-- what there is goes on, and nothing stays nothing
abbrev pub on_some : {X Y : Type 0} → Option X → (X → Option Y) → Option Y
on_some None f = None
on_some (Some x) f = f x

-- what there is, where it is so
abbrev pub where_ : {X : Type 0} → Bool → Option X → Option X
where_ true x = x
where_ false x = None

-- what stands before the first byte of this value, and what stands behind it
abbrev pub in_front : ℕ → Option (List ℕ × List ℕ) → Option (List ℕ × List ℕ)
in_front c None = None
in_front c (Some x) = Some (c ∷ x.0, x.1)

unfoldable pub split_at : ℕ → List ℕ → Option (List ℕ × List ℕ)
split_at mark [] = None
split_at mark (c ∷ cs) = if c == mark then Some ([], cs) else in_front c (split_at mark cs)

-- a word and what stands behind the blank after it; the same where the word is an identifier
abbrev pub word_of : List ℕ → Option (List ℕ × List ℕ)
word_of text = split_at 32 text

abbrev pub identifier_of : List ℕ → Option (List ℕ × List ℕ)
identifier_of text = on_some (word_of text) (λ x. where_ (is_identifier x.0) (Some x))

-- what stands behind a word with its blank, or nothing where the text does not begin with them
unfoldable pub behind : List ℕ → List ℕ → Option (List ℕ)
behind word text = if bytes_eq (take (length word) text) word then Some (drop (length word) text) else None

-- the whole text is the name of an entity, or an identifier
abbrev pub entity_name_of : List ℕ → Option (List ℕ)
entity_name_of text = where_ (is_entity_name text) (Some text)

abbrev pub identifier_alone : List ℕ → Option (List ℕ)
identifier_alone text = where_ (is_identifier text) (Some text)

-- `in`, `out` or `inout`
unfoldable pub way_of : List ℕ → Option Way
way_of word =
    if bytes_eq word (codes "in") then Some way.Into
    else (if bytes_eq word (codes "out") then Some way.Out
    else (if bytes_eq word (codes "inout") then Some way.Both
    else None))

-- `ro` or `rw`
unfoldable pub access_of : List ℕ → Option Bool
access_of word =
    if bytes_eq word (codes "ro") then Some true
    else (if bytes_eq word (codes "rw") then Some false
    else None)

-- ---- flags

-- what is left of a word where a flag is taken from its front, with the comma behind it; nothing is left behind the last
abbrev pub first_flag : Option (List ℕ × List ℕ) → List ℕ → List ℕ × Option (List ℕ)
first_flag None left = (left, None)
first_flag (Some x) left = (x.0, Some x.1)

abbrev pub take_flag : List ℕ → Option (List ℕ) → Bool × Option (List ℕ)
take_flag flag None = (false, None)
take_flag flag (Some left) = taken (first_flag (split_at 44 left) left)
  where
    taken : List ℕ × Option (List ℕ) → Bool × Option (List ℕ)
    taken x = if bytes_eq x.0 flag then (true, x.1) else (false, Some left)

-- each flag in the order of the grammar, and what is left behind them
unfoldable pub flags_left : Option (List ℕ) → Flags × Option (List ℕ)
flags_left left =
    let bound = take_flag (codes "bound") left in
    let constrained = take_flag (codes "constrained") bound.1 in
    let maybeambiguous = take_flag (codes "maybeambiguous") constrained.1 in
    let maybedefault = take_flag (codes "maybedefault") maybeambiguous.1 in
    let maybevoid = take_flag (codes "maybevoid") maybedefault.1 in
    let optional = take_flag (codes "optional") maybevoid.1 in
    let readonly = take_flag (codes "readonly") optional.1 in
    let removable = take_flag (codes "removable") readonly.1 in
    let transient = take_flag (codes "transient") removable.1 in (
      record {
        bound = bound.0;
        constrained = constrained.0;
        maybeambiguous = maybeambiguous.0;
        maybedefault = maybedefault.0;
        maybevoid = maybevoid.0;
        optional = optional.0;
        readonly = readonly.0;
        removable = removable.0;
        transient = transient.0;
      },
      transient.1,
    )

abbrev pub all_taken : Flags × Option (List ℕ) → Option Flags
all_taken (flags, None) = Some flags
all_taken (flags, Some left) = None

-- flags joined by commas, or `-`
unfoldable pub flags_of : List ℕ → Option Flags
flags_of word = if bytes_eq word (codes "-") then all_taken (flags_left None) else all_taken (flags_left (Some word))
