-- The term at the front of a text: by its first byte, with the terms in it read alike.
use Rattle.std.specs.Prelude.{ℕ, zero, suc, false, ◌==◌, List, [], ◌∷◌, length, Option, None, Some, Result, Ok, Err, codes, if◌then◌else◌}
use Rattle.std.specs.Str.{bytes_eq, is_utf8}
use Rattle.literal_model.specs.Literals as token
use Rattle.literal_model.specs.Shapes.{run_of, behind_run, is_known_word, number_at, string_at}
use Rattle.uno_model.specs.Entities.{Entity}
use Rattle.uno_model.specs.Names.{begins_identifier, goes_on_identifier}
use Rattle.plan_model.specs.Expressions.{Word}
use Rattle.plan_model.specs.Lines.{Term, Terms, leaf, type_named, void_any, typed, elements, members, word, operation, none, more}
use Rattle.plan_model.specs.declared.operation.Operation.{Operation}
use Rattle.plan_model.specs.declared.operation.Operation.TheVariants.{Add, Sub}
use Rattle.plan_reading_model.specs.Parts.{on_some, where_, behind, type_at, word_at}

-- what is read of a text, and what stands behind it
abbrev pub Reads : Type 0 → Type 0
Reads X = List ℕ → Option (X × List ℕ)

-- ---- leaves

abbrev pub leaf_of : Result (token.Token × List ℕ) ℕ → Option (Term × List ℕ)
leaf_of (Ok x) = Some (leaf x.0, x.1)
leaf_of (Err left) = None

-- a text that is UTF-8
abbrev pub text_of : Result (List ℕ × List ℕ) ℕ → Option (Term × List ℕ)
text_of (Ok x) = where_ (is_utf8 x.0) (Some (leaf (token.string x.0), x.1))
text_of (Err left) = None

-- a word that some literal has
abbrev pub known_word : List Entity → List ℕ → List ℕ → Option (Term × List ℕ)
known_word reg w rest = where_ (is_known_word reg w) (Some (leaf (token.word w), rest))

abbrev pub some_plan_word : Option (Word × List ℕ) → Option (Term × List ℕ)
some_plan_word None = None
some_plan_word (Some x) = Some (word x.0, x.1)

-- ---- types

abbrev pub type_value : List ℕ × List ℕ → Option (Term × List ℕ)
type_value x = on_some (behind (codes ">") x.1) (λ rest. Some (type_named x.0, rest))

-- a value behind its type; behind void stands none, and any is the type of no value that an any holds
abbrev pub cast_value : Reads Term → List ℕ → List ℕ → Option (Term × List ℕ)
cast_value read k rest =
    if bytes_eq k (codes "void") then Some (void_any, rest)
    else (if bytes_eq k (codes "any") then None
    else on_some (read rest) (λ x. Some (typed k x.0, x.1)))

abbrev pub cast_of : Reads Term → List ℕ × List ℕ → Option (Term × List ℕ)
cast_of read x = on_some (behind (codes ")") x.1) (cast_value read x.0)

-- ---- terms in brackets

abbrev pub in_front : Term → Option (Terms × List ℕ) → Option (Terms × List ℕ)
in_front t None = None
in_front t (Some x) = Some (more t x.0, x.1)

-- behind a term stands the byte that closes, or a comma and more terms
abbrev pub behind_term : ℕ → Reads Terms → Term × List ℕ → Option (Terms × List ℕ)
behind_term close others (t, []) = None
behind_term close others (t, c ∷ cs) = if c == close then Some (more t none, cs) else (if c == 44 then in_front t (others cs) else None)

-- one term or more, of which there are at most so many, up to the byte that closes
unfoldable pub terms_on : ℕ → Reads Term → ℕ → Reads Terms
terms_on zero read close bytes = None
terms_on (suc most) read close bytes = on_some (read bytes) (behind_term close (terms_on most read close))

abbrev pub as_elements : Terms × List ℕ → Option (Term × List ℕ)
as_elements x = Some (elements x.0, x.1)

abbrev pub as_members : Terms × List ℕ → Option (Term × List ℕ)
as_members x = Some (members x.0, x.1)

-- elements, of which there may be none
unfoldable pub elements_at : Reads Term → Reads Term
elements_at read [] = None
elements_at read (c ∷ cs) = if c == 93 then Some (elements none, cs) else on_some (terms_on (length (c ∷ cs)) read 93 (c ∷ cs)) as_elements

unfoldable pub members_at : Reads Term → Reads Term
members_at read bytes = on_some (terms_on (length bytes) read 125 bytes) as_members

-- ---- operations

abbrev pub second_operand : Reads Term → Operation → Term × List ℕ → Option (Term × List ℕ)
second_operand read op x =
    on_some (behind (codes ",") x.1) (λ rest. on_some (read rest) (λ y. on_some (behind (codes ")") y.1) (λ left. Some (operation op x.0 y.0, left))))

unfoldable pub operands_at : Reads Term → Operation → Reads Term
operands_at read op bytes = on_some (read bytes) (second_operand read op)

-- a word: with a parenthesis behind it an operation, else a value
abbrev pub operation_at : Reads Term → List ℕ → List ℕ → Option (Term × List ℕ)
operation_at read w rest =
    if bytes_eq w (codes "add") then operands_at read Add rest
    else (if bytes_eq w (codes "sub") then operands_at read Sub rest
    else None)

abbrev pub behind_word : List Entity → Reads Term → List ℕ → List ℕ → Option (Term × List ℕ)
behind_word reg read w [] = known_word reg w []
behind_word reg read w (c ∷ cs) = if c == 40 then operation_at read w cs else known_word reg w (c ∷ cs)

unfoldable pub letters_at : List Entity → Reads Term → Reads Term
letters_at reg read bytes = behind_word reg read (run_of goes_on_identifier bytes) (behind_run goes_on_identifier bytes)

-- ---- terms

-- a term by its first byte
unfoldable pub term_step : List Entity → Reads Term → Reads Term
term_step reg read [] = None
term_step reg read (c ∷ cs) =
    if c == 91 then elements_at read cs
    else (if c == 123 then members_at read cs
    else (if c == 34 then text_of (string_at false cs)
    else (if c == 60 then on_some (type_at cs) type_value
    else (if c == 40 then on_some (type_at cs) (cast_of read)
    else (if c == 36 then some_plan_word (word_at (c ∷ cs))
    else (if begins_identifier c then letters_at reg read (c ∷ cs)
    else leaf_of (number_at (c ∷ cs))))))))

-- a term in which at most so many are nested
unfoldable pub term_within : ℕ → List Entity → Reads Term
term_within zero reg bytes = None
term_within (suc most) reg bytes = term_step reg (term_within most reg) bytes

-- the term at the front of a text: no more terms are nested than there are bytes
unfoldable pub term_at : List Entity → Reads Term
term_at reg bytes = term_within (length bytes) reg bytes
