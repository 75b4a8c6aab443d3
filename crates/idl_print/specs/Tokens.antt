-- How the tokens of a line are written one after the other.
use Rattle.std.specs.Prelude.{ℕ, ℤ, List, [], ◌∷◌, ◌++◌, map, codes, Option, None, Some, if◌then◌else◌}
use Rattle.std.specs.Int.{is_negative}
use Rattle.std.specs.Borrow.{Bor}
use Rattle.std.specs.List.{flat_map}
use Rattle.uno_model.specs.Kinds.{Kind}
use Rattle.uno_model.specs.Kinds as kd
use Rattle.registry_text_model.specs.Canonical.{kind_tokens}

-- tokens that are lent
abbrev pub tokens_at : List (Bor (List ℕ)) → List (List ℕ)
tokens_at tokens = map (λ t. t.now) tokens

-- each token, and a blank
unfoldable pub followed : List (List ℕ) → List ℕ
followed tokens = flat_map (λ t. t ++ 32 ∷ []) tokens

-- the elements of a sequence
abbrev pub element_of : Kind → Option Kind
element_of (kd.sequence k) = Some k
element_of k = None

-- what stands before the type below all sequences, and behind it
unfoldable pub opening : Kind → List (List ℕ)
opening (kd.sequence k) = codes "sequence" ∷ (codes "<" ∷ opening k)
opening k = []

unfoldable pub closing : Kind → List (List ℕ)
closing (kd.sequence k) = codes ">" ∷ closing k
closing k = []

-- a type that is no sequence
unfoldable pub word_tokens : Kind → List (List ℕ)
word_tokens (kd.sequence k) = []
word_tokens k = kind_tokens k

-- the sign of a negative number
unfoldable pub sign_tokens : ℤ → List (List ℕ)
sign_tokens n = if is_negative n then codes "-" ∷ [] else []

-- the modules round the last of the parts of a name: opened, and closed
unfoldable pub opened : List (List ℕ) → List (List ℕ)
opened [] = []
opened (id ∷ []) = []
opened (m ∷ (n ∷ ns)) = codes "module" ∷ (m ∷ (codes "{" ∷ opened (n ∷ ns)))

unfoldable pub closed : List (List ℕ) → List (List ℕ)
closed [] = []
closed (id ∷ []) = []
closed (m ∷ (n ∷ ns)) = codes ";" ∷ (codes "}" ∷ closed (n ∷ ns))

unfoldable pub last_part : List (List ℕ) → List ℕ
last_part [] = []
last_part (id ∷ []) = id
last_part (m ∷ (n ∷ ns)) = last_part (n ∷ ns)
