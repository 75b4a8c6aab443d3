-- Where the tokens of a file stand in it.
use Rattle.std.specs.Prelude.{◌≡◌, ℕ, ◌+◌, ◌<◌, ◌≤◌, List, [], ◌∷◌, take, drop, Some}
use Rattle.idl_text_model.specs.Tokens.{Token, word_of_text}

-- from one place to another stand tokens that are not empty, each where the one before it is over, or later
unfoldable pub StandBetween : (from to : ℕ) → List Token → Type 0
StandBetween from to [] = from ≤ to
StandBetween from to (t ∷ ts) = (from ≤ t.byte) × (0 < t.length) × StandBetween (t.byte + t.length) to ts

-- the bytes of a text at which a token stands
abbrev pub slice_of : List ℕ → Token → List ℕ
slice_of text t = take t.length (drop t.byte text)

-- they are the token's word
abbrev pub IsSlice : List ℕ → Token → Type 0
IsSlice text t = word_of_text (slice_of text t) ≡ Some t.word
