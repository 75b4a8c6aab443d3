-- A text that is given portion by portion: what was left is the portion, and then what is left now.
use Rattle.std.proofs.Common.{◌≡◌, ℕ, ◌+◌, List, ◌++◌, length, take, drop, sym, ◌∙◌, refl, take-append-drop}
use Rattle.std.proofs.lemmas.List.{drop-drop, take_at}

-- the n bytes that stand over the front of `into` are the portion
pub portion : (bytes piece behind : List ℕ) (given n : ℕ) → length piece ≡ n → piece ≡ take n (drop given bytes)
    → drop given bytes ≡ take n (piece ++ behind) ++ drop (given + n) bytes
portion bytes piece behind given n long is =
    sym (take-append-drop n (drop given bytes)) ∙ rw (take_at piece behind n long, is, drop-drop n given bytes) refl
