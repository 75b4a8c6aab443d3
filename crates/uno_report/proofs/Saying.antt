-- What a line says behind its first blank.
use Rattle.std.proofs.Common.{◌≡◌, ◌<◌, ◌+◌, ◌==◌, ℕ, suc, length, drop, not, eqb, Bool, true, false, List, [], ◌∷◌, Option, Some, None, Bor, refl, sym, ap, ◌∙◌, arith}
use Rattle.std.proofs.lemmas.List.{drop_all}
use Rattle.std.proofs.lemmas.Str.Pattern.{IsSplitOnceResult, split_once_first}
use Rattle.std.specs.List.{after_first, position_or_len}
use Rattle.report_model.specs.Drills.{said_in}

abbrev is_blank : ℕ → Bool
is_blank b = eqb b 32

-- behind the first blank stands what a line says
said_is : (line : List ℕ) → said_in line ≡ after_first is_blank line
unfolding said_in
said_is [] = refl
said_is (c ∷ line) = by_first (eqb c 32) refl (said_is line)
  where
    more : drop (position_or_len is_blank line + 1) line ≡ drop (1 + position_or_len is_blank line + 1) (c ∷ line)
    more = let one : suc (position_or_len is_blank line + 1) ≡ 1 + position_or_len is_blank line + 1 = omega arith in ap (λ k. drop k (c ∷ line)) one

    by_first : (b : Bool) → eqb c 32 ≡ b → said_in line ≡ after_first is_blank line → said_in (c ∷ line) ≡ after_first is_blank (c ∷ line)
    by_first true is later = rw is refl
    by_first false is later = rw is (later ∙ more)

-- so the two parts of a line, parted at its first blank, are its number and what it says
pub says_behind : (line : List ℕ) (r : Option (Bor (List ℕ) × Bor (List ℕ))) (front behind : Bor (List ℕ)) → IsSplitOnceResult 32 line r → r ≡ Some (front, behind) → behind.now ≡ said_in line
says_behind line r front behind cut found =
    let at = rw found at (split_once_first 32 line r cut (omega arith)) in
    let back = at.2 in
    back ∙ sym (said_is line)

-- and one without a blank says nothing
pub says_nothing : (line : List ℕ) (r : Option (Bor (List ℕ) × Bor (List ℕ))) → IsSplitOnceResult 32 line r → r ≡ None → said_in line ≡ []
says_nothing line r cut none =
    let at : position_or_len is_blank line ≡ length line = rw none at (split_once_first 32 line r cut (omega arith)) in
    said_is line ∙ drop_all (position_or_len is_blank line + 1) line (omega (arith, at))
