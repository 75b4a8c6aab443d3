-- A name is among words where it is among those that begin with its first letter.
use Rattle.std.proofs.Common.{◌≡◌, ◌<◌, ℕ, length, get_or, arith, subst, Bool, true, false, List, [], ◌∷◌, refl, sym, ap, ◌∙◌, if◌then◌else◌}
use Rattle.std.specs.Prelude.{◌||◌, not, map, filter, nat_eq}
use Rattle.std.specs.Borrow.{Bor}
use Rattle.std.specs.List.{list_any, list_all}
use Rattle.std.specs.Str.{bytes_eq}
use Rattle.std.proofs.lemmas.Bool.{and_parts}
use Rattle.std.proofs.lemmas.Map.Views.{any-filter_same}
use Rattle.uno_entities.specs.Words.{begins_with, words_with}

-- a test of what was mapped
list_any-map : {X Y : Type 0} (p : X → Bool) (f : Y → X) (ys : List Y) → list_any p (map f ys) ≡ list_any (λ y. p (f y)) ys
list_any-map p f [] = refl
list_any-map p f (y ∷ ys) = ap (λ b. p (f y) || b) (list_any-map p f ys)

-- a word that is the name begins as it does
begins_alike : (c : ℕ) (cs word : List ℕ) → bytes_eq (c ∷ cs) word ≡ true → begins_with c word ≡ true
begins_alike c cs [] is = is
begins_alike c cs (w ∷ ws) is = (and_parts (nat_eq c w) (bytes_eq cs ws) is).0

among_those : (c : ℕ) (cs : List ℕ) (some : List (Bor (List ℕ))) (all : List (List ℕ)) → map (λ word. word.now) some ≡ words_with c all
    → list_any (λ word. bytes_eq (c ∷ cs) word.now) some ≡ list_any (bytes_eq (c ∷ cs)) all
unfolding words_with
among_those c cs some all are =
    sym (list_any-map (bytes_eq (c ∷ cs)) (λ (word : Bor (List ℕ)). word.now) some) ∙ ap (list_any (bytes_eq (c ∷ cs))) are
    ∙ any-filter_same (bytes_eq (c ∷ cs)) (begins_with c) true (begins_alike c cs) all

at_first : (name : List ℕ) (d : ℕ) (some : List (Bor (List ℕ))) (all : List (List ℕ)) → 0 < length name → map (λ word. word.now) some ≡ words_with (get_or name 0 d) all
    → list_any (λ word. bytes_eq name word.now) some ≡ list_any (bytes_eq name) all
at_first [] d some all long are = absurd (omega (arith, long))
at_first (c ∷ cs) d some all long are = among_those c cs some all are

-- the first letter may be read in another list that is the name
pub among_words : (name bytes : List ℕ) (d : ℕ) (some : List (Bor (List ℕ))) (all : List (List ℕ)) → bytes ≡ name → 0 < length bytes
    → map (λ word. word.now) some ≡ words_with (get_or bytes 0 d) all → list_any (λ word. bytes_eq name word.now) some ≡ list_any (bytes_eq name) all
among_words name bytes d some all same long are =
    at_first name d some all (omega (arith, long, ap length same)) (subst (λ (b : List ℕ). map (λ word. word.now) some ≡ words_with (get_or b 0 d) all) same are)

-- the same of a letter that is known
pub known_letter : (first letter : ℕ) (some all : List (List ℕ)) → first ≡ letter → some ≡ words_with letter all → some ≡ words_with first all
known_letter first letter some all is are = are ∙ ap (λ b. words_with b all) (sym is)

-- none begins with a letter that is none of theirs
pub none_with : (letter : ℕ) (words : List (List ℕ)) → list_all (λ word. not (begins_with letter word)) words ≡ true → [] ≡ words_with letter words
unfolding words_with
none_with letter [] none = refl
none_with letter (word ∷ words) none =
    let parts = and_parts (not (begins_with letter word)) (list_all (λ w. not (begins_with letter w)) words) none in
    by_test (begins_with letter word) parts.0 (none_with letter words parts.1)
  where
    by_test : (b : Bool) → not b ≡ true → [] ≡ filter (begins_with letter) words → [] ≡ (if b then word ∷ filter (begins_with letter) words else filter (begins_with letter) words)
    by_test false is rest = rest
    by_test true is rest = let bad : false ≡ true = is in absurd cc
