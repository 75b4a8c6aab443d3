-- The longest mark at the front of a text.
use Rattle.std.proofs.Common.{◌≡◌, ℕ, zero, suc, ◌<◌, Bool, true, false, ◌==◌, ◌&&◌, List, [], ◌∷◌, ◌++◌, length, take, drop, None, Some, IsTrue, codes}
use Rattle.std.proofs.Common.{◌⊎◌, inl, inr, refl, sym, ap, subst, ◌∙◌, arith}
use Rattle.std.proofs.lemmas.Bool.{eqb-true, ne_eqb}
use Rattle.std.proofs.lemmas.List.{take-append-drop}
use Rattle.std.proofs.lemmas.Slice.Eq.{bytes_eq-Decides}
use Rattle.std.specs.List.{list_all, list_any}
use Rattle.std.specs.Str.{bytes_eq}
use Rattle.idl_text_model.proofs.MarkLaws.{of_each, long_mark}
use Rattle.idl_text_model.specs.Pieces.{is_mark, marks}
use Rattle.idl_text_model.specs.Readings.{mark_at}
use Rattle.idl_text_model.specs.Tokens.{word_of}
use Rattle.idl_text_model.specs.Tokens as word
use Rattle.idl_lex.specs.Lexing.{is_single, mark_in, worded, IsLongestMark}
use Rattle.idl_lex.specs.Runs.{is_ascii}

-- marks have bytes below 128
pub mark_is_ascii : (m : List ℕ) → is_mark m ≡ true → IsTrue (list_all is_ascii m)
mark_is_ascii m is = of_each (list_all is_ascii) marks m refl is

-- ---- three, two and one

at_front : (front : List ℕ) (n : ℕ) (text : List ℕ) → bytes_eq (take n text) front ≡ true → text ≡ front ++ drop n text
at_front front n text here = sym (take-append-drop n text) ∙ ap (λ x. x ++ drop n text) ((bytes_eq-Decides (take n text) front).0 here)

dots_here : (rest : List ℕ) → mark_at (46 ∷ 46 ∷ 46 ∷ rest) ≡ mark_in 3 (46 ∷ 46 ∷ 46 ∷ rest)
unfolding mark_at
dots_here rest = refl

dots_longest : (rest : List ℕ) → IsLongestMark (46 ∷ 46 ∷ 46 ∷ rest) 3
dots_longest rest = record { found = dots_here rest; within = omega arith; formed = λ some. refl }

pub dots_found : (text : List ℕ) → bytes_eq (take 3 text) (codes "...") ≡ true → IsLongestMark text 3
dots_found text here = subst (λ x. IsLongestMark x 3) (sym (at_front (codes "...") 3 text here)) (dots_longest (drop 3 text))

colons_here : (rest : List ℕ) → mark_at (58 ∷ 58 ∷ rest) ≡ mark_in 2 (58 ∷ 58 ∷ rest)
unfolding mark_at
colons_here [] = refl
colons_here (c ∷ cs) = refl

colons_longest : (rest : List ℕ) → IsLongestMark (58 ∷ 58 ∷ rest) 2
colons_longest rest = record { found = colons_here rest; within = omega arith; formed = λ some. refl }

pub colons_found : (text : List ℕ) → bytes_eq (take 2 text) (codes "::") ≡ true → IsLongestMark text 2
colons_found text here = subst (λ x. IsLongestMark x 2) (sym (at_front (codes "::") 2 text here)) (colons_longest (drop 2 text))

-- two bytes that are no `::` are no mark, and three that are no `...` are none
two_none : (c d : ℕ) → bytes_eq (c ∷ d ∷ []) (codes "::") ≡ false → is_mark (c ∷ d ∷ []) ≡ false
two_none c d other = by_test (is_mark (c ∷ d ∷ [])) refl
  where
    by_word : (c ∷ d ∷ [] ≡ codes "::") ⊎ (c ∷ d ∷ [] ≡ codes "...") → ⊥
    by_word (inl same) = let bad : true ≡ false = sym ((bytes_eq-Decides (c ∷ d ∷ []) (codes "::")).1 same) ∙ other in absurd cc
    by_word (inr same) = let bad : ⊥ = cc in bad

    by_test : (b : Bool) → is_mark (c ∷ d ∷ []) ≡ b → is_mark (c ∷ d ∷ []) ≡ false
    by_test false is = is
    by_test true is = absurd (by_word (long_mark c d [] is))

no_three : (c d e : ℕ) → bytes_eq (c ∷ d ∷ e ∷ []) (codes "...") ≡ false → is_mark (c ∷ d ∷ e ∷ []) ≡ false
no_three c d e other = by_test (is_mark (c ∷ d ∷ e ∷ [])) refl
  where
    by_word : (c ∷ d ∷ e ∷ [] ≡ codes "::") ⊎ (c ∷ d ∷ e ∷ [] ≡ codes "...") → ⊥
    by_word (inl same) = let bad : ⊥ = cc in bad
    by_word (inr same) = let bad : true ≡ false = sym ((bytes_eq-Decides (c ∷ d ∷ e ∷ []) (codes "...")).1 same) ∙ other in absurd cc

    by_test : (b : Bool) → is_mark (c ∷ d ∷ e ∷ []) ≡ b → is_mark (c ∷ d ∷ e ∷ []) ≡ false
    by_test false is = is
    by_test true is = absurd (by_word (long_mark c d (e ∷ []) is))

-- ---- marks of one byte

-- the bytes of the words that have one
abbrev singles : List (List ℕ) → List ℕ
singles [] = []
singles ([] ∷ ws) = singles ws
singles ((c ∷ []) ∷ ws) = c ∷ singles ws
singles ((c ∷ d ∷ cs) ∷ ws) = singles ws

and_true : (b : Bool) → (b && true) ≡ b
and_true true = refl
and_true false = refl

and_false : (b : Bool) → (b && false) ≡ false
and_false true = refl
and_false false = refl

among_singles : (c : ℕ) (ws : List (List ℕ)) → list_any (bytes_eq (c ∷ [])) ws ≡ list_any (λ m. c == m) (singles ws)
among_singles c [] = refl
among_singles c ([] ∷ ws) = among_singles c ws
among_singles c ((d ∷ []) ∷ ws) = rw (and_true (c == d), among_singles c ws) refl
among_singles c ((d ∷ e ∷ es) ∷ ws) = rw (and_false (c == d), among_singles c ws) refl

pub single_mark : (c : ℕ) → is_mark (c ∷ []) ≡ is_single c
unfolding is_single
single_mark c = among_singles c marks

-- ---- by the first byte

one_here : (c : ℕ) (cs : List ℕ) → bytes_eq (take 3 (c ∷ cs)) (codes "...") ≡ false → bytes_eq (take 2 (c ∷ cs)) (codes "::") ≡ false
    → is_mark (c ∷ []) ≡ true → mark_at (c ∷ cs) ≡ mark_in 1 (c ∷ cs)
unfolding mark_at
one_here c [] three two is = rw is refl
one_here c (d ∷ []) three two is = rw (two_none c d two, is) refl
one_here c (d ∷ e ∷ es) three two is = rw (no_three c d e three, two_none c d two, is) refl

none_here : (c : ℕ) (cs : List ℕ) → bytes_eq (take 3 (c ∷ cs)) (codes "...") ≡ false → bytes_eq (take 2 (c ∷ cs)) (codes "::") ≡ false
    → is_mark (c ∷ []) ≡ false → mark_at (c ∷ cs) ≡ mark_in 0 (c ∷ cs)
unfolding mark_at
none_here c [] three two is = rw is refl
none_here c (d ∷ []) three two is = rw (two_none c d two, is) refl
none_here c (d ∷ e ∷ es) three two is = rw (no_three c d e three, two_none c d two, is) refl

end_here : mark_at [] ≡ mark_in 0 []
unfolding mark_at
end_here = refl

none_formed : {P : Type 0} → 0 < 0 → P
none_formed some = let bad : ⊥ = omega (arith, some) in absurd bad

-- by the first byte of a text, where it begins with neither of the long marks
pub end_found : (text : List ℕ) → length text ≡ 0 → IsLongestMark text 0
end_found [] none = record { found = end_here; within = omega arith; formed = none_formed }
end_found (c ∷ cs) none = let bad : ⊥ = omega (arith, none) in absurd bad

pub one_found : (text : List ℕ) (c : ℕ) (cs : List ℕ) → text ≡ c ∷ cs → bytes_eq (take 3 text) (codes "...") ≡ false → bytes_eq (take 2 text) (codes "::") ≡ false
    → is_single c ≡ true → IsLongestMark text 1
one_found text c cs is three two single =
    let single_is : is_mark (c ∷ []) ≡ true = single_mark c ∙ single in
    let dots : bytes_eq (take 3 (c ∷ cs)) (codes "...") ≡ false = subst (λ x. bytes_eq (take 3 x) (codes "...") ≡ false) is three in
    let colons : bytes_eq (take 2 (c ∷ cs)) (codes "::") ≡ false = subst (λ x. bytes_eq (take 2 x) (codes "::") ≡ false) is two in
    let all : IsLongestMark (c ∷ cs) 1 = record { found = one_here c cs dots colons single_is; within = omega arith; formed = λ some. single_is } in
    subst (λ x. IsLongestMark x 1) (sym is) all

pub none_found : (text : List ℕ) (c : ℕ) (cs : List ℕ) → text ≡ c ∷ cs → bytes_eq (take 3 text) (codes "...") ≡ false → bytes_eq (take 2 text) (codes "::") ≡ false
    → is_single c ≡ false → IsLongestMark text 0
none_found text c cs is three two single =
    let single_is : is_mark (c ∷ []) ≡ false = single_mark c ∙ single in
    let dots : bytes_eq (take 3 (c ∷ cs)) (codes "...") ≡ false = subst (λ x. bytes_eq (take 3 x) (codes "...") ≡ false) is three in
    let colons : bytes_eq (take 2 (c ∷ cs)) (codes "::") ≡ false = subst (λ x. bytes_eq (take 2 x) (codes "::") ≡ false) is two in
    let all : IsLongestMark (c ∷ cs) 0 = record { found = none_here c cs dots colons single_is; within = omega arith; formed = none_formed } in
    subst (λ x. IsLongestMark x 0) (sym is) all

-- a text that begins with `:`
pub at_colon : (text : List ℕ) (c : ℕ) (cs : List ℕ) → text ≡ c ∷ cs → c ≡ 58 → text ≡ 58 ∷ drop 1 text
at_colon text c cs is colon = subst (λ x. x ≡ 58 ∷ drop 1 x) (sym (is ∙ ap (λ b. b ∷ cs) colon)) refl

pub colon_alone : (text : List ℕ) → text ≡ 58 ∷ drop 1 text → bytes_eq (take 2 text) (codes "::") ≡ false → IsLongestMark text 1
unfolding is_single
colon_alone text is two = one_found text 58 (drop 1 text) is (subst (λ x. bytes_eq (take 3 x) (codes "...") ≡ false) (sym is) refl) two refl

-- a mark of one byte that is no `:`
no_colons : (text : List ℕ) (c : ℕ) (cs : List ℕ) → text ≡ c ∷ cs → ¬ (c ≡ 58) → bytes_eq (take 2 text) (codes "::") ≡ false
no_colons text c cs is other = subst (λ x. bytes_eq (take 2 x) (codes "::") ≡ false) (sym is) (rw (ne_eqb c 58 other) refl)

dot_is_none : is_single 46 ≡ false
unfolding is_single
dot_is_none = refl

no_dots : (text : List ℕ) (c : ℕ) (cs : List ℕ) → text ≡ c ∷ cs → is_single c ≡ true → bytes_eq (take 3 text) (codes "...") ≡ false
no_dots text c cs is single = subst (λ x. bytes_eq (take 3 x) (codes "...") ≡ false) (sym is) (by_test (c == 46) refl)
  where
    by_test : (b : Bool) → (c == 46) ≡ b → bytes_eq (take 3 (c ∷ cs)) (codes "...") ≡ false
    by_test false e = rw e refl
    by_test true e = let bad : true ≡ false = sym single ∙ (ap is_single (eqb-true c 46 e) ∙ dot_is_none) in absurd cc

pub single_found : (text : List ℕ) (c : ℕ) (cs : List ℕ) → text ≡ c ∷ cs → ¬ (c ≡ 58) → is_single c ≡ true → IsLongestMark text 1
single_found text c cs is other single = one_found text c cs is (no_dots text c cs is single) (no_colons text c cs is other) single

pub no_longest : (text : List ℕ) (c : ℕ) (cs : List ℕ) → text ≡ c ∷ cs → ¬ (c ≡ 58) → is_single c ≡ false → bytes_eq (take 3 text) (codes "...") ≡ false
    → IsLongestMark text 0
no_longest text c cs is other single three = none_found text c cs is three (no_colons text c cs is other) single

-- ---- the mark as a piece

pub no_mark : (text : List ℕ) (n : ℕ) → n ≡ 0 → IsLongestMark text n → None ≡ worded (mark_at text)
no_mark text n none longest = sym (ap worded (longest.found ∙ ap (λ k. mark_in k text) none))

found_word : (n : ℕ) (text : List ℕ) → worded (mark_in (suc n) text) ≡ Some (Some (word.mark (take (suc n) text)), drop (suc n) text)
unfolding word_of
found_word n text = refl

pub some_mark : (text m behind : List ℕ) (n : ℕ) → ¬ (n ≡ 0) → IsLongestMark text n → m ≡ take n text → behind ≡ drop n text
    → Some (Some (word.mark m), behind) ≡ worded (mark_at text)
some_mark text m behind zero some longest front back = absurd (some refl)
some_mark text m behind (suc n) some longest front back =
    let parts : Some (Some (word.mark m), behind) ≡ Some (Some (word.mark (take (suc n) text)), drop (suc n) text) = rw (front, back) refl in
    parts ∙ (sym (found_word n text) ∙ sym (ap worded longest.found))
