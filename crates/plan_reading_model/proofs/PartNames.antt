-- Identifiers and paths, both ways.
use Rattle.std.proofs.Common.{◌≡◌, ℕ, zero, suc, ◌+◌, ◌≤◌, Bool, true, false, not, ◌&&◌, ◌==◌, List, [], ◌∷◌, ◌++◌, length, length-append, append-nil, Option, None, Some}
use Rattle.std.proofs.Common.{refl, sym, ap, subst, ◌∙◌, arith}
use Rattle.std.specs.List.{list_all, list_any}
use Rattle.std.specs.Str.{bytes_eq}
use Rattle.std.proofs.lemmas.Bool.{and_parts, and_from, eqb-true, both_ways}
use Rattle.uno_model.proofs.Options.{same_some, none_some}
use Rattle.uno_model.specs.Names.{begins_identifier, goes_on_identifier, is_identifier, parts_of, reserved_words}
use Rattle.uno_model.specs.Sound.{is_some_list}
use Rattle.literal_model.specs.Shapes.{run_of, is_word}
use Rattle.literal_model.proofs.ScanLaws.{front_rest}
use Rattle.plan_model.specs.Forms.{is_path}
use Rattle.plan_model.specs.PlanText.{words}
use Rattle.plan_reading_model.specs.Parts.{where_, run, identifier_at, is_path_byte, path_at}
use Rattle.plan_reading_model.specs.Parts.{path_in_front, behind_path, paths_on}
use Rattle.plan_reading_model.proofs.PartRuns.{given, allowed, stops, run_said}

-- ---- the bytes of names

pub begun_goes_on : (c : ℕ) → begins_identifier c ≡ true → goes_on_identifier c ≡ true
begun_goes_on c begun = grind arith

pub word_bytes : (w : List ℕ) → is_word w ≡ true → list_all goes_on_identifier w ≡ true
word_bytes [] is = refl
word_bytes (c ∷ cs) is =
    let parts = and_parts (begins_identifier c) (list_all goes_on_identifier cs) is in
    and_from (goes_on_identifier c) (list_all goes_on_identifier cs) (begun_goes_on c parts.0) parts.1

pub identifier_word : (w : List ℕ) → is_identifier w ≡ true → is_word w ≡ true
identifier_word [] is = is
identifier_word (c ∷ cs) is = (and_parts (begins_identifier c && list_all goes_on_identifier cs) (not (list_any (bytes_eq (c ∷ cs)) reserved_words)) is).0

pub identifier_bytes : (w : List ℕ) → is_identifier w ≡ true → list_all goes_on_identifier w ≡ true
identifier_bytes w is = word_bytes w (identifier_word w is)

words_bytes : (parts : List (List ℕ)) → list_all is_word parts ≡ true → list_all (list_all goes_on_identifier) parts ≡ true
words_bytes [] are = refl
words_bytes (part ∷ parts) are =
    let both = and_parts (is_word part) (list_all is_word parts) are in
    and_from (list_all goes_on_identifier part) (list_all (list_all goes_on_identifier) parts) (word_bytes part both.0) (words_bytes parts both.1)

-- a path has bytes of words and points alone
point_or_word : (c : ℕ) → goes_on_identifier c ≡ true → is_path_byte c ≡ true
point_or_word c on = grind arith

parts_bytes : (w : List ℕ) → list_all (list_all goes_on_identifier) (parts_of w) ≡ true → list_all is_path_byte w ≡ true
unfolding parts_of
parts_bytes [] all = refl
parts_bytes (c ∷ cs) all = by_test (c == 46) refl (parts_of cs) refl (parts_bytes cs) all
  where
    by_test : (t : Bool) → (c == 46) ≡ t → (parts : List (List ℕ)) → parts_of cs ≡ parts
        → (list_all (list_all goes_on_identifier) (parts_of cs) ≡ true → list_all is_path_byte cs ≡ true)
        → list_all (list_all goes_on_identifier) (parts_of (c ∷ cs)) ≡ true → list_all is_path_byte (c ∷ cs) ≡ true
    by_test true here parts is inner all =
        let first : is_path_byte c ≡ true = ap is_path_byte (eqb-true c 46 here) in
        and_from (is_path_byte c) (list_all is_path_byte cs) first (inner (rw here at all))
    by_test false other [] is inner all =
        let front : ((goes_on_identifier c && true) && true) ≡ true = rw (other, is) at all in
        let here = and_parts (goes_on_identifier c) true (and_parts (goes_on_identifier c && true) true front).0 in
        and_from (is_path_byte c) (list_all is_path_byte cs) (point_or_word c here.0) (inner (rw is refl))
    by_test false other (part ∷ parts) is inner all =
        let front : ((goes_on_identifier c && list_all goes_on_identifier part) && list_all (list_all goes_on_identifier) parts) ≡ true = rw
        (other, is) at all in
        let both = and_parts (goes_on_identifier c && list_all goes_on_identifier part) (list_all (list_all goes_on_identifier) parts) front in
        let here = and_parts (goes_on_identifier c) (list_all goes_on_identifier part) both.0 in
        and_from (is_path_byte c) (list_all is_path_byte cs) (point_or_word c here.0) (inner
        (rw is (and_from (list_all goes_on_identifier part) (list_all (list_all goes_on_identifier) parts) here.1 both.1)))

pub path_bytes : (w : List ℕ) → is_path w ≡ true → list_all is_path_byte w ≡ true
path_bytes w is = parts_bytes w (words_bytes (parts_of w) is)

-- a path is not empty
pub some_path : (w : List ℕ) → is_path w ≡ true → 1 ≤ length w
unfolding parts_of
some_path [] is = absurd (both_ways false refl is)
some_path (c ∷ cs) is = omega arith

-- ---- identifiers and paths

-- a run that keeps a test, and is read where it does
module _ (test : ℕ → Bool) (form : List ℕ → Bool) where
  pub run_forth : (w rest : List ℕ) → list_all test w ≡ true → form w ≡ true → stops test rest ≡ true
      → where_ (form (run_of test (w ++ rest))) (Some (run test (w ++ rest))) ≡ Some (w, rest)
  run_forth w rest all is ends = let e = run_said test w rest all ends in rw (e.0, e.1, is) refl

  pub run_back : (bytes : List ℕ) (x : List ℕ × List ℕ) → where_ (form (run_of test bytes)) (Some (run test bytes)) ≡ Some x
      → (form x.0 ≡ true) × (bytes ≡ x.0 ++ x.1)
  run_back bytes x e =
      let is = allowed (form (run_of test bytes)) (Some (run test bytes)) x e in
      let same : run test bytes ≡ x = same_some is.1 in
      subst (λ (y : List ℕ × List ℕ). (form y.0 ≡ true) × (bytes ≡ y.0 ++ y.1)) same (is.0, front_rest test bytes)

pub identifier_said : (w rest : List ℕ) → is_identifier w ≡ true → stops goes_on_identifier rest ≡ true → identifier_at (w ++ rest) ≡ Some (w, rest)
unfolding identifier_at
identifier_said w rest is ends = run_forth goes_on_identifier is_identifier w rest (identifier_bytes w is) is ends

pub identifier_back : (bytes : List ℕ) (x : List ℕ × List ℕ) → identifier_at bytes ≡ Some x → (is_identifier x.0 ≡ true) × (bytes ≡ x.0 ++ x.1)
unfolding identifier_at
identifier_back bytes x e = run_back goes_on_identifier is_identifier bytes x e

pub path_said : (w rest : List ℕ) → is_path w ≡ true → stops is_path_byte rest ≡ true → path_at (w ++ rest) ≡ Some (w, rest)
unfolding path_at
path_said w rest is ends = run_forth is_path_byte is_path w rest (path_bytes w is) is ends

pub path_back : (bytes : List ℕ) (x : List ℕ × List ℕ) → path_at bytes ≡ Some x → (is_path x.0 ≡ true) × (bytes ≡ x.0 ++ x.1)
unfolding path_at
path_back bytes x e = run_back is_path_byte is_path bytes x e

-- ---- paths up to the end

path_alone : (p : List ℕ) → is_path p ≡ true → path_at p ≡ Some (p, [])
path_alone p is = ap path_at (sym (append-nil p)) ∙ path_said p [] is refl

size_behind : (p rest : List ℕ) → length (p ++ 32 ∷ rest) ≡ length p + suc (length rest)
size_behind p rest = length-append p (32 ∷ rest)

paths_within : (most : ℕ) (p : List ℕ) (ps : List (List ℕ)) → is_path p ≡ true → list_all is_path ps ≡ true → length (words (p ∷ ps)) ≤ most
    → paths_on most (words (p ∷ ps)) ≡ Some (p ∷ ps)
unfolding paths_on
paths_within zero p [] is are long = let some = some_path p is in let bad : ⊥ = omega (arith, some, long) in absurd bad
paths_within zero p (q ∷ qs) is are long = let size = size_behind p (words (q ∷ qs)) in let bad : ⊥ = omega (arith, size, long) in absurd bad
paths_within (suc most) p [] is are long = rw (path_alone p is) refl
paths_within (suc most) p (q ∷ qs) is are long =
    let both = and_parts (is_path q) (list_all is_path qs) are in
    let size = size_behind p (words (q ∷ qs)) in
    let first = path_said p (32 ∷ words (q ∷ qs)) is refl in
    let others = paths_within most q qs both.0 both.1 (omega (arith, size, long)) in
    rw (first, others) refl

pub paths_said : (ps : List (List ℕ)) → is_some_list ps ≡ true → list_all is_path ps ≡ true → paths_on (length (words ps)) (words ps) ≡ Some ps
paths_said [] some are = absurd (both_ways false refl some)
paths_said (p ∷ ps) some are =
    let both = and_parts (is_path p) (list_all is_path ps) are in
    paths_within (length (words (p ∷ ps))) p ps both.0 both.1 (omega arith)

-- paths were read, and are spelled
record ArePaths (bytes : List ℕ) (ps : List (List ℕ)) : Type 0 where
  some : is_some_list ps ≡ true
  formed : list_all is_path ps ≡ true
  spelled : bytes ≡ words ps

more_paths : (bytes p rest : List ℕ) (ps : List (List ℕ)) → is_path p ≡ true → bytes ≡ p ++ 32 ∷ rest → ArePaths rest ps → ArePaths bytes (p ∷ ps)
more_paths bytes p rest [] is e others = absurd (both_ways false refl others.some)
more_paths bytes p rest (q ∷ qs) is e others =
    record { some = refl; formed = and_from (is_path p) (list_all is_path (q ∷ qs)) is others.formed; spelled = e ∙ ap (λ t. p ++ 32 ∷ t) others.spelled }

front_parts : (p : List ℕ) (o : Option (List (List ℕ))) (ps : List (List ℕ)) → path_in_front p o ≡ Some ps
    → (qs : List (List ℕ)) × (o ≡ Some qs) × (p ∷ qs ≡ ps)
front_parts p None ps e = absurd (none_some e)
front_parts p (Some qs) ps e = (qs, refl, same_some e)

paths_are : (most : ℕ) (bytes : List ℕ) (ps : List (List ℕ)) → paths_on most bytes ≡ Some ps → ArePaths bytes ps
unfolding paths_on
paths_are zero bytes ps e = absurd (none_some e)
paths_are (suc most) bytes ps e =
    let x = given (path_at bytes) (behind_path (paths_on most)) ps e in
    let is = path_back bytes x.0 x.1 in
    by_rest x.0.0 x.0.1 is.0 is.1 (λ rest qs read. paths_are most rest qs read) x.2
  where
    by_blank : (p : List ℕ) (c : ℕ) (cs : List ℕ) (b : Bool) → (c == 32) ≡ b → is_path p ≡ true → bytes ≡ p ++ c ∷ cs
        → ((rest : List ℕ) (qs : List (List ℕ)) → paths_on most rest ≡ Some qs → ArePaths rest qs)
        → behind_path (paths_on most) (p, c ∷ cs) ≡ Some ps → ArePaths bytes ps
    by_blank p c cs false other is split inner e = absurd (none_some (rw other at e))
    by_blank p c cs true blank is split inner e =
        let others = front_parts p (paths_on most cs) ps (rw blank at e) in
        let same : c ≡ 32 = eqb-true c 32 blank in
        subst (λ qs. ArePaths bytes qs) others.2 (more_paths bytes p cs others.0 is (split ∙ ap (λ d. p ++ d ∷ cs) same) (inner cs others.0 others.1))

    by_rest : (p rest : List ℕ) → is_path p ≡ true → bytes ≡ p ++ rest
        → ((rest : List ℕ) (qs : List (List ℕ)) → paths_on most rest ≡ Some qs → ArePaths rest qs)
        → behind_path (paths_on most) (p, rest) ≡ Some ps → ArePaths bytes ps
    by_rest p [] is split inner e =
        let same : p ∷ [] ≡ ps = same_some e in
        subst (λ qs. ArePaths bytes qs) same (record { some = refl; formed = and_from (is_path p) true is refl; spelled = split ∙ append-nil p })
    by_rest p (c ∷ cs) is split inner e = by_blank p c cs (c == 32) refl is split inner e

pub paths_back : (most : ℕ) (bytes : List ℕ) (ps : List (List ℕ)) → paths_on most bytes ≡ Some ps
    → (is_some_list ps ≡ true) × (list_all is_path ps ≡ true) × (bytes ≡ words ps)
paths_back most bytes ps e = let are = paths_are most bytes ps e in (are.some, are.formed, are.spelled)
