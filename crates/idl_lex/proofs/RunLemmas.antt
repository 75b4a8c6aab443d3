-- Runs of bytes in front of a text.
use Rattle.std.proofs.Common.{◌≡◌, ℕ, zero, suc, ◌+◌, ◌<◌, ◌≤◌, Bool, true, false, ◌==◌, List, [], ◌∷◌, ◌++◌, length, take, drop, get_or, codes}
use Rattle.std.proofs.Common.{IsTrue, refl, sym, ap, ◌∙◌, arith}
use Rattle.std.proofs.lemmas.Bool.{and_parts, and_from, eqb-true}
use Rattle.std.proofs.lemmas.List.{append_assoc, append-nil, drop_more, take_more, drop_all, take_at, take-append-drop}
use Rattle.std.proofs.lemmas.Slice.Eq.{bytes_eq-Decides}
use Rattle.std.proofs.lemmas.Str.{IsUtf8-from_ascii}
use Rattle.std.specs.List.{list_all}
use Rattle.std.specs.Str.{IsUtf8, bytes_eq}
use Rattle.idl_text_model.specs.Pieces.{is_in_line}
use Rattle.idl_text_model.specs.Readings.{directive_at}
use Rattle.literal_model.specs.Shapes.{run_of, behind_run}
use Rattle.uno_model.specs.Names.{goes_on_identifier}
use Rattle.idl_lex.specs.Runs.{is_ascii}

-- the first bytes are of the run
pub record IsRunTo (test : ℕ → Bool) (bytes : List ℕ) (i : ℕ) : Type 0 where
  pub front_so_far : run_of test bytes ≡ take i bytes ++ run_of test (drop i bytes)
  pub rest_still : behind_run test (drop i bytes) ≡ behind_run test bytes
  pub all : list_all test (take i bytes) ≡ true

pub no_run : (test : ℕ → Bool) (bytes : List ℕ) → IsRunTo test bytes 0
no_run test bytes = record { front_so_far = refl; rest_still = refl; all = refl }

all_push : (test : ℕ → Bool) (xs : List ℕ) (c : ℕ) → list_all test xs ≡ true → test c ≡ true → list_all test (xs ++ c ∷ []) ≡ true
all_push test [] c all passes = and_from (test c) true passes refl
all_push test (x ∷ xs) c all passes = let parts = and_parts (test x) (list_all test xs) all in and_from (test x) _ parts.0 (all_push test xs c parts.1 passes)

front_on : (test : ℕ → Bool) (c : ℕ) (cs : List ℕ) → test c ≡ true → run_of test (c ∷ cs) ≡ c ∷ run_of test cs
unfolding run_of
front_on test c cs passes = rw passes refl

rest_on : (test : ℕ → Bool) (c : ℕ) (cs : List ℕ) → test c ≡ true → behind_run test (c ∷ cs) ≡ behind_run test cs
unfolding behind_run
rest_on test c cs passes = rw passes refl

front_off : (test : ℕ → Bool) (c : ℕ) (cs : List ℕ) → test c ≡ false → run_of test (c ∷ cs) ≡ []
unfolding run_of
front_off test c cs fails = rw fails refl

rest_off : (test : ℕ → Bool) (c : ℕ) (cs : List ℕ) → test c ≡ false → behind_run test (c ∷ cs) ≡ c ∷ cs
unfolding behind_run
rest_off test c cs fails = rw fails refl

pub run_on : (test : ℕ → Bool) (bytes : List ℕ) (i : ℕ) → IsRunTo test bytes i → i < length bytes → test (get_or bytes i 0) ≡ true → IsRunTo test bytes (i + 1)
run_on test bytes i run within passes =
    let c = get_or bytes i 0 in
    let left : drop i bytes ≡ c ∷ drop (i + 1) bytes = drop_more bytes i 0 within in
    let taken : take (i + 1) bytes ≡ take i bytes ++ c ∷ [] = take_more bytes i 0 within in
    record {
      front_so_far = run.front_so_far ∙ ap (λ xs. take i bytes ++ run_of test xs) left ∙ ap (λ xs. take i bytes ++ xs) (front_on test c (drop (i + 1) bytes) passes)
          ∙ sym (append_assoc (take i bytes) (c ∷ []) (run_of test (drop (i + 1) bytes))) ∙ ap (λ xs. xs ++ run_of test (drop (i + 1) bytes)) (sym taken);
      rest_still = sym (rest_on test c (drop (i + 1) bytes) passes) ∙ ap (behind_run test) (sym left) ∙ run.rest_still;
      all = ap (list_all test) taken ∙ all_push test (take i bytes) c run.all passes;
    }

-- the run ends before a byte that is none of it, or with the bytes
pub record IsRun (test : ℕ → Bool) (bytes : List ℕ) (i : ℕ) : Type 0 where
  pub front : take i bytes ≡ run_of test bytes
  pub rest : drop i bytes ≡ behind_run test bytes
  pub all : IsTrue (list_all test (take i bytes))

pub run_ends : (test : ℕ → Bool) (bytes : List ℕ) (i : ℕ) → IsRunTo test bytes i → i < length bytes → test (get_or bytes i 0) ≡ false → IsRun test bytes i
run_ends test bytes i run within fails =
    let c = get_or bytes i 0 in
    let left : drop i bytes ≡ c ∷ drop (i + 1) bytes = drop_more bytes i 0 within in
    record {
      front = sym (run.front_so_far ∙ ap (λ xs. take i bytes ++ run_of test xs) left ∙ ap (λ xs. take i bytes ++ xs) (front_off test c (drop (i + 1) bytes) fails) ∙ append-nil (take i bytes));
      rest = left ∙ sym (rest_off test c (drop (i + 1) bytes) fails) ∙ ap (behind_run test) (sym left) ∙ run.rest_still;
      all = run.all;
    }

pub run_is_all : (test : ℕ → Bool) (bytes : List ℕ) (i : ℕ) → IsRunTo test bytes i → length bytes ≤ i → IsRun test bytes i
unfolding run_of behind_run
run_is_all test bytes i run past =
    let left : drop i bytes ≡ [] = drop_all i bytes past in
    record {
      front = sym (run.front_so_far ∙ ap (λ xs. take i bytes ++ run_of test xs) left ∙ append-nil (take i bytes));
      rest = left ∙ ap (behind_run test) (sym left) ∙ run.rest_still;
      all = run.all;
    }

-- ---- bytes below 128 are a text

all_ascii : (test : ℕ → Bool) → ((c : ℕ) → test c ≡ true → is_ascii c ≡ true) → (xs : List ℕ) → list_all test xs ≡ true → list_all is_ascii xs ≡ true
all_ascii test each [] all = refl
all_ascii test each (x ∷ xs) all = let parts = and_parts (test x) (list_all test xs) all in and_from (is_ascii x) _ (each x parts.0) (all_ascii test each xs parts.1)

word_byte : (c : ℕ) → goes_on_identifier c ≡ true → is_ascii c ≡ true
word_byte c passes = grind arith

pub word_is_ascii : (xs : List ℕ) → IsTrue (list_all goes_on_identifier xs) → IsTrue (list_all is_ascii xs)
word_is_ascii xs all = all_ascii goes_on_identifier word_byte xs all

pub ascii_is_text : (bytes : List ℕ) → IsTrue (list_all is_ascii bytes) → IsUtf8 bytes
ascii_is_text bytes all = IsUtf8-from_ascii bytes (each bytes all)
  where
    byte : (c : ℕ) → is_ascii c ≡ true → c < 128
    byte c passes = grind arith

    each : (xs : List ℕ) → list_all is_ascii xs ≡ true → (i : ℕ) → get_or xs i 0 < 128
    each [] passes i = omega arith
    each (x ∷ xs) passes zero = byte x (and_parts (is_ascii x) _ passes).0
    each (x ∷ xs) passes (suc i) = each xs (and_parts (is_ascii x) _ passes).1 i

-- ---- the start of a line

in_line_on : (c : ℕ) (cs : List ℕ) → (c == 35) ≡ true → behind_run is_in_line (c ∷ cs) ≡ behind_run is_in_line cs
in_line_on c cs hash = let in_line : is_in_line c ≡ true = ap is_in_line (eqb-true c 35 hash) in rest_on is_in_line c cs in_line

pub at_hash : (text : List ℕ) → bytes_eq (take 1 text) (codes "#") ≡ true → (directive_at text).1 ≡ behind_run is_in_line text
at_hash [] here = let bad : ⊥ = cc in absurd bad
at_hash (c ∷ cs) here =
    let same : c ∷ [] ≡ codes "#" = (bytes_eq-Decides (c ∷ []) (codes "#")).0 here in
    let hash : c ≡ 35 = cc in
    let test : (c == 35) ≡ true = ap (λ n. n == 35) hash in
    rw (in_line_on c cs test, test) refl

pub at_none : (text : List ℕ) → bytes_eq (take 1 text) (codes "#") ≡ false → (directive_at text).1 ≡ text
at_none [] other = refl
at_none (c ∷ cs) other = by_test (c == 35) refl
  where
    by_test : (b : Bool) → (c == 35) ≡ b → (directive_at (c ∷ cs)).1 ≡ c ∷ cs
    by_test true hash =
        let same : c ∷ [] ≡ codes "#" = ap (λ n. n ∷ []) (eqb-true c 35 hash) in
        let bad : true ≡ false = sym ((bytes_eq-Decides (c ∷ []) (codes "#")).1 same) ∙ other in
        absurd cc
    by_test false hash = rw hash refl

-- ---- what stands in front

pub begins_said : (text front : List ℕ) (r : Bool) → (r ≡ true → text ≡ front ++ drop (length front) text) × ((rest : List ℕ) → text ≡ front ++ rest → r ≡ true)
    → r ≡ bytes_eq (take (length front) text) front
begins_said text front true says = sym ((bytes_eq-Decides (take (length front) text) front).1 taken)
  where
    taken : take (length front) text ≡ front
    taken = ap (take (length front)) (says.0 refl) ∙ take_at front (drop (length front) text) (length front) refl
begins_said text front false says = by_test (bytes_eq (take (length front) text) front) refl
  where
    by_test : (b : Bool) → bytes_eq (take (length front) text) front ≡ b → false ≡ bytes_eq (take (length front) text) front
    by_test false e = sym e
    by_test true e =
        let whole : text ≡ front ++ drop (length front) text =
        sym (take-append-drop (length front) text) ∙ ap (λ x. x ++ drop (length front) text) ((bytes_eq-Decides (take (length front) text) front).0 e) in
        let bad : false ≡ true = says.1 (drop (length front) text) whole in
        absurd cc
