-- What the parts of a scan give.
use Rattle.std.proofs.Common.{◌≡◌, ℕ, zero, suc, ◌+◌, ◌<◌, ◌≤◌, Bool, true, false, List, [], ◌∷◌, ◌++◌, length, take, drop, get_or, Option}
use Rattle.std.proofs.Common.{None, Some, MatchOption, option_map, Result, Ok, Err, IfOk, IsTrue, refl, sym, ap, ◌∙◌, arith}
use Rattle.std.proofs.lemmas.Bool.{and_parts, and_from}
use Rattle.std.proofs.lemmas.List.{append_assoc, append-nil, drop_more, take_more, drop_all}
use Rattle.std.proofs.lemmas.Str.{IsUtf8-from_ascii}
use Rattle.std.specs.List.{list_all}
use Rattle.std.specs.Str.{IsUtf8}
use Rattle.uno_base.specs.declared.no_memory.NoMemory.{NoMemory}
use Rattle.uno_model.proofs.TypeTextLaws.{same_found}
use Rattle.uno_model.specs.Entities.{Entity}
use Rattle.uno_model.specs.Kinds.{Kind}
use Rattle.uno_model.specs.NamedTypes.{IsNamed, type_of_text}
use Rattle.literal_model.specs.Shapes.{with_byte, run_of, behind_run}
use Rattle.uno_model.specs.Sound.{is_named}
use Rattle.uno_entities.specs.TypeNames.{kind_of}
use Rattle.uno_entities.specs.declared.type_name.TypeName.{TypeName}
use Rattle.literal_reading.specs.Scanning.{test_of}
use Rattle.literal_reading.specs.declared.scan.run.Run.{Run}
use Rattle.literal_reading.specs.declared.scan.run.Run.TheVariants as run

-- bytes in front of a text that was read
abbrev pub with_all : List ℕ → Result (List ℕ × List ℕ) ℕ → Result (List ℕ × List ℕ) ℕ
with_all xs (Ok x) = Ok (xs ++ x.0, x.1)
with_all xs (Err left) = Err left

pub with_all_none : (r : Result (List ℕ × List ℕ) ℕ) → with_all [] r ≡ r
with_all_none (Ok x) = refl
with_all_none (Err left) = refl

pub with_all_more : (xs : List ℕ) (c : ℕ) (r : Result (List ℕ × List ℕ) ℕ) → with_all (xs ++ c ∷ []) r ≡ with_all xs (with_byte c r)
with_all_more xs c (Ok x) = ap (λ t. Ok (t, x.1)) (append_assoc xs (c ∷ []) x.0)
with_all_more xs c (Err left) = refl

-- a run is ASCII, and so a text
byte_is_ascii : (kind : Run) (c : ℕ) → test_of kind c ≡ true → c < 128
byte_is_ascii run.Word c passes = grind arith
byte_is_ascii run.Name c passes = grind arith

pub run_is_text : (kind : Run) (bytes : List ℕ) → IsTrue (list_all (test_of kind) bytes) → IsUtf8 bytes
run_is_text kind bytes all = IsUtf8-from_ascii bytes (each bytes all)
  where
    each : (xs : List ℕ) → list_all (test_of kind) xs ≡ true → (i : ℕ) → get_or xs i 0 < 128
    each [] passes i = omega arith
    each (x ∷ xs) passes zero = byte_is_ascii kind x (and_parts (test_of kind x) _ passes).0
    each (x ∷ xs) passes (suc i) = each xs (and_parts (test_of kind x) _ passes).1 i

-- the type of a name is the one that its reading finds
pub found_type : (reg : List Entity) (name : List ℕ) (read : Result (Option TypeName) NoMemory) → IsTrue (list_all is_named reg)
    → IfOk read (λ found. MatchOption found ((k : Kind) → IsNamed reg name k → ⊥) (λ t. IsNamed reg name (kind_of t))) → IfOk read (λ found. option_map kind_of found ≡ type_of_text reg name)
found_type reg name (Ok None) named finds = same_found reg name None named finds
found_type reg name (Ok (Some t)) named finds = same_found reg name (Some (kind_of t)) named finds
found_type reg name (Err e) named finds = tt

-- ---- the run in front of bytes

-- the first bytes are of the run
pub record IsRunTo (test : ℕ → Bool) (bytes : List ℕ) (i : ℕ) : Type 0 where
  pub front_so_far : run_of test bytes ≡ take i bytes ++ run_of test (drop i bytes)
  pub rest_still : behind_run test (drop i bytes) ≡ behind_run test bytes
  pub all : list_all test (take i bytes) ≡ true

pub no_run : (test : ℕ → Bool) (bytes : List ℕ) → IsRunTo test bytes 0
no_run test bytes = record { front_so_far = refl; rest_still = refl; all = refl }

all_push : (test : ℕ → Bool) (xs : List ℕ) (c : ℕ) → list_all test xs ≡ true → test c ≡ true → list_all test (xs ++ c ∷ []) ≡ true
all_push test [] c all passes = and_from (test c) true passes refl
all_push test (x ∷ xs) c all passes = let parts = and_parts (test x) (list_all test xs) all in and_from (test x) _ parts.0 (all_push test xs c parts.1 passes)

front_on : (test : ℕ → Bool) (c : ℕ) (cs : List ℕ) → test c ≡ true → run_of test (c ∷ cs) ≡ c ∷ run_of test cs
unfolding run_of
front_on test c cs passes = rw passes refl

rest_on : (test : ℕ → Bool) (c : ℕ) (cs : List ℕ) → test c ≡ true → behind_run test (c ∷ cs) ≡ behind_run test cs
unfolding behind_run
rest_on test c cs passes = rw passes refl

front_off : (test : ℕ → Bool) (c : ℕ) (cs : List ℕ) → test c ≡ false → run_of test (c ∷ cs) ≡ []
unfolding run_of
front_off test c cs fails = rw fails refl

rest_off : (test : ℕ → Bool) (c : ℕ) (cs : List ℕ) → test c ≡ false → behind_run test (c ∷ cs) ≡ c ∷ cs
unfolding behind_run
rest_off test c cs fails = rw fails refl

pub run_on : (test : ℕ → Bool) (bytes : List ℕ) (i : ℕ) → IsRunTo test bytes i → i < length bytes → test (get_or bytes i 0) ≡ true → IsRunTo test bytes (i + 1)
run_on test bytes i run within passes =
    let c = get_or bytes i 0 in
    let left : drop i bytes ≡ c ∷ drop (i + 1) bytes = drop_more bytes i 0 within in
    let taken : take (i + 1) bytes ≡ take i bytes ++ c ∷ [] = take_more bytes i 0 within in
    record {
      front_so_far = run.front_so_far ∙ ap (λ xs. take i bytes ++ run_of test xs) left ∙ ap (λ xs. take i bytes ++ xs) (front_on test c (drop (i + 1) bytes) passes)
          ∙ sym (append_assoc (take i bytes) (c ∷ []) (run_of test (drop (i + 1) bytes))) ∙ ap (λ xs. xs ++ run_of test (drop (i + 1) bytes)) (sym taken);
      rest_still = sym (rest_on test c (drop (i + 1) bytes) passes) ∙ ap (behind_run test) (sym left) ∙ run.rest_still;
      all = ap (list_all test) taken ∙ all_push test (take i bytes) c run.all passes;
    }

-- the run ends before a byte that is none of it, or with the bytes
pub record IsRun (test : ℕ → Bool) (bytes : List ℕ) (i : ℕ) : Type 0 where
  pub front : take i bytes ≡ run_of test bytes
  pub rest : drop i bytes ≡ behind_run test bytes
  pub all : IsTrue (list_all test (take i bytes))

pub run_ends : (test : ℕ → Bool) (bytes : List ℕ) (i : ℕ) → IsRunTo test bytes i → i < length bytes → test (get_or bytes i 0) ≡ false → IsRun test bytes i
run_ends test bytes i run within fails =
    let c = get_or bytes i 0 in
    let left : drop i bytes ≡ c ∷ drop (i + 1) bytes = drop_more bytes i 0 within in
    record {
      front = sym (run.front_so_far ∙ ap (λ xs. take i bytes ++ run_of test xs) left ∙ ap (λ xs. take i bytes ++ xs) (front_off test c (drop (i + 1) bytes) fails) ∙ append-nil (take i bytes));
      rest = left ∙ sym (rest_off test c (drop (i + 1) bytes) fails) ∙ ap (behind_run test) (sym left) ∙ run.rest_still;
      all = run.all;
    }

pub run_is_all : (test : ℕ → Bool) (bytes : List ℕ) (i : ℕ) → IsRunTo test bytes i → length bytes ≤ i → IsRun test bytes i
unfolding run_of behind_run
run_is_all test bytes i run past =
    let left : drop i bytes ≡ [] = drop_all i bytes past in
    record {
      front = sym (run.front_so_far ∙ ap (λ xs. take i bytes ++ run_of test xs) left ∙ append-nil (take i bytes));
      rest = left ∙ ap (behind_run test) (sym left) ∙ run.rest_still;
      all = run.all;
    }
