-- Runs at the front of a text, and what stands behind given bytes.
use Rattle.std.proofs.Common.{◌≡◌, ℕ, Bool, true, false, not, List, [], ◌∷◌, ◌++◌, length, take, drop, Option, None, Some}
use Rattle.std.proofs.Common.{if◌then◌else◌, refl, sym, ap, subst, ◌∙◌, codes}
use Rattle.std.specs.List.{list_all}
use Rattle.std.specs.Str.{bytes_eq}
use Rattle.std.proofs.lemmas.Bool.{and_parts, and_from, not-true}
use Rattle.std.proofs.lemmas.List.{take-append-drop}
use Rattle.std.proofs.Math.Seq.{take-append_seam, drop-append_seam}
use Rattle.std.proofs.lemmas.Slice.Eq.{bytes_eq-Decides}
use Rattle.uno_model.proofs.Options.{same_some, none_some}
use Rattle.literal_model.specs.Shapes.{run_of, behind_run}
use Rattle.plan_reading_model.specs.Parts.{on_some, where_, behind, at_end, whole, behind_blank}

-- ---- options that gave something

pub given : {X Y : Type 0} (o : Option X) (f : X → Option Y) (y : Y) → on_some o f ≡ Some y → (x : X) × (o ≡ Some x) × (f x ≡ Some y)
given None f y e = absurd (none_some e)
given (Some x) f y e = (x, refl, e)

-- what follows from each thing that there may be follows from what there is
pub taken : {X Y P : Type 0} (o : Option X) (f : X → Option Y) (y : Y) → on_some o f ≡ Some y → ((x : X) → o ≡ Some x → f x ≡ Some y → P) → P
taken None f y e inner = absurd (none_some e)
taken (Some x) f y e inner = inner x refl e

pub came : {Y : Type 0} (P : Y → Type 0) {y z : Y} → Some y ≡ Some z → P y → P z
came P e p = subst P (same_some e) p

pub allowed : {X : Type 0} (b : Bool) (o : Option X) (x : X) → where_ b o ≡ Some x → (b ≡ true) × (o ≡ Some x)
allowed true o x e = (refl, e)
allowed false o x e = absurd (none_some e)

whole_back : {X : Type 0} (y : X × List ℕ) (x : X) → whole y ≡ Some x → ◌≡◌ {A = Option (X × List ℕ)} (Some y) (Some (x, []))
whole_back (y, []) x e = let is : y ≡ x = same_some e in ap (λ z. Some (z, [])) is
whole_back (y, c ∷ cs) x e = absurd (none_some e)

-- the first of two that was taken
pub chosen : {Y : Type 0} (b : Bool) (x y : Option Y) (z : Y) {P : Type 0} → (if b then x else y) ≡ Some z → (b ≡ true → x ≡ Some z → P)
    → (b ≡ false → y ≡ Some z → P) → P
chosen true x y z read here other = here refl read
chosen false x y z read here other = other refl read

-- nothing stands behind what is all of a text
pub at_end_back : {X : Type 0} (o : Option (X × List ℕ)) (x : X) → at_end o ≡ Some x → o ≡ Some (x, [])
at_end_back o x e = let y = given o whole x e in y.1 ∙ whole_back y.0 x y.2

pub same_word : (w v : List ℕ) → bytes_eq w v ≡ true → w ≡ v
same_word w v same = (bytes_eq-Decides w v).0 same

-- ---- what stands behind bytes

pub behind_said : (front rest : List ℕ) → behind front (front ++ rest) ≡ Some rest
unfolding behind
behind_said front rest =
    let first : take (length front) (front ++ rest) ≡ front = take-append_seam front rest in
    let second : drop (length front) (front ++ rest) ≡ rest = drop-append_seam front rest in
    rw (first, second, (bytes_eq-Decides front front).1 refl) refl

pub behind_back : (front bytes rest : List ℕ) → behind front bytes ≡ Some rest → bytes ≡ front ++ rest
unfolding behind
behind_back front bytes rest read = by_test (bytes_eq (take (length front) bytes) front) refl read
  where
    by_test : (t : Bool) → bytes_eq (take (length front) bytes) front ≡ t → behind front bytes ≡ Some rest → bytes ≡ front ++ rest
    by_test false other read = absurd (none_some (rw other at read))
    by_test true here read =
        let e : drop (length front) bytes ≡ rest = same_some (rw here at read) in
        sym (take-append-drop (length front) bytes) ∙ ap (λ t. t ++ drop (length front) bytes) (same_word (take (length front) bytes) front here)
        ∙ ap (λ t. front ++ t) e

pub blank_said : (w rest : List ℕ) → behind_blank (w, 32 ∷ rest) ≡ Some (w, rest)
blank_said w rest = let e : behind (codes " ") (32 ∷ rest) ≡ Some rest = behind_said (codes " ") rest in rw e refl

pub blank_back : (x y : List ℕ × List ℕ) → behind_blank x ≡ Some y → (x.0 ≡ y.0) × (x.1 ≡ 32 ∷ y.1)
blank_back x y e =
    let r = given (behind (codes " ") x.1) (λ rest. Some (x.0, rest)) y e in
    let is : (x.0, r.0) ≡ y = same_some r.2 in
    (ap (λ (z : List ℕ × List ℕ). z.0) is, behind_back (codes " ") x.1 r.0 r.1 ∙ ap (λ (z : List ℕ × List ℕ). 32 ∷ z.1) is)

-- ---- runs

-- no byte of this kind stands in front
abbrev pub stops : (ℕ → Bool) → List ℕ → Bool
stops test [] = true
stops test (c ∷ cs) = not (test c)

pub run_said : (test : ℕ → Bool) (w rest : List ℕ) → list_all test w ≡ true → stops test rest ≡ true
    → (run_of test (w ++ rest) ≡ w) × (behind_run test (w ++ rest) ≡ rest)
unfolding run_of behind_run
run_said test [] [] all ends = (refl, refl)
run_said test [] (c ∷ r) all ends = (rw (not-true _ ends) refl, rw (not-true _ ends) refl)
run_said test (c ∷ cs) rest all ends =
    let parts = and_parts (test c) (list_all test cs) all in
    let others = run_said test cs rest parts.1 ends in
    (rw parts.0 (ap (λ t. c ∷ t) others.0), rw parts.0 others.1)

pub run_all : (test : ℕ → Bool) (bytes : List ℕ) → list_all test (run_of test bytes) ≡ true
unfolding run_of
run_all test [] = refl
run_all test (c ∷ cs) = by_test (test c) refl (run_all test cs)
  where
    by_test : (b : Bool) → test c ≡ b → list_all test (run_of test cs) ≡ true → list_all test (run_of test (c ∷ cs)) ≡ true
    by_test true passes inner = rw passes (and_from (test c) (list_all test (run_of test cs)) passes inner)
    by_test false fails inner = rw fails refl

-- what passes one test passes another
module _ (test other : ℕ → Bool) (each : (c : ℕ) → test c ≡ true → other c ≡ true) where
  pub all_pass : (w : List ℕ) → list_all test w ≡ true → list_all other w ≡ true
  all_pass [] all = refl
  all_pass (c ∷ cs) all =
      let parts = and_parts (test c) (list_all test cs) all in
      and_from (other c) (list_all other cs) (each c parts.0) (all_pass cs parts.1)

-- what ends a run of more bytes ends one of fewer
pub stops_less : (test other : ℕ → Bool) (rest : List ℕ) → ((c : ℕ) → not (other c) ≡ true → not (test c) ≡ true) → stops other rest ≡ true
    → stops test rest ≡ true
stops_less test other [] each ends = refl
stops_less test other (c ∷ cs) each ends = each c ends
