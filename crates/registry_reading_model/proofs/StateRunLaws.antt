-- A text that is read in two parts, and with or without regard to the order of its names.
use Rattle.std.proofs.Common.{◌≡◌, ℕ, Bool, true, false, List, [], ◌∷◌, ◌++◌, Option, None, Some, Result, Ok, Err, if◌then◌else◌, refl, sym, ap, ◌∙◌}
use Rattle.std.proofs.Common.{codes}
use Rattle.std.specs.Str.{bytes_eq}
use Rattle.uno_model.specs.Entities.{Body, Entity}
use Rattle.registry_reading_model.specs.Bodies.{body_line}
use Rattle.registry_reading_model.specs.Changes.{Change}
use Rattle.registry_reading_model.specs.Headers.{header_of}
use Rattle.registry_reading_model.specs.States.{State, unread, between, within, Wrong, bad, out_of_order, step, run, begun, gone_on, on_read}
use Rattle.registry_reading_model.specs.States.{is_above}

pub run_append : (o : Bool) (c : Change) (st : State) (xs ys : List (List ℕ))
    → run o c st (xs ++ ys) ≡ on_read (run o c st xs) (λ next. run o c next ys)
unfolding run
run_append o c st [] ys = refl
run_append o c st (x ∷ xs) ys = by_step (step o c st x) (λ next. run_append o c next xs ys)
  where
    by_step : (r : Result State Wrong) → ((next : State) → run o c next (xs ++ ys) ≡ on_read (run o c next xs) (λ last. run o c last ys))
        → on_read r (λ next. run o c next (xs ++ ys)) ≡ on_read (on_read r (λ next. run o c next xs)) (λ last. run o c last ys)
    by_step (Err w) rest = refl
    by_step (Ok next) rest = rest next

-- what is read of the first of two parts, and of a last line
pub first_part : (o : Bool) (c : Change) (st st' : State) (xs ys : List (List ℕ)) → run o c st (xs ++ ys) ≡ Ok st'
    → (next : State) × (run o c st xs ≡ Ok next)
first_part o c st st' xs ys read = by_first (run o c st xs) refl
  where
    by_first : (r : Result State Wrong) → run o c st xs ≡ r → (next : State) × (run o c st xs ≡ Ok next)
    by_first (Err w) is =
        let front : Err w ≡ Ok st' = ap (λ r. on_read r (λ next. run o c next ys)) (sym is) ∙ sym (run_append o c st xs ys) ∙ read in
        let bad : ⊥ = cc in
        absurd bad
    by_first (Ok next) is = (next, is)

pub run_more : (o : Bool) (c : Change) (st next : State) (xs : List (List ℕ)) (line : List ℕ) → run o c st xs ≡ Ok next
    → run o c st (xs ++ line ∷ []) ≡ step o c next line
unfolding run
run_more o c st next xs line read = run_append o c st xs (line ∷ []) ∙ ap (λ r. on_read r (λ next. run o c next (line ∷ []))) read ∙ by_step (step o c next line)
  where
    by_step : (r : Result State Wrong) → on_read r (λ last. Ok last) ≡ r
    by_step (Err w) = refl
    by_step (Ok last) = refl

-- ---- without regard to order

pub step_unordered : (c : Change) (st st' : State) (line : List ℕ) → step true c st line ≡ Ok st' → step false c st line ≡ Ok st'
unfolding step
step_unordered c unread st' line read = read
step_unordered c (within es e) st' line read = read
step_unordered c (between es) st' line read = by_header (header_of c line) read
  where
    by_test : (e : Entity) (b : Bool) → (if b then Ok (within es e) else Err out_of_order) ≡ Ok st'
        → ◌≡◌ {A = Result State Wrong} (Ok (within es e)) (Ok st')
    by_test e true is = is
    by_test e false is = let worse : ⊥ = cc in absurd worse

    by_header : (h : Option Entity) → begun true es h ≡ Ok st' → begun false es h ≡ Ok st'
    by_header None is = is
    by_header (Some e) is = by_test e (is_above es e.name) is

pub run_unordered : (c : Change) (st st' : State) (lines : List (List ℕ)) → run true c st lines ≡ Ok st' → run false c st lines ≡ Ok st'
unfolding run
run_unordered c st st' [] read = read
run_unordered c st st' (line ∷ lines) read = by_step (step true c st line) refl read (λ next. run_unordered c next st' lines)
  where
    by_step : (r : Result State Wrong) → step true c st line ≡ r → on_read r (λ next. run true c next lines) ≡ Ok st'
        → ((next : State) → run true c next lines ≡ Ok st' → run false c next lines ≡ Ok st')
        → on_read (step false c st line) (λ next. run false c next lines) ≡ Ok st'
    by_step (Err w) is read' rest = let worse : ⊥ = cc in absurd worse
    by_step (Ok next) is read' rest = rw (step_unordered c st next line is) (rest next read')

-- a line is bad in order just where it is so in no order
pub bad_unordered : (c : Change) (st : State) (line : List ℕ) → step true c st line ≡ Err bad → step false c st line ≡ Err bad
unfolding step
bad_unordered c unread line is = is
bad_unordered c (within es e) line is = is
bad_unordered c (between es) line is = by_header (header_of c line) is
  where
    by_test : (e : Entity) (b : Bool) → (if b then Ok (within es e) else Err out_of_order) ≡ Err bad → ⊥
    by_test e true has = let worse : ⊥ = cc in worse
    by_test e false has = let both : out_of_order ≡ bad = cc in let worse : ⊥ = cc in worse

    by_header : (h : Option Entity) → begun true es h ≡ Err bad → begun false es h ≡ Err bad
    by_header None has = refl
    by_header (Some e) has = absurd (by_test e (is_above es e.name) has)

pub bad_ordered : (c : Change) (st : State) (line : List ℕ) → step false c st line ≡ Err bad → step true c st line ≡ Err bad
unfolding step
bad_ordered c unread line is = is
bad_ordered c (within es e) line is = is
bad_ordered c (between es) line is = by_header (header_of c line) is
  where
    by_header : (h : Option Entity) → begun false es h ≡ Err bad → begun true es h ≡ Err bad
    by_header None has = refl
    by_header (Some e) has = let worse : ⊥ = cc in absurd worse

-- a line that is out of order is one that may stand there in no order
pub fits_unordered : (c : Change) (st : State) (line : List ℕ) → step true c st line ≡ Err out_of_order
    → (next : State) × (step false c st line ≡ Ok next)
unfolding step
fits_unordered c unread line is = by_test (bytes_eq line (codes "unoreg 1")) is
  where
    by_test : (b : Bool) → (if b then Ok (between []) else Err bad) ≡ Err out_of_order
        → (next : State) × ((if b then Ok (between []) else Err bad) ≡ Ok next)
    by_test true has = let worse : ⊥ = cc in absurd worse
    by_test false has = let both : bad ≡ out_of_order = cc in let worse : ⊥ = cc in absurd worse
fits_unordered c (within es e) line is = by_test (bytes_eq line (codes "end")) (body_line c e.body line) is
  where
    by_line : (b : Option Body) → gone_on es e b ≡ Err out_of_order → ⊥
    by_line None has = let both : bad ≡ out_of_order = cc in let worse : ⊥ = cc in worse
    by_line (Some b) has = let worse : ⊥ = cc in worse

    by_test : (b : Bool) (l : Option Body) → (if b then Ok (between (es ++ e ∷ [])) else gone_on es e l) ≡ Err out_of_order
        → (next : State) × ((if b then Ok (between (es ++ e ∷ [])) else gone_on es e l) ≡ Ok next)
    by_test true l has = let worse : ⊥ = cc in absurd worse
    by_test false l has = absurd (by_line l has)
fits_unordered c (between es) line is = by_header (header_of c line) is
  where
    by_header : (h : Option Entity) → begun true es h ≡ Err out_of_order → (next : State) × (begun false es h ≡ Ok next)
    by_header None has = let both : bad ≡ out_of_order = cc in let worse : ⊥ = cc in absurd worse
    by_header (Some e) has = (within es e, refl)
