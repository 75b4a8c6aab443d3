-- The pieces of a term at their types, and the expression of the parts.
use Rattle.std.proofs.Common.{◌≡◌, ℕ, zero, suc, ◌<◌, ◌≤◌, ◌+◌, ◌-◌, true, List, [], ◌∷◌, ◌++◌, length, map, take, drop, get_or, reverse, Option, None, Some, Result, Ok, Err, IsErr, IsTrue, refl, sym, ap, subst, append_assoc, append-nil, ◌∙◌, arith}
use Rattle.std.specs.Prelude.{is_some, OnOk}
use Rattle.std.specs.Result.{IsErrAnd}
use Rattle.std.proofs.lemmas.List.{map-append, reverse-append, length-map, take_more, take_all, drop_all, drop_more, nil_from_length}
use Rattle.uno_model.specs.Entities.{Entity}
use Rattle.uno_model.specs.Kinds.{Kind}
use Rattle.plan_model.specs.Contexts.{Context}
use Rattle.plan_model.specs.Expressions.{Expression}
use Rattle.plan_model.specs.Typing.{expression_of}
use Rattle.plan_model.specs.declared.operation.Operation.{Operation}
use Rattle.plan_model.specs.declared.line_reason.LineReason.TheVariants.{Misfit}
use Rattle.term_pieces.specs.Parts.{Asked, misfit, asked, piece_before, all_before, put_parts, alone, made_of}
use Rattle.term_pieces.specs.Parts as plain
use Rattle.term_pieces.specs.Fits as fit
use Rattle.term_pieces.specs.Pieces.{Piece, is_term, term_in}
use Rattle.term_pieces.specs.Pieces as piece
use Rattle.term_pieces.proofs.PartLaws.{expression_is, fits_where}
use Rattle.term_pieces.proofs.PieceLaws.{is_one}
use Rattle.plan_checks.specs.Checks.{MisfitBy, FailsBy}
use Rattle.plan_checks.specs.Parts.{LostBy, GoesBack, Parts}
use Rattle.plan_checks.specs.declared.line_error.LineError.{LineError}
use Rattle.plan_checks.specs.declared.line_error.LineError.TheVariants as error

-- the last one comes first
pub turned : {X Y : Type 0} (f : X → Y) (all front : List X) (x : X) → all ≡ front ++ x ∷ [] → reverse (map f all) ≡ f x ∷ reverse (map f front)
turned f all front x cut = ap (λ xs. reverse (map f xs)) cut ∙ ap reverse (map-append f front (x ∷ [])) ∙ reverse-append (map f front) (f x ∷ [])

-- ---- one term

module _ (reg : List Entity) (c : Context) (ps : List Piece) (is : IsTrue (is_term ps)) (k : Kind) where
  whole_is : expression_of reg c (term_in ps) k ≡ made_of (all_before reg c ps (asked [] (k ∷ [])))
  whole_is = let one = is_one ps is in expression_is reg c ps (term_in ps) k one.0 one.1

  pub fits_so : (qs : List plain.Part) → all_before reg c ps (asked [] (k ∷ [])) ≡ asked qs [] → is_some (expression_of reg c (term_in ps) k) ≡ true
  fits_so qs parts = let one = is_one ps is in fits_where reg c ps (term_in ps) k one.0 one.1 qs parts

  pub made_so : (qs : List plain.Part) (x : Expression) → all_before reg c ps (asked [] (k ∷ [])) ≡ asked qs [] → put_parts [] qs ≡ x ∷ [] → expression_of reg c (term_in ps) k ≡ Some x
  made_so qs x parts made = whole_is ∙ ap made_of parts ∙ ap alone made

  pub lost_so : (e : LineError) → MisfitBy e (made_of (all_before reg c ps (asked [] (k ∷ [])))) → MisfitBy e (expression_of reg c (term_in ps) k)
  lost_so e lost = subst (MisfitBy e) (sym whole_is) lost

pub fails_of : {Y : Type 0} (e : LineError) (defined : Option Y) → MisfitBy e defined → FailsBy Misfit e (is_some defined)
fails_of error.NoMemory defined misfits = tt
fails_of (error.Wrong why) defined misfits = (ap is_some misfits.0, misfits.1)

-- ---- backward over pieces

module _ (reg : List Entity) (c : Context) where
  nothing_before : (ps : List Piece) → all_before reg c ps misfit ≡ misfit
  unfolding all_before piece_before
  nothing_before [] = refl
  nothing_before (p ∷ ps) = rw (nothing_before ps) refl

  one_before : (ps : List Piece) (p : Piece) (a : Asked) → all_before reg c (ps ++ p ∷ []) a ≡ all_before reg c ps (piece_before reg c p a)
  unfolding all_before
  one_before [] p a = refl
  one_before (q ∷ ps) p a = ap (piece_before reg c q) (one_before ps p a)

  -- the last one of those that are left
  back_on : (all : List Piece) (n : ℕ) (p d : Piece) (a b target : Asked) → 0 < n → n ≤ length all → p ≡ get_or all (n - 1) d → piece_before reg c p a ≡ b
      → all_before reg c (take n all) a ≡ target → all_before reg c (take (n - 1) all) b ≡ target
  back_on all n p d a b target low within is step so_far =
      let count : n - 1 + 1 ≡ n = omega arith in
      let inside : n - 1 < length all = omega arith in
      let cut : take n all ≡ take (n - 1) all ++ p ∷ [] =
      ap (λ m. take m all) (sym count) ∙ take_more all (n - 1) d inside ∙ ap (λ q. take (n - 1) all ++ q ∷ []) (sym is) in
      ap (all_before reg c (take (n - 1) all)) (sym step) ∙ sym (one_before (take (n - 1) all) p a) ∙ sym (ap (λ qs. all_before reg c qs a) cut) ∙ so_far

  back_lost : (all : List Piece) (n : ℕ) (p d : Piece) (a target : Asked) → 0 < n → n ≤ length all → p ≡ get_or all (n - 1) d → piece_before reg c p a ≡ misfit
      → all_before reg c (take n all) a ≡ target → target ≡ misfit
  back_lost all n p d a target low within is step so_far = sym (back_on all n p d a misfit target low within is step so_far) ∙ nothing_before (take (n - 1) all)

  none_asked : (p : Piece) (qs : List plain.Part) (ks : List Kind) → ks ≡ [] → piece_before reg c p (asked qs ks) ≡ misfit
  unfolding piece_before
  none_asked p qs ks none = rw none refl

  pub part_placed : (p : Piece) (k : Kind) (ks : List Kind) (qs : List plain.Part) (q : plain.Part) → plain.part_at reg c p k ≡ Some q
      → piece_before reg c p (asked qs (k ∷ ks)) ≡ asked (q ∷ qs) (plain.kinds_in reg q k ks)
  unfolding piece_before
  part_placed p k ks qs q is = rw is refl

  pub part_lost : (p : Piece) (k : Kind) (ks : List Kind) (qs : List plain.Part) (e : LineError) → MisfitBy e (plain.part_at reg c p k) → LostBy e (piece_before reg c p (asked qs (k ∷ ks)))
  unfolding piece_before
  part_lost p k ks qs error.NoMemory lost = tt
  part_lost p k ks qs (error.Wrong why) lost = (rw lost.0 refl, lost.1)

-- a `?` hands it on
pub lost_on : {X : Type 0} (r : Result X LineError) (e : LineError) (now defined : Asked) → IsErr r × IsErrAnd r (λ f. f ≡ e) → LostBy e defined → GoesBack r now defined
lost_on (Ok x) e now defined is lost = let bad : ⊥ = cc in absurd bad
lost_on (Err f) e now defined is lost = subst (λ g. LostBy g defined) (sym is.1) lost

pub lost_by : (e : LineError) (part whole : Asked) → (part ≡ misfit → whole ≡ misfit) → LostBy e part → LostBy e whole
lost_by error.NoMemory part whole so lost = tt
lost_by (error.Wrong why) part whole so lost = (so lost.0, lost.1)

pub parts_on : {X : Type 0} (view : X → List plain.Part) (r : Result X LineError) (e : LineError) (defined : Asked) → IsErr r × IsErrAnd r (λ f. f ≡ e) → LostBy e defined → Parts view r defined
parts_on view (Ok x) e defined is lost = let bad : ⊥ = cc in absurd bad
parts_on view (Err error.NoMemory) e defined is lost = tt
parts_on view (Err (error.Wrong why)) e defined is lost = wrong e is.1 lost
  where
    wrong : (f : LineError) → error.Wrong why ≡ f → LostBy f defined → (made_of defined ≡ None) × (why ≡ Misfit)
    wrong error.NoMemory same gone = absurd cc
    wrong (error.Wrong reason) same gone = let told : why ≡ reason = cc in (ap made_of gone.0, told ∙ gone.1)

-- ---- the loop over pieces

-- what is there, through a view
at_view : {X Y : Type 0} (f : X → Y) (xs : List X) (i : ℕ) (x : X) → i < length xs → x ≡ get_or xs i x → f x ≡ get_or (map f xs) i (f x)
at_view f [] i x within is = let bad : ⊥ = omega (arith, within) in absurd bad
at_view f (y ∷ ys) zero x within is = ap f is
at_view f (y ∷ ys) (suc i) x within is = at_view f ys i x (omega (arith, within)) is

pub named_at : {X Y W Z : Type 0} (f : X → Z) (h : Y → W) (g : W → Z) (xs : List X) (ys : List Y) (i : ℕ) (x : X) (y : Y) → map f xs ≡ map g (map h ys) → i < length xs → i < length ys → x ≡ get_or xs i x
    → y ≡ get_or ys i y → f x ≡ g (h y)
named_at f h g [] ys i x y same within inside is at = let bad : ⊥ = omega (arith, within) in absurd bad
named_at f h g (w ∷ xs) [] i x y same within inside is at = let bad : ⊥ = omega (arith, inside) in absurd bad
named_at f h g (w ∷ xs) (z ∷ ys) zero x y same within inside is at =
    let heads : f w ≡ g (h z) = cc in
    ap f is ∙ heads ∙ ap (λ v. g (h v)) (sym at)
named_at f h g (w ∷ xs) (z ∷ ys) (suc i) x y same within inside is at =
    let tails : map f xs ≡ map g (map h ys) = cc in
    named_at f h g xs ys i x y tails (omega (arith, within)) (omega (arith, inside)) is at

pub as_many : {X Y W Z : Type 0} (f : X → Z) (h : Y → W) (g : W → Z) (xs : List X) (ys : List Y) → map f xs ≡ map g (map h ys) → length xs ≡ length ys
as_many f h g xs ys same = sym (length-map xs f) ∙ ap length same ∙ length-map (map h ys) g ∙ length-map ys h

module _ {X : Type 0} (reg : List Entity) (c : Context) (view : X → Piece) (all : List X) where
  pub back_begins : (n : ℕ) (a : Asked) → n ≡ length all → all_before reg c (take n (map view all)) a ≡ all_before reg c (map view all) a
  back_begins n a whole = ap (λ ps. all_before reg c ps a) (take_all n (map view all) (let size = length-map all view in omega (arith, size, whole)))

  pub back_goes : (n : ℕ) (x : X) (qs : List plain.Part) (ks js : List Kind) (k : Kind) (b target : Asked) → 0 < n → n ≤ length all → x ≡ get_or all (n - 1) x → js ≡ k ∷ ks
      → piece_before reg c (view x) (asked qs (k ∷ ks)) ≡ b → all_before reg c (take n (map view all)) (asked qs js) ≡ target → all_before reg c (take (n - 1) (map view all)) b ≡ target
  back_goes n x qs ks js k b target low within is popped step so_far =
      let size = length-map all view in
      back_on reg c (map view all) n (view x) (view x) (asked qs js) b target low (omega (arith, size, within)) (at_view view all (n - 1) x (omega (arith, low, within)) is)
      (ap (λ is. piece_before reg c (view x) (asked qs is)) popped ∙ step) so_far

  pub back_stops : (n : ℕ) (x : X) (qs : List plain.Part) (ks js : List Kind) (k : Kind) (e : LineError) (target : Asked) → 0 < n → n ≤ length all → x ≡ get_or all (n - 1) x → js ≡ k ∷ ks
      → LostBy e (piece_before reg c (view x) (asked qs (k ∷ ks))) → all_before reg c (take n (map view all)) (asked qs js) ≡ target → LostBy e target
  back_stops n x qs ks js k e target low within is popped lost so_far =
      let size = length-map all view in
      lost_by e (piece_before reg c (view x) (asked qs (k ∷ ks))) target
      (λ gone. back_lost reg c (map view all) n (view x) (view x) (asked qs js) target low (omega (arith, size, within)) (at_view view all (n - 1) x (omega (arith, low, within)) is)
      (ap (λ is. piece_before reg c (view x) (asked qs is)) popped ∙ gone) so_far)
      lost

  pub back_lacks : (n : ℕ) (qs : List plain.Part) (js : List Kind) (target : Asked) → 0 < n → n ≤ length all → js ≡ [] → all_before reg c (take n (map view all)) (asked qs js) ≡ target → target ≡ misfit
  back_lacks n qs js target low within none so_far =
      let size = length-map all view in
      let p = get_or (map view all) (n - 1) piece.void_any in
      back_lost reg c (map view all) n p piece.void_any (asked qs js) target low (omega (arith, size, within)) refl (none_asked reg c p qs js none) so_far

  pub back_ends : (n : ℕ) (a target : Asked) → n ≤ 0 → all_before reg c (take n (map view all)) a ≡ target → target ≡ a
  unfolding all_before
  back_ends n a target past so_far =
      let zeroed : n ≡ 0 = omega arith in
      sym so_far ∙ ap (λ m. all_before reg c (take m (map view all)) a) zeroed

-- ---- all parts

pub wanted_first : {X Y : Type 0} (f : X → Y) (all empty : List X) (x : X) → empty ≡ [] → all ≡ empty ++ x ∷ [] → reverse (map f all) ≡ f x ∷ []
wanted_first f all empty x none pushed = turned f all empty x pushed ∙ ap (λ xs. f x ∷ reverse (map f xs)) none

pub laid_none : {X Y : Type 0} (f : X → Y) (all : List X) → all ≡ [] → reverse (map f all) ≡ []
laid_none f all none = ap (λ xs. reverse (map f xs)) none

pub still_wanted : {X : Type 0} (f : X → Kind) (all rest : List X) (k : X) (qs : List plain.Part) (a : Asked) → all ≡ rest ++ k ∷ [] → a ≡ asked qs (reverse (map f all)) → made_of a ≡ None
still_wanted f all rest k qs a more is = ap made_of (is ∙ ap (asked qs) (turned f all rest k more))

pub all_there : {X : Type 0} (f : X → Kind) (all : List X) (qs : List plain.Part) (a : Asked) → length all ≤ 0 → a ≡ asked qs (reverse (map f all)) → a ≡ asked qs []
all_there f all qs a none is = is ∙ ap (asked qs) (laid_none f all (nil_from_length all (omega (arith, none))))

pub same_asked : (qs rs : List plain.Part) (ks js : List Kind) (a : Asked) → a ≡ asked rs js → qs ≡ rs → ks ≡ js → a ≡ asked qs ks
same_asked qs rs ks js a is parts kinds = is ∙ ap (λ xs. asked xs js) (sym parts) ∙ ap (asked qs) (sym kinds)

-- ---- types pushed

-- one in front of so many is one behind them
times_swap : (n : ℕ) (k : Kind) (ks : List Kind) → fit.times n k (k ∷ ks) ≡ k ∷ fit.times n k ks
unfolding fit.times
times_swap zero k ks = refl
times_swap (suc n) k ks = ap (λ js. k ∷ js) (times_swap n k ks)

times_more : (n : ℕ) (k : Kind) (ks : List Kind) → 0 < n → fit.times (n - 1) k (k ∷ ks) ≡ fit.times n k ks
unfolding fit.times
times_more zero k ks low = let bad : ⊥ = omega (arith, low) in absurd bad
times_more (suc n) k ks low = let less : suc n - 1 ≡ n = omega arith in ap (λ m. fit.times m k (k ∷ ks)) less ∙ times_swap n k ks

pub times_on : {X : Type 0} (f : X → Kind) (olds news : List X) (x : X) (n : ℕ) (target : List Kind) → 0 < n → news ≡ olds ++ x ∷ [] → fit.times n (f x) (reverse (map f olds)) ≡ target
    → fit.times (n - 1) (f x) (reverse (map f news)) ≡ target
times_on f olds news x n target low pushed so_far = ap (fit.times (n - 1) (f x)) (turned f news olds x pushed) ∙ times_more n (f x) (reverse (map f olds)) low ∙ so_far

pub times_end : (n : ℕ) (k : Kind) (ks target : List Kind) → n ≤ 0 → fit.times n k ks ≡ target → ks ≡ target
unfolding fit.times
times_end n k ks target past so_far =
    let zeroed : n ≡ 0 = omega arith in
    sym (ap (λ m. fit.times m k ks) zeroed) ∙ so_far

pub done_by : {X E C : Type 0} (r : Result X E) (done expected other : C) → expected ≡ other → OnOk r (done ≡ expected) → OnOk r (done ≡ other)
done_by (Ok x) done expected other same is = is ∙ same
done_by (Err e) done expected other same is = is

pub operation_kinds : (reg : List Entity) (q : plain.Part) (op : Operation) (k : Kind) (ks : List Kind) → q ≡ plain.operation op → fit.times 2 k ks ≡ plain.kinds_in reg q k ks
unfolding fit.times plain.kinds_in
operation_kinds reg q op k ks is = rw is refl

-- the types of fields, one more
pub turned_on : {X W Y : Type 0} (f : X → Kind) (h : Y → W) (g : W → Kind) (fields : List Y) (i : ℕ) (field : Y) (olds news : List X) (x : X) (target : List Kind) → i < length fields → field ≡ get_or fields i field
    → f x ≡ g (h field) → news ≡ olds ++ x ∷ [] → fit.turned (map g (map h (drop i fields))) (reverse (map f olds)) ≡ target
    → fit.turned (map g (map h (drop (i + 1) fields))) (reverse (map f news)) ≡ target
unfolding fit.turned
turned_on f h g fields i field olds news x target within is kind pushed so_far =
    ap (fit.turned (map g (map h (drop (i + 1) fields)))) (turned f news olds x pushed ∙ ap (λ k. k ∷ reverse (map f olds)) (kind ∙ ap (λ y. g (h y)) is))
    ∙ sym (ap (λ fs. fit.turned (map g (map h fs)) (reverse (map f olds))) (drop_more fields i field within)) ∙ so_far

pub turned_end : {X W Y : Type 0} (f : X → Kind) (h : Y → W) (g : W → Kind) (fields : List Y) (i : ℕ) (olds : List X) (target : List Kind) → length fields ≤ i
    → fit.turned (map g (map h (drop i fields))) (reverse (map f olds)) ≡ target → reverse (map f olds) ≡ target
unfolding fit.turned
turned_end f h g fields i olds target past so_far = sym (ap (λ fs. fit.turned (map g (map h fs)) (reverse (map f olds))) (drop_all i fields past)) ∙ so_far

-- ---- types that are named

pub named_on : {X Y W Z : Type 0} (f : X → Z) (h : Y → W) (g : W → Z) (xs news : List X) (ys : List Y) (i : ℕ) (x : X) (y : Y) (target : List Z) → i < length ys → y ≡ get_or ys i y → f x ≡ g (h y)
    → news ≡ xs ++ x ∷ [] → map f xs ++ map g (map h (drop i ys)) ≡ target → map f news ++ map g (map h (drop (i + 1) ys)) ≡ target
named_on f h g xs news ys i x y target within is found pushed so_far =
    ap (λ zs. map f zs ++ map g (map h (drop (i + 1) ys))) pushed ∙ ap (λ zs. zs ++ map g (map h (drop (i + 1) ys))) (map-append f xs (x ∷ []))
    ∙ append_assoc (map f xs) (f x ∷ []) (map g (map h (drop (i + 1) ys)))
    ∙ ap (λ z. map f xs ++ (z ∷ map g (map h (drop (i + 1) ys)))) (found ∙ ap (λ w. g (h w)) is)
    ∙ sym (ap (λ ws. map f xs ++ map g (map h ws)) (drop_more ys i y within)) ∙ so_far

pub named_end : {X Y W Z : Type 0} (f : X → Z) (h : Y → W) (g : W → Z) (xs : List X) (ys : List Y) (i : ℕ) (target : List Z) → length ys ≤ i → map f xs ++ map g (map h (drop i ys)) ≡ target → map f xs ≡ target
named_end f h g xs ys i target past so_far = sym (ap (λ ws. map f xs ++ map g (map h ws)) (drop_all i ys past) ∙ append-nil (map f xs)) ∙ so_far

pub named_alone : {X Z : Type 0} (f : X → Z) (empty all : List X) (zs : List Z) → empty ≡ [] → map f all ≡ map f empty ++ zs → map f all ≡ zs
named_alone f empty all zs none is = is ∙ ap (λ xs. map f xs ++ zs) none

-- where the first type alone is wanted
pub begins : {X Y : Type 0} (f : X → plain.Part) (g : Y → Kind) (parts : List X) (empty wanted : List Y) (k : Y) → parts ≡ [] → empty ≡ [] → wanted ≡ empty ++ k ∷ []
    → asked (reverse (map f parts)) (reverse (map g wanted)) ≡ asked [] (g k ∷ [])
begins f g parts empty wanted k none bare pushed = ap (λ qs. asked qs (reverse (map g wanted))) (laid_none f parts none) ∙ ap (asked []) (wanted_first g wanted empty k bare pushed)
