-- The values of tokens, one after the other.
use Rattle.std.proofs.Common.{◌≡◌, ◌≤◌, ◌+◌, length, drop, get_or, Bor, ℕ, zero, suc, ◌<◌, ◌-◌, Bool, List, [], ◌∷◌, ◌++◌}
use Rattle.std.proofs.Common.{Result, Ok, Err, IsErr, true, false, refl, sym, ap, subst, ◌∙◌, arith, if◌then◌else◌}
use Rattle.std.proofs.lemmas.List.{append_assoc, append-nil, drop_more, drop_all}
use Rattle.uno_model.specs.Entities.{Entity}
use Rattle.uno_model.specs.Fits.{member_kinds}
use Rattle.uno_model.specs.Kinds.{Kind}
use Rattle.uno_model.specs.Kinds as kd
use Rattle.literal_model.specs.Readings.{Fault, misfit, Reads, value_within, value_step, left_at, elements_on, behind_element, members_on}
use Rattle.literal_model.specs.Readings.{with_first, comma_at, expect, is_comma, closes_square, closes_curly, opens_curly}
use Rattle.literal_model.specs.Shapes.{Placed, on_ok}
use Rattle.uno_model.specs.Types.{is_type}
use Rattle.uno_model.specs.Values.{Plain}
use Rattle.std.specs.Result.{IsErrAnd}
use Rattle.literal_reading.specs.Typing.{FailedBy, Gives, kinds_at, with_firsts}
use Rattle.uno_entities.specs.TypeNames.{kind_of}
use Rattle.uno_entities.specs.declared.entity.Field.{Field}
use Rattle.literal_reading.specs.declared.stop.Stop.{Stop}
use Rattle.literal_reading.specs.declared.stop.Stop.TheVariants as stop

-- one level further in
pub value_level : (levels : ℕ) (reg : List Entity) (k : Kind) (ps : List Placed) → 0 < levels
    → value_within levels reg k ps ≡ (if is_type reg k then value_step reg (value_within (levels - 1) reg) k ps else Err (misfit (left_at ps)))
unfolding value_within
value_level zero reg k ps some = let bad : ⊥ = omega arith in absurd bad
value_level (suc levels) reg k ps some = let fuel : levels ≡ suc levels - 1 = omega arith in ap (λ n. if is_type reg k then value_step reg (value_within n reg) k ps else Err (misfit (left_at ps))) fuel

pub ruleset levels = (value_level)

-- no values in front
pub with_no_firsts : {X : Type 0} (r : Result (List X × List Placed) Fault) → with_firsts [] r ≡ r
with_no_firsts (Ok y) = refl
with_no_firsts (Err e) = refl

pub with_firsts_more : {X : Type 0} (xs : List X) (x : X) (r : Result (List X × List Placed) Fault) → with_firsts xs (with_first x r) ≡ with_firsts (xs ++ x ∷ []) r
with_firsts_more xs x (Ok y) = ap (λ t. Ok (t, y.1)) (sym (append_assoc xs (x ∷ []) y.0))
with_firsts_more xs x (Err e) = refl

pub elements_level : {X : Type 0} (n left : ℕ) (read : Reads X) (ps : List Placed) → 0 < n
    → elements_on n left read ps ≡ on_ok (read ps) (λ y. behind_element left y.0 y.1 (elements_on (n - 1) left read))
unfolding elements_on
elements_level zero left read ps some = let bad : ⊥ = omega arith in absurd bad
elements_level (suc n) left read ps some = let fuel : n ≡ suc n - 1 = omega arith in ap (λ m. on_ok (read ps) (λ y. behind_element left y.0 y.1 (elements_on m left read))) fuel

-- ---- one element, and what stands behind it

pub element_fails : {X : Type 0} (n left : ℕ) (read : Reads X) (ps : List Placed) (xs : List X) (verdict : Result (List X × List Placed) Fault) (e : Stop)
    → 0 < n → FailedBy e (read ps) → with_firsts xs (elements_on n left read ps) ≡ verdict
    → FailedBy e verdict
element_fails n left read ps xs verdict stop.NoMemory some fails is = tt
element_fails n left read ps xs verdict (stop.Bad at) some fails is = sym is ∙ rw (elements_level n left read ps some, fails) refl

pub element_alone : {X : Type 0} (n left : ℕ) (read : Reads X) (ps qs : List Placed) (x : X) (xs : List X) (verdict : Result (List X × List Placed) Fault)
    → 0 < n → read ps ≡ Ok (x, qs) → qs ≡ []
    → with_firsts xs (elements_on n left read ps) ≡ verdict → verdict ≡ Err (misfit left)
element_alone n left read ps qs x xs verdict some reads none is = sym is ∙ rw (elements_level n left read ps some, reads, none) refl

pub element_last : {X : Type 0} (n left : ℕ) (read : Reads X) (ps qs rs : List Placed) (p : Placed) (x : X) (xs ys : List X) (verdict : Result (List X × List Placed) Fault)
    → 0 < n → read ps ≡ Ok (x, qs) → qs ≡ p ∷ rs → closes_square p.token ≡ true
    → ys ≡ xs ++ x ∷ [] → with_firsts xs (elements_on n left read ps) ≡ verdict → verdict ≡ Ok (ys, rs)
element_last n left read ps qs rs p x xs ys verdict some reads next closes pushed is = sym is ∙ rw (elements_level n left read ps some, reads, next, closes, pushed) refl

pub element_lost : {X : Type 0} (n left : ℕ) (read : Reads X) (ps qs rs : List Placed) (p : Placed) (x : X) (xs : List X) (verdict : Result (List X × List Placed) Fault)
    → 0 < n → read ps ≡ Ok (x, qs) → qs ≡ p ∷ rs → closes_square p.token ≡ false
    → is_comma p.token ≡ false → with_firsts xs (elements_on n left read ps) ≡ verdict → verdict ≡ Err (misfit left)
element_lost n left read ps qs rs p x xs verdict some reads next open_still none is = sym is ∙ rw (elements_level n left read ps some, reads, next, open_still, none) refl

pub element_next : {X : Type 0} (n m left : ℕ) (read : Reads X) (ps qs rs : List Placed) (p : Placed) (x : X) (xs ys : List X) (verdict : Result (List X × List Placed) Fault)
    → 0 < n → m ≡ n - 1 → read ps ≡ Ok (x, qs) → qs ≡ p ∷ rs
    → closes_square p.token ≡ false → is_comma p.token ≡ true → ys ≡ xs ++ x ∷ [] → with_firsts xs (elements_on n left read ps) ≡ verdict → with_firsts ys (elements_on m left read rs) ≡ verdict
element_next n m left read ps qs rs p x xs ys verdict some fuel reads next open_still goes pushed is =
    rw (fuel, pushed) (sym (with_firsts_more xs x (elements_on (n - 1) left read rs)) ∙ sym step ∙ is)
  where
    step : with_firsts xs (elements_on n left read ps) ≡ with_firsts xs (with_first x (elements_on (n - 1) left read rs))
    step = rw (elements_level n left read ps some, reads, next, open_still, goes) refl

-- a `?` hands the failure on
pub handed_over : {X Y : Type 0} (view : X → Y) (r : Result X Stop) (e : Stop) (verdict : Result Y Fault) → IsErr r × IsErrAnd r (λ f. f ≡ e)
    → FailedBy e verdict → Gives view r verdict
handed_over view (Ok x) e verdict is failed = let bad : ⊥ = cc in absurd bad
handed_over view (Err f) e verdict is failed = subst (λ g. FailedBy g verdict) (sym is.1) failed

-- ---- one member, and the end of them

pub member_next : (read : Kind → Reads Plain) (left : ℕ) (is_first : Bool) (k : Kind) (ks : List Kind) (ps qs rs : List Placed) (x : Plain) (xs ys : List Plain) (verdict : Result (List Plain × List Placed) Fault)
    → comma_at is_first left ps ≡ Ok qs → read k qs ≡ Ok (x, rs)
    → ys ≡ xs ++ x ∷ [] → with_firsts xs (members_on read left is_first (k ∷ ks) ps) ≡ verdict → with_firsts ys (members_on read left false ks rs) ≡ verdict
unfolding members_on
member_next read left is_first k ks ps qs rs x xs ys verdict comma reads pushed is = rw pushed (sym (with_firsts_more xs x (members_on read left false ks rs)) ∙ sym step ∙ is)
  where
    step : with_firsts xs (members_on read left is_first (k ∷ ks) ps) ≡ with_firsts xs (with_first x (members_on read left false ks rs))
    step = rw (comma, reads) refl

pub comma_fails : (read : Kind → Reads Plain) (left : ℕ) (is_first : Bool) (k : Kind) (ks : List Kind) (ps : List Placed) (xs : List Plain) (verdict : Result (List Plain × List Placed) Fault) (e : Stop)
    → FailedBy e (comma_at is_first left ps)
    → with_firsts xs (members_on read left is_first (k ∷ ks) ps) ≡ verdict → FailedBy e verdict
unfolding members_on
comma_fails read left is_first k ks ps xs verdict stop.NoMemory fails is = tt
comma_fails read left is_first k ks ps xs verdict (stop.Bad at) fails is = sym is ∙ rw fails refl

pub member_fails : (read : Kind → Reads Plain) (left : ℕ) (is_first : Bool) (k : Kind) (ks : List Kind) (ps qs : List Placed) (xs : List Plain) (verdict : Result (List Plain × List Placed) Fault) (e : Stop)
    → comma_at is_first left ps ≡ Ok qs → FailedBy e (read k qs)
    → with_firsts xs (members_on read left is_first (k ∷ ks) ps) ≡ verdict → FailedBy e verdict
unfolding members_on
member_fails read left is_first k ks ps qs xs verdict stop.NoMemory comma fails is = tt
member_fails read left is_first k ks ps qs xs verdict (stop.Bad at) comma fails is = sym is ∙ rw (comma, fails) refl

members_end : (read : Kind → Reads Plain) (left : ℕ) (is_first : Bool) (ps qs : List Placed) (xs : List Plain) (verdict : Result (List Plain × List Placed) Fault)
    → expect left closes_curly ps ≡ Ok qs
    → with_firsts xs (members_on read left is_first [] ps) ≡ verdict → verdict ≡ Ok (xs, qs)
unfolding members_on
members_end read left is_first ps qs xs verdict closed is = sym is ∙ rw closed (ap (λ ys. Ok (ys, qs)) (append-nil xs))

members_lost : (read : Kind → Reads Plain) (left : ℕ) (is_first : Bool) (ps : List Placed) (xs : List Plain) (verdict : Result (List Plain × List Placed) Fault) (e : Stop)
    → FailedBy e (expect left closes_curly ps)
    → with_firsts xs (members_on read left is_first [] ps) ≡ verdict → FailedBy e verdict
unfolding members_on
members_lost read left is_first ps xs verdict stop.NoMemory fails is = tt
members_lost read left is_first ps xs verdict (stop.Bad at) fails is = sym is ∙ rw fails refl

pub members_close : {R : Type 0} (read : Kind → Reads Plain) (left : ℕ) (is_first : Bool) (ps : List Placed) (xs : List Plain) (verdict : Result (List Plain × List Placed) Fault) (view : R → List Placed) (r : Result R Stop)
    → Gives view r (expect left closes_curly ps)
    → with_firsts xs (members_on read left is_first [] ps) ≡ verdict → Gives (λ x. (xs, view x)) r verdict
members_close read left is_first ps xs verdict view (Ok x) closed is = members_end read left is_first ps (view x) xs verdict closed is
members_close read left is_first ps xs verdict view (Err e) fails is = members_lost read left is_first ps xs verdict e fails is

-- what is left of the fields' types
pub kinds_more : (fields : List (Bor Field)) (i : ℕ) (f : Bor Field) → i < length fields → f ≡ get_or fields i f
    → kinds_at (drop i fields) ≡ kind_of f.now.kind ∷ kinds_at (drop (i + 1) fields)
kinds_more fields i f within read = ap kinds_at (drop_more fields i f within ∙ ap (λ g. g ∷ drop (i + 1) fields) (sym read))

pub kinds_done : (fields : List (Bor Field)) (i : ℕ) → length fields ≤ i → kinds_at (drop i fields) ≡ []
kinds_done fields i past = ap kinds_at (drop_all i fields past)

-- the members of a struct are read in its brackets, behind none
pub tuple_fails : (reg : List Entity) (read : Kind → Reads Plain) (left : ℕ) (name : List ℕ) (kinds : List Kind) (ps qs : List Placed) (xs : List Plain) (e : Stop)
    → left ≡ left_at ps → kinds ≡ member_kinds reg name → expect left opens_curly ps ≡ Ok qs → xs ≡ []
    → FailedBy e (with_firsts xs (members_on read left true kinds qs)) → FailedBy e (value_step reg read (kd.struct name) ps)
unfolding value_step
tuple_fails reg read left name kinds ps qs xs stop.NoMemory front members opened none fails = tt
tuple_fails reg read left name kinds ps qs xs (stop.Bad at) front members opened none fails =
    let lost : members_on read left true kinds qs ≡ Err (misfit at) = sym (with_no_firsts _) ∙ ap (λ ys. with_firsts ys (members_on read left true kinds qs)) (sym none) ∙ fails in
    rw (← front, ← members, opened, lost) refl
