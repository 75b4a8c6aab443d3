-- Terms one behind the other.
use Rattle.std.proofs.Common.{◌≡◌, ℕ, zero, suc, ◌-◌, ◌<◌, ◌≢◌, eq-eqb, ne_eqb, List, [], ◌∷◌, ◌++◌, length, Option, None, Some, Result, Ok, Err, IsErr, refl, sym, ap, subst, ◌∙◌, arith}
use Rattle.std.proofs.lemmas.List.{nil_from_length}
use Rattle.std.specs.Result.{IsErrAnd}
use Rattle.uno_model.specs.Entities.{Entity}
use Rattle.plan_model.specs.Lines.{Term, Terms, none, more, terms}
use Rattle.plan_reading_model.specs.LineReading.{listed, arguments_at}
use Rattle.plan_reading_model.specs.Parts.{on_some}
use Rattle.plan_reading_model.specs.TermReading.{Reads, term_at, terms_on, behind_term, in_front}
use Rattle.plan_lines.specs.Fronts.{in_fronts, behind_fronts}
use Rattle.plan_lines.specs.Reads.{UnreadBy, Gives}
use Rattle.plan_lines.specs.declared.unread.Unread.{Unread}
use Rattle.plan_lines.specs.declared.unread.Unread.TheVariants as unread

-- ---- terms in front of others

no_fronts : (r : Option (Terms × List ℕ)) → behind_fronts [] r ≡ r
unfolding in_fronts
no_fronts None = refl
no_fronts (Some x) = refl

fronts_more : (ts : List Term) (t : Term) (us : Terms) → in_fronts ts (more t us) ≡ in_fronts (ts ++ t ∷ []) us
unfolding in_fronts
fronts_more [] t us = refl
fronts_more (s ∷ ts) t us = ap (more s) (fronts_more ts t us)

fronts_last : (ts : List Term) (t : Term) → in_fronts ts (more t none) ≡ terms (ts ++ t ∷ [])
unfolding in_fronts
fronts_last [] t = refl
fronts_last (s ∷ ts) t = ap (more s) (fronts_last ts t)

behind_more : (ts : List Term) (t : Term) (r : Option (Terms × List ℕ)) → behind_fronts ts (in_front t r) ≡ behind_fronts (ts ++ t ∷ []) r
behind_more ts t None = refl
behind_more ts t (Some x) = ap (λ us. Some (us, x.1)) (fronts_more ts t x.0)

listed_terms : (ts : List Term) → listed (terms ts) ≡ ts
unfolding listed
listed_terms [] = refl
listed_terms (t ∷ ts) = ap (λ us. t ∷ us) (listed_terms ts)

-- terms behind none are those that are read
pub first_terms : (read : Option (Terms × List ℕ)) (ts us : List Term) (rest : List ℕ) → ts ≡ [] → behind_fronts ts read ≡ Some (terms us, rest) → read ≡ Some (terms us, rest)
first_terms read ts us rest empty is = sym (no_fronts read) ∙ ap (λ xs. behind_fronts xs read) (sym empty) ∙ is

-- arguments are the terms up to the parenthesis, where it does not stand at once
pub first_arguments : (reg : List Entity) (bytes behind : List ℕ) (c : ℕ) (ts us : List Term) (rest : List ℕ) → bytes ≡ c ∷ behind → c ≢ 41 → ts ≡ []
    → behind_fronts ts (terms_on (length bytes) (term_at reg) 41 bytes) ≡ Some (terms us, rest) → arguments_at reg bytes ≡ Some (us, rest)
unfolding arguments_at
first_arguments reg bytes behind c ts us rest splits other empty is =
    let read = first_terms (terms_on (length bytes) (term_at reg) 41 bytes) ts us rest empty is in
    let cut : terms_on (length (c ∷ behind)) (term_at reg) 41 (c ∷ behind) ≡ Some (terms us, rest) = ap (λ xs. terms_on (length xs) (term_at reg) 41 xs) (sym splits) ∙ read in
    ap (arguments_at reg) splits ∙ rw (ne_eqb c 41 other, cut, listed_terms us) refl

-- ---- one term, and what stands behind it

terms_level : (n : ℕ) (read : Reads Term) (close : ℕ) (bytes : List ℕ) → 0 < n → terms_on n read close bytes ≡ on_some (read bytes) (behind_term close (terms_on (n - 1) read close))
unfolding terms_on
terms_level zero read close bytes some = let bad : ⊥ = omega arith in absurd bad
terms_level (suc n) read close bytes some = let fuel : n ≡ suc n - 1 = omega arith in ap (λ m. on_some (read bytes) (behind_term close (terms_on m read close))) fuel

pub term_fails : (n : ℕ) (read : Reads Term) (close : ℕ) (bytes : List ℕ) (ts : List Term) (verdict : Option (Terms × List ℕ)) (e : Unread)
    → 0 < n → UnreadBy e (read bytes) → behind_fronts ts (terms_on n read close bytes) ≡ verdict → UnreadBy e verdict
term_fails n read close bytes ts verdict unread.NoMemory some fails is = tt
term_fails n read close bytes ts verdict unread.Form some fails is = sym is ∙ rw (terms_level n read close bytes some, fails) refl

pub term_alone : (n : ℕ) (read : Reads Term) (close : ℕ) (bytes rest : List ℕ) (t : Term) (ts : List Term) (verdict : Option (Terms × List ℕ))
    → 0 < n → read bytes ≡ Some (t, rest) → length rest ≡ 0 → behind_fronts ts (terms_on n read close bytes) ≡ verdict → verdict ≡ None
term_alone n read close bytes rest t ts verdict some reads ends is = let none_left : rest ≡ [] = nil_from_length rest ends in sym is ∙ rw (terms_level n read close bytes some, reads, none_left) refl

pub term_last : (n : ℕ) (read : Reads Term) (close : ℕ) (bytes rest next : List ℕ) (c : ℕ) (t : Term) (ts us : List Term) (verdict : Option (Terms × List ℕ))
    → 0 < n → read bytes ≡ Some (t, rest) → rest ≡ c ∷ next → c ≡ close → us ≡ ts ++ t ∷ []
    → behind_fronts ts (terms_on n read close bytes) ≡ verdict → verdict ≡ Some (terms us, next)
term_last n read close bytes rest next c t ts us verdict some reads splits closes pushed is =
    sym is ∙ rw (terms_level n read close bytes some, reads, splits, eq-eqb c close closes) refl ∙ ap (λ x. Some (x, next)) (fronts_last ts t ∙ ap terms (sym pushed))

pub term_lost : (n : ℕ) (read : Reads Term) (close : ℕ) (bytes rest next : List ℕ) (c : ℕ) (t : Term) (ts : List Term) (verdict : Option (Terms × List ℕ))
    → 0 < n → read bytes ≡ Some (t, rest) → rest ≡ c ∷ next → c ≢ close → c ≢ 44
    → behind_fronts ts (terms_on n read close bytes) ≡ verdict → verdict ≡ None
term_lost n read close bytes rest next c t ts verdict some reads splits opens ends is =
    sym is ∙ rw (terms_level n read close bytes some, reads, splits, ne_eqb c close opens, ne_eqb c 44 ends) refl

pub term_next : (n m : ℕ) (read : Reads Term) (close : ℕ) (bytes rest next : List ℕ) (c : ℕ) (t : Term) (ts us : List Term) (verdict : Option (Terms × List ℕ))
    → 0 < n → m ≡ n - 1 → read bytes ≡ Some (t, rest) → rest ≡ c ∷ next → c ≢ close → c ≡ 44 → us ≡ ts ++ t ∷ []
    → behind_fronts ts (terms_on n read close bytes) ≡ verdict → behind_fronts us (terms_on m read close next) ≡ verdict
term_next n m read close bytes rest next c t ts us verdict some fuel reads splits opens goes pushed is =
    rw (fuel, pushed) (sym (behind_more ts t (terms_on (n - 1) read close next)) ∙ sym step ∙ is)
  where
    step : behind_fronts ts (terms_on n read close bytes) ≡ behind_fronts ts (in_front t (terms_on (n - 1) read close next))
    step = rw (terms_level n read close bytes some, reads, splits, ne_eqb c close opens, eq-eqb c 44 goes) refl

-- all bytes are used up, and none closes
pub terms_end : (n : ℕ) (read : Reads Term) (close : ℕ) (bytes : List ℕ) (ts : List Term) (verdict : Option (Terms × List ℕ))
    → n ≡ 0 → behind_fronts ts (terms_on n read close bytes) ≡ verdict → verdict ≡ None
unfolding terms_on
terms_end n read close bytes ts verdict no_more is = sym is ∙ rw no_more refl

-- a `?` hands the failure on
pub handed_over : {X Y : Type 0} (view : X → Y) (r : Result X Unread) (e : Unread) (verdict : Option Y) → IsErr r × IsErrAnd r (λ f. f ≡ e)
    → UnreadBy e verdict → Gives view r verdict
handed_over view (Ok x) e verdict is failed = let bad : ⊥ = cc in absurd bad
handed_over view (Err f) e verdict is failed = subst (λ g. UnreadBy g verdict) (sym is.1) failed
