-- Terms, both ways: what is spelled is read, and what is read is spelled and formed.
use Rattle.std.proofs.Common.{◌≡◌, ℕ, ◌≤◌, true, false, ◌==◌, List, [], ◌∷◌, ◌++◌, length, length-append, None, Some}
use Rattle.std.proofs.Common.{refl, sym, ap, ◌∙◌, arith, append-nil}
use Rattle.std.proofs.lemmas.Bool.{and_parts, not_from_false, both_ways}
use Rattle.std.specs.List.{list_all}
use Rattle.uno_model.specs.Entities.{Entity}
use Rattle.uno_model.specs.Sound.{is_named}
use Rattle.plan_model.specs.Forms.{is_term, are_terms, has_members}
use Rattle.plan_model.specs.Lines.{Term, Terms, none, more}
use Rattle.plan_model.specs.PlanText.{term_text, terms_text, behind_comma}
use Rattle.plan_reading_model.specs.TermReading.{terms_on, term_at}
use Rattle.plan_reading_model.proofs.PartLaws.{stops, ends_type}
use Rattle.plan_reading_model.proofs.TermForth.{some_text, none_of_mark, within_said}
use Rattle.plan_reading_model.proofs.TermStepForth.{EachSaid, closing_terms}
use Rattle.plan_reading_model.proofs.TermBack.{within_back}
use Rattle.plan_reading_model.proofs.TermStepBack.{terms_are}
use Rattle.plan_reading_model.proofs.TermRaised.{no_second}
pub use Rattle.plan_reading_model.proofs.TermLevels.{enough}
pub use Rattle.plan_reading_model.proofs.TermStepForth.{is_mark, mark_ends}
pub use Rattle.plan_reading_model.proofs.TermLeaves.{is_term_byte, term_ends}

pub term_said : (reg : List Entity) (t : Term) (rest : List ℕ) → is_term reg t ≡ true → stops is_term_byte rest ≡ true
    → term_at reg (term_text t ++ rest) ≡ Some (t, rest)
unfolding term_at
term_said reg t rest is ends =
    let size = length-append (term_text t) rest in
    within_said reg (length (term_text t ++ rest)) t is (omega (arith, size)) rest ends

-- no term begins with a mark
pub no_term : (reg : List Entity) (c : ℕ) (cs : List ℕ) → is_mark c ≡ true → term_at reg (c ∷ cs) ≡ None
unfolding term_at
no_term reg c cs is = none_of_mark (length (c ∷ cs)) reg c cs is

-- ---- terms with commas between them, up to the byte that closes

each_said : (reg : List Entity) (ts : Terms) → are_terms reg ts ≡ true → EachSaid (term_at reg) ts
unfolding EachSaid are_terms
each_said reg none are = tt
each_said reg (more t ts) are =
    let parts = and_parts (is_term reg t) (are_terms reg ts) are in (λ rest ends. term_said reg t rest parts.0 ends, each_said reg ts parts.1)

pub terms_said : (reg : List Entity) (close most : ℕ) (ts : Terms) (rest : List ℕ) → has_members ts ≡ true → are_terms reg ts ≡ true → is_mark close ≡ true
    → (close == 44) ≡ false → length (terms_text ts) ≤ most → terms_on most (term_at reg) close (terms_text ts ++ close ∷ rest) ≡ Some (ts, rest)
unfolding terms_text are_terms
terms_said reg close most none rest some are mark no_comma enough = absurd (both_ways false refl some)
terms_said reg close most (more t ts) rest some are mark no_comma enough =
    let text = some_text reg t (and_parts (is_term reg t) (are_terms reg ts) are).0 in
    let size = length-append (term_text t) (behind_comma ts) in
    closing_terms (term_at reg) close most t ts rest (each_said reg (more t ts) are) mark no_comma (omega (arith, text, size, enough))

pub term_back : (reg : List Entity) (bytes : List ℕ) (x : Term × List ℕ) → term_at reg bytes ≡ Some x
    → (is_term reg x.0 ≡ true) × (bytes ≡ term_text x.0 ++ x.1)
unfolding term_at
term_back reg bytes x e = within_back (length bytes) reg bytes x e

pub terms_back : (reg : List Entity) (close most : ℕ) (bytes : List ℕ) (x : Terms × List ℕ) → terms_on most (term_at reg) close bytes ≡ Some x
    → (has_members x.0 ≡ true) × (are_terms reg x.0 ≡ true) × (bytes ≡ terms_text x.0 ++ close ∷ x.1)
terms_back reg close most bytes x e =
    let are = terms_are reg (term_at reg) close most bytes x (term_back reg) e in (are.some, are.formed, are.spelled)

-- ---- what stands behind the type of a value that is raised

-- no term begins with a second word of an unsigned type, where the names of the registry are identifiers
pub raised_ends : (reg : List Entity) (t : Term) → list_all is_named reg ≡ true → is_term reg t ≡ true → ends_type (32 ∷ term_text t) ≡ true
unfolding term_at
raised_ends reg t named is =
    let read : term_at reg (term_text t) ≡ Some (t, []) = ap (term_at reg) (sym (append-nil (term_text t))) ∙ term_said reg t [] is refl in
    not_from_false _ (no_second (length (term_text t)) reg (term_text t) (t, []) named read)
