-- Paths one behind the other.
use Rattle.std.proofs.Common.{◌≡◌, ℕ, zero, suc, ◌-◌, ◌<◌, ◌≢◌, eq-eqb, ne_eqb, length, List, [], ◌∷◌, ◌++◌, Option, None, Some, refl, sym, ap, ◌∙◌, arith}
use Rattle.std.proofs.lemmas.List.{append_assoc, nil_from_length}
use Rattle.plan_reading_model.specs.Parts.{on_some, path_at, paths_on, behind_path, path_in_front}
use Rattle.plan_lines.specs.Fronts.{behind_paths}
use Rattle.plan_lines.specs.Reads.{UnreadBy}
use Rattle.plan_lines.specs.declared.unread.Unread.{Unread}
use Rattle.plan_lines.specs.declared.unread.Unread.TheVariants as unread

pub no_paths : (r : Option (List (List ℕ))) → behind_paths [] r ≡ r
no_paths None = refl
no_paths (Some qs) = refl

behind_more : (ps : List (List ℕ)) (p : List ℕ) (r : Option (List (List ℕ))) → behind_paths ps (path_in_front p r) ≡ behind_paths (ps ++ p ∷ []) r
behind_more ps p None = refl
behind_more ps p (Some qs) = ap Some (sym (append_assoc ps (p ∷ []) qs))

paths_level : (n : ℕ) (bytes : List ℕ) → 0 < n → paths_on n bytes ≡ on_some (path_at bytes) (behind_path (paths_on (n - 1)))
unfolding paths_on
paths_level zero bytes some = let bad : ⊥ = omega arith in absurd bad
paths_level (suc n) bytes some = let fuel : n ≡ suc n - 1 = omega arith in ap (λ m. on_some (path_at bytes) (behind_path (paths_on m))) fuel

pub path_fails : (n : ℕ) (bytes : List ℕ) (ps : List (List ℕ)) (verdict : Option (List (List ℕ))) (e : Unread)
    → 0 < n → UnreadBy e (path_at bytes) → behind_paths ps (paths_on n bytes) ≡ verdict → UnreadBy e verdict
path_fails n bytes ps verdict unread.NoMemory some fails is = tt
path_fails n bytes ps verdict unread.Form some fails is = sym is ∙ rw (paths_level n bytes some, fails) refl

pub path_last : (n : ℕ) (bytes rest p : List ℕ) (ps qs : List (List ℕ)) (verdict : Option (List (List ℕ)))
    → 0 < n → path_at bytes ≡ Some (p, rest) → length rest ≡ 0 → qs ≡ ps ++ p ∷ [] → behind_paths ps (paths_on n bytes) ≡ verdict → verdict ≡ Some qs
path_last n bytes rest p ps qs verdict some reads ends pushed is =
    let none_left : rest ≡ [] = nil_from_length rest ends in sym is ∙ rw (paths_level n bytes some, reads, none_left, pushed) refl

pub path_lost : (n : ℕ) (bytes rest next p : List ℕ) (c : ℕ) (ps : List (List ℕ)) (verdict : Option (List (List ℕ)))
    → 0 < n → path_at bytes ≡ Some (p, rest) → rest ≡ c ∷ next → c ≢ 32 → behind_paths ps (paths_on n bytes) ≡ verdict → verdict ≡ None
path_lost n bytes rest next p c ps verdict some reads splits other is = sym is ∙ rw (paths_level n bytes some, reads, splits, ne_eqb c 32 other) refl

pub path_next : (n m : ℕ) (bytes rest next p : List ℕ) (c : ℕ) (ps qs : List (List ℕ)) (verdict : Option (List (List ℕ)))
    → 0 < n → m ≡ n - 1 → path_at bytes ≡ Some (p, rest) → rest ≡ c ∷ next → c ≡ 32 → qs ≡ ps ++ p ∷ []
    → behind_paths ps (paths_on n bytes) ≡ verdict → behind_paths qs (paths_on m next) ≡ verdict
path_next n m bytes rest next p c ps qs verdict some fuel reads splits blank pushed is =
    rw (fuel, pushed) (sym (behind_more ps p (paths_on (n - 1) next)) ∙ sym step ∙ is)
  where
    step : behind_paths ps (paths_on n bytes) ≡ behind_paths ps (path_in_front p (paths_on (n - 1) next))
    step = rw (paths_level n bytes some, reads, splits, eq-eqb c 32 blank) refl

pub paths_end : (n : ℕ) (bytes : List ℕ) (ps : List (List ℕ)) (verdict : Option (List (List ℕ))) → n ≡ 0 → behind_paths ps (paths_on n bytes) ≡ verdict → verdict ≡ None
unfolding paths_on
paths_end n bytes ps verdict no_more is = sym is ∙ rw no_more refl
