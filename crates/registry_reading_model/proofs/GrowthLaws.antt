-- Lists to which a line adds one more, or whose last it changes.
use Rattle.std.proofs.Common.{◌≡◌, ℕ, Bool, true, not, List, [], ◌∷◌, ◌++◌, map, Option, Some, refl, sym, ap, subst, ◌∙◌, append_assoc, append-nil}
use Rattle.std.specs.List.{list_all, flat_map}
use Rattle.std.proofs.lemmas.Bool.{and_parts, and_from}
use Rattle.std.proofs.lemmas.List.{map-append}
use Rattle.std.proofs.lemmas.List.Concat.{flat_map-append}
use Rattle.uno_model.proofs.AllLaws.{all_append, of_append}
use Rattle.uno_model.proofs.Options.{same_some, none_some}
use Rattle.uno_model.specs.Sound.{is_some_list}
use Rattle.registry_reading_model.specs.Bodies.{pushed, all_but_last, last_of, last_changed}
use Rattle.registry_reading_model.proofs.PrintedLaws.{is_text}
use Rattle.registry_reading_model.proofs.WordLaws.{given}

-- the line is all that is printed of it
pub record Made {X : Type 0} (lines : X → List (List ℕ)) (good : X → Bool) (x : X) (line : List ℕ) : Type 0 where
  pub printed : lines x ≡ line ∷ []
  pub passes : good x ≡ true
  pub text : is_text line ≡ true

-- the line is one more than what was printed
pub record Grown {X : Type 0} (lines : X → List (List ℕ)) (good : X → Bool) (x y : X) (line : List ℕ) : Type 0 where
  pub printed : lines y ≡ lines x ++ line ∷ []
  pub passes : good x ≡ true → good y ≡ true
  pub text : is_text line ≡ true

pub no_list : {X : Type 0} (xs : List X) → not (is_some_list xs) ≡ true → xs ≡ []
no_list [] none = refl
no_list (x ∷ xs) none = let bad : ⊥ = cc in absurd bad

pub pushed_passes : {X : Type 0} (P : X → Bool) (xs : List X) (x : X) → list_all P xs ≡ true → P x ≡ true → list_all P (xs ++ x ∷ []) ≡ true
pushed_passes P xs x all here = all_append P xs (x ∷ []) all (and_from (P x) true here refl)

-- one more behind the others
pub pushed_is : {X : Type 0} (xs ys : List X) (o : Option X) → pushed xs o ≡ Some ys → (x : X) × (o ≡ Some x) × (ys ≡ xs ++ x ∷ [])
pushed_is xs ys o read =
    let x = given o (λ y. Some (xs ++ y ∷ [])) ys read in
    (x.0, x.1, sym (same_some x.2))

module _ {X : Type 0} (good : X → Bool) (line : List ℕ) where
  pub grown_by_push : (lines : X → List (List ℕ)) (xs ys : List X) (o : Option X) → pushed xs o ≡ Some ys
      → ((x : X) → o ≡ Some x → Made lines good x line)
      → Grown (flat_map lines) (list_all good) xs ys line
  grown_by_push lines xs ys o read made =
      let x = pushed_is xs ys o read in
      let is = made x.0 x.1 in
      let whole : flat_map lines (xs ++ x.0 ∷ []) ≡ flat_map lines xs ++ line ∷ [] =
      flat_map-append lines xs (x.0 ∷ []) ∙ ap (λ t. flat_map lines xs ++ t) (append-nil (lines x.0) ∙ is.printed) in
      record { printed = ap (flat_map lines) x.2 ∙ whole; passes = λ all. rw (x.2) (pushed_passes good xs x.0 all is.passes); text = is.text }

  pub grown_line : (print : X → List ℕ) (xs ys : List X) (o : Option X) → pushed xs o ≡ Some ys
      → ((x : X) → o ≡ Some x → Made (λ x. print x ∷ []) good x line)
      → Grown (map print) (list_all good) xs ys line
  grown_line print xs ys o read made =
      let x = pushed_is xs ys o read in
      let is = made x.0 x.1 in
      record {
        printed = ap (map print) x.2 ∙ map-append print xs (x.0 ∷ []) ∙ ap (λ t. map print xs ++ t) is.printed;
        passes = λ all. rw (x.2) (pushed_passes good xs x.0 all is.passes);
        text = is.text;
      }

-- the last, changed
pub last_is : {X : Type 0} (x : X) (xs : List X) → all_but_last x xs ++ last_of x xs ∷ [] ≡ x ∷ xs
last_is x [] = refl
last_is x (y ∷ ys) = ap (λ t. x ∷ t) (last_is y ys)

module _ {X : Type 0} (lines : X → List (List ℕ)) (good : X → Bool) (line : List ℕ) where
  grown_last : (front : List X) (x y : X) → Grown lines good x y line
      → Grown (flat_map lines) (list_all good) (front ++ x ∷ []) (front ++ y ∷ []) line
  grown_last front x y is =
      record {
        printed =
            flat_map-append lines front (y ∷ []) ∙ ap (λ t. flat_map lines front ++ t)
            (append-nil (lines y) ∙ is.printed ∙ ap (λ t. t ++ line ∷ []) (sym (append-nil (lines x))))
            ∙ sym (append_assoc (flat_map lines front) (lines x ++ []) (line ∷ []))
            ∙ ap (λ t. t ++ line ∷ []) (sym (flat_map-append lines front (x ∷ [])));
        passes = λ all.
            let parts = of_append good front (x ∷ []) all in
            pushed_passes good front y parts.0 (is.passes (and_parts (good x) true parts.1).0);
        text = is.text;
      }

  pub grown_by_change : (f : X → Option X) (xs ys : List X) → last_changed f xs ≡ Some ys → ((x y : X) → f x ≡ Some y → Grown lines good x y line)
      → Grown (flat_map lines) (list_all good) xs ys line
  unfolding last_changed
  grown_by_change f [] ys read each = absurd (none_some read)
  grown_by_change f (x ∷ xs) ys read each =
      let y = given (f (last_of x xs)) (λ z. Some (all_but_last x xs ++ z ∷ [])) ys read in
      let is = grown_last (all_but_last x xs) (last_of x xs) y.0 (each (last_of x xs) y.0 y.1) in
      subst (λ zs. Grown (flat_map lines) (list_all good) zs ys line) (last_is x xs)
      (subst (λ zs. Grown (flat_map lines) (list_all good) (all_but_last x xs ++ last_of x xs ∷ []) zs line) (same_some y.2) is)

-- a line behind the first of two runs, where the second is empty
pub between_runs : {L : Type 0} (xs ys : List L) (x : L) → ys ≡ [] → (xs ++ x ∷ []) ++ ys ≡ (xs ++ ys) ++ x ∷ []
between_runs xs ys x none = rw none (append-nil (xs ++ x ∷ []) ∙ ap (λ t. t ++ x ∷ []) (sym (append-nil xs)))
