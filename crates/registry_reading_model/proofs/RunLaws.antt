-- A body with lines one after the other.
use Rattle.std.proofs.Common.{◌≡◌, ℕ, Bool, true, List, [], ◌∷◌, ◌++◌, map, Option, None, Some, refl, sym, ap, ◌∙◌, append_assoc, append-nil}
use Rattle.std.specs.List.{list_all, flat_map}
use Rattle.std.proofs.lemmas.Bool.{and_parts}
use Rattle.uno_model.proofs.Options.{none_some}
use Rattle.uno_model.specs.Entities.{Body, interface, struct, exception, enum, constants, typedef, new_service, old_service, new_singleton}
use Rattle.uno_model.specs.Entities.{old_singleton}
use Rattle.registry_text_model.specs.Lines.{spaced}
use Rattle.registry_reading_model.specs.Bodies.{all_but_last, last_of, last_changed, behind_word, body_line}
use Rattle.registry_reading_model.specs.Changes.{Change, same}
use Rattle.registry_reading_model.specs.Words.{on_some, behind}
use Rattle.registry_reading_model.proofs.WordLaws.{lacks, word_forth, behind_forth}

-- the body that its header opens
abbrev pub emptied : Body → Body
emptied (interface bases members) = interface [] []
emptied (struct base members) = struct base []
emptied (exception base members) = exception base []
emptied (enum items) = enum []
emptied (constants cs) = constants []
emptied (typedef k) = typedef k
emptied (new_service base constructors) = new_service base []
emptied (old_service parts) = old_service []
emptied (new_singleton base) = new_singleton base
emptied (old_singleton service) = old_singleton service

-- a body with the lines behind its header, one after the other
unfoldable pub run_body : Change → Body → List (List ℕ) → Option Body
run_body c b [] = Some b
run_body c b (line ∷ lines) = on_some (body_line c b line) (λ next. run_body c next lines)

-- ---- lines one after the other

pub run_one : (b d : Body) (line : List ℕ) (lines : List (List ℕ)) → body_line same b line ≡ Some d
    → run_body same b (line ∷ lines) ≡ run_body same d lines
unfolding run_body
run_one b d line lines read = rw read refl

pub run_on : (b d : Body) (xs ys : List (List ℕ)) → run_body same b xs ≡ Some d → run_body same b (xs ++ ys) ≡ run_body same d ys
unfolding run_body
run_on b d [] ys read = ap (λ o. on_some o (λ next. run_body same next ys)) read
run_on b d (x ∷ xs) ys read = by_line (body_line same b x) read (λ next first. run_on next d xs ys first)
  where
    by_line : (o : Option Body) → on_some o (λ next. run_body same next xs) ≡ Some d
        → ((next : Body) → run_body same next xs ≡ Some d → run_body same next (xs ++ ys) ≡ run_body same d ys)
        → on_some o (λ next. run_body same next (xs ++ ys)) ≡ run_body same d ys
    by_line None read on = absurd (none_some read)
    by_line (Some next) read on = on next read

pub run_all : (b d : Body) (xs ys : List (List ℕ)) (e : Option Body) → run_body same b xs ≡ Some d → run_body same d ys ≡ e
    → run_body same b (xs ++ ys) ≡ e
run_all b d xs ys e first second = run_on b d xs ys first ∙ second

-- ---- the same for each of a list

module _ {X Z : Type 0} (make : List Z → Body) (change : X → Z) (good : X → Bool) where
  pub run_lines : (line : X → List ℕ) → ((done : List Z) (x : X) → good x ≡ true → body_line same (make done) (line x) ≡ Some
      (make (done ++ change x ∷ [])))
      → (done : List Z) (xs : List X) → list_all good xs ≡ true → run_body same (make done) (map line xs) ≡ Some (make (done ++ map change xs))
  unfolding run_body
  run_lines line each done [] all = ap (λ zs. Some (make zs)) (sym (append-nil done))
  run_lines line each done (x ∷ xs) all =
      let parts = and_parts (good x) (list_all good xs) all in
      run_one (make done) (make (done ++ change x ∷ [])) (line x) (map line xs) (each done x parts.0)
      ∙ run_lines line each (done ++ change x ∷ []) xs parts.1 ∙ ap (λ zs. Some (make zs)) (append_assoc done (change x ∷ []) (map change xs))

  pub run_flat : (lines : X → List (List ℕ)) → ((done : List Z) (x : X) → good x ≡ true → run_body same (make done) (lines x) ≡ Some
      (make (done ++ change x ∷ [])))
      → (done : List Z) (xs : List X) → list_all good xs ≡ true → run_body same (make done) (flat_map lines xs) ≡ Some (make (done ++ map change xs))
  unfolding run_body
  run_flat lines each done [] all = ap (λ zs. Some (make zs)) (sym (append-nil done))
  run_flat lines each done (x ∷ xs) all =
      let parts = and_parts (good x) (list_all good xs) all in
      run_on (make done) (make (done ++ change x ∷ [])) (lines x) (flat_map lines xs) (each done x parts.0)
      ∙ run_flat lines each (done ++ change x ∷ []) xs parts.1 ∙ ap (λ zs. Some (make zs)) (append_assoc done (change x ∷ []) (map change xs))

-- the same, of what nothing is changed in
map_same : {X : Type 0} (xs : List X) → map (λ x. x) xs ≡ xs
map_same [] = refl
map_same (x ∷ xs) = ap (λ t. x ∷ t) (map_same xs)

pub run_unchanged : {X : Type 0} (make : List X → Body) (good : X → Bool) (line : X → List ℕ)
    → ((done : List X) (x : X) → good x ≡ true → body_line same (make done) (line x) ≡ Some (make (done ++ x ∷ [])))
    → (xs : List X) → list_all good xs ≡ true → run_body same (make []) (map line xs) ≡ Some (make xs)
run_unchanged make good line each xs all = run_lines make (λ x. x) good line each [] xs all ∙ ap (λ zs. Some (make zs)) (map_same xs)

-- ---- the last of a list

last_of_push : {X : Type 0} (z : X) (zs : List X) (x : X) → last_of z (zs ++ x ∷ []) ≡ x
last_of_push z [] x = refl
last_of_push z (y ∷ ys) x = last_of_push y ys x

others_of_push : {X : Type 0} (z : X) (zs : List X) (x : X) → all_but_last z (zs ++ x ∷ []) ≡ z ∷ zs
others_of_push z [] x = refl
others_of_push z (y ∷ ys) x = ap (λ t. z ∷ t) (others_of_push y ys x)

pub last_forth : {X : Type 0} (f : X → Option X) (front : List X) (x y : X) → f x ≡ Some y → last_changed f (front ++ x ∷ []) ≡ Some (front ++ y ∷ [])
unfolding last_changed
last_forth f [] x y is = rw is refl
last_forth f (z ∷ zs) x y is =
    let last : f (last_of z (zs ++ x ∷ [])) ≡ Some y = ap f (last_of_push z zs x) ∙ is in
    rw last (ap (λ t. Some (t ++ y ∷ [])) (others_of_push z zs x))

-- ---- words of lines

pub behind_word_forth : {X : Type 0} (word text : List ℕ) (f : List ℕ → List ℕ → Option X) → lacks 32 word ≡ true
    → behind_word (spaced word text) f ≡ f word text
behind_word_forth word text f none = rw (word_forth word text none) refl

pub behind_spaced : (word text : List ℕ) → behind (word ++ 32 ∷ []) (spaced word text) ≡ Some text
unfolding spaced
behind_spaced word text = ap (behind (word ++ 32 ∷ [])) (sym (append_assoc word (32 ∷ []) text)) ∙ behind_forth (word ++ 32 ∷ []) text
