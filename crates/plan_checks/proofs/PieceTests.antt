-- What a term is by its pieces, and tests of it that are tests of those.
use Rattle.std.proofs.Common.{◌≡◌, ◌≤◌, Bool, true, false, ◌&&◌, List, [], ◌∷◌, ◌++◌, length, map, None, IsTrue, refl, sym, ap, subst, ◌∙◌, arith}
use Rattle.std.specs.List.{list_all}
use Rattle.std.proofs.lemmas.List.{map-append}
use Rattle.uno_model.specs.Entities.{Entity}
use Rattle.plan_model.specs.Contexts.{Context}
use Rattle.plan_model.specs.KnownNames.{is_term_known, are_terms_known}
use Rattle.plan_model.specs.Lines.{Term, Terms}
use Rattle.plan_model.specs.Expressions.{variable, field, own}
use Rattle.plan_model.specs.Typing.{variable_in}
use Rattle.term_pieces.specs.Pieces.{Piece, leaf, type_named, void_any, typed, elements, members, word, operation, held, put, put_all, AreBuilt, is_term, last_one, term_in}
use Rattle.term_pieces.specs.Tests.{ByPiece}
use Rattle.term_pieces.proofs.PieceLaws.{all_pass, built_less, is_one, put_more}
use Rattle.plan_checks.specs.Pieces.{is_piece_known, variable_at}

pub known_tests : (reg : List Entity) (c : Context) → ByPiece (is_term_known reg c) (are_terms_known reg c) (is_piece_known reg c)
unfolding is_term_known are_terms_known
known_tests reg c =
    record {
      nil = refl;
      cons = λ t ts. refl;
      of_leaf = λ t. refl;
      of_type = λ k. refl;
      of_void = refl;
      of_typed = λ k t. refl;
      of_elements = λ n ts. refl;
      of_members = λ n ts. refl;
      of_word = λ w. refl;
      of_operation = λ op s t. refl;
    }

and_true : (b : Bool) → (b && true) ≡ b
and_true true = refl
and_true false = refl

pub term_passes : {one : Term → Bool} {all : Terms → Bool} {piece : Piece → Bool} → ByPiece one all piece → (ps : List Piece) → IsTrue (is_term ps) → list_all piece ps ≡ one (term_in ps)
term_passes {one} {all} {piece} tests ps is =
    let built = is_one ps is in
    sym (sym (and_true (one (term_in ps))) ∙ sym (ap (list_all one) built.1) ∙ all_pass tests ps [] built.0 ∙ and_true (list_all piece ps))

-- ---- the last piece

put_variable : (p : Piece) (done : List Term) → held p ≤ length done → variable_at p ≡ variable_in (last_one (put done p))
unfolding held put
put_variable (leaf t) done enough = refl
put_variable (type_named k) done enough = refl
put_variable void_any done enough = refl
put_variable (typed k) [] enough = let bad : ⊥ = omega (arith, enough) in absurd bad
put_variable (typed k) (t ∷ done) enough = refl
put_variable (elements n) done enough = refl
put_variable (members n) done enough = refl
put_variable (word (variable name)) done enough = refl
put_variable (word (field name)) done enough = refl
put_variable (word own) done enough = refl
put_variable (operation op) [] enough = let bad : ⊥ = omega (arith, enough) in absurd bad
put_variable (operation op) (t ∷ []) enough = let bad : ⊥ = omega (arith, enough) in absurd bad
put_variable (operation op) (t ∷ s ∷ done) enough = refl

pub variable_last : (ps front : List Piece) (p : Piece) → IsTrue (is_term ps) → ps ≡ front ++ p ∷ [] → variable_at p ≡ variable_in (term_in ps)
unfolding term_in
variable_last ps front p is cut =
    let built = is_one ps is in
    let enough = built_less [] front p (subst (AreBuilt []) cut built.0) in
    put_variable p (put_all [] front) enough.1 ∙ ap (λ done. variable_in (last_one done)) (sym (ap (put_all []) cut ∙ put_more [] front p))

pub variable_lacks : (ps : List Piece) → ps ≡ [] → None ≡ variable_in (term_in ps)
unfolding term_in put_all
variable_lacks ps none = rw none refl

pub variable_ends : {X : Type 0} (view : X → Piece) (xs front : List X) (x : X) → IsTrue (is_term (map view xs)) → xs ≡ front ++ x ∷ [] → variable_at (view x) ≡ variable_in (term_in (map view xs))
variable_ends view xs front x is cut = variable_last (map view xs) (map view front) (view x) is (ap (map view) cut ∙ map-append view front (x ∷ []))
