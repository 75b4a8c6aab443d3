-- Which bytes are a text, and the pieces of terms that hold no others.
use Rattle.std.proofs.Common.{◌≡◌, ℕ, Bool, true, false, List, [], ◌∷◌, ◌++◌, Option, Some, None, Result, Ok, Err, OnOk, refl, sym, ap, subst, ◌∙◌, arith}
use Rattle.std.proofs.lemmas.Str.{IsUtf8-from_is_utf8, is_utf8-from_IsUtf8}
use Rattle.std.specs.Str.{is_utf8, IsUtf8}
use Rattle.literal_model.specs.Literals.{string}
use Rattle.plan_model.specs.Lines.{Term, leaf}
use Rattle.plan_reading_model.specs.TermReading.{text_of}
use Rattle.plan_reading_model.proofs.PartRuns.{came}
use Rattle.term_pieces.specs.Opened.{after}
use Rattle.term_pieces.specs.Opened as plain
use Rattle.term_pieces.specs.Pieces.{held, put, put_all, AreBuilt}
use Rattle.term_pieces.specs.Pieces as bare
use Rattle.term_pieces.proofs.PieceLaws.{put_more, built_more}
use Rattle.plan_lines.specs.Opened.{place_of, standing, stands_with}
use Rattle.plan_lines.specs.Pieces.{pieces_of}
use Rattle.plan_lines.specs.Reads.{Gives, UnreadBy}
use Rattle.plan_lines.specs.Views.{alone, as_pieces}
use Rattle.plan_lines.specs.declared.piece.Piece.{Piece}
use Rattle.plan_lines.specs.declared.place.Place.{Place}
use Rattle.plan_lines.specs.declared.unread.Unread.{Unread}
use Rattle.plan_lines.specs.declared.unread.Unread.TheVariants as unread

pub no_text : (bytes rest : List ℕ) → (IsUtf8 bytes → ⊥) → text_of (Ok (bytes, rest)) ≡ None
no_text bytes rest none = by_test (is_utf8 bytes) refl
  where
    by_test : (b : Bool) → is_utf8 bytes ≡ b → text_of (Ok (bytes, rest)) ≡ None
    by_test true is = absurd (none (IsUtf8-from_is_utf8 bytes is))
    by_test false other = rw other refl

pub some_text : (bytes rest text : List ℕ) → IsUtf8 bytes → text ≡ bytes → text_of (Ok (bytes, rest)) ≡ Some (leaf (string text), rest)
some_text bytes rest text utf8 same = rw (is_utf8-from_IsUtf8 bytes utf8, same) refl

-- ---- pieces of terms that hold no others

alone_put : (p : bare.Piece) (t : Term) (done : List Term) → Some t ≡ alone p → (put done p ≡ t ∷ done) × (held p ≡ 0)
unfolding put held
alone_put (bare.leaf u) t done is = (came (λ x. x ∷ done ≡ t ∷ done) is refl, refl)
alone_put (bare.type_named k) t done is = (came (λ x. x ∷ done ≡ t ∷ done) is refl, refl)
alone_put bare.void_any t done is = (came (λ x. x ∷ done ≡ t ∷ done) is refl, refl)
alone_put (bare.typed k) t done is = let bad : ⊥ = cc in absurd bad
alone_put (bare.elements n) t done is = let bad : ⊥ = cc in absurd bad
alone_put (bare.members n) t done is = let bad : ⊥ = cc in absurd bad
alone_put (bare.word w) t done is = (came (λ x. x ∷ done ≡ t ∷ done) is refl, refl)
alone_put (bare.operation op) t done is = let bad : ⊥ = cc in absurd bad

pub leaf_fails : (done : List Term) (read : Option (Term × List ℕ)) (e : Unread) → UnreadBy e (as_pieces read) → UnreadBy e (stands_with done read)
leaf_fails done read unread.NoMemory fails = tt
leaf_fails done None unread.Form fails = refl
leaf_fails done (Some x) unread.Form fails = let bad : ⊥ = cc in absurd bad

abbrev at_place : List Term → plain.Place → Option (List Term × plain.Place)
at_place done p = Some (done, p)

module _ (qs ps : List Piece) (p : bare.Piece) (rest : List ℕ) where
  put_there : (t : Term) → Some t ≡ alone p → pieces_of ps ≡ pieces_of qs ++ p ∷ [] → t ∷ standing qs ≡ standing ps
  put_there t is pushed = sym (ap (put_all []) pushed ∙ put_more [] (pieces_of qs) p ∙ (alone_put p t (standing qs) is).0)

  put_one : (t : Term) (left : List ℕ) (r : Result Place Unread) → Some t ≡ alone p → left ≡ rest
      → Gives place_of r (Some (after rest)) → OnOk r (pieces_of ps ≡ pieces_of qs ++ p ∷ []) → Gives {Y = List Term × plain.Place} (λ x. (standing ps, place_of x)) r (Some (t ∷ standing qs, after left))
  put_one t left (Ok place) is same at pushed =
      ap (λ ts. at_place ts (after left)) (put_there t is pushed) ∙ ap (λ b. at_place (standing ps) (after b)) same
      ∙ came (λ x. at_place (standing ps) (after rest) ≡ at_place (standing ps) x) at refl
  put_one t left (Err unread.NoMemory) is same at pushed = tt
  put_one t left (Err unread.Form) is same at pushed = let bad : ⊥ = cc in absurd bad

  pub leaf_put : (read : Option (Term × List ℕ)) (r : Result Place Unread) → as_pieces read ≡ Some (alone p, rest)
      → Gives place_of r (Some (after rest)) → OnOk r (pieces_of ps ≡ pieces_of qs ++ p ∷ []) → Gives (λ x. (standing ps, place_of x)) r (stands_with (standing qs) read)
  leaf_put None r is at pushed = let bad : ⊥ = cc in absurd bad
  leaf_put (Some x) r is at pushed =
      put_one x.0 x.1 r (came (λ (y : Option Term × List ℕ). Some x.0 ≡ y.0) is refl) (came (λ (y : Option Term × List ℕ). x.1 ≡ y.1) is refl) at pushed

  pub leaf_built : (read : Option (Term × List ℕ)) (r : Result Place Unread) → as_pieces read ≡ Some (alone p, rest)
      → OnOk r (pieces_of ps ≡ pieces_of qs ++ p ∷ []) → OnOk r (AreBuilt [] (pieces_of qs) → AreBuilt [] (pieces_of ps))
  leaf_built read (Err e) is pushed = tt
  leaf_built None (Ok place) is pushed = let bad : ⊥ = cc in absurd bad
  leaf_built (Some x) (Ok place) is pushed =
      let none_held = (alone_put p x.0 (standing qs) (came (λ (y : Option Term × List ℕ). Some x.0 ≡ y.0) is refl)).1 in
      λ built. subst (AreBuilt []) (sym pushed) (built_more [] (pieces_of qs) p built (omega (arith, none_held)))
