-- The reading of a term from its first step to its last one.
use Rattle.std.proofs.Common.{◌≡◌, ℕ, ◌+◌, ◌<◌, ◌==◌, ne_eqb, Bool, true, false, List, [], ◌∷◌, ◌++◌, length, reverse, Option, Some, Result}
use Rattle.std.proofs.Common.{refl, sym, ap, subst, ◌∙◌, arith}
use Rattle.std.proofs.lemmas.List.{length-map, length-reverse}
use Rattle.uno_model.specs.Entities.{Entity}
use Rattle.plan_model.specs.Lines.{Term}
use Rattle.plan_reading_model.specs.TermReading.{term_at}
use Rattle.term_pieces.specs.Opened.{before, after, held_by, comes_of, whole}
use Rattle.term_pieces.specs.Opened as plain
use Rattle.term_pieces.specs.Pieces.{put_all, AreBuilt, is_term, term_in, last_one}
use Rattle.term_pieces.specs.Pieces as bare
use Rattle.term_pieces.proofs.PieceLaws.{one_is}
use Rattle.plan_lines.specs.Opened.{open_of, opened, standing, left_at, read_at, is_read, work, comes_with, IsReady, Steps}
use Rattle.plan_lines.specs.Pieces.{pieces_of}
use Rattle.plan_lines.specs.declared.piece.Piece.{Piece}
use Rattle.plan_lines.specs.declared.place.Open.{Open}
use Rattle.plan_lines.specs.declared.place.Place.{Place}
use Rattle.plan_lines.specs.declared.unread.Unread.{Unread}
use Rattle.plan_lines.proofs.StepLemmas.{opened_more}

-- ---- nothing stands open, and no term is read

first_ready : IsReady (opened []) (pieces_of []) 0
unfolding opened held_by put_all AreBuilt
first_ready = record { built = tt; many = refl }

pub none_ready : (ss : List Open) (qs : List Piece) → ss ≡ [] → qs ≡ [] → IsReady (opened ss) (pieces_of qs) 0
none_ready ss qs no_open no_piece = rw (no_open, no_piece) first_ready

first_comes : (reg : List Entity) (bytes : List ℕ) → comes_of reg (opened []) (standing []) (before bytes) ≡ term_at reg bytes
unfolding opened put_all comes_of whole
first_comes reg bytes = refl

pub none_comes : (reg : List Entity) (ss : List Open) (qs : List Piece) (bytes : List ℕ) → ss ≡ [] → qs ≡ [] → comes_of reg (opened ss) (standing qs) (before bytes) ≡ term_at reg bytes
none_comes reg ss qs bytes no_open no_piece = rw (no_open, no_piece) (first_comes reg bytes)

-- ---- nothing stands open, and a term is read

-- one term stands there, and it is the one that is read
abbrev pub IsRead : Option (Term × List ℕ) → plain.Place → List bare.Piece → Type 0
IsRead same p ps = (same ≡ Some (term_in ps, left_at p)) × (is_term ps ≡ true)

last_read : (reg : List Entity) (bytes : List ℕ) (done : List Term) → length done ≡ 1 → comes_of reg [] done (after bytes) ≡ Some (last_one done, bytes)
unfolding comes_of whole
last_read reg bytes [] none_there = let bad : ⊥ = omega (arith, none_there) in absurd bad
last_read reg bytes (t ∷ done) there = refl

in_pieces : (ps : List bare.Piece) → last_one (put_all [] ps) ≡ term_in ps
unfolding term_in
in_pieces ps = refl

read_by : (reg : List Entity) (p : plain.Place) (os : List plain.Open) (ps : List bare.Piece) (same : Option (Term × List ℕ))
    → is_read p os ≡ true → comes_of reg os (put_all [] ps) p ≡ same → IsReady os ps (read_at p) → IsRead same p ps
unfolding held_by
read_by reg (before bytes) os ps same is comes ready = let bad : ⊥ = cc in absurd bad
read_by reg (after bytes) (o ∷ os) ps same is comes ready = let bad : ⊥ = cc in absurd bad
read_by reg (after bytes) [] ps same is comes ready =
    let one : length (put_all [] ps) ≡ 1 = omega (arith, ready.many) in
    (sym comes ∙ last_read reg bytes (put_all [] ps) one ∙ ap (λ (t : Term). Some (t, bytes)) (in_pieces ps), one_is ps ready.built one)

pub term_read : (reg : List Entity) (p : plain.Place) (ss : List Open) (qs : List Piece) (same : Option (Term × List ℕ))
    → is_read p (opened ss) ≡ true → comes_of reg (opened ss) (standing qs) p ≡ same → IsReady (opened ss) (pieces_of qs) (read_at p) → IsRead same p (pieces_of qs)
term_read reg p ss qs same = read_by reg p (opened ss) (pieces_of qs) same

opened_many : (ss : List Open) → length (opened ss) ≡ length ss
unfolding opened
opened_many ss = length-map (reverse ss) open_of ∙ length-reverse ss

empty_read : (bytes : List ℕ) (os : List plain.Open) → is_read (after bytes) os ≡ (length os == 0)
empty_read bytes [] = refl
empty_read bytes (o ∷ os) = sym (ne_eqb (length (o ∷ os)) 0 (λ e. omega (arith, e)))

pub read_if_empty : (p : plain.Place) (bytes : List ℕ) (ss : List Open) (empty : Bool) → p ≡ after bytes → empty ≡ (length ss == 0) → empty ≡ is_read p (opened ss)
read_if_empty p bytes ss empty is none_left =
    none_left ∙ ap (λ n. n == 0) (sym (opened_many ss)) ∙ sym (empty_read bytes (opened ss)) ∙ ap (λ q. is_read q (opened ss)) (sym is)

-- ---- the last one that stands open

pub opened_some : (p : plain.Place) (bytes : List ℕ) (os : List plain.Open) → p ≡ after bytes → is_read p os ≡ false → 0 < length os
opened_some p bytes [] is on = let bad : ⊥ = cc in absurd bad
opened_some p bytes (o ∷ os) is on = omega arith

pub last_popped : (ss old : List Open) (s : Open) → old ≡ ss ++ s ∷ [] → opened old ≡ open_of s ∷ opened ss
last_popped ss old s popped = ap opened popped ∙ opened_more ss s

pub none_popped : (old : List Open) (many : ℕ) → many ≡ length old → (0 < many → false ≡ true) → 0 < length (opened old) → ⊥
none_popped old many long popped some =
    let size = opened_many old in let no = popped (omega (arith, size, long, some)) in let bad : ⊥ = cc in absurd bad

pub ready_popped : (os more : List plain.Open) (ps : List bare.Piece) → os ≡ more → IsReady os ps 1 → IsReady more ps 1
ready_popped os more ps popped ready = subst (λ x. IsReady x ps 1) popped ready

pub ready_at : (os : List plain.Open) (ps : List bare.Piece) (p q : plain.Place) → p ≡ q → IsReady os ps (read_at p) → IsReady os ps (read_at q)
ready_at os ps p q is ready = subst (λ x. IsReady os ps (read_at x)) is ready

-- ---- a step from a place

module _ (reg : List Entity) (old : List Open) (qs : List Piece) (r : Result Place Unread) (ss : List Open) (ps : List Piece) where
  abbrev From : List plain.Open → plain.Place → Type 0
  From os p = Steps reg (comes_of reg os (standing qs) p) (work os p) r ss ps

  pub from_place : (p q : plain.Place) → p ≡ q → From (opened old) q → From (opened old) p
  from_place p q is steps = subst (From (opened old)) (sym is) steps

  pub from_before : (p : plain.Place) (bytes : List ℕ) → p ≡ before bytes → Steps reg (comes_with reg old qs (term_at reg bytes)) (work (opened old) (before bytes)) r ss ps
      → From (opened old) p
  unfolding comes_of
  from_before p bytes is steps = from_place p (before bytes) is steps

  pub from_popped : (more : List plain.Open) (rest : List ℕ) → opened old ≡ more → From more (after rest) → From (opened old) (after rest)
  from_popped more rest popped steps = subst (λ x. From x (after rest)) (sym popped) steps
