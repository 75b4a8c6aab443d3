-- Steps of the reading of a term: what comes of the whole reading stays the same, and each leaves less to do.
use Rattle.std.proofs.Common.{◌≡◌, ℕ, ◌+◌, ◌≤◌, ◌<◌, List, [], ◌∷◌, ◌++◌, length, map, Option, None, Some, Result, Ok, Err, OnOk, option_map}
use Rattle.std.proofs.Common.{refl, sym, ap, subst, ◌∙◌, arith}
use Rattle.std.proofs.lemmas.List.{reverse-append}
use Rattle.uno_model.specs.Entities.{Entity}
use Rattle.plan_model.specs.Lines.{Term}
use Rattle.plan_reading_model.proofs.PartRuns.{came}
use Rattle.term_pieces.specs.Opened.{before, after, held_by, comes_of, whole}
use Rattle.term_pieces.specs.Opened as plain
use Rattle.term_pieces.specs.Pieces.{held, put, put_all, AreBuilt}
use Rattle.term_pieces.specs.Pieces as bare
use Rattle.term_pieces.proofs.OpenLaws.{whole_none}
use Rattle.term_pieces.proofs.PieceLaws.{put_more, built_more, put_length}
use Rattle.plan_lines.specs.Opened.{open_of, opened, place_of, standing, read_at, work, comes_with, stands_with, IsReady, Stepped, Steps}
use Rattle.plan_lines.specs.Pieces.{pieces_of}
use Rattle.plan_lines.specs.Reads.{Gives}
use Rattle.plan_lines.specs.declared.piece.Piece.{Piece}
use Rattle.plan_lines.specs.declared.place.Open.{Open}
use Rattle.plan_lines.specs.declared.place.Place.{Place}
use Rattle.plan_lines.specs.declared.unread.Unread.{Unread}
use Rattle.plan_lines.specs.declared.unread.Unread.TheVariants as unread

pub opened_more : (ss : List Open) (s : Open) → opened (ss ++ s ∷ []) ≡ open_of s ∷ opened ss
unfolding opened
opened_more ss s = ap (map open_of) (reverse-append ss (s ∷ []))

-- a piece that takes the terms which the last one that stood open held
pub ready_put : (os : List plain.Open) (qs : List bare.Piece) (p : bare.Piece) → AreBuilt [] qs → length (put_all [] qs) ≡ held_by os + held p → IsReady os (qs ++ p ∷ []) 1
ready_put os qs p built many =
    let enough : held p ≤ length (put_all [] qs) = omega (arith, many) in
    let size = put_length p (put_all [] qs) enough in
    let stand = ap length (put_more [] qs p) in
    record { built = built_more [] qs p built enough; many = omega (arith, size, stand, many) }

module _ (reg : List Entity) (same : Option (Term × List ℕ)) (most : ℕ) where
  abbrev Told : List Open → List Piece → Option plain.Place → Type 0
  Told ss ps None = same ≡ None
  Told ss ps (Some p) = Stepped reg same most (opened ss) (pieces_of ps) p

  -- a step that comes to a place, or to none
  told : (ss : List Open) (ps : List Piece) (o : Option plain.Place) (r : Result Place Unread) → Gives place_of r o → (OnOk r (Told ss ps o)) → (o ≡ None → same ≡ None)
      → Steps reg same most r ss ps
  told ss ps None (Ok place) is at lost = let bad : ⊥ = cc in absurd bad
  told ss ps (Some p) (Ok place) is at lost = came (Stepped reg same most (opened ss) (pieces_of ps)) is at
  told ss ps o (Err unread.NoMemory) is at lost = tt
  told ss ps o (Err unread.Form) is at lost = lost is

  some_place : (p : plain.Place) → Some p ≡ None → same ≡ None
  some_place p is = let bad : ⊥ = cc in absurd bad

  stepped_put : (ss : List Open) (ps : List Piece) (qs : List bare.Piece) (p : bare.Piece) (rest : List ℕ) → pieces_of ps ≡ qs ++ p ∷ []
      → comes_of reg (opened ss) (put (put_all [] qs) p) (after rest) ≡ same → AreBuilt [] qs → length (put_all [] qs) ≡ held_by (opened ss) + held p
      → work (opened ss) (after rest) < most → Stepped reg same most (opened ss) (pieces_of ps) (after rest)
  stepped_put ss ps qs p rest pushed comes built many less =
      subst (λ xs. Stepped reg same most (opened ss) xs (after rest)) (sym pushed)
      (record {
        comes = ap (λ d. comes_of reg (opened ss) d (after rest)) (put_more [] qs p) ∙ comes;
        ready = ready_put (opened ss) qs p built many;
        less = less;
      })

  -- a piece is put behind the others
  pub put_step : (ss : List Open) (ps : List Piece) (qs : List bare.Piece) (p : bare.Piece) (rest : List ℕ) (r : Result Place Unread)
      → Gives place_of r (Some (after rest)) → OnOk r (pieces_of ps ≡ qs ++ p ∷ [])
      → comes_of reg (opened ss) (put (put_all [] qs) p) (after rest) ≡ same → AreBuilt [] qs → length (put_all [] qs) ≡ held_by (opened ss) + held p
      → work (opened ss) (after rest) < most → Steps reg same most r ss ps
  put_step ss ps qs p rest r is pushed comes built many less = told ss ps (Some (after rest)) r is (each r pushed) (some_place (after rest))
    where
      each : (x : Result Place Unread) → OnOk x (pieces_of ps ≡ qs ++ p ∷ []) → OnOk x (Told ss ps (Some (after rest)))
      each (Ok place) e = stepped_put ss ps qs p rest e comes built many less
      each (Err e) fails = tt

  stepped_open : (ss : List Open) (ps : List Piece) (one : plain.Open) (os : List plain.Open) (bytes : List ℕ) → opened ss ≡ one ∷ os
      → comes_of reg (one ∷ os) (standing ps) (before bytes) ≡ same → IsReady (one ∷ os) (pieces_of ps) 0
      → work (one ∷ os) (before bytes) < most → Stepped reg same most (opened ss) (pieces_of ps) (before bytes)
  stepped_open ss ps one os bytes pushed comes ready less =
      subst (λ xs. Stepped reg same most xs (pieces_of ps) (before bytes)) (sym pushed) (record { comes = comes; ready = ready; less = less })

  -- a term more stands open
  pub open_step : (ss : List Open) (ps : List Piece) (one : plain.Open) (os : List plain.Open) (bytes : List ℕ) (r : Result Place Unread)
      → Gives place_of r (Some (before bytes)) → OnOk r (opened ss ≡ one ∷ os)
      → comes_of reg (one ∷ os) (standing ps) (before bytes) ≡ same → IsReady (one ∷ os) (pieces_of ps) 0
      → work (one ∷ os) (before bytes) < most → Steps reg same most r ss ps
  open_step ss ps one os bytes r is pushed comes ready less = told ss ps (Some (before bytes)) r is (each r pushed) (some_place (before bytes))
    where
      each : (x : Result Place Unread) → OnOk x (opened ss ≡ one ∷ os) → OnOk x (Told ss ps (Some (before bytes)))
      each (Ok place) e = stepped_open ss ps one os bytes e comes ready less
      each (Err e) fails = tt

  -- behind a mark
  pub open_behind : (ss : List Open) (ps : List Piece) (one : plain.Open) (os : List plain.Open) (o : Option (List ℕ)) (r : Result Place Unread)
      → Gives place_of r (option_map before o) → OnOk r (opened ss ≡ one ∷ os) → (o ≡ None → same ≡ None)
      → ((bytes : List ℕ) → o ≡ Some bytes → (comes_of reg (one ∷ os) (standing ps) (before bytes) ≡ same) × (work (one ∷ os) (before bytes) < most))
      → IsReady (one ∷ os) (pieces_of ps) 0 → Steps reg same most r ss ps
  open_behind ss ps one os None r is pushed lost steps ready = told ss ps None r is (each r) (λ _. lost refl)
    where
      each : (x : Result Place Unread) → OnOk x (Told ss ps None)
      each (Ok place) = lost refl
      each (Err e) = tt
  open_behind ss ps one os (Some bytes) r is pushed lost steps ready =
      let at = steps bytes refl in open_step ss ps one os bytes r is pushed at.0 ready at.1

  pub put_behind : (ss : List Open) (ps : List Piece) (qs : List bare.Piece) (p : bare.Piece) (o : Option (List ℕ)) (r : Result Place Unread)
      → Gives place_of r (option_map after o) → OnOk r (pieces_of ps ≡ qs ++ p ∷ []) → (o ≡ None → same ≡ None)
      → ((rest : List ℕ) → o ≡ Some rest → (comes_of reg (opened ss) (put (put_all [] qs) p) (after rest) ≡ same) × (work (opened ss) (after rest) < most))
      → AreBuilt [] qs → length (put_all [] qs) ≡ held_by (opened ss) + held p → Steps reg same most r ss ps
  put_behind ss ps qs p None r is pushed lost steps built many = told ss ps None r is (each r) (λ _. lost refl)
    where
      each : (x : Result Place Unread) → OnOk x (Told ss ps None)
      each (Ok place) = lost refl
      each (Err e) = tt
  put_behind ss ps qs p (Some rest) r is pushed lost steps built many =
      let at = steps rest refl in put_step ss ps qs p rest r is pushed at.0 built many at.1

  -- the same where it is said otherwise
  pub steps_as : (other : Option (Term × List ℕ)) (much : ℕ) (r : Result Place Unread) (ss : List Open) (ps : List Piece) → same ≡ other → most ≡ much
      → Steps reg same most r ss ps → Steps reg other much r ss ps
  steps_as other much r ss ps e long steps = subst (λ x. Steps reg x much r ss ps) e (subst (λ n. Steps reg same n r ss ps) long steps)

-- less work than less
pub steps_less : (reg : List Entity) (same : Option (Term × List ℕ)) (most much : ℕ) (r : Result Place Unread) (ss : List Open) (ps : List Piece) → most ≤ much
    → Steps reg same most r ss ps → Steps reg same much r ss ps
steps_less reg same most much (Ok p) ss ps low steps = let less = steps.less in record { comes = steps.comes; ready = steps.ready; less = omega (arith, less, low) }
steps_less reg same most much (Err e) ss ps low steps = steps

-- a term that holds no other
module _ (reg : List Entity) (ss : List Open) (ps qs : List Piece) (bytes : List ℕ) (ready : IsReady (opened ss) (pieces_of qs) 0) where
  abbrev Stands : List Term × plain.Place → Option (Term × List ℕ) → Type 0
  Stands x same = (comes_of reg (opened ss) x.0 x.1 ≡ same) × (length x.0 ≡ held_by (opened ss) + read_at x.1) × (work (opened ss) x.1 < work (opened ss) (before bytes))

  stands : (t : Term) (rest : List ℕ) → length rest ≤ length bytes → Stands (t ∷ standing qs, after rest) (whole reg (opened ss) (standing qs) (Some (t, rest)))
  unfolding comes_of
  stands t rest short = (refl, omega (arith, ready.many), omega (arith, short))

  pub leaf_step : (read : Option (Term × List ℕ)) (r : Result Place Unread) → Gives (λ p. (standing ps, place_of p)) r (stands_with (standing qs) read)
      → OnOk r (AreBuilt [] (pieces_of qs) → AreBuilt [] (pieces_of ps)) → ((x : Term × List ℕ) → read ≡ Some x → length x.1 ≤ length bytes)
      → Steps reg (comes_with reg ss qs read) (work (opened ss) (before bytes)) r ss ps
  leaf_step None (Ok place) is built short = let bad : ⊥ = cc in absurd bad
  leaf_step (Some x) (Ok place) is built short =
      let at = came (λ y. Stands y (whole reg (opened ss) (standing qs) (Some x))) is (stands x.0 x.1 (short x refl)) in
      record { comes = at.0; ready = record { built = built ready.built; many = at.1 }; less = at.2 }
  leaf_step read (Err unread.NoMemory) is built short = tt
  leaf_step None (Err unread.Form) is built short = whole_none reg (opened ss) (standing qs)
  leaf_step (Some x) (Err unread.Form) is built short = let bad : ⊥ = cc in absurd bad
