-- A term ends that one which stands open holds: what stands behind it.
use Rattle.std.proofs.Common.{◌≡◌, ℕ, suc, ◌+◌, ◌≤◌, ◌<◌, ◌≢◌, ne_eqb, List, [], ◌∷◌, ◌++◌, length, length-append, Option, None, Some, Result, OnOk, option_map}
use Rattle.std.proofs.Common.{codes, sym, ap, subst, ◌∙◌, arith}
use Rattle.std.proofs.lemmas.List.{nil_from_length, length-map}
use Rattle.uno_model.specs.Entities.{Entity}
use Rattle.plan_model.specs.Lines.{Term}
use Rattle.plan_model.specs.declared.operation.Operation.{Operation}
use Rattle.plan_reading_model.specs.Parts.{behind}
use Rattle.plan_reading_model.proofs.PartRuns.{behind_back}
use Rattle.term_pieces.specs.Opened.{before, after, held_by, comes_of, elements, members, typed, left, right}
use Rattle.term_pieces.specs.Opened as plain
use Rattle.term_pieces.specs.Pieces.{held, put}
use Rattle.term_pieces.specs.Pieces as bare
use Rattle.term_pieces.proofs.OpenLaws.{elements_end, members_end, elements_go_on, members_go_on, elements_lost, members_lost, elements_cut, members_cut, typed_ends, left_ends, left_lost, right_ends, right_lost}
use Rattle.term_pieces.proofs.PieceLaws.{put_less}
use Rattle.plan_lines.specs.Opened.{opened, place_of, standing, work, IsReady, Steps}
use Rattle.plan_lines.specs.Pieces.{piece_of, pieces_of}
use Rattle.plan_lines.specs.Reads.{Gives}
use Rattle.plan_lines.specs.declared.piece.Piece.{Piece}
use Rattle.plan_lines.specs.declared.place.Open.{Open}
use Rattle.plan_lines.specs.declared.place.Place.{Place}
use Rattle.plan_lines.specs.declared.unread.Unread.{Unread}
use Rattle.plan_lines.proofs.StepLemmas.{put_step, open_step, open_behind, put_behind}

-- ---- over the terms that stand there

module _ (reg : List Entity) (os : List plain.Open) where
  elements_closed : (done : List Term) (n m : ℕ) (cs : List ℕ) → 0 < length done → m ≡ suc n
      → comes_of reg os (put done (bare.elements m)) (after cs) ≡ comes_of reg (elements n ∷ os) done (after (93 ∷ cs))
  elements_closed [] n m cs some more = let bad : ⊥ = omega (arith, some) in absurd bad
  elements_closed (t ∷ done) n m cs some more = ap (λ k. comes_of reg os (put (t ∷ done) (bare.elements k)) (after cs)) more ∙ sym (elements_end reg os done t n cs)

  members_closed : (done : List Term) (n m : ℕ) (cs : List ℕ) → 0 < length done → m ≡ suc n
      → comes_of reg os (put done (bare.members m)) (after cs) ≡ comes_of reg (members n ∷ os) done (after (125 ∷ cs))
  members_closed [] n m cs some more = let bad : ⊥ = omega (arith, some) in absurd bad
  members_closed (t ∷ done) n m cs some more = ap (λ k. comes_of reg os (put (t ∷ done) (bare.members k)) (after cs)) more ∙ sym (members_end reg os done t n cs)

  elements_more : (done : List Term) (n m : ℕ) (cs : List ℕ) → 0 < length done → m ≡ suc n
      → comes_of reg (elements m ∷ os) done (before cs) ≡ comes_of reg (elements n ∷ os) done (after (44 ∷ cs))
  elements_more [] n m cs some more = let bad : ⊥ = omega (arith, some) in absurd bad
  elements_more (t ∷ done) n m cs some more = ap (λ k. comes_of reg (elements k ∷ os) (t ∷ done) (before cs)) more ∙ sym (elements_go_on reg os done t n cs)

  members_more : (done : List Term) (n m : ℕ) (cs : List ℕ) → 0 < length done → m ≡ suc n
      → comes_of reg (members m ∷ os) done (before cs) ≡ comes_of reg (members n ∷ os) done (after (44 ∷ cs))
  members_more [] n m cs some more = let bad : ⊥ = omega (arith, some) in absurd bad
  members_more (t ∷ done) n m cs some more = ap (λ k. comes_of reg (members k ∷ os) (t ∷ done) (before cs)) more ∙ sym (members_go_on reg os done t n cs)

  elements_fail : (done : List Term) (n c : ℕ) (cs : List ℕ) → 0 < length done → c ≢ 93 → c ≢ 44 → comes_of reg (elements n ∷ os) done (after (c ∷ cs)) ≡ None
  elements_fail [] n c cs some other no_comma = let bad : ⊥ = omega (arith, some) in absurd bad
  elements_fail (t ∷ done) n c cs some other no_comma = elements_lost reg os done t n c cs (ne_eqb c 93 other) (ne_eqb c 44 no_comma)

  members_fail : (done : List Term) (n c : ℕ) (cs : List ℕ) → 0 < length done → c ≢ 125 → c ≢ 44 → comes_of reg (members n ∷ os) done (after (c ∷ cs)) ≡ None
  members_fail [] n c cs some other no_comma = let bad : ⊥ = omega (arith, some) in absurd bad
  members_fail (t ∷ done) n c cs some other no_comma = members_lost reg os done t n c cs (ne_eqb c 125 other) (ne_eqb c 44 no_comma)

  elements_stop : (done : List Term) (n : ℕ) → 0 < length done → comes_of reg (elements n ∷ os) done (after []) ≡ None
  elements_stop [] n some = let bad : ⊥ = omega (arith, some) in absurd bad
  elements_stop (t ∷ done) n some = elements_cut reg os done t n

  members_stop : (done : List Term) (n : ℕ) → 0 < length done → comes_of reg (members n ∷ os) done (after []) ≡ None
  members_stop [] n some = let bad : ⊥ = omega (arith, some) in absurd bad
  members_stop (t ∷ done) n some = members_cut reg os done t n

  typed_closed : (done : List Term) (k rest : List ℕ) → 0 < length done → comes_of reg os (put done (bare.typed k)) (after rest) ≡ comes_of reg (typed k ∷ os) done (after rest)
  typed_closed [] k rest some = let bad : ⊥ = omega (arith, some) in absurd bad
  typed_closed (t ∷ done) k rest some = sym (typed_ends reg os done t k rest)

  left_closed : (done : List Term) (op : Operation) (rest bytes : List ℕ) → 0 < length done → behind (codes ",") rest ≡ Some bytes
      → comes_of reg (right op ∷ os) done (before bytes) ≡ comes_of reg (left op ∷ os) done (after rest)
  left_closed [] op rest bytes some mark = let bad : ⊥ = omega (arith, some) in absurd bad
  left_closed (t ∷ done) op rest bytes some mark = sym (left_ends reg os done t op rest bytes mark)

  left_fails : (done : List Term) (op : Operation) (rest : List ℕ) → 0 < length done → behind (codes ",") rest ≡ None → comes_of reg (left op ∷ os) done (after rest) ≡ None
  left_fails [] op rest some lacks = let bad : ⊥ = omega (arith, some) in absurd bad
  left_fails (t ∷ done) op rest some lacks = left_lost reg os done t op rest lacks

  right_closed : (done : List Term) (op : Operation) (bytes rest : List ℕ) → 1 < length done → behind (codes ")") bytes ≡ Some rest
      → comes_of reg os (put done (bare.operation op)) (after rest) ≡ comes_of reg (right op ∷ os) done (after bytes)
  right_closed [] op bytes rest some mark = let bad : ⊥ = omega (arith, some) in absurd bad
  right_closed (t ∷ []) op bytes rest some mark = let bad : ⊥ = omega (arith, some) in absurd bad
  right_closed (t ∷ s ∷ done) op bytes rest some mark = sym (right_ends reg os done t op s bytes rest mark)

  right_fails : (done : List Term) (op : Operation) (bytes : List ℕ) → 1 < length done → behind (codes ")") bytes ≡ None → comes_of reg (right op ∷ os) done (after bytes) ≡ None
  right_fails [] op bytes some lacks = let bad : ⊥ = omega (arith, some) in absurd bad
  right_fails (t ∷ []) op bytes some lacks = let bad : ⊥ = omega (arith, some) in absurd bad
  right_fails (t ∷ s ∷ done) op bytes some lacks = right_lost reg os done t op s bytes lacks

-- ---- behind an element

module _ (reg : List Entity) (old : List Open) (qs : List Piece) (n : ℕ) (ready : IsReady (elements n ∷ opened old) (pieces_of qs) 1) where
  elements_many : length (standing qs) ≡ n + held_by (opened old) + 1
  unfolding held_by
  elements_many = ready.many

  -- they are no more than the pieces
  pub elements_few : (len cap most : ℕ) → len ≡ length qs → cap < most → len ≤ cap → n + 1 < most
  elements_few len cap most size small low =
      let fewer = put_less (pieces_of qs) [] ready.built in let same = length-map qs piece_of in omega (arith, elements_many, fewer, same, size, small, low)

  abbrev In_elements : List ℕ → Option (Term × List ℕ)
  In_elements bytes = comes_of reg (elements n ∷ opened old) (standing qs) (after bytes)

  pub element_alone : (bytes : List ℕ) → length bytes ≡ 0 → In_elements bytes ≡ None
  element_alone bytes ends =
      ap In_elements (nil_from_length bytes ends) ∙ elements_stop reg (opened old) (standing qs) n (omega (arith, elements_many))

  pub element_lost : (bytes : List ℕ) (c : ℕ) (cs : List ℕ) → bytes ≡ c ∷ cs → c ≢ 93 → c ≢ 44 → In_elements bytes ≡ None
  element_lost bytes c cs splits other no_comma =
      ap In_elements splits ∙ elements_fail reg (opened old) (standing qs) n c cs (omega (arith, elements_many)) other no_comma

  pub element_last : (bytes : List ℕ) (c : ℕ) (cs : List ℕ) (m : ℕ) (r : Result Place Unread) (ps : List Piece) → bytes ≡ c ∷ cs → c ≡ 93 → m ≡ n + 1
      → Gives place_of r (Some (after cs)) → OnOk r (pieces_of ps ≡ pieces_of qs ++ bare.elements m ∷ [])
      → Steps reg (In_elements bytes) (work (elements n ∷ opened old) (after bytes)) r old ps
  unfolding held
  element_last bytes c cs m r ps splits is more at pushed =
      let size = ap length splits in
      put_step reg _ (work (elements n ∷ opened old) (after bytes)) old ps (pieces_of qs) (bare.elements m) cs r at pushed
      (elements_closed reg (opened old) (standing qs) n m cs (omega (arith, elements_many)) (omega (arith, more))
      ∙ ap (λ b. In_elements (b ∷ cs)) (sym is) ∙ ap In_elements (sym splits))
      ready.built (omega (arith, elements_many, more)) (omega (arith, size))

  pub element_next : (bytes : List ℕ) (c : ℕ) (cs : List ℕ) (m : ℕ) (r : Result Place Unread) (ss : List Open) → bytes ≡ c ∷ cs → c ≡ 44 → m ≡ n + 1
      → Gives place_of r (Some (before cs)) → OnOk r (opened ss ≡ elements m ∷ opened old)
      → Steps reg (In_elements bytes) (work (elements n ∷ opened old) (after bytes)) r ss qs
  unfolding held_by
  element_next bytes c cs m r ss splits is more at pushed =
      let size = ap length splits in
      open_step reg _ (work (elements n ∷ opened old) (after bytes)) ss qs (elements m) (opened old) cs r at pushed
      (elements_more reg (opened old) (standing qs) n m cs (omega (arith, elements_many)) (omega (arith, more))
      ∙ ap (λ b. In_elements (b ∷ cs)) (sym is) ∙ ap In_elements (sym splits))
      (record { built = ready.built; many = omega (arith, elements_many, more) }) (omega (arith, size))

-- ---- behind a member

module _ (reg : List Entity) (old : List Open) (qs : List Piece) (n : ℕ) (ready : IsReady (members n ∷ opened old) (pieces_of qs) 1) where
  members_many : length (standing qs) ≡ n + held_by (opened old) + 1
  unfolding held_by
  members_many = ready.many

  -- they are no more than the pieces
  pub members_few : (len cap most : ℕ) → len ≡ length qs → cap < most → len ≤ cap → n + 1 < most
  members_few len cap most size small low =
      let fewer = put_less (pieces_of qs) [] ready.built in let same = length-map qs piece_of in omega (arith, members_many, fewer, same, size, small, low)

  abbrev In_members : List ℕ → Option (Term × List ℕ)
  In_members bytes = comes_of reg (members n ∷ opened old) (standing qs) (after bytes)

  pub member_alone : (bytes : List ℕ) → length bytes ≡ 0 → In_members bytes ≡ None
  member_alone bytes ends =
      ap In_members (nil_from_length bytes ends) ∙ members_stop reg (opened old) (standing qs) n (omega (arith, members_many))

  pub member_lost : (bytes : List ℕ) (c : ℕ) (cs : List ℕ) → bytes ≡ c ∷ cs → c ≢ 125 → c ≢ 44 → In_members bytes ≡ None
  member_lost bytes c cs splits other no_comma =
      ap In_members splits ∙ members_fail reg (opened old) (standing qs) n c cs (omega (arith, members_many)) other no_comma

  pub member_last : (bytes : List ℕ) (c : ℕ) (cs : List ℕ) (m : ℕ) (r : Result Place Unread) (ps : List Piece) → bytes ≡ c ∷ cs → c ≡ 125 → m ≡ n + 1
      → Gives place_of r (Some (after cs)) → OnOk r (pieces_of ps ≡ pieces_of qs ++ bare.members m ∷ [])
      → Steps reg (In_members bytes) (work (members n ∷ opened old) (after bytes)) r old ps
  unfolding held
  member_last bytes c cs m r ps splits is more at pushed =
      let size = ap length splits in
      put_step reg _ (work (members n ∷ opened old) (after bytes)) old ps (pieces_of qs) (bare.members m) cs r at pushed
      (members_closed reg (opened old) (standing qs) n m cs (omega (arith, members_many)) (omega (arith, more))
      ∙ ap (λ b. In_members (b ∷ cs)) (sym is) ∙ ap In_members (sym splits))
      ready.built (omega (arith, members_many, more)) (omega (arith, size))

  pub member_next : (bytes : List ℕ) (c : ℕ) (cs : List ℕ) (m : ℕ) (r : Result Place Unread) (ss : List Open) → bytes ≡ c ∷ cs → c ≡ 44 → m ≡ n + 1
      → Gives place_of r (Some (before cs)) → OnOk r (opened ss ≡ members m ∷ opened old)
      → Steps reg (In_members bytes) (work (members n ∷ opened old) (after bytes)) r ss qs
  unfolding held_by
  member_next bytes c cs m r ss splits is more at pushed =
      let size = ap length splits in
      open_step reg _ (work (members n ∷ opened old) (after bytes)) ss qs (members m) (opened old) cs r at pushed
      (members_more reg (opened old) (standing qs) n m cs (omega (arith, members_many)) (omega (arith, more))
      ∙ ap (λ b. In_members (b ∷ cs)) (sym is) ∙ ap In_members (sym splits))
      (record { built = ready.built; many = omega (arith, members_many, more) }) (omega (arith, size))

-- ---- values of types and operands

module _ (reg : List Entity) (old : List Open) (qs : List Piece) where
  pub typed_end : (k rest : List ℕ) (r : Result Place Unread) (ps : List Piece) → IsReady (typed k ∷ opened old) (pieces_of qs) 1
      → Gives place_of r (Some (after rest)) → OnOk r (pieces_of ps ≡ pieces_of qs ++ bare.typed k ∷ [])
      → Steps reg (comes_of reg (typed k ∷ opened old) (standing qs) (after rest)) (work (typed k ∷ opened old) (after rest)) r old ps
  unfolding held held_by
  typed_end k rest r ps ready at pushed =
      put_step reg _ (work (typed k ∷ opened old) (after rest)) old ps (pieces_of qs) (bare.typed k) rest r at pushed
      (typed_closed reg (opened old) (standing qs) k rest (omega (arith, ready.many))) ready.built ready.many (omega arith)

  pub left_end : (op : Operation) (rest : List ℕ) (r : Result Place Unread) (ss : List Open) → IsReady (left op ∷ opened old) (pieces_of qs) 1
      → Gives place_of r (option_map before (behind (codes ",") rest)) → OnOk r (opened ss ≡ right op ∷ opened old)
      → Steps reg (comes_of reg (left op ∷ opened old) (standing qs) (after rest)) (work (left op ∷ opened old) (after rest)) r ss qs
  unfolding held_by
  left_end op rest r ss ready at pushed =
      open_behind reg _ (work (left op ∷ opened old) (after rest)) ss qs (right op) (opened old) (behind (codes ",") rest) r at pushed
      (left_fails reg (opened old) (standing qs) op rest (omega (arith, ready.many)))
      (λ bytes mark.
      let size = ap length (behind_back (codes ",") rest bytes mark) ∙ length-append (codes ",") bytes in
      (left_closed reg (opened old) (standing qs) op rest bytes (omega (arith, ready.many)) mark, omega (arith, size)))
      (record { built = ready.built; many = omega (arith, ready.many) })

  pub right_end : (op : Operation) (bytes : List ℕ) (r : Result Place Unread) (ps : List Piece) → IsReady (right op ∷ opened old) (pieces_of qs) 1
      → Gives place_of r (option_map after (behind (codes ")") bytes)) → OnOk r (pieces_of ps ≡ pieces_of qs ++ bare.operation op ∷ [])
      → Steps reg (comes_of reg (right op ∷ opened old) (standing qs) (after bytes)) (work (right op ∷ opened old) (after bytes)) r old ps
  unfolding held held_by
  right_end op bytes r ps ready at pushed =
      put_behind reg _ (work (right op ∷ opened old) (after bytes)) old ps (pieces_of qs) (bare.operation op) (behind (codes ")") bytes) r at pushed
      (right_fails reg (opened old) (standing qs) op bytes (omega (arith, ready.many)))
      (λ rest mark.
      let size = ap length (behind_back (codes ")") bytes rest mark) ∙ length-append (codes ")") rest in
      (right_closed reg (opened old) (standing qs) op bytes rest (omega (arith, ready.many)) mark, omega (arith, size)))
      ready.built (omega (arith, ready.many))

-- the last one that stands open, as it is seen
module _ (reg : List Entity) (old : List Open) (qs : List Piece) (bytes : List ℕ) (r : Result Place Unread) (ss : List Open) (ps : List Piece) where
  abbrev Ends : plain.Open → Type 0
  Ends o =
      IsReady (o ∷ opened old) (pieces_of qs) 1
      → Steps reg (comes_of reg (o ∷ opened old) (standing qs) (after bytes)) (work (o ∷ opened old) (after bytes)) r ss ps

  pub ends_as : (o one : plain.Open) → o ≡ one → Ends one → Ends o
  ends_as o one is ends = subst Ends (sym is) ends
