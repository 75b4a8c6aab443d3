-- A term begins: what is read of it, by its first byte.
use Rattle.std.proofs.Common.{◌≡◌, ℕ, ◌+◌, ◌≤◌, ◌≢◌, ◌==◌, eq-eqb, ne_eqb, Bool, true, false, List, [], ◌∷◌, ◌++◌, length, length-append, Option, None, Some}
use Rattle.std.proofs.Common.{Result, OnOk, codes, refl, sym, ap, subst, ◌∙◌, arith, if◌then◌else◌}
use Rattle.std.proofs.lemmas.Bool.{eqb-true}
use Rattle.std.proofs.lemmas.List.{nil_from_length}
use Rattle.std.specs.Str.{bytes_eq}
use Rattle.literal_model.specs.Literals as token
use Rattle.literal_model.specs.Shapes.{run_of, behind_run, is_known_word}
use Rattle.literal_model.proofs.ScanLaws.{front_rest}
use Rattle.uno_model.specs.Entities.{Entity}
use Rattle.uno_model.specs.Names.{begins_identifier, goes_on_identifier}
use Rattle.plan_model.specs.Lines.{Term}
use Rattle.plan_model.specs.Lines as line
use Rattle.plan_model.specs.declared.operation.Operation.{Operation}
use Rattle.plan_model.specs.declared.operation.Operation.TheVariants.{Add, Sub}
use Rattle.plan_reading_model.specs.Parts.{on_some, behind, type_at}
use Rattle.plan_reading_model.specs.TermReading.{term_at, term_step, elements_at, members_at, cast_of, cast_value, letters_at, known_word, operands_at, operation_at, behind_word}
use Rattle.plan_reading_model.proofs.PartRuns.{behind_back, allowed, came}
use Rattle.plan_reading_model.proofs.PartTypes.{type_back}
use Rattle.term_pieces.specs.Opened.{before, after, held_by, comes_of, whole, elements, members, typed, left}
use Rattle.term_pieces.specs.Opened as plain
use Rattle.term_pieces.specs.Pieces.{held, put, AreBuilt}
use Rattle.term_pieces.specs.Pieces as bare
use Rattle.term_pieces.proofs.OpenLaws.{term_fix, nothing_read, shrinks, whole_none, members_begin, elements_begin, no_elements, typed_begins, operation_begins}
use Rattle.plan_lines.specs.Leaves.{leaf_at}
use Rattle.plan_lines.specs.Opened.{opened, place_of, standing, work, comes_with, stands_with, IsReady, Steps}
use Rattle.plan_lines.specs.Operations.{operation_named}
use Rattle.plan_lines.specs.Pieces.{pieces_of}
use Rattle.plan_lines.specs.Reads.{Gives}
use Rattle.plan_lines.specs.declared.piece.Piece.{Piece}
use Rattle.plan_lines.specs.declared.place.Open.{Open}
use Rattle.plan_lines.specs.declared.place.Place.{Place}
use Rattle.plan_lines.specs.declared.unread.Unread.{Unread}
use Rattle.plan_lines.proofs.StepLemmas.{put_step, open_step, leaf_step, steps_as, steps_less}

-- ---- by the first byte

by_byte : (P : ℕ → Type 0) (c k : ℕ) → c ≡ k → P k → P c
by_byte P c k e p = subst P (sym e) p

module _ (reg : List Entity) (cs : List ℕ) where
  at_91 : term_at reg (91 ∷ cs) ≡ elements_at (term_at reg) cs
  unfolding term_step
  at_91 = term_fix reg 91 cs

  at_123 : term_at reg (123 ∷ cs) ≡ members_at (term_at reg) cs
  unfolding term_step
  at_123 = term_fix reg 123 cs

  at_40 : term_at reg (40 ∷ cs) ≡ on_some (type_at cs) (cast_of (term_at reg))
  unfolding term_step
  at_40 = term_fix reg 40 cs

  other_byte : (c k : ℕ) → begins_identifier c ≡ true → begins_identifier k ≡ false → (c == k) ≡ false
  other_byte c k begins other = by_test (c == k) refl
    where
      by_test : (b : Bool) → (c == k) ≡ b → b ≡ false
      by_test true is = sym (by_byte (λ x. begins_identifier x ≡ true) k c (sym (eqb-true c k is)) begins) ∙ other
      by_test false is = refl

  at_letter : (c : ℕ) → begins_identifier c ≡ true → term_at reg (c ∷ cs) ≡ letters_at reg (term_at reg) (c ∷ cs)
  unfolding term_step
  at_letter c begins =
      term_fix reg c cs
      ∙ rw (other_byte c 91 begins refl, other_byte c 123 begins refl, other_byte c 34 begins refl, other_byte c 60 begins refl, other_byte c 40 begins refl, other_byte c 36 begins refl, begins) refl

  at_leaf : (c : ℕ) → c ≢ 91 → c ≢ 123 → c ≢ 40 → begins_identifier c ≡ false → term_at reg (c ∷ cs) ≡ leaf_at (c ∷ cs)
  unfolding term_step leaf_at
  at_leaf c no_elements no_members no_cast no_letter = term_fix reg c cs ∙ rw (ne_eqb c 91 no_elements, ne_eqb c 123 no_members, ne_eqb c 40 no_cast, no_letter) refl

module _ (reg : List Entity) (old : List Open) (qs : List Piece) where
  abbrev Same : Option (Term × List ℕ) → Option (Term × List ℕ)
  Same read = comes_with reg old qs read

  pub no_bytes : (bytes : List ℕ) → length bytes ≡ 0 → Same (term_at reg bytes) ≡ None
  no_bytes bytes ends =
      ap (λ b. Same (term_at reg b)) (nil_from_length bytes ends) ∙ ap (whole reg (opened old) (standing qs)) (nothing_read reg) ∙ whole_none reg (opened old) (standing qs)

  -- the part behind the first byte steps as the term does
  begin_by : (bytes : List ℕ) (c : ℕ) (cs : List ℕ) (read : Option (Term × List ℕ)) (r : Result Place Unread) (ss : List Open) (ps : List Piece)
      → bytes ≡ c ∷ cs → term_at reg (c ∷ cs) ≡ read → Steps reg (Same read) (work (opened old) (before cs) + 2) r ss ps
      → Steps reg (Same (term_at reg bytes)) (work (opened old) (before bytes)) r ss ps
  begin_by bytes c cs read r ss ps splits is steps =
      let size = ap length splits in
      steps_as reg (Same read) (work (opened old) (before cs) + 2) (Same (term_at reg bytes)) (work (opened old) (before bytes)) r ss ps
      (ap Same (sym (ap (term_at reg) splits ∙ is))) (omega (arith, size)) steps

  pub elements_begun : (bytes : List ℕ) (c : ℕ) (cs : List ℕ) (r : Result Place Unread) (ss : List Open) (ps : List Piece)
      → bytes ≡ c ∷ cs → c ≡ 91 → Steps reg (Same (elements_at (term_at reg) cs)) (work (opened old) (before cs) + 2) r ss ps
      → Steps reg (Same (term_at reg bytes)) (work (opened old) (before bytes)) r ss ps
  elements_begun bytes c cs r ss ps splits is =
      begin_by bytes c cs (elements_at (term_at reg) cs) r ss ps splits (by_byte (λ x. term_at reg (x ∷ cs) ≡ elements_at (term_at reg) cs) c 91 is (at_91 reg cs))

  pub cast_begun : (bytes : List ℕ) (c : ℕ) (cs : List ℕ) (r : Result Place Unread) (ss : List Open) (ps : List Piece)
      → bytes ≡ c ∷ cs → c ≡ 40 → Steps reg (Same (on_some (type_at cs) (cast_of (term_at reg)))) (work (opened old) (before cs) + 2) r ss ps
      → Steps reg (Same (term_at reg bytes)) (work (opened old) (before bytes)) r ss ps
  cast_begun bytes c cs r ss ps splits is =
      begin_by bytes c cs (on_some (type_at cs) (cast_of (term_at reg))) r ss ps splits
      (by_byte (λ x. term_at reg (x ∷ cs) ≡ on_some (type_at cs) (cast_of (term_at reg))) c 40 is (at_40 reg cs))

  pub word_begun : (bytes : List ℕ) (c : ℕ) (cs : List ℕ) (r : Result Place Unread) (ss : List Open) (ps : List Piece)
      → bytes ≡ c ∷ cs → begins_identifier c ≡ true → Steps reg (Same (letters_at reg (term_at reg) bytes)) (work (opened old) (before bytes)) r ss ps
      → Steps reg (Same (term_at reg bytes)) (work (opened old) (before bytes)) r ss ps
  word_begun bytes c cs r ss ps splits begins steps =
      steps_as reg (Same (letters_at reg (term_at reg) bytes)) (work (opened old) (before bytes)) (Same (term_at reg bytes)) (work (opened old) (before bytes)) r ss ps
      (ap Same (sym (ap (term_at reg) splits ∙ at_letter reg cs c begins ∙ ap (letters_at reg (term_at reg)) (sym splits)))) refl steps

module _ (reg : List Entity) (old : List Open) (qs : List Piece) (ready : IsReady (opened old) (pieces_of qs) 0) where
  open_ready : (one : plain.Open) → held_by (one ∷ opened old) ≡ held_by (opened old) → IsReady (one ∷ opened old) (pieces_of qs) 0
  open_ready one none_held = record { built = ready.built; many = omega (arith, none_held, ready.many) }

  pub members_opened : (bytes : List ℕ) (c : ℕ) (cs : List ℕ) (r : Result Place Unread) (ss : List Open)
      → bytes ≡ c ∷ cs → c ≡ 123 → Gives place_of r (Some (before cs)) → OnOk r (opened ss ≡ members 0 ∷ opened old)
      → Steps reg (comes_with reg old qs (term_at reg bytes)) (work (opened old) (before bytes)) r ss qs
  unfolding held_by
  members_opened bytes c cs r ss splits is at pushed =
      let size = ap length splits in
      let read = ap (term_at reg) splits ∙ by_byte (λ x. term_at reg (x ∷ cs) ≡ members_at (term_at reg) cs) c 123 is (at_123 reg cs) in
      open_step reg _ (work (opened old) (before bytes)) ss qs (members 0) (opened old) cs r at pushed
      (sym (members_begin reg (opened old) (standing qs) cs) ∙ ap (whole reg (opened old) (standing qs)) (sym read))
      (open_ready (members 0) (omega arith)) (omega (arith, size))

  pub leaf_begun : (bytes : List ℕ) (c : ℕ) (cs : List ℕ) (r : Result Place Unread) (ps : List Piece)
      → bytes ≡ c ∷ cs → c ≢ 91 → c ≢ 123 → c ≢ 40 → begins_identifier c ≡ false
      → Gives (λ p. (standing ps, place_of p)) r (stands_with (standing qs) (leaf_at bytes)) → OnOk r (AreBuilt [] (pieces_of qs) → AreBuilt [] (pieces_of ps))
      → Steps reg (comes_with reg old qs (term_at reg bytes)) (work (opened old) (before bytes)) r old ps
  leaf_begun bytes c cs r ps splits no_elements no_members no_cast no_letter is built =
      let read = ap (term_at reg) splits ∙ at_leaf reg cs c no_elements no_members no_cast no_letter ∙ ap leaf_at (sym splits) in
      steps_as reg (comes_with reg old qs (leaf_at bytes)) (work (opened old) (before bytes)) (comes_with reg old qs (term_at reg bytes)) (work (opened old) (before bytes)) r old ps
      (ap (whole reg (opened old) (standing qs)) (sym read)) refl
      (leaf_step reg old ps qs bytes ready (leaf_at bytes) r is built (λ x e. shrinks reg bytes x (read ∙ e)))

  -- ---- elements

  pub no_element : (bytes : List ℕ) → length bytes ≡ 0 → comes_with reg old qs (elements_at (term_at reg) bytes) ≡ None
  unfolding elements_at
  no_element bytes ends =
      ap (λ b. comes_with reg old qs (elements_at (term_at reg) b)) (nil_from_length bytes ends) ∙ whole_none reg (opened old) (standing qs)

  pub elements_closed : (bytes : List ℕ) (c : ℕ) (cs : List ℕ) (r : Result Place Unread) (ps : List Piece)
      → bytes ≡ c ∷ cs → c ≡ 93 → Gives place_of r (Some (after cs)) → OnOk r (pieces_of ps ≡ pieces_of qs ++ bare.elements 0 ∷ [])
      → Steps reg (comes_with reg old qs (elements_at (term_at reg) bytes)) (work (opened old) (before bytes) + 2) r old ps
  unfolding held
  elements_closed bytes c cs r ps splits is at pushed =
      let size = ap length splits in
      put_step reg _ (work (opened old) (before bytes) + 2) old ps (pieces_of qs) (bare.elements 0) cs r at pushed
      (sym (no_elements reg (opened old) (standing qs) c cs (eq-eqb c 93 is)) ∙ ap (λ b. comes_with reg old qs (elements_at (term_at reg) b)) (sym splits))
      ready.built ready.many (omega (arith, size))

  pub elements_opened : (bytes : List ℕ) (c : ℕ) (cs : List ℕ) (r : Result Place Unread) (ss : List Open)
      → bytes ≡ c ∷ cs → c ≢ 93 → Gives place_of r (Some (before bytes)) → OnOk r (opened ss ≡ elements 0 ∷ opened old)
      → Steps reg (comes_with reg old qs (elements_at (term_at reg) bytes)) (work (opened old) (before bytes) + 2) r ss qs
  unfolding held_by
  elements_opened bytes c cs r ss splits other at pushed =
      open_step reg _ (work (opened old) (before bytes) + 2) ss qs (elements 0) (opened old) bytes r at pushed
      (ap (λ b. comes_of reg (elements 0 ∷ opened old) (standing qs) (before b)) splits
      ∙ sym (elements_begin reg (opened old) (standing qs) c cs (ne_eqb c 93 other)) ∙ ap (λ b. comes_with reg old qs (elements_at (term_at reg) b)) (sym splits))
      (open_ready (elements 0) (omega arith)) (omega arith)

  -- ---- values of types

  pub void_put : (k rest : List ℕ) (r : Result Place Unread) (ps : List Piece)
      → bytes_eq k (codes "void") ≡ true → Gives place_of r (Some (after rest)) → OnOk r (pieces_of ps ≡ pieces_of qs ++ bare.void_any ∷ [])
      → Steps reg (comes_with reg old qs (cast_value (term_at reg) k rest)) (work (opened old) (before rest) + 2) r old ps
  unfolding held put comes_of
  void_put k rest r ps is at pushed =
      put_step reg _ (work (opened old) (before rest) + 2) old ps (pieces_of qs) bare.void_any rest r at pushed
      (rw is refl) ready.built ready.many (omega arith)

  pub no_value : (k rest : List ℕ) → bytes_eq k (codes "void") ≡ false → bytes_eq k (codes "any") ≡ true → comes_with reg old qs (cast_value (term_at reg) k rest) ≡ None
  no_value k rest other is = rw (other, is) (whole_none reg (opened old) (standing qs))

  pub value_opened : (k rest : List ℕ) (r : Result Place Unread) (ss : List Open)
      → bytes_eq k (codes "void") ≡ false → bytes_eq k (codes "any") ≡ false → Gives place_of r (Some (before rest)) → OnOk r (opened ss ≡ typed k ∷ opened old)
      → Steps reg (comes_with reg old qs (cast_value (term_at reg) k rest)) (work (opened old) (before rest) + 2) r ss qs
  unfolding held_by
  value_opened k rest r ss value other at pushed =
      open_step reg _ (work (opened old) (before rest) + 2) ss qs (typed k) (opened old) rest r at pushed
      (sym (typed_begins reg (opened old) (standing qs) k rest value other)) (open_ready (typed k) refl) (omega arith)

  -- ---- types

  pub no_type : (bytes : List ℕ) → type_at bytes ≡ None → comes_with reg old qs (on_some (type_at bytes) (cast_of (term_at reg))) ≡ None
  no_type bytes lacks = rw lacks (whole_none reg (opened old) (standing qs))

  pub not_closed : (bytes k rest : List ℕ) → type_at bytes ≡ Some (k, rest) → behind (codes ")") rest ≡ None
      → comes_with reg old qs (on_some (type_at bytes) (cast_of (term_at reg))) ≡ None
  not_closed bytes k rest reads lacks = rw (reads, lacks) (whole_none reg (opened old) (standing qs))

  pub cast_by : (bytes k rest value : List ℕ) (r : Result Place Unread) (ss : List Open) (ps : List Piece) → type_at bytes ≡ Some (k, rest) → behind (codes ")") rest ≡ Some value
      → Steps reg (comes_with reg old qs (cast_value (term_at reg) k value)) (work (opened old) (before value) + 2) r ss ps
      → Steps reg (comes_with reg old qs (on_some (type_at bytes) (cast_of (term_at reg)))) (work (opened old) (before bytes) + 2) r ss ps
  cast_by bytes k rest value r ss ps reads closes steps =
      let type_size = ap length (type_back bytes (k, rest) reads).1 ∙ length-append k rest in
      let size = ap length (behind_back (codes ")") rest value closes) ∙ length-append (codes ")") value in
      let whole_cast : cast_value (term_at reg) k value ≡ on_some (type_at bytes) (cast_of (term_at reg)) = rw (reads, closes) refl in
      steps_as reg (comes_with reg old qs (cast_value (term_at reg) k value)) (work (opened old) (before bytes) + 2) _ (work (opened old) (before bytes) + 2) r ss ps
      (ap (whole reg (opened old) (standing qs)) whole_cast) refl
      (steps_less reg _ (work (opened old) (before value) + 2) (work (opened old) (before bytes) + 2) r ss ps (omega (arith, type_size, size)) steps)

  -- ---- words

  run_short : (bytes rest : List ℕ) → rest ≡ behind_run goes_on_identifier bytes → length rest ≤ length bytes
  run_short bytes rest behind_it =
      let size = ap length (front_rest goes_on_identifier bytes) ∙ length-append (run_of goes_on_identifier bytes) (behind_run goes_on_identifier bytes) in
      let rest_size = ap length behind_it in
      omega (arith, size, rest_size)

  letters_by : (bytes w rest : List ℕ) → w ≡ run_of goes_on_identifier bytes → rest ≡ behind_run goes_on_identifier bytes
      → letters_at reg (term_at reg) bytes ≡ behind_word reg (term_at reg) w rest
  unfolding letters_at
  letters_by bytes w rest run behind_it = rw (run, behind_it) refl

  word_put : (bytes w rest : List ℕ) (r : Result Place Unread) (ps : List Piece) → w ≡ run_of goes_on_identifier bytes → rest ≡ behind_run goes_on_identifier bytes
      → behind_word reg (term_at reg) w rest ≡ known_word reg w rest
      → Gives (λ p. (standing ps, place_of p)) r (stands_with (standing qs) (known_word reg w rest)) → OnOk r (AreBuilt [] (pieces_of qs) → AreBuilt [] (pieces_of ps))
      → Steps reg (comes_with reg old qs (letters_at reg (term_at reg) bytes)) (work (opened old) (before bytes)) r old ps
  word_put bytes w rest r ps run behind_it is_word is built =
      steps_as reg (comes_with reg old qs (known_word reg w rest)) (work (opened old) (before bytes)) _ (work (opened old) (before bytes)) r old ps
      (ap (whole reg (opened old) (standing qs)) (sym (letters_by bytes w rest run behind_it ∙ is_word))) refl
      (leaf_step reg old ps qs bytes ready (known_word reg w rest) r is built short)
    where
      short : (x : Term × List ℕ) → known_word reg w rest ≡ Some x → length x.1 ≤ length bytes
      short x e =
          came (λ (y : Term × List ℕ). length y.1 ≤ length bytes) (allowed (is_known_word reg w) (Some (line.leaf (token.word w), rest)) x e).1 (run_short bytes rest behind_it)

  pub word_alone : (bytes w rest : List ℕ) (r : Result Place Unread) (ps : List Piece) → w ≡ run_of goes_on_identifier bytes → rest ≡ behind_run goes_on_identifier bytes
      → length rest ≡ 0
      → Gives (λ p. (standing ps, place_of p)) r (stands_with (standing qs) (known_word reg w rest)) → OnOk r (AreBuilt [] (pieces_of qs) → AreBuilt [] (pieces_of ps))
      → Steps reg (comes_with reg old qs (letters_at reg (term_at reg) bytes)) (work (opened old) (before bytes)) r old ps
  word_alone bytes w rest r ps run behind_it ends =
      word_put bytes w rest r ps run behind_it (let none_left = nil_from_length rest ends in rw none_left refl)

  pub word_before : (bytes w rest : List ℕ) (c : ℕ) (cs : List ℕ) (r : Result Place Unread) (ps : List Piece) → w ≡ run_of goes_on_identifier bytes
      → rest ≡ behind_run goes_on_identifier bytes → rest ≡ c ∷ cs → c ≢ 40
      → Gives (λ p. (standing ps, place_of p)) r (stands_with (standing qs) (known_word reg w rest)) → OnOk r (AreBuilt [] (pieces_of qs) → AreBuilt [] (pieces_of ps))
      → Steps reg (comes_with reg old qs (letters_at reg (term_at reg) bytes)) (work (opened old) (before bytes)) r old ps
  word_before bytes w rest c cs r ps run behind_it splits other =
      word_put bytes w rest r ps run behind_it (rw (splits, ne_eqb c 40 other) refl)

  operation_by : (w rest : List ℕ) → operation_at (term_at reg) w rest ≡ on_some (operation_named w) (λ op. operands_at (term_at reg) op rest)
  operation_by w rest = by_names (bytes_eq w (codes "add")) (bytes_eq w (codes "sub"))
    where
      by_names : (a b : Bool)
          → (if a then operands_at (term_at reg) Add rest else (if b then operands_at (term_at reg) Sub rest else None))
          ≡ on_some (if a then Some Add else (if b then Some Sub else None)) (λ op. operands_at (term_at reg) op rest)
      by_names true b = refl
      by_names false true = refl
      by_names false false = refl

  named_by : (bytes w rest : List ℕ) (c : ℕ) (cs : List ℕ) → w ≡ run_of goes_on_identifier bytes → rest ≡ behind_run goes_on_identifier bytes → rest ≡ c ∷ cs → c ≡ 40
      → letters_at reg (term_at reg) bytes ≡ on_some (operation_named w) (λ op. operands_at (term_at reg) op cs)
  named_by bytes w rest c cs run behind_it splits is =
      letters_by bytes w rest run behind_it ∙ ap (behind_word reg (term_at reg) w) splits
      ∙ by_byte (λ x. behind_word reg (term_at reg) w (x ∷ cs) ≡ operation_at (term_at reg) w cs) c 40 is refl ∙ operation_by w cs

  pub no_operation : (bytes w rest : List ℕ) (c : ℕ) (cs : List ℕ) → w ≡ run_of goes_on_identifier bytes → rest ≡ behind_run goes_on_identifier bytes
      → rest ≡ c ∷ cs → c ≡ 40 → operation_named w ≡ None → comes_with reg old qs (letters_at reg (term_at reg) bytes) ≡ None
  no_operation bytes w rest c cs run behind_it splits is lacks =
      ap (whole reg (opened old) (standing qs)) (named_by bytes w rest c cs run behind_it splits is ∙ ap (λ o. on_some o (λ op. operands_at (term_at reg) op cs)) lacks)
      ∙ whole_none reg (opened old) (standing qs)

  pub operation_opened : (bytes w rest : List ℕ) (c : ℕ) (cs : List ℕ) (op : Operation) (r : Result Place Unread) (ss : List Open)
      → w ≡ run_of goes_on_identifier bytes → rest ≡ behind_run goes_on_identifier bytes → rest ≡ c ∷ cs → c ≡ 40 → operation_named w ≡ Some op
      → Gives place_of r (Some (before cs)) → OnOk r (opened ss ≡ left op ∷ opened old)
      → Steps reg (comes_with reg old qs (letters_at reg (term_at reg) bytes)) (work (opened old) (before bytes)) r ss qs
  unfolding held_by
  operation_opened bytes w rest c cs op r ss run behind_it splits is named at pushed =
      let short = run_short bytes rest behind_it in
      let size = ap length splits in
      let read = named_by bytes w rest c cs run behind_it splits is ∙ ap (λ o. on_some o (λ x. operands_at (term_at reg) x cs)) named in
      open_step reg _ (work (opened old) (before bytes)) ss qs (left op) (opened old) cs r at pushed
      (sym (operation_begins reg (opened old) (standing qs) op cs) ∙ ap (whole reg (opened old) (standing qs)) (sym read))
      (open_ready (left op) refl) (omega (arith, short, size))
