-- A term fits its type just where its last piece does, and the terms in that fit the types that it asks.
use Rattle.std.proofs.Common.{◌≡◌, ℕ, zero, suc, ◌≤◌, ◌+◌, Bool, true, false, ◌&&◌, List, [], ◌∷◌, length, drop, Option, None, Some, option_map, refl, sym, ap, ◌∙◌, arith}
use Rattle.std.specs.Prelude.{is_some, ◌==◌}
use Rattle.std.proofs.lemmas.Bool.{eqb-true, eqb-false}
use Rattle.literal_model.specs.Readings.{single}
use Rattle.uno_model.specs.Entities.{Entity}
use Rattle.uno_model.specs.Fits.{member_kinds}
use Rattle.uno_model.specs.Kinds.{Kind}
use Rattle.uno_model.specs.Kinds as kd
use Rattle.uno_model.specs.NamedTypes.{type_of_text}
use Rattle.plan_model.specs.Contexts.{Context, kind_of_word}
use Rattle.plan_model.specs.Evaluation.{both_values}
use Rattle.plan_model.specs.Expressions.{Expressions}
use Rattle.plan_model.specs.Expressions as e
use Rattle.plan_model.specs.Lines.{Term, Terms, none, more}
use Rattle.plan_model.specs.declared.operation.Operation.{Operation}
use Rattle.plan_model.specs.Typing.{expression_of, all_at, each_at, any_at, elements_at, members_at, only_if, is_whole, type_value, void_any_at, word_at}
use Rattle.term_pieces.specs.Pieces.{Piece, leaf, type_named, void_any, typed, elements, members, word, operation, held, gathered, put}
use Rattle.term_pieces.specs.Fits.{all_fit, fits_asked, times, turned, within_any, within_elements, within_members, if_as_many, asked}

mapped_some : {X Y : Type 0} (f : X → Y) (o : Option X) → is_some (option_map f o) ≡ is_some o
mapped_some f None = refl
mapped_some f (Some x) = refl

both_some : {X Y Z : Type 0} (a : Option X) (b : Option Y) (go : X → Y → Z) → is_some (both_values a b (λ x y. Some (go x y))) ≡ (is_some a && is_some b)
both_some None b go = refl
both_some (Some x) None go = refl
both_some (Some x) (Some y) go = refl

and_comm : (a b : Bool) → (a && b) ≡ (b && a)
and_comm true true = refl
and_comm true false = refl
and_comm false true = refl
and_comm false false = refl

-- the middle of three goes first
swapped : (a e s : Bool) → (a && (e && s)) ≡ ((e && a) && s)
swapped true true s = refl
swapped true false s = refl
swapped false true s = refl
swapped false false s = refl

grouped : (a b d : Bool) → ((a && b) && d) ≡ (b && (a && d))
grouped true true d = refl
grouped true false d = refl
grouped false true d = refl
grouped false false d = refl

and_true : (a : Bool) → (a && true) ≡ a
and_true true = refl
and_true false = refl

count : Terms → ℕ
count none = 0
count (more t ts) = suc (count ts)

counted : (n : ℕ) (done : List Term) (ts : Terms) → n ≤ length done → count (gathered n done ts) ≡ n + count ts
unfolding gathered count
counted zero done ts enough = omega arith
counted (suc n) [] ts enough = let bad : ⊥ = omega (arith, enough) in absurd bad
counted (suc n) (t ∷ done) ts enough = let rest : count (gathered n done (more t ts)) ≡ n + suc (count ts) = counted n done (more t ts) (omega (arith, enough)) in omega (arith, rest)

both_none : {X Y Z : Type 0} (a : Option X) (go : X → Y → Option Z) → both_values a None go ≡ None
both_none None go = refl
both_none (Some x) go = refl

-- the term below so many of the last ones
deeper : (l : ℕ) (done : List Term) (ts : Terms) → suc l ≤ length done → (t : Term) × (drop l done ≡ t ∷ drop (suc l) done) × (gathered (suc l) done ts ≡ more t (gathered l done ts))
unfolding gathered
deeper l [] ts enough = let bad : ⊥ = omega (arith, enough) in absurd bad
deeper zero (t ∷ done) ts enough = (t, refl, refl)
deeper (suc l) (x ∷ done) ts enough = deeper l done (more x ts) (omega (arith, enough))

module _ (reg : List Entity) (c : Context) where
  one_asked : (b : Bool) (done : List Term) (ks : List Kind) → (b && all_fit reg c done ks) ≡ fits_asked reg c done (if_as_many b ks)
  one_asked true done ks = refl
  one_asked false done ks = refl

  -- ---- a value of a type

  any_fits : (t : Term) (done : List Term) (ks : List Kind) (k : Kind) (o : Option Kind)
      → (is_some (any_at k o (expression_of reg c t)) && all_fit reg c done ks) ≡ fits_asked reg c (t ∷ done) (within_any k o ks)
  unfolding all_fit
  any_fits t done ks kd.any (Some held_kind) = ap (λ b. b && all_fit reg c done ks) (mapped_some (e.any held_kind) (expression_of reg c t held_kind))
  any_fits t done ks kd.any None = refl
  any_fits t done ks kd.void o = refl
  any_fits t done ks kd.char o = refl
  any_fits t done ks kd.boolean o = refl
  any_fits t done ks kd.byte o = refl
  any_fits t done ks kd.short o = refl
  any_fits t done ks kd.unsigned_short o = refl
  any_fits t done ks kd.long o = refl
  any_fits t done ks kd.unsigned_long o = refl
  any_fits t done ks kd.hyper o = refl
  any_fits t done ks kd.unsigned_hyper o = refl
  any_fits t done ks kd.str o = refl
  any_fits t done ks kd.kind o = refl
  any_fits t done ks (kd.enum x) o = refl
  any_fits t done ks (kd.struct x) o = refl
  any_fits t done ks (kd.exception x) o = refl
  any_fits t done ks (kd.interface x) o = refl
  any_fits t done ks (kd.sequence x) o = refl

  -- ---- elements

  gathered_fit : (n : ℕ) (done : List Term) (ts : Terms) (k : Kind) (ks : List Kind) → n ≤ length done
      → (is_some (all_at reg c (gathered n done ts) k) && all_fit reg c (drop n done) ks) ≡ (all_fit reg c done (times n k ks) && is_some (all_at reg c ts k))
  unfolding gathered all_fit times all_at
  gathered_fit zero done ts k ks enough = and_comm (is_some (all_at reg c ts k)) (all_fit reg c done ks)
  gathered_fit (suc n) [] ts k ks enough = let bad : ⊥ = omega (arith, enough) in absurd bad
  gathered_fit (suc n) (t ∷ done) ts k ks enough =
      gathered_fit n done (more t ts) k ks (omega (arith, enough))
      ∙ ap (λ b. all_fit reg c done (times n k ks) && b) (both_some (expression_of reg c t k) (all_at reg c ts k) e.more)
      ∙ swapped (all_fit reg c done (times n k ks)) (is_some (expression_of reg c t k)) (is_some (all_at reg c ts k))

  sequence_some : (all : Kind → Option Expressions) (k : Kind) → is_some (elements_at (kd.sequence k) all) ≡ is_some (all k)
  sequence_some all kd.void = mapped_some _ _
  sequence_some all kd.char = mapped_some _ _
  sequence_some all kd.boolean = mapped_some _ _
  sequence_some all kd.byte = mapped_some _ _
  sequence_some all kd.short = mapped_some _ _
  sequence_some all kd.unsigned_short = mapped_some _ _
  sequence_some all kd.long = mapped_some _ _
  sequence_some all kd.unsigned_long = mapped_some _ _
  sequence_some all kd.hyper = mapped_some _ _
  sequence_some all kd.unsigned_hyper = mapped_some _ _
  sequence_some all kd.str = mapped_some _ _
  sequence_some all kd.kind = mapped_some _ _
  sequence_some all kd.any = mapped_some _ _
  sequence_some all (kd.enum x) = mapped_some _ _
  sequence_some all (kd.struct x) = mapped_some _ _
  sequence_some all (kd.exception x) = mapped_some _ _
  sequence_some all (kd.interface x) = mapped_some _ _
  sequence_some all (kd.sequence x) = mapped_some _ _

  all_of_none : (k : Kind) (b : Bool) → (b && is_some (all_at reg c none k)) ≡ b
  unfolding all_at
  all_of_none k b = and_true b

  elements_fit : (n : ℕ) (done : List Term) (ks : List Kind) → n ≤ length done → (k : Kind)
      → (is_some (elements_at k (all_at reg c (gathered n done none))) && all_fit reg c (drop n done) ks) ≡ fits_asked reg c done (within_elements k n ks)
  elements_fit n done ks enough (kd.sequence k) =
      ap (λ b. b && all_fit reg c (drop n done) ks) (sequence_some (all_at reg c (gathered n done none)) k)
      ∙ gathered_fit n done none k ks enough ∙ all_of_none k (all_fit reg c done (times n k ks))
  elements_fit n done ks enough kd.void = refl
  elements_fit n done ks enough kd.char = refl
  elements_fit n done ks enough kd.boolean = refl
  elements_fit n done ks enough kd.byte = refl
  elements_fit n done ks enough kd.short = refl
  elements_fit n done ks enough kd.unsigned_short = refl
  elements_fit n done ks enough kd.long = refl
  elements_fit n done ks enough kd.unsigned_long = refl
  elements_fit n done ks enough kd.hyper = refl
  elements_fit n done ks enough kd.unsigned_hyper = refl
  elements_fit n done ks enough kd.str = refl
  elements_fit n done ks enough kd.kind = refl
  elements_fit n done ks enough kd.any = refl
  elements_fit n done ks enough (kd.enum x) = refl
  elements_fit n done ks enough (kd.struct x) = refl
  elements_fit n done ks enough (kd.exception x) = refl
  elements_fit n done ks enough (kd.interface x) = refl

  -- ---- members

  each_lacks : (ts : Terms) (ms : List Kind) → (count ts ≡ length ms → ⊥) → each_at reg c ts ms ≡ None
  unfolding each_at count
  each_lacks none [] other = absurd (other refl)
  each_lacks none (m ∷ ms) other = refl
  each_lacks (more t ts) [] other = refl
  each_lacks (more t ts) (m ∷ ms) other =
      rw (each_lacks ts ms (λ same. other (ap suc same))) (both_none (expression_of reg c t m) (λ a rest. Some (e.more a rest)))

  members_given : (ms ks : List Kind) (done : List Term) → length ms ≤ length done
      → all_fit reg c done (turned ms ks) ≡ (is_some (each_at reg c (gathered (length ms) done none) ms) && all_fit reg c (drop (length ms) done) ks)
  unfolding gathered turned each_at all_fit
  members_given [] ks done enough = refl
  members_given (m ∷ ms) ks done enough =
      let below = deeper (length ms) done none enough in
      let rest = members_given ms (m ∷ ks) done (omega (arith, enough)) in
      let here : all_fit reg c (drop (length ms) done) (m ∷ ks) ≡ (is_some (expression_of reg c below.0 m) && all_fit reg c (drop (suc (length ms)) done) ks) = ap (λ xs. all_fit reg c xs (m ∷ ks)) below.1 in
      rest ∙ ap (λ b. is_some (each_at reg c (gathered (length ms) done none) ms) && b) here
      ∙ swapped (is_some (each_at reg c (gathered (length ms) done none) ms)) (is_some (expression_of reg c below.0 m)) (all_fit reg c (drop (suc (length ms)) done) ks)
      ∙ ap (λ b. b && all_fit reg c (drop (suc (length ms)) done) ks)
      (sym (ap (λ g. is_some (each_at reg c g (m ∷ ms))) below.2 ∙ both_some (expression_of reg c below.0 m) (each_at reg c (gathered (length ms) done none) ms) e.more))

  by_count : (n : ℕ) (ms ks : List Kind) (done : List Term) → n ≤ length done → (b : Bool) → (n == length ms) ≡ b
      → (is_some (each_at reg c (gathered n done none) ms) && all_fit reg c (drop n done) ks) ≡ fits_asked reg c done (if_as_many b (turned ms ks))
  unfolding count
  by_count n ms ks done enough true same =
      let is : n ≡ length ms = eqb-true n (length ms) same in
      rw is (sym (members_given ms ks done (omega (arith, is, enough))))
  by_count n ms ks done enough false other =
      let size = counted n done none enough in
      let lacks : count (gathered n done none) ≡ length ms → ⊥ = λ same. let differ = eqb-false n (length ms) other in differ (no_more n ∙ sym size ∙ same) in
      rw (each_lacks (gathered n done none) ms lacks) refl
    where
      no_more : (m : ℕ) → m ≡ m + 0
      no_more m = omega arith

  members_fit : (n : ℕ) (done : List Term) (ks : List Kind) → n ≤ length done → (k : Kind)
      → (is_some (members_at reg k (each_at reg c (gathered n done none))) && all_fit reg c (drop n done) ks) ≡ fits_asked reg c done (within_members reg k n ks)
  members_fit n done ks enough (kd.struct name) =
      ap (λ b. b && all_fit reg c (drop n done) ks) (mapped_some (e.tuple name) (each_at reg c (gathered n done none) (member_kinds reg name)))
      ∙ by_count n (member_kinds reg name) ks done enough (n == length (member_kinds reg name)) refl
  members_fit n done ks enough (kd.exception name) =
      ap (λ b. b && all_fit reg c (drop n done) ks) (mapped_some (e.tuple name) (each_at reg c (gathered n done none) (member_kinds reg name)))
      ∙ by_count n (member_kinds reg name) ks done enough (n == length (member_kinds reg name)) refl
  members_fit n done ks enough kd.void = refl
  members_fit n done ks enough kd.char = refl
  members_fit n done ks enough kd.boolean = refl
  members_fit n done ks enough kd.byte = refl
  members_fit n done ks enough kd.short = refl
  members_fit n done ks enough kd.unsigned_short = refl
  members_fit n done ks enough kd.long = refl
  members_fit n done ks enough kd.unsigned_long = refl
  members_fit n done ks enough kd.hyper = refl
  members_fit n done ks enough kd.unsigned_hyper = refl
  members_fit n done ks enough kd.str = refl
  members_fit n done ks enough kd.kind = refl
  members_fit n done ks enough kd.any = refl
  members_fit n done ks enough (kd.enum x) = refl
  members_fit n done ks enough (kd.interface x) = refl
  members_fit n done ks enough (kd.sequence x) = refl

  -- ---- operations

  operands_fit : (op : Operation) (t s : Term) (done : List Term) (k : Kind) (ks : List Kind) (b : Bool)
      → (is_some (only_if b (both_values (expression_of reg c s k) (expression_of reg c t k) (λ x y. Some (e.operation op x y)))) && all_fit reg c done ks)
      ≡ fits_asked reg c (t ∷ s ∷ done) (if_as_many b (k ∷ k ∷ ks))
  unfolding all_fit
  operands_fit op t s done k ks true =
      ap (λ b. b && all_fit reg c done ks) (both_some (expression_of reg c s k) (expression_of reg c t k) (e.operation op))
      ∙ grouped (is_some (expression_of reg c s k)) (is_some (expression_of reg c t k)) (all_fit reg c done ks)
  operands_fit op t s done k ks false = refl

  -- ---- all pieces

  pub piece_fits : (p : Piece) (done : List Term) (k : Kind) (ks : List Kind) → held p ≤ length done → all_fit reg c (put done p) (k ∷ ks) ≡ fits_asked reg c done (asked reg c p k ks)
  unfolding all_fit put held asked expression_of
  piece_fits (leaf t) done k ks enough =
      ap (λ b. b && all_fit reg c done ks) (mapped_some e.constant (single reg k t)) ∙ one_asked (is_some (single reg k t)) done ks
  piece_fits (type_named t) done k ks enough = one_asked (is_some (type_value k (type_of_text reg t))) done ks
  piece_fits void_any done k ks enough = one_asked (is_some (void_any_at k)) done ks
  piece_fits (typed t) [] k ks enough = let bad : ⊥ = omega (arith, enough) in absurd bad
  piece_fits (typed t) (x ∷ done) k ks enough = any_fits x done ks k (type_of_text reg t)
  piece_fits (elements n) done k ks enough = elements_fit n done ks enough k
  piece_fits (members n) done k ks enough = members_fit n done ks enough k
  piece_fits (word w) done k ks enough = one_asked (is_some (word_at reg k w (kind_of_word c w))) done ks
  piece_fits (operation op) [] k ks enough = let bad : ⊥ = omega (arith, enough) in absurd bad
  piece_fits (operation op) (t ∷ []) k ks enough = let bad : ⊥ = omega (arith, enough) in absurd bad
  piece_fits (operation op) (t ∷ s ∷ done) k ks enough = operands_fit op t s done k ks (is_whole k)
