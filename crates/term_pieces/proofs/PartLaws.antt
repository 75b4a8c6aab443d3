-- The expression that a term is at a type is what comes of its pieces.
use Rattle.std.proofs.Common.{◌≡◌, ℕ, zero, suc, ◌≤◌, ◌+◌, Bool, true, false, ◌&&◌, List, [], ◌∷◌, ◌++◌, length, take, drop, reverse, Option, None, Some, option_map, ◌<◌, refl, sym, ap, subst, append_assoc, append-nil, ◌∙◌, arith}
use Rattle.std.specs.Prelude.{is_some, ◌==◌}
use Rattle.std.proofs.lemmas.Bool.{eqb-true}
use Rattle.std.proofs.lemmas.List.{reverse-append}
use Rattle.literal_model.specs.Readings.{single}
use Rattle.uno_model.specs.Entities.{Entity}
use Rattle.uno_model.specs.Fits.{member_kinds}
use Rattle.uno_model.specs.Kinds.{Kind}
use Rattle.uno_model.specs.Kinds as kd
use Rattle.uno_model.specs.NamedTypes.{type_of_text}
use Rattle.plan_model.specs.Contexts.{Context, kind_of_word}
use Rattle.plan_model.specs.Evaluation.{both_values}
use Rattle.plan_model.specs.Expressions.{Expression, Expressions, expressions}
use Rattle.plan_model.specs.Expressions as e
use Rattle.plan_model.specs.Lines.{Term, Terms, none, more}
use Rattle.plan_model.specs.Lines as plain
use Rattle.plan_model.specs.declared.operation.Operation.{Operation}
use Rattle.plan_model.specs.Typing.{expression_of, all_at, each_at, any_at, elements_at, members_at, only_if, is_whole, type_value, void_any_at, word_at}
use Rattle.term_pieces.specs.Pieces.{Piece, leaf, type_named, void_any, typed, elements, members, word, operation, held, gathered, put, put_all, AreBuilt}
use Rattle.term_pieces.specs.Fits.{all_fit, fits_asked, times, turned, within_any, within_elements, within_members, if_as_many}
use Rattle.term_pieces.specs.Fits as fit
use Rattle.term_pieces.specs.Parts.{Part, part_at, any_part, elements_part, members_part, kinds_in, Asked, misfit, asked, placed, piece_before, all_before, sequence_in, put_part, put_parts, alone, made_of, all_are}
use Rattle.term_pieces.specs.Parts as part
use Rattle.term_pieces.proofs.FitLaws.{piece_fits}
use Rattle.term_pieces.proofs.PieceLaws.{put_length}

and_true : (a : Bool) → (a && true) ≡ a
and_true true = refl
and_true false = refl

nothing : {X : Type 0} (o : Option X) → is_some o ≡ false → o ≡ None
nothing None is = refl
nothing (Some x) is = absurd cc

-- ---- which types are asked

abbrev kinds_of : List Entity → Kind → List Kind → Option Part → Option (List Kind)
kinds_of reg k ks o = option_map (λ q. kinds_in reg q k ks) o

module _ (reg : List Entity) (ks : List Kind) where
  whole_asks : (k : Kind) (o : Option Expression) → if_as_many (is_some o) ks ≡ kinds_of reg k ks (option_map part.whole o)
  unfolding kinds_in
  whole_asks k None = refl
  whole_asks k (Some x) = refl

  constant_some : {X Y : Type 0} (f : X → Y) (o : Option X) → is_some o ≡ is_some (option_map f o)
  constant_some f None = refl
  constant_some f (Some x) = refl

  any_asks : (o : Option Kind) (k : Kind) → within_any k o ks ≡ kinds_of reg k ks (any_part k o)
  unfolding kinds_in
  any_asks None kd.any = refl
  any_asks (Some t) kd.any = refl
  any_asks o kd.void = refl
  any_asks o kd.char = refl
  any_asks o kd.boolean = refl
  any_asks o kd.byte = refl
  any_asks o kd.short = refl
  any_asks o kd.unsigned_short = refl
  any_asks o kd.long = refl
  any_asks o kd.unsigned_long = refl
  any_asks o kd.hyper = refl
  any_asks o kd.unsigned_hyper = refl
  any_asks o kd.str = refl
  any_asks o kd.kind = refl
  any_asks o (kd.enum x) = refl
  any_asks o (kd.struct x) = refl
  any_asks o (kd.exception x) = refl
  any_asks o (kd.interface x) = refl
  any_asks o (kd.sequence x) = refl

  elements_ask : (n : ℕ) (k : Kind) → within_elements k n ks ≡ kinds_of reg k ks (elements_part k n)
  unfolding kinds_in
  elements_ask n (kd.sequence k) = refl
  elements_ask n kd.void = refl
  elements_ask n kd.char = refl
  elements_ask n kd.boolean = refl
  elements_ask n kd.byte = refl
  elements_ask n kd.short = refl
  elements_ask n kd.unsigned_short = refl
  elements_ask n kd.long = refl
  elements_ask n kd.unsigned_long = refl
  elements_ask n kd.hyper = refl
  elements_ask n kd.unsigned_hyper = refl
  elements_ask n kd.str = refl
  elements_ask n kd.kind = refl
  elements_ask n kd.any = refl
  elements_ask n (kd.enum x) = refl
  elements_ask n (kd.struct x) = refl
  elements_ask n (kd.exception x) = refl
  elements_ask n (kd.interface x) = refl

  as_many : (n : ℕ) (name : List ℕ) (k : Kind) (b : Bool) → if_as_many b (turned (member_kinds reg name) ks) ≡ kinds_of reg k ks (only_if b (Some (part.members name n)))
  unfolding kinds_in
  as_many n name k true = refl
  as_many n name k false = refl

  members_ask : (n : ℕ) (k : Kind) → within_members reg k n ks ≡ kinds_of reg k ks (members_part reg k n)
  members_ask n (kd.struct name) = as_many n name (kd.struct name) (n == length (member_kinds reg name))
  members_ask n (kd.exception name) = as_many n name (kd.exception name) (n == length (member_kinds reg name))
  members_ask n kd.void = refl
  members_ask n kd.char = refl
  members_ask n kd.boolean = refl
  members_ask n kd.byte = refl
  members_ask n kd.short = refl
  members_ask n kd.unsigned_short = refl
  members_ask n kd.long = refl
  members_ask n kd.unsigned_long = refl
  members_ask n kd.hyper = refl
  members_ask n kd.unsigned_hyper = refl
  members_ask n kd.str = refl
  members_ask n kd.kind = refl
  members_ask n kd.any = refl
  members_ask n (kd.enum x) = refl
  members_ask n (kd.interface x) = refl
  members_ask n (kd.sequence x) = refl

  whole_kinds_ask : (op : Operation) (k : Kind) (b : Bool) → if_as_many b (k ∷ k ∷ ks) ≡ kinds_of reg k ks (only_if b (Some (part.operation op)))
  unfolding kinds_in
  whole_kinds_ask op k true = refl
  whole_kinds_ask op k false = refl

  pub asked_is : (c : Context) (p : Piece) (k : Kind) → fit.asked reg c p k ks ≡ kinds_of reg k ks (part_at reg c p k)
  unfolding fit.asked part_at
  asked_is c (leaf t) k = ap (λ b. if_as_many b ks) (constant_some e.constant (single reg k t)) ∙ whole_asks k (option_map e.constant (single reg k t))
  asked_is c (type_named t) k = whole_asks k (type_value k (type_of_text reg t))
  asked_is c void_any k = whole_asks k (void_any_at k)
  asked_is c (typed t) k = any_asks (type_of_text reg t) k
  asked_is c (elements n) k = elements_ask n k
  asked_is c (members n) k = members_ask n k
  asked_is c (word w) k = whole_asks k (word_at reg k w (kind_of_word c w))
  asked_is c (operation op) k = whole_kinds_ask op k (is_whole k)

-- ---- whether all fits

fits_at : List Entity → Context → List Term → Asked → Bool
fits_at reg c done misfit = false
fits_at reg c done (asked qs ks) = all_fit reg c done ks

module _ (reg : List Entity) (c : Context) where
  placed_fits : (done : List Term) (qs : List Part) (k : Kind) (ks : List Kind) (o : Option Part) → fits_asked reg c done (kinds_of reg k ks o) ≡ fits_at reg c done (placed reg qs k ks o)
  unfolding fits_at
  placed_fits done qs k ks None = refl
  placed_fits done qs k ks (Some q) = refl

  none_asked : (done : List Term) → 0 < length done → all_fit reg c done [] ≡ false
  unfolding all_fit
  none_asked [] low = let bad : ⊥ = omega (arith, low) in absurd bad
  none_asked (t ∷ done) low = refl

  one_fits : (p : Piece) (done : List Term) (a : Asked) → held p ≤ length done → fits_at reg c (put done p) a ≡ fits_at reg c done (piece_before reg c p a)
  unfolding fits_at piece_before
  one_fits p done misfit enough = refl
  one_fits p done (asked qs []) enough = let size = put_length p done enough in none_asked (put done p) (omega (arith, size, enough))
  one_fits p done (asked qs (k ∷ ks)) enough =
      piece_fits reg c p done k ks enough ∙ ap (fits_asked reg c done) (asked_is reg ks c p k) ∙ placed_fits done qs k ks (part_at reg c p k)

  all_fit_so : (ps : List Piece) (done : List Term) (a : Asked) → AreBuilt done ps → fits_at reg c (put_all done ps) a ≡ fits_at reg c done (all_before reg c ps a)
  unfolding put_all AreBuilt all_before
  all_fit_so [] done a built = refl
  all_fit_so (p ∷ ps) done a built = all_fit_so ps (put done p) a built.1 ∙ one_fits p done (all_before reg c ps a) built.0

-- ---- what comes of it

-- two that are there
both_are : {X : Type 0} (a : Option X) (b : Option (List X)) (zs : List X) → both_values a b (λ x rest. Some (x ∷ rest)) ≡ Some zs
    → (x : X) × (ys : List X) × (a ≡ Some x) × (b ≡ Some ys) × (zs ≡ x ∷ ys)
both_are None b zs is = absurd cc
both_are (Some x) None zs is = absurd cc
both_are (Some x) (Some ys) zs is = (x, ys, refl, refl, cc)

moved : {X : Type 0} (P : X → Type 0) (x q : X) → Some x ≡ Some q → P x → P q
moved P x q is here =
    let same : x ≡ q = cc in
    subst P same here

module _ (reg : List Entity) (c : Context) where
  -- the first of some terms, and the others
  apart : (t : Term) (done : List Term) (k : Kind) (ks : List Kind) (es : List Expression) → all_are reg c (t ∷ done) (k ∷ ks) ≡ Some es
      → (x : Expression) × (rest : List Expression) × (expression_of reg c t k ≡ Some x) × (all_are reg c done ks ≡ Some rest) × (es ≡ x ∷ rest)
  unfolding all_are
  apart t done k ks es is = both_are (expression_of reg c t k) (all_are reg c done ks) es is

  together : (t : Term) (done : List Term) (k : Kind) (ks : List Kind) (x : Expression) (es : List Expression)
      → expression_of reg c t k ≡ Some x → all_are reg c done ks ≡ Some es → all_are reg c (t ∷ done) (k ∷ ks) ≡ Some (x ∷ es)
  unfolding all_are
  together t done k ks x es one others = rw (one, others) refl

  -- ---- elements

  -- so many expressions, the last one first, in front of others
  in_front : ℕ → List Expression → Expressions → Expressions
  in_front zero es rest = rest
  in_front (suc n) [] rest = rest
  in_front (suc n) (x ∷ es) rest = in_front n es (e.more x rest)

  one_in_front : (t : Term) (ts : Terms) (k : Kind) (x : Expression) (rest : Expressions) → expression_of reg c t k ≡ Some x → all_at reg c ts k ≡ Some rest
      → all_at reg c (more t ts) k ≡ Some (e.more x rest)
  unfolding all_at
  one_in_front t ts k x rest one others = rw (one, others) refl

  gathered_are : (n : ℕ) (done : List Term) (ts : Terms) (k : Kind) (ks : List Kind) (es : List Expression) (rest : Expressions) → n ≤ length done
      → all_are reg c done (times n k ks) ≡ Some es → all_at reg c ts k ≡ Some rest
      → (all_at reg c (gathered n done ts) k ≡ Some (in_front n es rest)) × (all_are reg c (drop n done) ks ≡ Some (drop n es))
  unfolding gathered times in_front
  gathered_are zero done ts k ks es rest enough are others = (others, are)
  gathered_are (suc n) [] ts k ks es rest enough are others = let bad : ⊥ = omega (arith, enough) in absurd bad
  gathered_are (suc n) (t ∷ done) ts k ks es rest enough are others =
      let cut = apart t done k (times n k ks) es are in
      let so = gathered_are n done (more t ts) k ks cut.1 (e.more cut.0 rest) (omega (arith, enough)) cut.3 (one_in_front t ts k cut.0 rest cut.2 others) in
      (so.0 ∙ ap (λ xs. Some (in_front (suc n) xs rest)) (sym cut.4), so.1 ∙ ap (λ xs. Some (drop (suc n) xs)) (sym cut.4))

  -- ---- members

  -- the term below so many of the last ones
  deeper : (l : ℕ) (done : List Term) (ts : Terms) → suc l ≤ length done → (t : Term) × (drop l done ≡ t ∷ drop (suc l) done) × (gathered (suc l) done ts ≡ more t (gathered l done ts))
  unfolding gathered
  deeper l [] ts enough = let bad : ⊥ = omega (arith, enough) in absurd bad
  deeper zero (t ∷ done) ts enough = (t, refl, refl)
  deeper (suc l) (x ∷ done) ts enough = deeper l done (more x ts) (omega (arith, enough))

  -- and the expression there
  below : (l : ℕ) (es : List Expression) (x : Expression) (rest : List Expression) (front : Expressions) → drop l es ≡ x ∷ rest
      → (in_front (suc l) es front ≡ e.more x (in_front l es front)) × (drop (suc l) es ≡ rest)
  unfolding in_front
  below zero [] x rest front is = absurd cc
  below zero (y ∷ es) x rest front is =
      let same : y ≡ x = cc in
      let tail : es ≡ rest = cc in
      (ap (λ z. e.more z front) same, tail)
  below (suc l) [] x rest front is = absurd cc
  below (suc l) (y ∷ es) x rest front is = below l es x rest (e.more y front) is

  one_member : (t : Term) (ts : Terms) (k : Kind) (ks : List Kind) (x : Expression) (rest : Expressions) → expression_of reg c t k ≡ Some x → each_at reg c ts ks ≡ Some rest
      → each_at reg c (more t ts) (k ∷ ks) ≡ Some (e.more x rest)
  unfolding each_at
  one_member t ts k ks x rest one others = rw (one, others) refl

  no_member : (done : List Term) (es : List Expression) → each_at reg c (gathered 0 done none) [] ≡ Some (in_front 0 es e.none)
  unfolding gathered each_at in_front
  no_member done es = refl

  turned_are : (ms ks : List Kind) (done : List Term) (es : List Expression) → length ms ≤ length done → all_are reg c done (turned ms ks) ≡ Some es
      → (each_at reg c (gathered (length ms) done none) ms ≡ Some (in_front (length ms) es e.none)) × (all_are reg c (drop (length ms) done) ks ≡ Some (drop (length ms) es))
  unfolding turned
  turned_are [] ks done es enough are = (no_member done es, are)
  turned_are (m ∷ ms) ks done es enough are =
      let at = deeper (length ms) done none enough in
      let so = turned_are ms (m ∷ ks) done es (omega (arith, enough)) are in
      let here : all_are reg c (at.0 ∷ drop (suc (length ms)) done) (m ∷ ks) ≡ Some (drop (length ms) es) = ap (λ xs. all_are reg c xs (m ∷ ks)) (sym at.1) ∙ so.1 in
      let cut = apart at.0 (drop (suc (length ms)) done) m ks (drop (length ms) es) here in
      let made = below (length ms) es cut.0 cut.1 e.none cut.4 in (
        ap (λ ts. each_at reg c ts (m ∷ ms)) at.2
            ∙ one_member at.0 (gathered (length ms) done none) m ms cut.0 (in_front (length ms) es e.none) cut.2 so.0
            ∙ ap Some (sym made.0),
        cut.3 ∙ ap Some (sym made.1),
      )

  -- in the order of the terms
  last_first : (y : Expression) (ys zs : List Expression) → reverse ys ++ (y ∷ zs) ≡ reverse (y ∷ ys) ++ zs
  last_first y ys zs = sym (ap (λ xs. xs ++ zs) (reverse-append (y ∷ []) ys) ∙ append_assoc (reverse ys) (y ∷ []) zs)

  turned_back : (n : ℕ) (es rest : List Expression) → in_front n es (expressions rest) ≡ expressions (reverse (take n es) ++ rest)
  unfolding in_front
  turned_back zero es rest = refl
  turned_back (suc n) [] rest = refl
  turned_back (suc n) (x ∷ es) rest = turned_back n es (x ∷ rest) ∙ ap expressions (last_first x (take n es) rest)

  in_order : (n : ℕ) (es : List Expression) → in_front n es e.none ≡ expressions (reverse (take n es))
  in_order n es = turned_back n es [] ∙ ap expressions (append-nil (reverse (take n es)))

  -- ---- one part

  -- an expression, and those that stand below it
  abbrev Makes : List Term → List Kind → Option Expression → List Expression → Type 0
  Makes done ks o es = (x : Expression) × (rest : List Expression) × (o ≡ Some x) × (all_are reg c done ks ≡ Some rest) × (es ≡ x ∷ rest)

  -- where the terms before a part fit what it asks
  abbrev Goes : List Term → List Term → Kind → List Kind → List Expression → Option Expression → Part → Type 0
  Goes inner done k ks es o q = all_are reg c inner (kinds_in reg q k ks) ≡ Some es → Makes done ks o (put_part es q)

  finish : (t : Term) (done : List Term) (k : Kind) (ks : List Kind) (o : Option Expression) (es : List Expression) → expression_of reg c t k ≡ o → Makes done ks o es
      → all_are reg c (t ∷ done) (k ∷ ks) ≡ Some es
  finish t done k ks o es is m = together t done k ks m.0 m.1 (is ∙ m.2) m.3 ∙ ap Some (sym m.4)

  whole_goes : (done : List Term) (k : Kind) (ks : List Kind) (es : List Expression) (x : Expression) → Goes done done k ks es (Some x) (part.whole x)
  unfolding kinds_in put_part
  whole_goes done k ks es x are = (x, es, refl, are, refl)

  any_goes : (t : Kind) (x : Term) (done : List Term) (ks : List Kind) (es : List Expression)
      → Goes (x ∷ done) done kd.any ks es (option_map (e.any t) (expression_of reg c x t)) (part.any t)
  unfolding kinds_in put_part
  any_goes t x done ks es are =
      let cut = apart x done t ks es are in
      (e.any t cut.0, cut.1, ap (option_map (e.any t)) cut.2, cut.3, ap (λ xs. put_part xs (part.any t)) cut.4)

  sequence_is : (all : Kind → Option Expressions) (k : Kind) → elements_at (kd.sequence k) all ≡ option_map (sequence_in k) (all k)
  sequence_is all kd.void = refl
  sequence_is all kd.char = refl
  sequence_is all kd.boolean = refl
  sequence_is all kd.byte = refl
  sequence_is all kd.short = refl
  sequence_is all kd.unsigned_short = refl
  sequence_is all kd.long = refl
  sequence_is all kd.unsigned_long = refl
  sequence_is all kd.hyper = refl
  sequence_is all kd.unsigned_hyper = refl
  sequence_is all kd.str = refl
  sequence_is all kd.kind = refl
  sequence_is all kd.any = refl
  sequence_is all (kd.enum x) = refl
  sequence_is all (kd.struct x) = refl
  sequence_is all (kd.exception x) = refl
  sequence_is all (kd.interface x) = refl
  sequence_is all (kd.sequence x) = refl

  none_at : (k : Kind) → all_at reg c none k ≡ Some e.none
  unfolding all_at
  none_at k = refl

  elements_go : (n : ℕ) (done : List Term) (k : Kind) (ks : List Kind) (es : List Expression) → n ≤ length done
      → Goes done (drop n done) (kd.sequence k) ks es (elements_at (kd.sequence k) (all_at reg c (gathered n done none))) (part.elements k n)
  unfolding kinds_in put_part
  elements_go n done k ks es enough are =
      let so = gathered_are n done none k ks es e.none enough are (none_at k) in (
        sequence_in k (expressions (reverse (take n es))),
        drop n es,
        sequence_is (all_at reg c (gathered n done none)) k ∙ ap (option_map (sequence_in k)) (so.0 ∙ ap Some (in_order n es)),
        so.1,
        refl,
      )

  members_go : (name : List ℕ) (n : ℕ) (done : List Term) (k : Kind) (ks : List Kind) (es : List Expression) → n ≤ length done → n ≡ length (member_kinds reg name)
      → Goes done (drop n done) k ks es (option_map (e.tuple name) (each_at reg c (gathered n done none) (member_kinds reg name))) (part.members name n)
  unfolding kinds_in put_part
  members_go name n done k ks es enough is are =
      let so = turned_are (member_kinds reg name) ks done es (omega (arith, is, enough)) are in (
        e.tuple name (expressions (reverse (take n es))),
        drop n es,
        ap (option_map (e.tuple name))
            (ap (λ m. each_at reg c (gathered m done none) (member_kinds reg name)) is
            ∙ so.0 ∙ ap (λ m. Some (in_front m es e.none)) (sym is) ∙ ap Some (in_order n es)),
        ap (λ m. all_are reg c (drop m done) ks) is ∙ so.1 ∙ ap (λ m. Some (drop m es)) (sym is),
        refl,
      )

  operation_goes : (op : Operation) (t s : Term) (done : List Term) (k : Kind) (ks : List Kind) (es : List Expression)
      → Goes (t ∷ s ∷ done) done k ks es (both_values (expression_of reg c s k) (expression_of reg c t k) (λ x y. Some (e.operation op x y))) (part.operation op)
  unfolding kinds_in put_part
  operation_goes op t s done k ks es are =
      let last = apart t (s ∷ done) k (k ∷ ks) es are in
      let first = apart s done k ks last.1 last.3 in (
        e.operation op first.0 last.0,
        first.1,
        rw (first.2, last.2) refl,
        first.3,
        ap (λ xs. put_part xs (part.operation op)) (last.4 ∙ ap (λ xs. last.0 ∷ xs) first.4),
      )

  -- ---- one piece

  whole_made : (done : List Term) (k : Kind) (ks : List Kind) (q : Part) (es : List Expression) (o : Option Expression) → option_map part.whole o ≡ Some q → Goes done done k ks es o q
  whole_made done k ks q es None is = absurd cc
  whole_made done k ks q es (Some x) is = moved (Goes done done k ks es (Some x)) (part.whole x) q is (whole_goes done k ks es x)

  any_made : (x : Term) (done : List Term) (ks : List Kind) (q : Part) (es : List Expression) (o : Option Kind) (k : Kind) → any_part k o ≡ Some q
      → Goes (x ∷ done) done k ks es (any_at k o (expression_of reg c x)) q
  any_made x done ks q es (Some t) kd.any is = moved (Goes (x ∷ done) done kd.any ks es (option_map (e.any t) (expression_of reg c x t))) (part.any t) q is (any_goes t x done ks es)
  any_made x done ks q es None kd.any is = absurd cc
  any_made t done ks q es o kd.void is = absurd cc
  any_made t done ks q es o kd.char is = absurd cc
  any_made t done ks q es o kd.boolean is = absurd cc
  any_made t done ks q es o kd.byte is = absurd cc
  any_made t done ks q es o kd.short is = absurd cc
  any_made t done ks q es o kd.unsigned_short is = absurd cc
  any_made t done ks q es o kd.long is = absurd cc
  any_made t done ks q es o kd.unsigned_long is = absurd cc
  any_made t done ks q es o kd.hyper is = absurd cc
  any_made t done ks q es o kd.unsigned_hyper is = absurd cc
  any_made t done ks q es o kd.str is = absurd cc
  any_made t done ks q es o kd.kind is = absurd cc
  any_made t done ks q es o (kd.enum x) is = absurd cc
  any_made t done ks q es o (kd.struct x) is = absurd cc
  any_made t done ks q es o (kd.exception x) is = absurd cc
  any_made t done ks q es o (kd.interface x) is = absurd cc
  any_made t done ks q es o (kd.sequence x) is = absurd cc

  elements_made : (n : ℕ) (done : List Term) (ks : List Kind) (q : Part) (es : List Expression) → n ≤ length done → (k : Kind) → elements_part k n ≡ Some q
      → Goes done (drop n done) k ks es (elements_at k (all_at reg c (gathered n done none))) q
  elements_made n done ks q es enough (kd.sequence k) is =
      moved (Goes done (drop n done) (kd.sequence k) ks es (elements_at (kd.sequence k) (all_at reg c (gathered n done none)))) (part.elements k n) q is (elements_go n done k ks es enough)
  elements_made n done ks q es enough kd.void is = absurd cc
  elements_made n done ks q es enough kd.char is = absurd cc
  elements_made n done ks q es enough kd.boolean is = absurd cc
  elements_made n done ks q es enough kd.byte is = absurd cc
  elements_made n done ks q es enough kd.short is = absurd cc
  elements_made n done ks q es enough kd.unsigned_short is = absurd cc
  elements_made n done ks q es enough kd.long is = absurd cc
  elements_made n done ks q es enough kd.unsigned_long is = absurd cc
  elements_made n done ks q es enough kd.hyper is = absurd cc
  elements_made n done ks q es enough kd.unsigned_hyper is = absurd cc
  elements_made n done ks q es enough kd.str is = absurd cc
  elements_made n done ks q es enough kd.kind is = absurd cc
  elements_made n done ks q es enough kd.any is = absurd cc
  elements_made n done ks q es enough (kd.enum x) is = absurd cc
  elements_made n done ks q es enough (kd.struct x) is = absurd cc
  elements_made n done ks q es enough (kd.exception x) is = absurd cc
  elements_made n done ks q es enough (kd.interface x) is = absurd cc

  by_count : (name : List ℕ) (n : ℕ) (done : List Term) (k : Kind) (ks : List Kind) (q : Part) (es : List Expression) → n ≤ length done → (b : Bool) → (n == length (member_kinds reg name)) ≡ b
      → only_if b (Some (part.members name n)) ≡ Some q → Goes done (drop n done) k ks es (option_map (e.tuple name) (each_at reg c (gathered n done none) (member_kinds reg name))) q
  by_count name n done k ks q es enough false same is = absurd cc
  by_count name n done k ks q es enough true same is =
      moved (Goes done (drop n done) k ks es (option_map (e.tuple name) (each_at reg c (gathered n done none) (member_kinds reg name)))) (part.members name n) q is
      (members_go name n done k ks es enough (eqb-true n (length (member_kinds reg name)) same))

  members_made : (n : ℕ) (done : List Term) (ks : List Kind) (q : Part) (es : List Expression) → n ≤ length done → (k : Kind) → members_part reg k n ≡ Some q
      → Goes done (drop n done) k ks es (members_at reg k (each_at reg c (gathered n done none))) q
  members_made n done ks q es enough (kd.struct name) is = by_count name n done (kd.struct name) ks q es enough (n == length (member_kinds reg name)) refl is
  members_made n done ks q es enough (kd.exception name) is = by_count name n done (kd.exception name) ks q es enough (n == length (member_kinds reg name)) refl is
  members_made n done ks q es enough kd.void is = absurd cc
  members_made n done ks q es enough kd.char is = absurd cc
  members_made n done ks q es enough kd.boolean is = absurd cc
  members_made n done ks q es enough kd.byte is = absurd cc
  members_made n done ks q es enough kd.short is = absurd cc
  members_made n done ks q es enough kd.unsigned_short is = absurd cc
  members_made n done ks q es enough kd.long is = absurd cc
  members_made n done ks q es enough kd.unsigned_long is = absurd cc
  members_made n done ks q es enough kd.hyper is = absurd cc
  members_made n done ks q es enough kd.unsigned_hyper is = absurd cc
  members_made n done ks q es enough kd.str is = absurd cc
  members_made n done ks q es enough kd.kind is = absurd cc
  members_made n done ks q es enough kd.any is = absurd cc
  members_made n done ks q es enough (kd.enum x) is = absurd cc
  members_made n done ks q es enough (kd.interface x) is = absurd cc
  members_made n done ks q es enough (kd.sequence x) is = absurd cc

  operation_made : (op : Operation) (t s : Term) (done : List Term) (k : Kind) (ks : List Kind) (q : Part) (es : List Expression) (b : Bool) → only_if b (Some (part.operation op)) ≡ Some q
      → Goes (t ∷ s ∷ done) done k ks es (only_if b (both_values (expression_of reg c s k) (expression_of reg c t k) (λ x y. Some (e.operation op x y)))) q
  operation_made op t s done k ks q es false is = absurd cc
  operation_made op t s done k ks q es true is =
      moved (Goes (t ∷ s ∷ done) done k ks es (both_values (expression_of reg c s k) (expression_of reg c t k) (λ x y. Some (e.operation op x y)))) (part.operation op) q is
      (operation_goes op t s done k ks es)

  one_made : (p : Piece) (done : List Term) (k : Kind) (ks : List Kind) (q : Part) (es : List Expression) → held p ≤ length done → part_at reg c p k ≡ Some q
      → all_are reg c done (kinds_in reg q k ks) ≡ Some es → all_are reg c (put done p) (k ∷ ks) ≡ Some (put_part es q)
  unfolding put held part_at expression_of
  one_made (leaf t) done k ks q es enough is are =
      finish (plain.leaf t) done k ks (option_map e.constant (single reg k t)) (put_part es q) refl (whole_made done k ks q es (option_map e.constant (single reg k t)) is are)
  one_made (type_named t) done k ks q es enough is are =
      finish (plain.type_named t) done k ks (type_value k (type_of_text reg t)) (put_part es q) refl (whole_made done k ks q es (type_value k (type_of_text reg t)) is are)
  one_made void_any done k ks q es enough is are = finish plain.void_any done k ks (void_any_at k) (put_part es q) refl (whole_made done k ks q es (void_any_at k) is are)
  one_made (typed t) [] k ks q es enough is are = let bad : ⊥ = omega (arith, enough) in absurd bad
  one_made (typed t) (x ∷ done) k ks q es enough is are =
      finish (plain.typed t x) done k ks (any_at k (type_of_text reg t) (expression_of reg c x)) (put_part es q) refl (any_made x done ks q es (type_of_text reg t) k is are)
  one_made (elements n) done k ks q es enough is are =
      finish (plain.elements (gathered n done none)) (drop n done) k ks (elements_at k (all_at reg c (gathered n done none))) (put_part es q) refl (elements_made n done ks q es enough k is are)
  one_made (members n) done k ks q es enough is are =
      finish (plain.members (gathered n done none)) (drop n done) k ks (members_at reg k (each_at reg c (gathered n done none))) (put_part es q) refl (members_made n done ks q es enough k is are)
  one_made (word w) done k ks q es enough is are =
      finish (plain.word w) done k ks (word_at reg k w (kind_of_word c w)) (put_part es q) refl (whole_made done k ks q es (word_at reg k w (kind_of_word c w)) is are)
  one_made (operation op) [] k ks q es enough is are = let bad : ⊥ = omega (arith, enough) in absurd bad
  one_made (operation op) (t ∷ []) k ks q es enough is are = let bad : ⊥ = omega (arith, enough) in absurd bad
  one_made (operation op) (t ∷ s ∷ done) k ks q es enough is are =
      finish (plain.operation op s t) done k ks (only_if (is_whole k) (both_values (expression_of reg c s k) (expression_of reg c t k) (λ x y. Some (e.operation op x y)))) (put_part es q) refl
      (operation_made op t s done k ks q es (is_whole k) is are)

  -- ---- all pieces

  all_made : (ps : List Piece) (done : List Term) (last : List Kind) (qs : List Part) (ks : List Kind) (es : List Expression) → AreBuilt done ps → all_before reg c ps (asked [] last) ≡ asked qs ks
      → all_are reg c done ks ≡ Some es → all_are reg c (put_all done ps) last ≡ Some (put_parts es qs)
  unfolding put_all AreBuilt all_before put_parts piece_before
  all_made [] done last qs ks es built is are =
      let parts : [] ≡ qs = cc in
      let kinds : last ≡ ks = cc in
      ap (all_are reg c done) kinds ∙ are ∙ ap (λ xs. Some (put_parts es xs)) parts
  all_made (p ∷ ps) done last qs ks es built is are = behind (all_before reg c ps (asked [] last)) refl is (λ rs k js xs. all_made ps (put done p) last rs (k ∷ js) xs built.1)
    where
      here : (rs : List Part) (k : Kind) (js : List Kind) (o : Option Part) → all_before reg c ps (asked [] last) ≡ asked rs (k ∷ js) → part_at reg c p k ≡ o → placed reg rs k js o ≡ asked qs ks
          → ((rs : List Part) (k : Kind) (js : List Kind) (xs : List Expression) → all_before reg c ps (asked [] last) ≡ asked rs (k ∷ js) → all_are reg c (put done p) (k ∷ js) ≡ Some xs
          → all_are reg c (put_all (put done p) ps) last ≡ Some (put_parts xs rs))
          → all_are reg c (put_all (put done p) ps) last ≡ Some (put_parts es qs)
      here rs k js None given told same more_made = absurd cc
      here rs k js (Some q) given told same more_made =
          let parts : q ∷ rs ≡ qs = cc in
          let kinds : kinds_in reg q k js ≡ ks = cc in
          more_made rs k js (put_part es q) given (one_made p done k js q es built.0 told (ap (all_are reg c done) kinds ∙ are))
          ∙ ap (λ xs. Some (put_parts es xs)) parts

      behind : (a : Asked) → all_before reg c ps (asked [] last) ≡ a → piece_before reg c p a ≡ asked qs ks → ((rs : List Part) (k : Kind) (js : List Kind) (xs : List Expression) → all_before reg c ps (asked [] last) ≡ asked rs (k ∷ js) → all_are reg c (put done p) (k ∷ js) ≡ Some xs
          → all_are reg c (put_all (put done p) ps) last ≡ Some (put_parts xs rs))
          → all_are reg c (put_all (put done p) ps) last ≡ Some (put_parts es qs)
      behind misfit given same more_made = absurd cc
      behind (asked rs []) given same more_made = absurd cc
      behind (asked rs (k ∷ js)) given same more_made = here rs k js (part_at reg c p k) given refl same more_made

  -- ---- one term

  module _ (ps : List Piece) (t : Term) (k : Kind) (built : AreBuilt [] ps) (one : put_all [] ps ≡ t ∷ []) where
    fits_alone : all_fit reg c (t ∷ []) (k ∷ []) ≡ is_some (expression_of reg c t k)
    unfolding all_fit
    fits_alone = and_true (is_some (expression_of reg c t k))

    fits_so : is_some (expression_of reg c t k) ≡ fits_at reg c [] (all_before reg c ps (asked [] (k ∷ [])))
    unfolding fits_at
    fits_so = sym fits_alone ∙ ap (λ xs. all_fit reg c xs (k ∷ [])) (sym one) ∙ asked_fits (put_all [] ps) ∙ all_fit_so reg c ps [] (asked [] (k ∷ [])) built
      where
        asked_fits : (done : List Term) → all_fit reg c done (k ∷ []) ≡ fits_at reg c done (asked [] (k ∷ []))
        asked_fits done = refl

    -- what the pieces come to, backward from the last one
    by_asked : (a : Asked) → all_before reg c ps (asked [] (k ∷ [])) ≡ a → expression_of reg c t k ≡ made_of a
    unfolding fits_at all_fit all_are
    by_asked misfit is = nothing (expression_of reg c t k) (fits_so ∙ ap (fits_at reg c []) is)
    by_asked (asked qs (j ∷ ks)) is = nothing (expression_of reg c t k) (fits_so ∙ ap (fits_at reg c []) is)
    by_asked (asked qs []) is =
        let made : all_are reg c (t ∷ []) (k ∷ []) ≡ Some (put_parts [] qs) = ap (λ xs. all_are reg c xs (k ∷ [])) (sym one) ∙ all_made ps [] (k ∷ []) qs [] [] built is refl in
        let cut = apart t [] k [] (put_parts [] qs) made in
        let rest : [] ≡ cut.1 = cc in
        cut.2 ∙ sym (ap alone (cut.4 ∙ ap (λ xs. cut.0 ∷ xs) (sym rest)))

    pub expression_is : expression_of reg c t k ≡ made_of (all_before reg c ps (asked [] (k ∷ [])))
    expression_is = by_asked (all_before reg c ps (asked [] (k ∷ []))) refl

    pub fits_where : (qs : List Part) → all_before reg c ps (asked [] (k ∷ [])) ≡ asked qs [] → is_some (expression_of reg c t k) ≡ true
    unfolding fits_at all_fit
    fits_where qs is = fits_so ∙ ap (fits_at reg c []) is
