-- The expression of the parts of a term.
use Rattle.std.proofs.Common.{◌≡◌, ℕ, zero, suc, ◌≤◌, ◌+◌, List, [], ◌∷◌, ◌++◌, length, map, take, drop, reverse, refl, sym, ap, subst, ◌∙◌, arith}
use Rattle.std.proofs.lemmas.List.{map-append, reverse-append, reverse-reverse, length-append, length-drop, length-map, length-reverse, nil_from_length, take-append-drop, take-map, drop-map}
use Rattle.uno_model.specs.Kinds.{Kind}
use Rattle.plan_model.specs.Expressions.{Expression, expressions}
use Rattle.plan_model.specs.Expressions as e
use Rattle.plan_model.specs.declared.operation.Operation.{Operation}
use Rattle.term_pieces.specs.Parts.{put_part, put_parts, sequence_in}
use Rattle.term_pieces.specs.Parts as plain
use Rattle.plan_checks.proofs.PartLemmas.{turned}
use Rattle.plan_checks.specs.Parts.{MakeOne, held_in}

map_reverse : {X Y : Type 0} (f : X → Y) (xs : List X) → map f (reverse xs) ≡ reverse (map f xs)
map_reverse f [] = refl
map_reverse f (x ∷ xs) =
    ap (map f) (reverse-append (x ∷ []) xs) ∙ map-append f (reverse xs) (x ∷ []) ∙ ap (λ ys. ys ++ f x ∷ []) (map_reverse f xs) ∙ sym (reverse-append (f x ∷ []) (map f xs))

-- ---- all parts

pub one_made : {X : Type 0} (f : X → Expression) (all rest : List X) (x : X) (es : List Expression) → reverse (map f all) ≡ es → all ≡ rest ++ x ∷ [] → length all ≡ 1 → es ≡ f x ∷ []
one_made f all rest x es is cut one =
    let long : length all ≡ length rest + 1 = ap length cut ∙ length-append rest (x ∷ []) in
    let alone : rest ≡ [] = nil_from_length rest (omega (arith, long, one)) in
    sym is ∙ turned f all rest x cut ∙ ap (λ xs. f x ∷ reverse (map f xs)) alone

-- where nothing is made yet
pub nothing_made : {X : Type 0} (f : X → Expression) (olds : List X) (qs : List plain.Part) → olds ≡ [] → MakeOne [] qs → MakeOne (reverse (map f olds)) qs
nothing_made f olds qs empty makes = subst (λ xs. MakeOne (reverse (map f xs)) qs) (sym empty) makes

pub none_made : {X : Type 0} (f : X → Expression) (olds : List X) (qs : List plain.Part) (es : List Expression) → olds ≡ [] → es ≡ put_parts (reverse (map f olds)) qs → es ≡ put_parts [] qs
none_made f olds qs es empty is = is ∙ ap (λ xs. put_parts (reverse (map f xs)) qs) empty

pub part_put : {X : Type 0} (f : X → plain.Part) (parts rest : List X) (q : X) (es news : List Expression) (target : List Expression) → parts ≡ rest ++ q ∷ [] → news ≡ put_part es (f q)
    → put_parts es (reverse (map f parts)) ≡ target → put_parts news (reverse (map f rest)) ≡ target
unfolding put_parts
part_put f parts rest q es news target cut made so_far = ap (λ xs. put_parts xs (reverse (map f rest))) made ∙ sym (ap (put_parts es) (turned f parts rest q cut)) ∙ so_far

pub parts_end : {X : Type 0} (f : X → plain.Part) (parts : List X) (es target : List Expression) → parts ≡ [] → put_parts es (reverse (map f parts)) ≡ target → es ≡ target
unfolding put_parts
parts_end f parts es target none so_far = sym (ap (λ qs. put_parts es (reverse (map f qs))) none) ∙ so_far

-- each part finds what it holds
long_so : {X : Type 0} (f : X → Expression) (made : List X) → length (reverse (map f made)) ≡ length made
long_so f made = length-reverse (map f made) ∙ length-map made f

pub part_finds : {X Y : Type 0} (f : X → plain.Part) (g : Y → Expression) (made : List Y) (parts rest : List X) (q : X) → parts ≡ rest ++ q ∷ []
    → MakeOne (reverse (map g made)) (reverse (map f parts)) → held_in (f q) ≤ length made
unfolding MakeOne
part_finds f g made parts rest q cut makes =
    let here = (subst (MakeOne (reverse (map g made))) (turned f parts rest q cut) makes).0 in
    let long = long_so g made in
    omega (arith, here, long)

pub part_makes : {X : Type 0} (f : X → plain.Part) (parts rest : List X) (q : X) (es news : List Expression) → parts ≡ rest ++ q ∷ [] → news ≡ put_part es (f q)
    → MakeOne es (reverse (map f parts)) → MakeOne news (reverse (map f rest))
unfolding MakeOne
part_makes f parts rest q es news cut made makes =
    subst (λ xs. MakeOne xs (reverse (map f rest))) (sym made) (subst (MakeOne es) (turned f parts rest q cut) makes).1

pub one_left : {X Y : Type 0} (f : X → plain.Part) (g : Y → Expression) (made : List Y) (parts : List X) → parts ≡ [] → MakeOne (reverse (map g made)) (reverse (map f parts)) → length made ≡ 1
unfolding MakeOne
one_left f g made parts none makes = sym (long_so g made) ∙ subst (λ qs. MakeOne (reverse (map g made)) (reverse (map f qs))) none makes

-- ---- one part

module _ {X : Type 0} (f : X → Expression) where
  pub whole_put : (olds news : List X) (x : X) → news ≡ olds ++ x ∷ [] → reverse (map f news) ≡ put_part (reverse (map f olds)) (plain.whole (f x))
  unfolding put_part
  whole_put olds news x pushed = turned f news olds x pushed

  pub any_put : (olds rest news : List X) (content whole : X) (k : Kind) → olds ≡ rest ++ content ∷ [] → f whole ≡ e.any k (f content) → news ≡ rest ++ whole ∷ []
      → reverse (map f news) ≡ put_part (reverse (map f olds)) (plain.any k)
  unfolding put_part
  any_put olds rest news content whole k cut is pushed =
      turned f news rest whole pushed ∙ ap (λ x. x ∷ reverse (map f rest)) is ∙ sym (ap (λ es. put_part es (plain.any k)) (turned f olds rest content cut))

  -- those that are taken, in their order
  in_order : (olds all : List X) (n : ℕ) → all ≡ reverse (take n (reverse olds)) → map f all ≡ reverse (take n (reverse (map f olds)))
  in_order olds all n is =
      ap (map f) is ∙ map_reverse f (take n (reverse olds)) ∙ ap reverse (sym (take-map f n (reverse olds)) ∙ ap (take n) (map_reverse f olds))

  below : (olds rest : List X) (n : ℕ) → reverse rest ≡ drop n (reverse olds) → reverse (map f rest) ≡ drop n (reverse (map f olds))
  below olds rest n is = sym (map_reverse f rest) ∙ ap (map f) is ∙ sym (drop-map f n (reverse olds)) ∙ ap (drop n) (map_reverse f olds)

  pub elements_put : (olds rest news all : List X) (n : ℕ) (k : Kind) (whole : X) → all ≡ reverse (take n (reverse olds)) → reverse rest ≡ drop n (reverse olds)
      → f whole ≡ sequence_in k (expressions (map f all)) → news ≡ rest ++ whole ∷ [] → reverse (map f news) ≡ put_part (reverse (map f olds)) (plain.elements k n)
  unfolding put_part
  elements_put olds rest news all n k whole taken left is pushed =
      turned f news rest whole pushed ∙ ap (λ x. x ∷ reverse (map f rest)) (is ∙ ap (λ es. sequence_in k (expressions es)) (in_order olds all n taken))
      ∙ ap (λ es. sequence_in k (expressions (reverse (take n (reverse (map f olds))))) ∷ es) (below olds rest n left)

  pub members_put : (olds rest news all : List X) (n : ℕ) (name : List ℕ) (whole : X) → all ≡ reverse (take n (reverse olds)) → reverse rest ≡ drop n (reverse olds)
      → f whole ≡ e.tuple name (expressions (map f all)) → news ≡ rest ++ whole ∷ [] → reverse (map f news) ≡ put_part (reverse (map f olds)) (plain.members name n)
  unfolding put_part
  members_put olds rest news all n name whole taken left is pushed =
      turned f news rest whole pushed ∙ ap (λ x. x ∷ reverse (map f rest)) (is ∙ ap (λ es. e.tuple name (expressions es)) (in_order olds all n taken))
      ∙ ap (λ es. e.tuple name (expressions (reverse (take n (reverse (map f olds))))) ∷ es) (below olds rest n left)

  pub operation_put : (olds mid rest news : List X) (op : Operation) (right left whole : X) → olds ≡ mid ++ right ∷ [] → mid ≡ rest ++ left ∷ [] → f whole ≡ e.operation op (f left) (f right)
      → news ≡ rest ++ whole ∷ [] → reverse (map f news) ≡ put_part (reverse (map f olds)) (plain.operation op)
  unfolding put_part
  operation_put olds mid rest news op right left whole last first is pushed =
      turned f news rest whole pushed ∙ ap (λ x. x ∷ reverse (map f rest)) is
      ∙ sym (ap (λ es. put_part es (plain.operation op)) (turned f olds mid right last ∙ ap (λ es. f right ∷ es) (turned f mid rest left first)))

-- ---- expressions that are taken

module _ {X : Type 0} where
  take_front : (xs ys : List X) (n : ℕ) → length xs ≡ n → take n (xs ++ ys) ≡ xs
  take_front [] ys zero long = refl
  take_front [] ys (suc n) long = absurd cc
  take_front (x ∷ xs) ys zero long = absurd cc
  take_front (x ∷ xs) ys (suc n) long = ap (λ zs. x ∷ zs) (take_front xs ys n (omega (arith, long)))

  drop_front : (xs ys : List X) (n : ℕ) → length xs ≡ n → drop n (xs ++ ys) ≡ ys
  drop_front [] ys zero long = refl
  drop_front [] ys (suc n) long = absurd cc
  drop_front (x ∷ xs) ys zero long = absurd cc
  drop_front (x ∷ xs) ys (suc n) long = drop_front xs ys n (omega (arith, long))

  module _ (olds : List X) (n at : ℕ) (enough : n ≤ length olds) (place : at + n ≡ length olds) where
    cut_there : reverse olds ≡ reverse (drop at olds) ++ reverse (take at olds)
    cut_there = ap reverse (sym (take-append-drop at olds)) ∙ reverse-append (take at olds) (drop at olds)

    so_long : length (reverse (drop at olds)) ≡ n
    so_long =
        let same = length-reverse (drop at olds) in
        let left = length-drop at olds in
        omega (arith, same, left, place)

    pub last_taken : (all : List X) → all ≡ drop at olds → all ≡ reverse (take n (reverse olds))
    last_taken all is =
        is ∙ sym (reverse-reverse (drop at olds)) ∙ ap reverse (sym (ap (take n) cut_there ∙ take_front (reverse (drop at olds)) (reverse (take at olds)) n so_long))

    pub last_left : (rest : List X) → rest ≡ take at olds → reverse rest ≡ drop n (reverse olds)
    last_left rest is = ap reverse is ∙ sym (ap (drop n) cut_there ∙ drop_front (reverse (drop at olds)) (reverse (take at olds)) n so_long)
