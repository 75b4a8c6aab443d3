-- Each part of a term finds the expressions that it holds, and one is left: the parts hold as many as the pieces do.
use Rattle.std.proofs.Common.{◌≡◌, ℕ, suc, ◌≤◌, ◌+◌, Bool, true, false, List, [], ◌∷◌, length, map, Option, None, Some, IsTrue, refl, sym, ap, ◌∙◌, arith}
use Rattle.std.specs.Option.{option_map}
use Rattle.std.proofs.lemmas.List.{length-drop}
use Rattle.uno_model.specs.Entities.{Entity}
use Rattle.uno_model.specs.Kinds.{Kind}
use Rattle.uno_model.specs.Kinds as kd
use Rattle.uno_model.specs.NamedTypes.{type_of_text}
use Rattle.literal_model.specs.Readings.{single}
use Rattle.plan_model.specs.Contexts.{Context, kind_of_word}
use Rattle.plan_model.specs.Expressions.{Expression}
use Rattle.plan_model.specs.Expressions as e
use Rattle.plan_model.specs.Lines.{Term}
use Rattle.plan_model.specs.Typing.{is_whole, only_if, type_value, void_any_at, word_at}
use Rattle.term_pieces.specs.Parts.{Asked, misfit, asked, any_part, elements_part, members_part, part_at, placed, piece_before, all_before, put_part}
use Rattle.term_pieces.specs.Parts as plain
use Rattle.term_pieces.specs.Pieces.{Piece, held, put, put_all, AreBuilt, is_term}
use Rattle.term_pieces.specs.Pieces as piece
use Rattle.term_pieces.proofs.PieceLaws.{is_one, put_length}
use Rattle.plan_checks.specs.Parts.{MakeOne, held_in}

-- ---- one part

whole_holds : (r : Option Expression) (q : plain.Part) → option_map plain.whole r ≡ Some q → held_in q ≡ 0
whole_holds None q is = absurd cc
whole_holds (Some x) q is = let same : plain.whole x ≡ q = cc in ap held_in (sym same)

only_one : (b : Bool) (x q : plain.Part) → only_if b (Some x) ≡ Some q → x ≡ q
only_one true x q is = cc
only_one false x q is = absurd cc

any_holds : (k : Kind) (r : Option Kind) (q : plain.Part) → any_part k r ≡ Some q → held_in q ≡ 1
any_holds kd.any (Some t) q is = let same : plain.any t ≡ q = cc in ap held_in (sym same)
any_holds kd.any None q is = absurd cc
any_holds k r q is = absurd cc

elements_hold : (k : Kind) (n : ℕ) (q : plain.Part) → elements_part k n ≡ Some q → held_in q ≡ n
elements_hold (kd.sequence k) n q is = let same : plain.elements k n ≡ q = cc in ap held_in (sym same)
elements_hold k n q is = absurd cc

members_hold : (reg : List Entity) (k : Kind) (n : ℕ) (q : plain.Part) → members_part reg k n ≡ Some q → held_in q ≡ n
members_hold reg (kd.struct name) n q is = ap held_in (sym (only_one _ (plain.members name n) q is))
members_hold reg (kd.exception name) n q is = ap held_in (sym (only_one _ (plain.members name n) q is))
members_hold reg k n q is = absurd cc

module _ (reg : List Entity) (c : Context) where
  part_holds : (p : Piece) (k : Kind) (q : plain.Part) → part_at reg c p k ≡ Some q → held_in q ≡ held p
  unfolding part_at held
  part_holds (piece.leaf t) k q is = whole_holds (option_map e.constant (single reg k t)) q is
  part_holds (piece.type_named t) k q is = whole_holds (type_value k (type_of_text reg t)) q is
  part_holds piece.void_any k q is = whole_holds (void_any_at k) q is
  part_holds (piece.typed t) k q is = any_holds k (type_of_text reg t) q is
  part_holds (piece.elements n) k q is = elements_hold k n q is
  part_holds (piece.members n) k q is = members_hold reg k n q is
  part_holds (piece.word w) k q is = whole_holds (word_at reg k w (kind_of_word c w)) q is
  part_holds (piece.operation op) k q is = ap held_in (sym (only_one (is_whole k) (plain.operation op) q is))

  -- ---- all parts

  placed_holds : (p : Piece) (k : Kind) (rs qs : List plain.Part) (js ks : List Kind) (ns : List ℕ) (r : Option plain.Part) → part_at reg c p k ≡ r → placed reg rs k js r ≡ asked qs ks
      → map held_in rs ≡ ns → map held_in qs ≡ held p ∷ ns
  placed_holds p k rs qs js ks ns None at is hold = absurd cc
  placed_holds p k rs qs js ks ns (Some q) at is hold =
      let same : q ∷ rs ≡ qs = cc in
      sym (ap (map held_in) same) ∙ (λ j. part_holds p k q at j ∷ hold j)

  more_hold : (p : Piece) (qs : List plain.Part) (ks : List Kind) (ns : List ℕ) (a : Asked) → ((rs : List plain.Part) (js : List Kind) → a ≡ asked rs js → map held_in rs ≡ ns)
      → piece_before reg c p a ≡ asked qs ks → map held_in qs ≡ held p ∷ ns
  unfolding piece_before
  more_hold p qs ks ns misfit hold is = absurd cc
  more_hold p qs ks ns (asked rs []) hold is = absurd cc
  more_hold p qs ks ns (asked rs (k ∷ js)) hold is = placed_holds p k rs qs js ks ns (part_at reg c p k) refl is (hold rs (k ∷ js) refl)

  parts_hold : (ps : List Piece) (qs : List plain.Part) (js ks : List Kind) → all_before reg c ps (asked [] js) ≡ asked qs ks → map held_in qs ≡ map held ps
  unfolding all_before
  parts_hold [] qs js ks is = let same : [] ≡ qs = cc in ap (map held_in) (sym same)
  parts_hold (p ∷ ps) qs js ks is = more_hold p qs ks (map held ps) (all_before reg c ps (asked [] js)) (λ rs hs at. parts_hold ps rs js hs at) is

-- ---- what is left behind them

part_length : (q : plain.Part) (es : List Expression) → held_in q ≤ length es → length (put_part es q) + held_in q ≡ suc (length es)
unfolding put_part
part_length (plain.whole x) es enough = omega arith
part_length (plain.any t) [] enough = let bad : ⊥ = omega (arith, enough) in absurd bad
part_length (plain.any t) (x ∷ es) enough = omega arith
part_length (plain.elements k n) es enough = let left = length-drop n es in omega (arith, left, enough)
part_length (plain.members name n) es enough = let left = length-drop n es in omega (arith, left, enough)
part_length (plain.operation op) [] enough = let bad : ⊥ = omega (arith, enough) in absurd bad
part_length (plain.operation op) (x ∷ []) enough = let bad : ⊥ = omega (arith, enough) in absurd bad
part_length (plain.operation op) (y ∷ x ∷ es) enough = omega arith

one_behind : (ps : List Piece) (qs : List plain.Part) (done : List Term) (es : List Expression) → map held_in qs ≡ map held ps → length es ≡ length done → AreBuilt done ps
    → length (put_all done ps) ≡ 1 → MakeOne es qs
unfolding AreBuilt put_all MakeOne
one_behind [] [] done es same long built one = long ∙ one
one_behind [] (q ∷ qs) done es same long built one = absurd cc
one_behind (p ∷ ps) [] done es same long built one = absurd cc
one_behind (p ∷ ps) (q ∷ qs) done es same long built one =
    let here : held_in q ≡ held p = cc in
    let rest : map held_in qs ≡ map held ps = cc in
    let enough : held_in q ≤ length es = omega (arith, here, long, built.0) in
    let new = part_length q es enough in
    let old = put_length p done built.0 in
    (enough, one_behind ps qs (put done p) (put_part es q) rest (omega (arith, here, long, new, old)) built.1 one)

pub make_one : (reg : List Entity) (c : Context) (ps : List Piece) → IsTrue (is_term ps) → (k : Kind) (qs : List plain.Part) → all_before reg c ps (asked [] (k ∷ [])) ≡ asked qs [] → MakeOne [] qs
make_one reg c ps is k qs parts =
    let one = is_one ps is in
    one_behind ps qs [] [] (parts_hold reg c ps qs (k ∷ []) [] parts) refl one.0 (ap length one.1)
