-- The plan of a text is made by lines of which none is wrong.
use Rattle.std.proofs.Common.{◌≡◌, refl, ℕ, Bool, true, false, List, [], ◌∷◌, Option, None, Some, Ok, inl, inr}
use Rattle.uno_model.specs.Entities.{Entity}
use Rattle.plan_model.specs.Building.{behind, behind_all}
use Rattle.plan_model.specs.Contexts.{Context, Block, at_top, in_behaviour, in_method, in_thread}
use Rattle.plan_model.specs.Keeps.{reason_of, first_wrong, Makes, KeepsTheRules, end_of, ByReason, Comes, ByFront, IsTextOf}
use Rattle.plan_model.specs.Lines.{Line}
use Rattle.plan_model.specs.PlanText.{Numbered}
use Rattle.plan_model.specs.Plans.{Plan}
use Rattle.plan_model.specs.declared.line_reason.LineReason.{LineReason}

-- a plan comes of the end where no block is open, and is the one that was made
ends_whole : (last : ℕ) (p q : Plan) (b : Block) → Ok q ≡ end_of last p b → (b ≡ at_top) × (p ≡ q)
ends_whole last p q at_top e = (refl, cc)
ends_whole last p q (in_behaviour x) e = absurd (cc)
ends_whole last p q (in_method x m f) e = absurd (cc)
ends_whole last p q (in_thread ss) e = absurd (cc)

-- and comes of a line only where that is not wrong
passes : (r : Option LineReason) (n : ℕ) (q : Plan) (Behind : Type 0) → ByReason r n (Ok q) Behind → (r ≡ None) × Behind
passes (Some why) n q Behind e = absurd (cc)
passes None n q Behind b = (refl, b)

one_more : (reg : List Entity) (c : Context) (l : Line) (q : Plan) → reason_of reg c l ≡ None → Makes reg (behind reg l c) q → Makes reg c q
unfolding first_wrong behind_all
one_more reg c l q right m = record { lines = l ∷ m.lines; right = rw (right, m.right) refl; closed = m.closed; made = m.made }

comes_of_lines : (reg : List Entity) (last : ℕ) (c : Context) (ns : List Numbered) (q : Plan) → Comes reg last c ns (Ok q) → Makes reg c q
unfolding Comes first_wrong behind_all
comes_of_lines reg last c [] q e =
    let whole = ends_whole last c.plan q c.block e in
    record { lines = []; right = refl; closed = whole.0; made = whole.1 }
comes_of_lines reg last c (n ∷ ns) q (inl none) = let e = none.1 in absurd (cc)
comes_of_lines reg last c (n ∷ ns) q (inr (l, said, by)) =
    let right = passes (reason_of reg c l) n.number q (Comes reg last (behind reg l c) ns (Ok q)) by in
    one_more reg c l q right.0 (comes_of_lines reg last (behind reg l c) ns q right.1)

by_front : (large begins : Bool) (q : Plan) (Behind : Type 0) → ByFront large begins (Ok q) Behind → Behind
by_front true begins q Behind e = absurd (cc)
by_front false false q Behind e = absurd (cc)
by_front false true q Behind b = b

pub text_keeps : (reg : List Entity) (text : List ℕ) (q : Plan) → IsTextOf reg text q → KeepsTheRules reg q
text_keeps reg text q is = comes_of_lines _ _ _ _ _ (by_front _ _ _ _ is)
