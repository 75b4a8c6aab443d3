-- The text of a summary, put together from its lines.
use Rattle.std.proofs.Common.{◌≡◌, ℕ, ℤ, List, ◌++◌, codes, append_assoc, ap, ◌∙◌}
use Rattle.std.specs.Fmt.{decimal, signed_decimal}
use Rattle.bridge_model.specs.Answers.{Counts}
use Rattle.world_model.specs.Moves.{Progress}
use Rattle.report_model.specs.Drills.{how_many_say, sum_in, summary}
use Rattle.report_model.specs.Reports.{counts_text}

-- eleven pieces, and two behind them
eleven_put : (p1 p2 p3 p4 p5 p6 p7 p8 p9 p10 p11 x y : List ℕ)
    → ((p1 ++ (p2 ++ (p3 ++ (p4 ++ (p5 ++ (p6 ++ (p7 ++ (p8 ++ (p9 ++ (p10 ++ p11)))))))))) ++ x) ++ y ≡ p1 ++ (p2 ++ (p3 ++ (p4 ++ (p5 ++ (p6 ++ (p7 ++ (p8 ++ (p9 ++ (p10 ++ (p11 ++ (x ++ y)))))))))))
eleven_put p1 p2 p3 p4 p5 p6 p7 p8 p9 p10 p11 x y = simp append_assoc

pub summed_up : (rounds seed returned same : ℕ) (sum : ℤ) (p : Progress) (a b : Counts) (t u v : List ℕ) → returned ≡ how_many_say (codes "returned ") p → same ≡ how_many_say (codes "same") p
    → sum ≡ sum_in p
    → t ≡ codes "drill " ++ (decimal rounds ++ (codes " " ++ (decimal seed ++ (codes "\nreturned " ++ (decimal returned ++ (codes "\nsame " ++ (decimal same ++ (codes "\nsum " ++ (signed_decimal sum ++ codes "\n")))))))))
    → u ≡ t ++ counts_text (codes "A") a → v ≡ u ++ counts_text (codes "B") b → v ≡ summary rounds seed p a b
unfolding summary
summed_up rounds seed returned same sum p a b t u v one two three text first second =
    second
    ∙ (ap (λ w. w ++ counts_text (codes "B") b) (first ∙ ap (λ w. w ++ counts_text (codes "A") a) (rw (one, two, three) at text))
    ∙ eleven_put (codes "drill ") (decimal rounds) (codes " ") (decimal seed) (codes "\nreturned ") (decimal (how_many_say (codes "returned ") p)) (codes "\nsame ")
    (decimal (how_many_say (codes "same") p)) (codes "\nsum ") (signed_decimal (sum_in p)) (codes "\n") (counts_text (codes "A") a) (counts_text (codes "B") b))
