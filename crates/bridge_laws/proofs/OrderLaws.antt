-- The order in which `answer` works ends in one way, however many steps are given to it.
use Rattle.std.proofs.Common.{◌≡◌, sym, ◌∙◌, ap, ℕ, zero, suc, ◌+◌, List, Option, None, Some, arith}
use Rattle.bridge_model.specs.Orders.{Working, begins_work, works_once, goes_on_working, works, IsAnswered}
use Rattle.bridge_model.specs.Settings.{Setting}

-- more steps than are needed change nothing
more_steps : (n m : ℕ) (g : Setting) (w v : Working) → works n g w ≡ Some v → works (n + m) g w ≡ Some v
unfolding works
more_steps zero m g w v is = absurd (cc)
more_steps (suc n) m g w v is =
    let sum : suc n + m ≡ suc (n + m) = omega arith in
    rw sum (of_next (works n g) (works (n + m) g) (λ u to. more_steps n m g u v to) (works_once g w) is)
  where
    of_next : (few many : Working → Option Working) → ((u : Working) → few u ≡ Some v → many u ≡ Some v) → (next : Option Working)
        → goes_on_working few w next ≡ Some v → goes_on_working many w next ≡ Some v
    of_next few many more None to = to
    of_next few many more (Some u) to = more u to

same_end : (n m : ℕ) (g : Setting) (w u v : Working) → works n g w ≡ Some u → works m g w ≡ Some v → u ≡ v
same_end n m g w u v one other =
    let first : works (n + m) g w ≡ Some u = more_steps n m g w u one in
    let turned : m + n ≡ n + m = omega arith in
    let second : works (n + m) g w ≡ Some v = rw (sym turned) (more_steps m n g w v other) in
    cc

-- what is written is one
pub one_answer : (g : Setting) (bytes one other : List ℕ) → IsAnswered g bytes one → IsAnswered g bytes other → one ≡ other
one_answer g bytes one other a b =
    sym a.written ∙ (ap (λ w. w.told.bytes_out) (same_end a.steps b.steps g (begins_work g bytes) a.last b.last a.works b.works) ∙ b.written)
