-- The texts of a round and of a thread, put together from their lines.
use Rattle.std.proofs.Common.{◌≡◌, ℕ, List, ◌++◌, codes, append_assoc, ap, ◌∙◌}
use Rattle.std.specs.Fmt.{decimal}
use Rattle.std.specs.List.{flat_map, range_with_len}
use Rattle.report_model.specs.Drills.{depth_of, round_in, round_text, thread_text}

-- three pieces, one after the other
three_put : (a b c d x y z : List ℕ) → b ≡ a ++ x → c ≡ b ++ y → d ≡ c ++ z → d ≡ a ++ (x ++ (y ++ z))
three_put a b c d x y z one two three = rw (three, two, one) (simp append_assoc)

pub thread_put : (rounds seed k : ℕ) (a b c d : List ℕ) → b ≡ a ++ codes "thread\nask n demo.XNode = \"node\"\n" → c ≡ b ++ flat_map (round_in seed k) (range_with_len 0 rounds) → d ≡ c ++ codes "end\n"
    → d ≡ a ++ thread_text rounds seed k
unfolding thread_text
thread_put rounds seed k a b c d one two three =
    three_put a b c d (codes "thread\nask n demo.XNode = \"node\"\n") (flat_map (round_in seed k) (range_with_len 0 rounds)) (codes "end\n") one two three

-- nine pieces, and what stands behind them; and five
nine_behind : (p1 p2 p3 p4 p5 p6 p7 p8 p9 r : List ℕ) → (p1 ++ (p2 ++ (p3 ++ (p4 ++ (p5 ++ (p6 ++ (p7 ++ (p8 ++ p9)))))))) ++ r ≡ p1 ++ (p2 ++ (p3 ++ (p4 ++ (p5 ++ (p6 ++ (p7 ++ (p8 ++ (p9 ++ r))))))))
nine_behind p1 p2 p3 p4 p5 p6 p7 p8 p9 r = simp append_assoc

five_behind : (q1 q2 q3 q4 q5 r : List ℕ) → (q1 ++ (q2 ++ (q3 ++ (q4 ++ q5)))) ++ r ≡ q1 ++ (q2 ++ (q3 ++ (q4 ++ (q5 ++ r))))
five_behind q1 q2 q3 q4 q5 r = simp append_assoc

abbrev relay_text : (i depth : ℕ) → List ℕ
relay_text i depth = codes "new o" ++ (decimal i ++ (codes " demo.XNode = Node\ncall r" ++ (decimal i ++ (codes " long = $n.relay($o" ++ (decimal i ++ (codes "," ++ (decimal depth ++ codes ")\n")))))))

abbrev turn_text : (i : ℕ) → List ℕ
turn_text i = codes "call t" ++ (decimal i ++ (codes " com.sun.star.uno.XInterface = $n.turn($o" ++ (decimal i ++ codes ")\n")))

abbrev last_text : (i : ℕ) → List ℕ
last_text i = codes "same $t" ++ (decimal i ++ (codes " $o" ++ (decimal i ++ (codes "\ndrop $o" ++ (decimal i ++ (codes "\ndrop $t" ++ (decimal i ++ codes "\n")))))))

round_parts : (seed i depth : ℕ) → depth ≡ depth_of seed i → relay_text i depth ++ (turn_text i ++ last_text i) ≡ round_text seed i
unfolding round_text
round_parts seed i depth is =
    ap (λ n. relay_text i n ++ (turn_text i ++ last_text i)) is
    ∙ (nine_behind (codes "new o") (decimal i) (codes " demo.XNode = Node\ncall r") (decimal i) (codes " long = $n.relay($o") (decimal i) (codes ",") (decimal (depth_of seed i)) (codes ")\n")
    (turn_text i ++ last_text i)
    ∙ ap (λ t. codes "new o" ++ (decimal i ++ (codes " demo.XNode = Node\ncall r" ++ (decimal i ++ (codes " long = $n.relay($o" ++ (decimal i ++ (codes "," ++ (decimal (depth_of seed i) ++ (codes ")\n" ++ t)))))))))
    (five_behind (codes "call t") (decimal i) (codes " com.sun.star.uno.XInterface = $n.turn($o") (decimal i) (codes ")\n") (last_text i)))

pub round_put : (seed i depth : ℕ) (a b c d x y z : List ℕ) → depth ≡ depth_of seed i → x ≡ relay_text i depth → y ≡ turn_text i → z ≡ last_text i → b ≡ a ++ x → c ≡ b ++ y → d ≡ c ++ z
    → d ≡ a ++ round_text seed i
round_put seed i depth a b c d x y z is relay turn last one two three =
    three_put a b c d (relay_text i depth) (turn_text i) (last_text i) (one ∙ ap (λ t. a ++ t) relay) (two ∙ ap (λ t. b ++ t) turn) (three ∙ ap (λ t. c ++ t) last)
    ∙ ap (λ t. a ++ t) (round_parts seed i depth is)
