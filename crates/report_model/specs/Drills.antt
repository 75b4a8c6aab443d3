-- A drill: its plans, which follow from how many rounds there are and from the seed, and its summary.
use Rattle.std.specs.Prelude.{ℕ, ℤ, pos, ◌+ℤ◌, ◌+◌, ◌%◌, ◌==◌, nat_eq, Bool, List, [], ◌∷◌, ◌++◌, codes, if◌then◌else◌}
use Rattle.std.specs.Fmt.{decimal, signed_decimal}
use Rattle.std.specs.List.{flat_map, count_by, range_with_len, starts_with}
use Rattle.uno_model.specs.Values.{Plain, long}
use Rattle.plan_model.specs.Frames.{Variable}
use Rattle.bridge_model.specs.Answers.{Counts}
use Rattle.world_model.specs.Moves.{Progress}
use Rattle.report_model.specs.Reports.{counts_text}

-- ---- plans

-- an object that calls back, keeps what it gets and gives it back, raises an exception, or ends the bridge
unfoldable pub node_plan : List ℕ
node_plan = codes "unoplan 1\nbehaviour Node demo.XNode\nfield kept demo.XNode\nmethod demo.XNode relay\nwhen $depth == 0 return 0\ncall r long = $back.relay($self,sub($depth,1))\nreturn add($r,1)\nend\nmethod demo.XNode turn\nset $.kept = $n\nreturn $n\nend\nmethod demo.XNode check\nwhen $a == 0 return\nraise demo.Refused {\"no\",null,7}\nend\nmethod demo.XNode forget\nraise demo.Refused {\"no\",null,7}\nend\nmethod demo.XNode shut\ndispose\nend\nend\nexport \"node\" Node\n"

-- how often the calls of a round go back and forth
abbrev pub depth_of : (seed round : ℕ) → ℕ
depth_of seed round = (seed % 7 + round) % 7

-- a new object is called back so often, goes to the other end and comes home, and is let go
unfoldable pub round_text : (seed round : ℕ) → List ℕ
round_text seed i =
    codes "new o" ++ (decimal i ++ (codes " demo.XNode = Node\ncall r" ++ (decimal i ++ (codes " long = $n.relay($o" ++ (decimal i ++ (codes "," ++ (decimal (depth_of seed i)
    ++ (codes ")\ncall t" ++ (decimal i ++ (codes " com.sun.star.uno.XInterface = $n.turn($o" ++ (decimal i ++ (codes ")\nsame $t" ++ (decimal i ++ (codes " $o" ++ (decimal i
    ++ (codes "\ndrop $o" ++ (decimal i ++ (codes "\ndrop $t" ++ (decimal i ++ codes "\n")))))))))))))))))))

-- every fourth round is a thread's own
abbrev pub round_in : (seed thread round : ℕ) → List ℕ
round_in seed k i = if i % 4 == k then round_text seed i else []

unfoldable pub thread_text : (rounds seed thread : ℕ) → List ℕ
thread_text rounds seed k = codes "thread\nask n demo.XNode = \"node\"\n" ++ (flat_map (round_in seed k) (range_with_len 0 rounds) ++ codes "end\n")

-- the one end has four threads, which call the object of the other
unfoldable pub calling_plan : (rounds seed : ℕ) → List ℕ
calling_plan rounds seed = node_plan ++ flat_map (thread_text rounds seed) (range_with_len 0 4)

-- ---- the summary

-- what a line says behind its number
unfoldable pub said_in : List ℕ → List ℕ
said_in [] = []
said_in (c ∷ line) = if c == 32 then line else said_in line

abbrev pub says : (word line : List ℕ) → Bool
says word line = starts_with nat_eq (said_in line) word

abbrev pub lines_of : Progress → List (List ℕ)
lines_of p = flat_map (λ r. r.lines) (p.a ++ p.b)

abbrev pub how_many_say : List ℕ → Progress → ℕ
how_many_say word p = count_by (says word) (lines_of p)

-- the number that a variable has
abbrev pub number_of : Plain → ℤ
number_of (long n) = n
number_of x = pos 0

unfoldable pub sum_of : List Variable → ℤ
sum_of [] = pos 0
sum_of (x ∷ xs) = number_of x.value +ℤ sum_of xs

-- the sum of the numbers that the roots were given, which they keep in variables
abbrev pub sum_in : Progress → ℤ
sum_in p = sum_of (flat_map (λ r. r.variables) (p.a ++ p.b))

unfoldable pub summary : (rounds seed : ℕ) → Progress → (a b : Counts) → List ℕ
summary rounds seed p a b =
    codes "drill " ++ (decimal rounds ++ (codes " " ++ (decimal seed ++ (codes "\nreturned " ++ (decimal (how_many_say (codes "returned ") p)
    ++ (codes "\nsame " ++ (decimal (how_many_say (codes "same") p) ++ (codes "\nsum " ++ (signed_decimal (sum_in p)
    ++ (codes "\n" ++ (counts_text (codes "A") a ++ counts_text (codes "B") b)))))))))))
