-- Lines of the two plans, as they are written.
use Rattle.std.proofs.Common.{ℕ, zero, suc, pos, List, [], ◌∷◌, None, Some, codes}
use Rattle.literal_model.specs.Literals.{number, string}
use Rattle.literal_model.specs.Literals as token
use Rattle.plan_model.specs.Expressions.{variable, own}
use Rattle.plan_model.specs.Lines.{elements, thread, ask, let_variable, Term, leaf, operation, members, word, terms, Line, Declared, behaviour, field, method, export, end_line, set_field, call, when, return, raise, dispose}
use Rattle.plan_model.proofs.DemoPlans.{x_echo, x_node}
use Rattle.plan_model.specs.declared.comparison.Comparison.TheVariants.{Equal}
use Rattle.plan_model.specs.declared.operation.Operation.TheVariants.{Add, Sub}

abbrev pub num : ℕ → Term
num n = leaf (number (pos n))

abbrev pub named : List ℕ → Term
named name = word (variable name)

abbrev pub new_variable : List ℕ → List ℕ → Declared
new_variable name k = record { name = name; kind = k }

abbrev pub node_method : List ℕ → Line
node_method name = method (codes "demo.XNode") name

abbrev pub refuses : Line
refuses = raise (codes "demo.Refused") (members (terms (leaf (string (codes "no")) ∷ (leaf (token.word (codes "null")) ∷ (num 7 ∷ [])))))

abbrev pub node_lines : List Line
node_lines =
    behaviour (codes "Node") (codes "demo.XNode" ∷ [])
    ∷ (field (new_variable (codes "kept") (codes "demo.XNode"))
    ∷ (node_method (codes "relay")
    ∷ (when (variable (codes "depth")) Equal (num 0) (Some (num 0))
    ∷ (call (Some (new_variable (codes "r") (codes "long"))) (variable (codes "back")) (codes "relay") (word own
    ∷ (operation Sub (named (codes "depth")) (num 1) ∷ []))
    ∷ (return (Some (operation Add (named (codes "r")) (num 1)))
    ∷ (end_line
    ∷ (node_method (codes "turn")
    ∷ (set_field (codes "kept") (named (codes "n"))
    ∷ (return (Some (named (codes "n")))
    ∷ (end_line
    ∷ (node_method (codes "check")
    ∷ (when (variable (codes "a")) Equal (num 0) None
    ∷ (refuses
    ∷ (end_line
    ∷ (node_method (codes "forget")
    ∷ (refuses
    ∷ (end_line
    ∷ (node_method (codes "shut")
    ∷ (dispose
    ∷ (end_line
    ∷ (end_line
    ∷ (export (codes "node") (codes "Node") ∷ []))))))))))))))))))))))

-- ---- lines that are wrong

abbrev pub text : List ℕ → Term
text s = leaf (string s)

-- the front of the echo plan, in whose method `twice` the lines stand
abbrev pub in_twice : List Line → List Line
in_twice ls = behaviour (codes "Echo") (x_echo ∷ []) ∷ (method x_echo (codes "twice") ∷ ls)

-- the front of a node, in a method
abbrev pub in_node : List ℕ → List Line → List Line
in_node function ls = behaviour (codes "Node") (x_node ∷ []) ∷ (field (new_variable (codes "kept") x_node) ∷ (method x_node function ∷ ls))

-- a root that asks for a node
abbrev pub in_thread_of : List Line → List Line
in_thread_of ls = thread ∷ (ask (new_variable (codes "q") x_node) (codes "node") ∷ ls)

abbrev pub let_long : List ℕ → Term → Line
let_long name t = let_variable (new_variable name (codes "long")) t

abbrev pub returns_a : Line
returns_a = return (Some (named (codes "a")))

-- a number in so many sums
unfoldable pub sums : ℕ → Term
sums zero = num 1
sums (suc n) = operation Add (sums n) (num 1)

-- a number in so many sequences
unfoldable pub nested : ℕ → Term
nested zero = num 1
nested (suc n) = elements (terms (nested n ∷ []))
