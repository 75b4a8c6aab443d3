-- What a statement takes of its outcome.
use Rattle.std.specs.Prelude.{ℕ, List, Option, None, Some, length, option_map}
use Rattle.plan_model.specs.Statements.{RootStatement, ask, ask_instance, root_call, root_query}

-- how many parameters may come out at most
abbrev pub outs_of : RootStatement → ℕ
outs_of (root_call c) = length c.arguments
outs_of s = 0

-- the variable that the result becomes, where it has a name
abbrev pub result_name : RootStatement → Option (List ℕ)
result_name (ask to wanted name) = Some to
result_name (ask_instance to wanted) = Some to
result_name (root_call c) = option_map (λ f. f.name) c.to
result_name (root_query q) = Some q.to
result_name s = None
