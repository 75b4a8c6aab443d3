-- The statements among the lines, by their first word.
use Rattle.std.specs.Prelude.{ℕ, List, Option, None, Some, codes, if◌then◌else◌}
use Rattle.std.specs.Str.{bytes_eq}
use Rattle.uno_model.specs.Entities.{Entity}
use Rattle.plan_model.specs.Lines.{Line, Term}
use Rattle.plan_reading_model.specs.LineReading.{arguments_at}
use Rattle.plan_reading_model.specs.Parts.{on_some, at_end, behind, function_at}
use Rattle.plan_reading_model.specs.LineReading.{let_at, set_at, call_at, query_at, make_at, drop_at, when_at, return_at, raise_at, ask_at, same_at}

abbrev pub statement_behind : List Entity → List ℕ → List ℕ → Option Line
statement_behind reg w rest =
    if bytes_eq w (codes "let") then let_at reg rest
    else (if bytes_eq w (codes "set") then set_at reg rest
    else (if bytes_eq w (codes "call") then call_at reg rest
    else (if bytes_eq w (codes "query") then query_at rest
    else (if bytes_eq w (codes "new") then make_at rest
    else (if bytes_eq w (codes "drop") then drop_at rest
    else (if bytes_eq w (codes "when") then when_at reg rest
    else (if bytes_eq w (codes "return") then return_at reg rest
    else (if bytes_eq w (codes "raise") then raise_at reg rest
    else (if bytes_eq w (codes "ask") then ask_at rest
    else (if bytes_eq w (codes "same") then same_at rest
    else None))))))))))

-- the function that is called and its arguments, behind the target
abbrev pub called_at : List Entity → List ℕ → Option (List ℕ × List Term)
called_at reg bytes =
    on_some (behind (codes ".") bytes)
    (λ rest. on_some (function_at rest) (λ f. on_some (behind (codes "(") f.1) (λ args. on_some (at_end (arguments_at reg args)) (λ ts. Some (f.0, ts)))))
