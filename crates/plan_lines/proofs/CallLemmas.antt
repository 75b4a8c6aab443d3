-- A call by its target, and the function and arguments behind that.
use Rattle.std.proofs.Common.{◌≡◌, ℕ, List, Option, None, Some, codes, refl, ap, ◌∙◌}
use Rattle.uno_model.specs.Entities.{Entity}
use Rattle.plan_model.specs.Expressions.{Word}
use Rattle.plan_model.specs.Lines.{Declared, Line, Term}
use Rattle.plan_model.specs.Lines as line
use Rattle.plan_reading_model.specs.LineReading.{arguments_at, called, some_line, target_of}
use Rattle.plan_reading_model.specs.Parts.{on_some, at_end, behind, function_at}
use Rattle.plan_lines.specs.Reads.{UnreadBy}
use Rattle.plan_lines.specs.Statements.{called_at}
use Rattle.plan_lines.specs.declared.unread.Unread.{Unread}
use Rattle.plan_lines.specs.declared.unread.Unread.TheVariants as unread

module _ (reg : List Entity) (to : Option Declared) (target : Word) (bytes : List ℕ) where
  abbrev a_call : List ℕ × List Term → Line
  a_call x = line.call to target x.0 x.1

  call_by : target_of reg to (target, bytes) ≡ some_line a_call (called_at reg bytes)
  call_by = by_point (behind (codes ".") bytes)
    where
      by_arguments : (name : List ℕ) (o : Option (List Term)) → some_line (line.call to target name) o ≡ some_line a_call (on_some o (λ ts. Some (name, ts)))
      by_arguments name None = refl
      by_arguments name (Some ts) = refl

      by_open : (name : List ℕ) (o : Option (List ℕ))
          → on_some o (λ rest. some_line (line.call to target name) (at_end (arguments_at reg rest)))
          ≡ some_line a_call (on_some o (λ args. on_some (at_end (arguments_at reg args)) (λ ts. Some (name, ts))))
      by_open name None = refl
      by_open name (Some rest) = by_arguments name (at_end (arguments_at reg rest))

      by_function : (o : Option (List ℕ × List ℕ))
          → on_some o (called reg to target)
          ≡ some_line a_call (on_some o (λ f. on_some (behind (codes "(") f.1) (λ args. on_some (at_end (arguments_at reg args)) (λ ts. Some (f.0, ts)))))
      by_function None = refl
      by_function (Some f) = by_open f.0 (behind (codes "(") f.1)

      by_point : (o : Option (List ℕ))
          → on_some o (λ rest. on_some (function_at rest) (called reg to target))
          ≡ some_line a_call (on_some o (λ rest. on_some (function_at rest) (λ f. on_some (behind (codes "(") f.1) (λ args. on_some (at_end (arguments_at reg args)) (λ ts. Some (f.0, ts))))))
      by_point None = refl
      by_point (Some rest) = by_function (function_at rest)

  pub call_read : (name : List ℕ) (args : List Term) → called_at reg bytes ≡ Some (name, args) → target_of reg to (target, bytes) ≡ Some (line.call to target name args)
  call_read name args is = call_by ∙ ap (some_line a_call) is

  pub call_unread : (e : Unread) → UnreadBy e (called_at reg bytes) → UnreadBy e (target_of reg to (target, bytes))
  call_unread unread.NoMemory is = tt
  call_unread unread.Form is = call_by ∙ ap (some_line a_call) is
