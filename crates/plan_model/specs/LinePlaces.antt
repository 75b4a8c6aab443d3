-- Where a line of each form may stand. A line that stands elsewhere has no form, as one that is spelled like no line.
use Rattle.std.specs.Prelude.{Bool, true, false, not, ◌&&◌, ◌||◌, List, [], ◌∷◌, Option, None, Some}
use Rattle.std.specs.List.{list_all}
use Rattle.uno_model.specs.Codes.{same_kind}
use Rattle.uno_model.specs.Functions.{Function}
use Rattle.uno_model.specs.Kinds as kd
use Rattle.plan_model.specs.Contexts.{Block, at_top, in_behaviour, in_method, in_thread}
use Rattle.plan_model.specs.Forms.{is_root_word, is_root_term}
use Rattle.plan_model.specs.Lines.{Term, Line, behaviour, field, method, service, singleton, export, thread, end_line, let_variable, set_variable, set_field}
use Rattle.plan_model.specs.Lines.{call, query, make, drop_variable, when, return, raise, dispose, ask, ask_instance, same}
use Rattle.plan_model.specs.Plans.{Method}
use Rattle.plan_model.specs.Statements.{Statement}
use Rattle.plan_model.specs.Statements as statement

abbrev pub is_void : Function → Bool
is_void f = same_kind f.result_kind kd.void

-- what is returned is written exactly where the result is not void
abbrev pub returns_rightly : Function → Option Term → Bool
returns_rightly f None = is_void f
returns_rightly f (Some t) = not (is_void f)

abbrev pub ends_frame : Statement → Bool
ends_frame (statement.return back) = true
ends_frame (statement.raise name a) = true
ends_frame s = false

unfoldable pub last_ends : List Statement → Bool
last_ends [] = false
last_ends (s ∷ []) = ends_frame s
last_ends (s ∷ (t ∷ ts)) = last_ends (t ∷ ts)

-- a method that is not void ends with `return` or `raise`
abbrev pub is_whole_method : Method → Function → Bool
is_whole_method m f = is_void f || last_ends m.body

abbrev pub stands_at_top : Line → Bool
stands_at_top (behaviour name faces) = true
stands_at_top (service name b) = true
stands_at_top (singleton name b) = true
stands_at_top (export name b) = true
stands_at_top thread = true
stands_at_top l = false

abbrev pub stands_in_behaviour : Line → Bool
stands_in_behaviour (field d) = true
stands_in_behaviour (method face function) = true
stands_in_behaviour end_line = true
stands_in_behaviour l = false

abbrev pub stands_in_method : Method → Function → Line → Bool
stands_in_method m f (let_variable d t) = true
stands_in_method m f (set_variable name t) = true
stands_in_method m f (set_field name t) = true
stands_in_method m f (call to target function args) = true
stands_in_method m f (query d target) = true
stands_in_method m f (make d b) = true
stands_in_method m f (drop_variable name) = true
stands_in_method m f (when left test right back) = returns_rightly f back
stands_in_method m f (return back) = returns_rightly f back
stands_in_method m f (raise k t) = true
stands_in_method m f dispose = true
stands_in_method m f end_line = is_whole_method m f
stands_in_method m f l = false

-- a root writes neither a field nor the own object, and no operation
abbrev pub stands_in_thread : Line → Bool
stands_in_thread (ask d name) = true
stands_in_thread (ask_instance d) = true
stands_in_thread (call to target function args) = is_root_word target && list_all is_root_term args
stands_in_thread (query d target) = is_root_word target
stands_in_thread (make d b) = true
stands_in_thread (drop_variable name) = true
stands_in_thread (same x y) = true
stands_in_thread dispose = true
stands_in_thread end_line = true
stands_in_thread l = false

unfoldable pub may_stand : Block → Line → Bool
may_stand at_top l = stands_at_top l
may_stand (in_behaviour b) l = stands_in_behaviour l
may_stand (in_method b m f) l = stands_in_method m f l
may_stand (in_thread ss) l = stands_in_thread l
