-- A root in progress: what its next move is, with which entry, and the line that a statement gives.
use Rattle.std.specs.Prelude.{◌≡◌, ℕ, suc, Bool, true, false, not, ◌==◌, List, [], ◌∷◌, ◌++◌, Option, None, Some, slice_get, codes, if◌then◌else◌}
use Rattle.std.specs.Fmt.{decimal}
use Rattle.std.specs.List.{list_all, list_any, flat_map}
use Rattle.std.specs.Option.{option_map, unwrap_or}
use Rattle.std.specs.Str.{bytes_eq}
use Rattle.literal_model.specs.Literals.{print}
use Rattle.message_model.specs.Calls.{numbered, comes}
use Rattle.message_model.specs.Messages.{returned, raised}
use Rattle.uno_model.specs.Entities.{Entity, Param}
use Rattle.uno_model.specs.Functions.{Function}
use Rattle.uno_model.specs.Values.{Ref, null, own, peer, Plain}
use Rattle.uno_model.specs.Values as v
use Rattle.plan_model.specs.Calling.{given_values, number_in, object_of}
use Rattle.plan_model.specs.Evaluation.{Scene, value_under, value_of_word, same_value}
use Rattle.plan_model.specs.Expressions.{Word, variable, Expression, Expressions, constant, word, operation, any, tuple, list, bytes, none, more, Argument, into, out, both}
use Rattle.plan_model.specs.Frames.{Variable}
use Rattle.plan_model.specs.Holdings.{put, without, with_variable}
use Rattle.plan_model.specs.Roots.{Run, opening_run, statements_of, asked_name, loosened, next_loose, less_loose}
use Rattle.plan_model.specs.Statements.{Call, Query, Making, RootStatement, ask, ask_instance, root_call, root_query, root_make, root_drop, same, root_dispose}
use Rattle.bridge_model.specs.Entries.{Entry, asked, called, queried, made, dropped, took, disposed, full}
use Rattle.bridge_model.specs.Histories.{Leads, Told}
use Rattle.bridge_model.specs.Settings.{Setting, own_oid}
use Rattle.bridge_model.specs.Sides.{Outcome, answer, RootState, idle, waits_call, waits_query, answered, Side, stands, state_of}
use Rattle.bridge_model.specs.Sides as side
use Rattle.bridge_model.specs.Steps.{has_entries}
use Rattle.bridge_model.specs.declared.cause.Cause.{Cause}
use Rattle.bridge_model.specs.declared.cause.Cause.TheVariants as cause

-- ---- which variables a statement names, but for the one that it makes

abbrev pub word_names : Word → List (List ℕ)
word_names (variable name) = name ∷ []
word_names w = []

unfoldable mutual
  pub names_in : Expression → List (List ℕ)
  names_in (constant x) = []
  names_in (word w) = word_names w
  names_in (operation op a b) = names_in a ++ names_in b
  names_in (any k a) = names_in a
  names_in (tuple name es) = names_in_all es
  names_in (list k es) = names_in_all es
  names_in (bytes es) = names_in_all es

  pub names_in_all : Expressions → List (List ℕ)
  names_in_all none = []
  names_in_all (more a es) = names_in a ++ names_in_all es

abbrev pub argument_names : Argument → List (List ℕ)
argument_names (into a) = names_in a
argument_names (out name) = name ∷ []
argument_names (both name) = name ∷ []

unfoldable pub names_of : RootStatement → List (List ℕ)
names_of (root_call c) = word_names c.target ++ flat_map argument_names c.arguments
names_of (root_query q) = word_names q.target
names_of (same a b) = a ∷ (b ∷ [])
names_of s = []

-- a variable whose statement gave it no value is not there
abbrev pub is_there : List Variable → List ℕ → Bool
is_there xs name = list_any (λ x. bytes_eq name x.name) xs

abbrev pub is_skipped : List Variable → RootStatement → Bool
is_skipped xs s = not (list_all (is_there xs) (names_of s))

-- ---- lines

-- the words of a cause
unfoldable pub cause_text : Cause → List ℕ
cause_text cause.Disposed = codes "Disposed"
cause_text cause.Ended = codes "Ended"
cause_text cause.Failed = codes "Failed"
cause_text (cause.Broken why place) = codes "Broken"
cause_text cause.Full = codes "Full"
cause_text cause.NoMemory = codes "NoMemory"

-- ` NAME=VALUE` for each parameter that comes out
unfoldable pub outs_text : List Entity → List Param → List Plain → List ℕ
outs_text reg [] xs = []
outs_text reg (p ∷ ps) [] = []
outs_text reg (p ∷ ps) (x ∷ xs) =
    if comes p.way then codes " " ++ (p.name ++ (codes "=" ++ (print reg x ++ outs_text reg ps xs))) else outs_text reg ps (x ∷ xs)

abbrev pub params_called : Option Function → List Param
params_called None = []
params_called (Some f) = f.params

-- the parameters of the function that a statement calls; a query has none that come out
abbrev pub statement_params : List Entity → RootStatement → List Param
statement_params reg (root_call c) = params_called (numbered reg c.callee.owner (number_in reg c.callee.owner c.callee))
statement_params reg s = []

unfoldable pub outcome_text : List Entity → RootStatement → Outcome → List ℕ
outcome_text reg s (answer (returned x outs)) = codes "returned " ++ (print reg x ++ outs_text reg (statement_params reg s) outs)
outcome_text reg s (answer (raised k x)) = codes "raised " ++ print reg (v.any k x)
outcome_text reg s (side.disposed why) = codes "disposed " ++ cause_text why
outcome_text reg s side.no_memory = codes "no memory"

-- `ROOT.STATEMENT TEXT`; statements are numbered from 1
unfoldable pub line_of : Run → List ℕ → List ℕ
line_of r text = decimal r.root ++ (codes "." ++ (decimal (suc r.place) ++ (codes " " ++ text)))

-- ---- moves

-- the root waits; it has nothing left to do; or it moves, with at most one entry
pub data Moved : Type 0 where
  waiting : Moved
  finished : Moved
  moved : Run → Option Entry → Moved

-- a statement is over: with a line, or without
abbrev pub goes_over : Run → Run
goes_over r = record r { place = suc r.place }

abbrev pub over_with : List ℕ → Run → Run
over_with text r = record r { place = suc r.place; lines = r.lines ++ line_of r text ∷ [] }

abbrev pub without_entry : Run → Moved
without_entry r = moved r None

-- ---- what an outcome does

abbrev pub with_loose : Plain → Run → Run
with_loose x r = record r { loose = loosened x r.loose }

-- a variable gets another value, and the references of its own are loose
abbrev pub puts : List ℕ → Plain → Run → Run
puts name x r = record r { variables = put name x r.variables; loose = loosened (value_under name r.variables) r.loose }

unfoldable pub puts_outs : List Argument → List Plain → Run → Run
puts_outs [] xs r = r
puts_outs (into a ∷ args) xs r = puts_outs args xs r
puts_outs (out name ∷ args) [] r = r
puts_outs (out name ∷ args) (x ∷ xs) r = puts_outs args xs (puts name x r)
puts_outs (both name ∷ args) [] r = r
puts_outs (both name ∷ args) (x ∷ xs) r = puts_outs args xs (puts name x r)

abbrev pub adds : List ℕ → Plain → Run → Run
adds name x r = record r { variables = with_variable name x r.variables }

-- the references of a result without a name are loose
abbrev pub adds_result : Option (List ℕ) → Plain → Run → Run
adds_result None x r = with_loose x r
adds_result (Some name) x r = adds name x r

-- what is returned becomes variables; the references in an exception are loose
unfoldable pub takes_outcome : RootStatement → Outcome → Run → Run
takes_outcome (root_call c) (answer (returned x outs)) r = puts_outs c.arguments outs (adds_result (option_map (λ f. f.name) c.to) x r)
takes_outcome (root_query q) (answer (returned x outs)) r = adds q.to x r
takes_outcome (ask to wanted name) (answer (returned x outs)) r = adds to x r
takes_outcome (ask_instance to wanted) (answer (returned x outs)) r = adds to x r
takes_outcome s (answer (raised k x)) r = with_loose x r
takes_outcome s o r = r

abbrev pub takes_at : Setting → Run → Outcome → Option RootStatement → Moved
takes_at g r o None = finished
takes_at g r o (Some s) = moved (over_with (outcome_text g.registry s o) (takes_outcome s o r)) (Some (took r.root))

-- ---- what a statement begins

abbrev pub scene_of : Run → Scene
scene_of r = record { variables = r.variables; fields = []; own = null }

-- an entry of a call, where the bridge stands and there is room for it
abbrev pub begins : Side → Run → Entry → Moved
begins s r x = if not (stands s) then without_entry (over_with (codes "gone") r) else (if has_entries s then moved (over_with (codes "full") r) (Some full) else moved r (Some x))

abbrev pub null_target : Run → Moved
null_target r = without_entry (over_with (codes "null") r)

abbrev pub calls_at : List Entity → Side → Run → Call → (oid face : List ℕ) → Moved
calls_at reg s r c oid face = begins s r (called r.root oid face (number_in reg face c.callee) (unwrap_or (given_values (scene_of r) c.arguments) []))

abbrev pub calls_on : List Entity → Side → Run → Call → Ref → Moved
calls_on reg s r c null = null_target r
calls_on reg s r c (own oid face) = calls_at reg s r c oid face
calls_on reg s r c (peer oid face) = calls_at reg s r c oid face

abbrev pub queries_on : Side → Run → Query → Ref → Moved
queries_on s r q null = null_target r
queries_on s r q (own oid face) = begins s r (queried r.root oid face q.wanted)
queries_on s r q (peer oid face) = begins s r (queried r.root oid face q.wanted)

abbrev pub asks_for : Side → Run → List ℕ → Option (List ℕ) → Moved
asks_for s r wanted None = finished
asks_for s r wanted (Some name) = begins s r (asked r.root name wanted)

-- a new object is there with its entry, and so is its line
abbrev pub makes_new : Setting → Side → Run → Making → Moved
makes_new g s r m = makes (begins s r (made r.root m.behaviour m.face))
  where
    new : Plain
    new = v.ref (own (own_oid g (suc s.tables.objects_made)) m.face)

    makes : Moved → Moved
    makes (moved run (Some (made root behaviour wanted))) = moved (over_with (codes "returned " ++ print g.registry new) (adds m.to new r)) (Some (made root behaviour wanted))
    makes x = x

abbrev pub same_text : Bool → List ℕ
same_text true = codes "same"
same_text false = codes "different"

-- a variable goes, and its references are loose; one that has no value goes all the same
abbrev pub drops : List ℕ → Run → Run
drops name r = record r { variables = without name r.variables; loose = loosened (value_under name r.variables) r.loose }

abbrev pub disposes : Side → Run → Moved
disposes s r = moved (goes_over r) (if stands s then Some disposed else None)

unfoldable pub begins_statement : Setting → Side → Run → RootStatement → Moved
begins_statement g s r (ask to wanted name) = asks_for s r wanted (asked_name r.instance (ask to wanted name))
begins_statement g s r (ask_instance to wanted) = asks_for s r wanted (asked_name r.instance (ask_instance to wanted))
begins_statement g s r (root_call c) = calls_on g.registry s r c (object_of (value_of_word (scene_of r) c.target))
begins_statement g s r (root_query q) = queries_on s r q (object_of (value_of_word (scene_of r) q.target))
begins_statement g s r (root_make m) = makes_new g s r m
begins_statement g s r (root_drop name) = without_entry (goes_over (drops name r))
begins_statement g s r (same a b) = without_entry (over_with (same_text (same_value (value_under a r.variables) (value_under b r.variables))) r)
begins_statement g s r root_dispose = disposes s r

abbrev pub begins_unless_skipped : Setting → Side → Run → RootStatement → Moved
begins_unless_skipped g s r x = if is_skipped r.variables x then without_entry (over_with (codes "skipped") r) else begins_statement g s r x

abbrev pub next_statement : Setting → Side → Run → Option RootStatement → Moved
next_statement g s r None = finished
next_statement g s r (Some x) = begins_unless_skipped g s r x

-- ---- the move of a root

abbrev pub statement_at : Setting → Run → Option RootStatement
statement_at g r = slice_get (statements_of g.plan r.root) r.place

-- a loose reference is let go before the next statement
abbrev pub lets_loose : Run → Ref → Moved
lets_loose r null = moved (record r { loose = less_loose r.loose }) None
lets_loose r (own oid face) = moved (record r { loose = less_loose r.loose }) (Some (dropped r.root oid face))
lets_loose r (peer oid face) = moved (record r { loose = less_loose r.loose }) (Some (dropped r.root oid face))

abbrev pub idle_moves : Setting → Side → Run → Option Ref → Moved
idle_moves g s r (Some x) = lets_loose r x
idle_moves g s r None = next_statement g s r (statement_at g r)

abbrev pub state_moves : Setting → Side → Run → RootState → Moved
state_moves g s r idle = idle_moves g s r (next_loose r.loose)
state_moves g s r waits_call = waiting
state_moves g s r (waits_query wanted) = waiting
state_moves g s r (answered o) = takes_at g r o (statement_at g r)

unfoldable pub root_moves : Setting → Side → Run → Moved
root_moves g s r = state_moves g s r (state_of r.root s.tables.roots)

-- ---- a run that stands for a history

-- whether an entry is one of a root's own
abbrev pub is_of_root : ℕ → Entry → Bool
is_of_root n (asked root name wanted) = n == root
is_of_root n (called root oid face function args) = n == root
is_of_root n (queried root oid face wanted) = n == root
is_of_root n (made root behaviour wanted) = n == root
is_of_root n (dropped root oid face) = n == root
is_of_root n (took root) = n == root
is_of_root n x = false

-- it is reached from its beginning by its moves, whose entries are all of the root's own in the history, and in their order
pub data StandsFor (g : Setting) : List Entry → Run → Type 0 where
  begun : (root : ℕ) (instance : List ℕ) → StandsFor g [] (opening_run root instance)
  another : {es : List Entry} {r : Run} (x : Entry) → is_of_root r.root x ≡ false → StandsFor g es r → StandsFor g (es ++ x ∷ []) r
  entered : {es : List Entry} {r next : Run} {told : Told} (x : Entry) → Leads g es told → root_moves g told.side r ≡ moved next (Some x) → StandsFor g es r
      → StandsFor g (es ++ x ∷ []) next
  passed : {es : List Entry} {r next : Run} {told : Told} → Leads g es told → root_moves g told.side r ≡ moved next None → StandsFor g es r → StandsFor g es next
