-- Answers: how one is handed to the frame below, what a frame that ends lets go, and how an exception goes through frames. All of it is one event: what leaves a
-- frame is sent or handed down first; then the frame lets go what it holds, its own object last; then the frame below ends, where it got an exception.
use Rattle.std.specs.Prelude.{ℕ, List, [], ◌∷◌, ◌++◌, Option, None, Some, slice_get, if◌then◌else◌}
use Rattle.message_model.specs.Calls.{numbered}
use Rattle.message_model.specs.Messages.{Answer, returned, raised, reply}
use Rattle.uno_model.specs.Functions.{Function}
use Rattle.uno_model.specs.Values.{Ref, Plain, refs}
use Rattle.uno_model.specs.Values as v
use Rattle.table_model.specs.declared.holder.Holder.{Holder}
use Rattle.table_model.specs.declared.holder.Holder.TheVariants as holder
use Rattle.plan_model.specs.Effects.{method_for, methods_of}
use Rattle.plan_model.specs.Frames.{Variable, Body, Frame, base, body, outgoing}
use Rattle.plan_model.specs.Holdings.{Taken, takes_answer, takes_reference, reference_of, is_taken, let_go_at_end, goes_on}
use Rattle.plan_model.specs.Leaving.{leaving_frame}
use Rattle.plan_model.specs.Plans.{Behaviour, Method}
use Rattle.plan_model.specs.Statements.{Statement, call, query}
use Rattle.bridge_model.specs.Calls.{Unwound, unwound}
use Rattle.bridge_model.specs.Objects.{object_numbered}
use Rattle.bridge_model.specs.References.{says, gains_all, takes_all, lets_go_all, refs_of_values, refs_of_answer}
use Rattle.bridge_model.specs.Settings.{Setting, own_oid}
use Rattle.bridge_model.specs.Sides.{Object, answer, RootState, waits_query, answered, Tables, state_of, with_root}

-- ---- the statement that waits

abbrev pub behaviour_of : Setting → Option Object → Option Behaviour
behaviour_of g None = None
behaviour_of g (Some o) = slice_get g.plan.behaviours o.behaviour

abbrev pub statement_in : ℕ → Option Method → Option Statement
statement_in place None = None
statement_in place (Some m) = slice_get m.body place

abbrev pub statement_of_function : Setting → List Object → Body → Option Function → Option Statement
statement_of_function g os b None = None
statement_of_function g os b (Some f) = statement_in b.place (method_for f (methods_of (behaviour_of g (object_numbered b.object os))))

unfoldable pub statement_at : Setting → List Object → Body → Option Statement
statement_at g os b = statement_of_function g os b (numbered g.registry b.face b.function)

-- ---- what an answer does to the frame that waited for it

-- a call's values become variables, and a query's reference does; what is there in their place before is let go
abbrev pub taken_by : Setting → Option Statement → Plain → List Plain → List Variable → Taken
taken_by g (Some (call c)) x outs xs = takes_answer c x outs xs
taken_by g (Some (query q)) x outs xs = takes_reference g.registry q.wanted q.to x xs
taken_by g s x outs xs = record { variables = xs; let_go = refs x ++ refs_of_values outs }

abbrev pub goes_on_taking : Setting → Body → Taken → List Frame → Tables → Unwound
goes_on_taking g b taken fs t = unwound (body (goes_on taken.variables b) ∷ fs) (lets_go_all g (holder.Frame b.number) taken.let_go t)

unfoldable pub goes_on_with : Setting → Body → Plain → List Plain → List Frame → Tables → Unwound
goes_on_with g b x outs fs t = goes_on_taking g b (taken_by g (statement_at g t.objects b) x outs b.variables) fs t

-- ---- what it does to a root

-- a query's reference is taken where its type is assignable to the wanted one, and the rest is let go; a call's answer is the outcome
unfoldable pub root_gets : Setting → ℕ → RootState → Answer → Tables → Tables
root_gets g root (waits_query wanted) (returned x outs) t =
    lets_go_all
    g
    (holder.Root root)
    (if is_taken g.registry wanted x then [] else refs x)
    (with_root root (answered (answer (returned (v.ref (reference_of g.registry wanted x)) []))) t)
root_gets g root s a t = with_root root (answered (answer a)) t

-- ---- the end of a frame

-- what the frame holds: first what the exception holds that ended it, then its variables, its own object last
abbrev pub lets_go_frame : Setting → Body → List Ref → Tables → Tables
lets_go_frame g b extra t = lets_go_all g (holder.Frame b.number) (extra ++ let_go_at_end (own_oid g b.object) b) t

-- a frame that the peer called answers it, and lets go what it holds
abbrev pub answers_peer : Setting → List ℕ → Body → List Ref → Answer → Tables → Tables
answers_peer g tid b extra a t = lets_go_frame g b extra (says g (reply tid b.face b.function a) t)

-- who holds for a frame; a call that went out holds nothing
abbrev pub holder_of : Frame → Option Holder
holder_of (base root) = Some (holder.Root root)
holder_of (body b) = Some (holder.Frame b.number)
holder_of (outgoing o) = None

-- the frame below holds what an answer holds, which is here already
abbrev pub gains_with : Option Holder → List Ref → Tables → Tables
gains_with None rs t = t
gains_with (Some h) rs t = gains_all h rs t

abbrev pub gains_below : List Frame → Answer → Tables → Tables
gains_below [] a t = t
gains_below (f ∷ fs) a t = gains_with (holder_of f) (refs_of_answer a) t

-- or takes it, where it came from the peer
abbrev pub takes_with : Setting → Option Holder → List Ref → Tables → Tables
takes_with g None rs t = t
takes_with g (Some h) rs t = takes_all g h rs t

abbrev pub takes_below : Setting → List Frame → Answer → Tables → Tables
takes_below g [] a t = t
takes_below g (f ∷ fs) a t = takes_with g (holder_of f) (refs_of_answer a) t

-- what a frame hands to the one below, which then holds it, and what it lets go behind that
abbrev pub hands_over : Setting → Body → List Ref → Answer → List Frame → Tables → Tables
hands_over g b extra a fs t = lets_go_frame g b extra (gains_below fs a t)

-- ---- handing

-- an answer to the top one of these frames, which holds what is in it: a root is answered, and its stack ends; a method goes on, or ends with the exception
unfoldable pub hands : Setting → List ℕ → Answer → List Frame → Tables → Unwound
hands g tid a [] t = unwound [] t
hands g tid a (base root ∷ fs) t = unwound [] (root_gets g root (state_of root t.roots) a t)
hands g tid a (outgoing o ∷ fs) t = unwound (outgoing o ∷ fs) t
hands g tid (returned x outs) (body b ∷ fs) t = goes_on_with g b x outs fs t
hands g tid (raised k x) (body b ∷ fs) t =
    if b.from_peer then unwound fs (answers_peer g tid b (refs x) (leaving_frame g.registry tid b (raised k x)) t)
    else hands g tid (leaving_frame g.registry tid b (raised k x)) fs (hands_over g b (refs x) (leaving_frame g.registry tid b (raised k x)) fs t)

-- a result is handed down whole before the frame lets go; an exception ends the frame below after that
abbrev pub after_letting_go : Setting → Body → Unwound → Unwound
after_letting_go g b u = unwound u.frames (lets_go_frame g b [] u.tables)

abbrev pub hands_down : Setting → List ℕ → Body → Answer → List Frame → Tables → Unwound
hands_down g tid b (returned x outs) fs t = after_letting_go g b (hands g tid (returned x outs) fs (gains_below fs (returned x outs) t))
hands_down g tid b (raised k x) fs t = hands g tid (raised k x) fs (hands_over g b [] (raised k x) fs t)

-- the frame ends with what leaves it
unfoldable pub ends_frame : Setting → List ℕ → Body → Answer → List Frame → Tables → Unwound
ends_frame g tid b a fs t = if b.from_peer then unwound fs (answers_peer g tid b [] a t) else hands_down g tid b a fs t

-- the answer of the peer
unfoldable pub hands_from_peer : Setting → List ℕ → Answer → List Frame → Tables → Unwound
hands_from_peer g tid a fs t = hands g tid a fs (takes_below g fs a t)
