-- A side by its parts, which calls change one by one.
use Rattle.std.proofs.Common.{◌≡◌, refl, ap, ◌∙◌, ℕ, true, List, [], ◌∷◌, Option, Some, Result, Ok, Err, OnOk, OnErr}
use Rattle.std.proofs.lemmas.Bool.{false≢true}
use Rattle.behaviour.specs.Effects.{effect_of}
use Rattle.behaviour.specs.declared.effect.Effect.{Effect as CodeEffect}
use Rattle.behaviour.specs.declared.effect.Effect.TheVariants as code
use Rattle.plan_model.specs.Asking.{Effect, disposes}
use Rattle.plan_model.specs.Frames.{Body, Frame, base, body, outgoing, Stack, frames_of, pushed}
use Rattle.bridge_frames.specs.Unwinding.{stacks_by, tables_by}
use Rattle.bridge_model.specs.Applying.{applies}
use Rattle.bridge_model.specs.Calls.{Unwound}
use Rattle.bridge_model.specs.Roots.{bottom}
use Rattle.bridge_model.specs.Settings.{Setting}
use Rattle.bridge_model.specs.Sides.{RootState, Side, Tables, Incoming, Outgoing, state_of, with_root, on_tables}
use Rattle.bridge_model.specs.Stacks.{puts_frames, with_unwound}
use Rattle.bridge_model.specs.Steps.{Picked, applies_effect, is_picked, picked_in}
use Rattle.bridge_model.specs.declared.cause.Cause.{Cause}
use Rattle.bridge_tables.specs.EndTables.{EndTables, lasting, with_tables}
use Rattle.bridge_tables.specs.EndTables as tables
use Rattle.bridge_state.proofs.AskingLemmas.{above, at_bottom, remains_back}
use Rattle.bridge_state.proofs.Seen.{seen, side_by}
use Rattle.bridge_state.specs.EndSides.{EndSide, on_side, with_side}
use Rattle.bridge_state.specs.Undoing.{remains}

-- ---- parts

pub on_oks : {A E P Q S : Type 0} (r : Result A E) → OnOk r P → OnOk r Q → (P → Q → S) → OnOk r S
on_oks (Ok x) p q f = f p q
on_oks (Err e) p q f = tt

pub either : {A E P Q S : Type 0} (r : Result A E) → OnOk r P → OnErr r Q → (P → S) → (Q → S) → S
either (Ok x) p q f g = f p
either (Err e) p q f g = g q

-- the frames of one thread and the tables become these
pub unwound_so : (tid : List ℕ) (u : Unwound) (t new_t : EndTables) (ss new_ss : List Stack) (i : Incoming) (o : Outgoing) (n : ℕ) (c : Option Cause) (now : EndSide) → seen t ss i o n c ≡ now
    → new_ss ≡ stacks_by tid u ss → new_t ≡ tables_by u t → seen new_t new_ss i o n c ≡ on_side (λ s. with_unwound tid u s) now
unwound_so tid u t new_t ss new_ss i o n c now is p q = (λ j. seen (q j) (p j) i o n c) ∙ ap (on_side (λ s. with_unwound tid u s)) is

-- ---- what begins above a root

module _ (tid : List ℕ) (root : ℕ) (f : List Frame → Tables → Unwound) (t : EndTables) (ss pushed_ss : List Stack) (i : Incoming) (o : Outgoing) (n : ℕ) (c : Option Cause) (now : EndSide)
    (is : seen t ss i o n c ≡ now) (none : frames_of tid now.side.stacks ≡ []) (push : pushed_ss ≡ pushed tid (base root) ss) where
  alone : frames_of tid ss ≡ []
  alone = ap (λ e. frames_of tid e.side.stacks) is ∙ none

  pub begun_above : {A E : Type 0} (r : Result A E) (new_t : EndTables) (new_ss : List Stack) → OnOk r (new_ss ≡ stacks_by tid (f (frames_of tid pushed_ss) t.tables) pushed_ss)
      → OnOk r (new_t ≡ tables_by (f (frames_of tid pushed_ss) t.tables) t) → OnOk r (seen new_t new_ss i o n c ≡ on_side (λ s. with_unwound tid (f (bottom root) s.tables) s) now)
  begun_above r new_t new_ss stacks tables = on_oks r stacks tables (λ p q. here p q)
    where
      here : new_ss ≡ stacks_by tid (f (frames_of tid pushed_ss) t.tables) pushed_ss → new_t ≡ tables_by (f (frames_of tid pushed_ss) t.tables) t
          → seen new_t new_ss i o n c ≡ on_side (λ s. with_unwound tid (f (bottom root) s.tables) s) now
      here p q =
          let at = at_bottom tid root ss pushed_ss alone push in
          let p' : new_ss ≡ puts_frames tid (f (bottom root) t.tables).frames ss =
          p ∙ ap (λ fs. puts_frames tid (f fs t.tables).frames pushed_ss) at ∙ above tid root ss pushed_ss alone push (f (bottom root) t.tables).frames in
          let q' : new_t ≡ tables_by (f (bottom root) t.tables) t = q ∙ ap (λ fs. tables_by (f fs t.tables) t) at in
          (λ j. seen (q' j) (p' j) i o n c) ∙ ap (on_side (λ s. with_unwound tid (f (bottom root) s.tables) s)) is

-- the root does again what it did where memory is wanting
pub lost_back : (root : ℕ) (x before : RootState) (t0 t1 t2 t3 : EndTables) (ss0 ss2 : List Stack) (i0 i2 : Incoming) (o0 o2 : Outgoing) (n0 n2 : ℕ) (c0 c2 : Option Cause) (now after : EndSide)
    → seen t0 ss0 i0 o0 n0 c0 ≡ now → t1 ≡ tables.on_tables (with_root root x) t0 → before ≡ state_of root t0.tables.roots
    → remains after.side ≡ remains (side_by t1 ss0 i0 o0 n0 c0) → seen t2 ss2 i2 o2 n2 c2 ≡ after → t3 ≡ tables.on_tables (with_root root before) t2
    → remains (side_by t3 ss2 i2 o2 n2 c2) ≡ remains now.side
lost_back root x before t0 t1 t2 t3 ss0 ss2 i0 i2 o0 o2 n0 n2 c0 c2 now after is set was lost is2 back =
    ap (λ t. remains (side_by t ss2 i2 o2 n2 c2)) back
    ∙ ap (λ state. remains (on_tables (with_root root state) (side_by t2 ss2 i2 o2 n2 c2))) was
    ∙ remains_back root x (side_by t2 ss2 i2 o2 n2 c2) (side_by t0 ss0 i0 o0 n0 c0) (ap (λ e. remains e.side) is2 ∙ lost ∙ ap (λ t. remains (side_by t ss0 i0 o0 n0 c0)) set)
    ∙ ap (λ e. remains e.side) is

-- ---- an effect

-- the method at the top
pub record AtTop (fs : List Frame) : Type 0 where
  pub method : Body
  pub below : List Frame
  pub all : fs ≡ body method ∷ below

pub at_top : (fs : List Frame) → is_picked (picked_in fs) ≡ true → AtTop fs
at_top [] is = absurd (false≢true is)
at_top (base root ∷ fs) is = absurd (false≢true is)
at_top (body b ∷ fs) is = record { method = b; below = fs; all = refl }
at_top (outgoing o ∷ fs) is = absurd (false≢true is)

some_picked : (p q : Picked) → Some p ≡ Some q → p ≡ q
some_picked p q is = cc

pub picked_all : (fs : List Frame) (p : Picked) → picked_in fs ≡ Some p → fs ≡ body p.method ∷ p.below
picked_all [] p is = absurd (cc)
picked_all (base root ∷ fs) p is = absurd (cc)
picked_all (body b ∷ fs) p is = let same = some_picked (record { method = b; below = fs }) p is in ap (λ q. body q.method ∷ q.below) same
picked_all (outgoing o ∷ fs) p is = absurd (cc)

-- an effect that is no end of the bridge
pub applies_other : (g : Setting) (tid : List ℕ) (p : Picked) (e : Effect) (s : Side) → (e ≡ disposes → ⊥) → applies_effect g tid p e s ≡ with_unwound tid (applies g tid p.method p.below e s.tables) s
applies_other g tid p disposes s other = absurd (other refl)
applies_other g tid p e s other = refl

-- as code has it
pub no_end : (e : CodeEffect) → (e ≡ code.Disposes → ⊥) → effect_of e ≡ disposes → ⊥
no_end code.Disposes other is = other refl
no_end (code.Lets x) other is = cc
no_end (code.Sets x) other is = cc
no_end (code.SetsField x) other is = cc
no_end (code.Drops x) other is = cc
no_end code.Skips other is = cc
no_end (code.Calls target function args to) other is = cc
no_end (code.Queries target wanted to) other is = cc
no_end (code.Makes behaviour face to) other is = cc
no_end (code.Creates name args) other is = cc
no_end (code.Returns value outs) other is = cc
no_end (code.Raises exception) other is = cc

-- the names stay
pub named_so : {A E : Type 0} (r : Result A E) (t' : Tables) (t new_t : EndTables) (ss new_ss : List Stack) (i : Incoming) (o : Outgoing) (n : ℕ) (c : Option Cause) (now : EndSide) → seen t ss i o n c ≡ now
    → OnOk r (new_t ≡ with_tables t' t) → OnErr r (lasting new_t ≡ lasting t) → seen new_t new_ss i o n c ≡ with_side (side_by new_t new_ss i o n c) now
named_so r t' t new_t ss new_ss i o n c now is done lost =
    either r done lost
    (λ p. (λ j. record { prefix = (p j).prefix; first = (p j).first; release_tid = (p j).release_tid; side = side_by new_t new_ss i o n c }) ∙ ap (λ e. with_side (side_by new_t new_ss i o n c) e) is)
    (λ p. (λ j. record { prefix = (p j).prefix; first = (p j).first; release_tid = (p j).release_tid; side = side_by new_t new_ss i o n c }) ∙ ap (λ e. with_side (side_by new_t new_ss i o n c) e) is)
