-- Behind the end of a bridge no root begins a call or makes an object, and a run that is past a `dispose` is at an end that has ended.
use Rattle.std.proofs.Common.{◌≡◌, refl, sym, ap, subst, ◌∙◌, ℕ, suc, ◌<◌, ◌⊎◌, inl, inr, Bool, true, false, not, ◌&&◌, nat_lt, if◌then◌else◌, List, [], ◌∷◌, ◌++◌, Option, None, Some, slice_get, arith}
use Rattle.std.specs.List.{list_all}
use Rattle.std.proofs.lemmas.Bool.{and_parts, and_from, ltb-true, ltb-false, true≢false}
use Rattle.uno_model.proofs.Options.{same_some}
use Rattle.plan_model.specs.Roots.{Run, statements_of}
use Rattle.plan_model.specs.Statements.{RootStatement, root_drop, root_dispose}
use Rattle.bridge_laws.specs.OfPlan.{IsRoot}
use Rattle.bridge_laws.proofs.Replays.{of_step}
use Rattle.bridge_laws.proofs.StandingLaws.{same_standing}
use Rattle.bridge_laws.proofs.StepLaws.{ended_along}
use Rattle.bridge_model.specs.Ends.{ends_by}
use Rattle.bridge_model.specs.Entries.{Entry, asked, called, queried, made, disposed}
use Rattle.bridge_model.specs.Histories.{Told, told_more, told_by, tells_all, Leads}
use Rattle.bridge_model.specs.RootRuns.{Moved, moved, is_skipped, names_of, goes_over, begins_statement, StandsFor}
use Rattle.bridge_model.specs.Settings.{Setting}
use Rattle.bridge_model.specs.Sides.{Side, stands}
use Rattle.bridge_model.specs.Steps.{Turn, may, does, step}
use Rattle.bridge_laws.specs.Giving.{RootsGive}
use Rattle.bridge_laws.proofs.TypedGiven.{IsGiven}
use Rattle.bridge_laws.specs.Lines.{HasNull, needs_bridge, Says, is_skipped_line, is_null_line, compares, takes, makes, is_gone, is_full, Silent, drops_one, disposes, is_disposed, ComesFirst, IsAt, Lines, first, silent, line}
use Rattle.bridge_laws.proofs.LineLaws.{run_lines}
use Rattle.bridge_laws.proofs.ObjectKeepingLaws.{behind}
use Rattle.bridge_laws.proofs.HistoryLaws.{leads_push, nowhere}
use Rattle.bridge_laws.specs.RootCalls.{begins_call, begins_some, IsOfItsCall}
use Rattle.bridge_laws.proofs.CallLaws.{ended_later, gives_front, outcome_is}

-- ---- what is not begun

not_begun : (g : Setting) (s : Side) (e : Entry) → stands s ≡ false → may g s e ≡ true → not (begins_some e) ≡ true
unfolding may
not_begun g s (asked root name wanted) down can = absurd (true≢false (sym (and_parts (stands s) _ can).0 ∙ down))
not_begun g s (called root oid face function args) down can = absurd (true≢false (sym (and_parts (stands s) _ can).0 ∙ down))
not_begun g s (queried root oid face wanted) down can = absurd (true≢false (sym (and_parts (stands s) _ can).0 ∙ down))
not_begun g s (made root behaviour wanted) down can = absurd (true≢false (sym (and_parts (stands s) _ can).0 ∙ down))
not_begun g s e down can = refl

abbrev begin_none : List Entry → Bool
begin_none later = list_all (λ e. not (begins_some e)) later

none_by : (g : Setting) (es later : List Entry) (x y : Told) (e : Entry) → Leads g es x → stands x.side ≡ false
    → ((front : List Entry) (z : Told) → Leads g front z → stands z.side ≡ false → tells_all g (Some z) later ≡ Some y → begin_none later ≡ true)
    → (o : Option Turn) → step g x.side e ≡ o → tells_all g (told_by x e o) later ≡ Some y → begin_none (e ∷ later) ≡ true
none_by g es later x y e leads down more None is to = absurd (nowhere g later y to)
none_by g es later x y e leads down more (Some u) is to =
    and_from (not (begins_some e)) (begin_none later) (of_step g x.side e u (λ v. not (begins_some e) ≡ true) (λ can. not_begun g x.side e down can) is)
    (more (es ++ e ∷ []) (told_more x e u) (leads_push g es e x u leads is) (ended_along g es x e u leads down is).ended to)

none_from : (g : Setting) (later es : List Entry) (x y : Told) → Leads g es x → stands x.side ≡ false → tells_all g (Some x) later ≡ Some y → begin_none later ≡ true
unfolding tells_all
none_from g [] es x y leads down to = refl
none_from g (e ∷ later) es x y leads down to = none_by g es later x y e leads down (λ front z at ended on. none_from g later front z y at ended on) (step g x.side e) refl to

pub none_begun : (g : Setting) (es later : List Entry) (x y : Told) → Leads g es x → stands x.side ≡ false → Leads g (es ++ later) y → list_all (λ e. not (begins_some e)) later ≡ true
none_begun g es later x y leads down to = none_from g later es x y leads down (behind g es later x y leads to)

-- ---- a run that is past a dispose

disposed_ends : (g : Setting) (s : Side) (u : Turn) → step g s disposed ≡ Some u → stands u.side ≡ false
unfolding does ends_by
disposed_ends g s u is = of_step g s disposed u (λ v. stands v.side ≡ false) (λ can. same_standing g disposed s) is

-- before it the bridge had ended, or with the next entry it is disposed
record HasDisposed (g : Setting) (es : List Entry) : Type 0 where
  front : List Entry
  later : List Entry
  journal : es ≡ front ++ later
  told : Told
  leads : Leads g front told
  ends : (stands told.side ≡ false) ⊎ ((rest : List Entry) × (later ≡ disposed ∷ rest))

ends_from : (g : Setting) (front rest : List Entry) (x y : Told) (o : Option Turn) → Leads g front x → step g x.side disposed ≡ o → tells_all g (told_by x disposed o) rest ≡ Some y → stands y.side ≡ false
ends_from g front rest x y None leads is to = absurd (nowhere g rest y to)
ends_from g front rest x y (Some u) leads is to =
    ended_later g (front ++ disposed ∷ []) rest (told_more x disposed u) y (leads_push g front disposed x u leads is) (disposed_ends g x.side u is) to

has_ended : (g : Setting) (es : List Entry) (y : Told) → HasDisposed g es → Leads g es y → stands y.side ≡ false
unfolding tells_all
has_ended g es y k to = by_end k.ends
  where
    on : tells_all g (Some k.told) k.later ≡ Some y
    on = behind g k.front k.later k.told y k.leads (subst (λ zs. Leads g zs y) k.journal to)

    by_end : (stands k.told.side ≡ false) ⊎ ((rest : List Entry) × (k.later ≡ disposed ∷ rest)) → stands y.side ≡ false
    by_end (inl down) = ended_later g k.front k.later k.told y k.leads down on
    by_end (inr (rest, is)) = ends_from g k.front rest k.told y (step g k.told.side disposed) k.leads refl (ap (tells_all g (Some k.told)) (sym is) ∙ on)

-- a dispose names no variable, so it is not skipped
none_named : (r : Run) → is_skipped r.variables root_dispose ≡ false
unfolding names_of
none_named r = refl

module _ (g : Setting) (given : IsGiven g) (es : List Entry) (gives : RootsGive g es) (root : ℕ) (is_root : IsRoot g root) where
  silent_past : (place : ℕ) (ls : List (List ℕ)) (at : IsAt g es root place ls) (s : RootStatement) (e : Option Entry) → s ≡ root_dispose → Silent at.told.side s e → ComesFirst e at.later → HasDisposed g es
  silent_past place ls at s e same (drops_one name) next = absurd (cc)
  silent_past place ls at s e same (disposes up) next = record { front = at.front; later = at.later; journal = at.journal; told = at.told; leads = at.leads; ends = inr next }
  silent_past place ls at s e same (is_disposed down) next = record { front = at.front; later = at.later; journal = at.journal; told = at.told; leads = at.leads; ends = inl down }

  no_skip : {X : Type 0} (r : Run) (s : RootStatement) → s ≡ root_dispose → is_skipped r.variables s ≡ true → X
  no_skip r s same skips = absurd (true≢false (sym skips ∙ (ap (is_skipped r.variables) same ∙ none_named r)))

  no_need : {X : Type 0} (s : RootStatement) → s ≡ root_dispose → needs_bridge s ≡ true → X
  no_need s same needs = absurd (true≢false (sym needs ∙ ap needs_bridge same))

  -- a dispose begins no call
  disposed_by : (b : Bool) (r : Run) (x : Entry) → moved (goes_over r) (if b then Some disposed else None) ≡ moved r (Some x) → begins_call r.root x ≡ false
  disposed_by true r x is = let same : disposed ≡ x = cc in ap (begins_call r.root) (sym same)
  disposed_by false r x is = absurd (cc)

  dispose_begins : (z : Side) (r : Run) (x : Entry) → begins_statement g z r root_dispose ≡ moved r (Some x) → begins_call r.root x ≡ false
  unfolding begins_statement
  dispose_begins z r x is = disposed_by (stands z) r x is

  says_past : (place : ℕ) (ls : List (List ℕ)) (at : IsAt g es root place ls) (s : RootStatement) (e : Option Entry) (text : List ℕ) → s ≡ root_dispose
      → slice_get (statements_of g.plan root) place ≡ Some s → Says g at.told.side at.run s e text → HasDisposed g es
  says_past place ls at s e text same there (is_skipped_line skips) = no_skip at.run s same skips
  says_past place ls at s e text same there (is_null_line unskipped null) = absurd (subst (HasNull at.run) same null)
  says_past place ls at s e text same there (compares a b is unskipped) = absurd (cc)
  says_past place ls at s e text same there (takes o has) =
      let k =
      outcome_is g given at.front at.told at.run o (gives_front g at.front at.later (subst (RootsGive g) at.journal gives)) at.leads at.stands_for
      (subst (IsRoot g) (sym at.same_root) is_root) has in
      let here : slice_get (statements_of g.plan at.run.root) at.run.place ≡ Some s =
      ap (λ n. slice_get (statements_of g.plan n) at.run.place) at.same_root ∙ (ap (slice_get (statements_of g.plan root)) at.same_place ∙ there) in
      let stated : k.statement ≡ root_dispose = same_some (sym k.call.at ∙ here) ∙ same in
      let begins = dispose_begins k.call.told.side at.run k.call.entry (subst (λ w. begins_statement g k.call.told.side at.run w ≡ moved at.run (Some k.call.entry)) stated k.call.begun) in
      absurd (true≢false (sym k.call.calls ∙ begins))
  says_past place ls at s e text same there (makes m is up) = absurd (cc)
  says_past place ls at s e text same there (is_gone b down) = no_need s same b.needs
  says_past place ls at s e text same there (is_full b up full) = no_need s same b.needs

  last_or_before : (n place : ℕ) → place < suc n → (place < n) ⊎ (n ≡ place)
  last_or_before n place less = by_test (nat_lt place n) refl
    where
      by_test : (b : Bool) → nat_lt place n ≡ b → (place < n) ⊎ (n ≡ place)
      by_test true is = inl (ltb-true place n is)
      by_test false is = let least = ltb-false place n is in inr (omega (arith, less, least))

  here_or_before : (n place : ℕ) (s : RootStatement) → slice_get (statements_of g.plan root) n ≡ Some s → slice_get (statements_of g.plan root) place ≡ Some root_dispose
      → (s ≡ root_dispose → HasDisposed g es) → (place < n → HasDisposed g es) → (place < n) ⊎ (n ≡ place) → HasDisposed g es
  here_or_before n place s there is here before (inl less) = before less
  here_or_before n place s there is here before (inr same) = here (same_some (sym there ∙ (ap (slice_get (statements_of g.plan root)) same ∙ is)))

  lines_past : (n : ℕ) (ls : List (List ℕ)) → Lines g es root n ls → (place : ℕ) → place < n → slice_get (statements_of g.plan root) place ≡ Some root_dispose → HasDisposed g es
  lines_past n' ls' first place less is = absurd (omega arith)
  lines_past n' ls' (silent n ls s e at there says next before) place less is =
      here_or_before n place s there is (λ same. silent_past n ls at s e same says next) (λ earlier. lines_past n ls before place earlier is) (last_or_before n place less)
  lines_past n' ls' (line n ls s e text at there says next before) place less is =
      here_or_before n place s there is (λ same. says_past n ls at s e text same there says) (λ earlier. lines_past n ls before place earlier is) (last_or_before n place less)

pub past_ended : (g : Setting) (given : IsGiven g) (es : List Entry) (x : Told) (r : Run) (place : ℕ) → RootsGive g es → Leads g es x → StandsFor g es r → IsRoot g r.root → place < r.place
    → slice_get (statements_of g.plan r.root) place ≡ Some root_dispose → stands x.side ≡ false
past_ended g given es x r place gives leads stand is less there =
    has_ended g es x (lines_past g given es gives r.root is r.place r.lines (run_lines g es r stand) place less there) leads
