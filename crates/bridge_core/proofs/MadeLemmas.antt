-- What becomes of a statement that makes an object, by what was answered.
use Rattle.std.proofs.Common.{◌≡◌, ◌≢◌, refl, sym, ap, ◌∙◌, ◌++◌, suc, true, false, inl, inr, Some, List, ℕ, Bool, Result, Ok, Err, is_ok, codes, if◌then◌else◌}
use Rattle.std.proofs.lemmas.Bool.{true≢false, false≢true}
use Rattle.literal_model.specs.Literals.{print}
use Rattle.uno_model.specs.Values.{Ref, Plain, own}
use Rattle.uno_model.specs.Values as v
use Rattle.plan_model.specs.Roots.{Run}
use Rattle.plan_model.specs.Statements.{Making}
use Rattle.bridge_model.specs.Answers as answers
use Rattle.bridge_model.specs.Entries.{full, made}
use Rattle.bridge_model.specs.RootRuns.{makes_new, moved, without_entry, over_with, adds, line_of}
use Rattle.bridge_model.specs.Settings.{Setting, own_oid}
use Rattle.bridge_model.specs.Sides.{Side, stands}
use Rattle.bridge_model.specs.Steps.{has_entries}
use Rattle.bridge_endpoint.specs.Answering.{made_told, made_answer}
use Rattle.bridge_endpoint.specs.Entering.{made_by}
use Rattle.bridge_endpoint.specs.Journals.{Endpoint, setting_at, side_at}
use Rattle.bridge_endpoint.specs.declared.answers.Made.{Made}
use Rattle.bridge_endpoint.specs.declared.answers.Made.TheVariants as variant
use Rattle.bridge_core.specs.Making.{IsMade, made_run, has_made}
use Rattle.bridge_core.specs.Moving.{DoesOr}
use Rattle.bridge_core.proofs.BegunLemmas.{at_no_end, open_told, full_told}
use Rattle.bridge_core.proofs.MoveLemmas.{entered}

-- the reference under which a new object is held
abbrev pub new_of : Setting → Side → Making → Ref
new_of g s m = own (own_oid g (suc s.tables.objects_made)) m.face

makes_open : (g : Setting) (s : Side) (r : Run) (m : Making) → stands s ≡ true → has_entries s ≡ false
    → makes_new g s r m ≡ moved (over_with (codes "returned " ++ print g.registry (v.ref (new_of g s m))) (adds m.to (v.ref (new_of g s m)) r)) (Some (made r.root m.behaviour m.face))
makes_open g s r m stood had = rw (stood, had) refl

makes_full : (g : Setting) (s : Side) (r : Run) (m : Making) → stands s ≡ true → has_entries s ≡ true → makes_new g s r m ≡ moved (over_with (codes "full") r) (Some full)
makes_full g s r m stood had = rw (stood, had) refl

pub makes_gone : (g : Setting) (s : Side) (r : Run) (m : Making) → stands s ≡ false → makes_new g s r m ≡ without_entry (over_with (codes "gone") r)
makes_gone g s r m stood = rw (stood) refl

-- where the bridge stands it is not answered that it has ended
pub is_made : (s : Side) (x : Made) → stands s ≡ true → (made_told x ≢ answers.no_room_left → made_told x ≡ made_answer s) → IsMade x
is_made s (variant.Made oid) up is = tt
is_made s variant.Full up is = tt
is_made s variant.NoMemory up is = tt
is_made s variant.Gone up is = by_limit (has_entries s) (sym (at_no_end s.cause _ up) ∙ sym (is (λ a. let bad : ⊥ = cc in bad)))
  where
    by_limit : (fill : Bool) → (if fill then answers.at_limit_too else answers.started) ≡ answers.gone_already → ⊥
    by_limit true same = let bad : ⊥ = cc in bad
    by_limit false same = let bad : ⊥ = cc in bad

module _ (e f : Endpoint) (r after : Run) (m : Making) (up : stands (side_at e) ≡ true) where
  told : (x : Made) → made_told x ≡ made_answer (side_at e) → (if has_entries (side_at e) then answers.at_limit_too else answers.started) ≡ made_told x
  told x is = sym (at_no_end (side_at e).cause _ up) ∙ sym is

  pub by_made : {X : Type 0} (x : Made) (done : Result Unit X) → (made_told x ≢ answers.no_room_left → made_told x ≡ made_answer (side_at e)) → f ≡ made_by x (made r.root m.behaviour m.face) e
      → after ≡ made_run (setting_at e).registry x m.to (new_of (setting_at e) (side_at e) m) r → is_ok done ≡ has_made x → DoesOr (makes_new (setting_at e) (side_at e) r m) e f r after done
  by_made (variant.Made oid) (Ok u) is done same ok =
      let had = open_told (has_entries (side_at e)) answers.started (made_told (variant.Made oid)) (told (variant.Made oid) (is (λ a. let bad : ⊥ = cc in bad))) (λ a. let bad : ⊥ = cc in bad) in
      entered (makes_new (setting_at e) (side_at e) r m) e f (made r.root m.behaviour m.face) _ after (makes_open (setting_at e) (side_at e) r m up had) same done
  by_made variant.Full (Ok u) is done same ok =
      let had = full_told (has_entries (side_at e)) answers.started (λ a. let bad : ⊥ = cc in bad) (told variant.Full (is (λ a. let bad : ⊥ = cc in bad))) in
      entered (makes_new (setting_at e) (side_at e) r m) e f full _ after (makes_full (setting_at e) (side_at e) r m up had) same done
  by_made variant.Gone (Err y) is done same ok = record { run = same; bridge = inl done }
  by_made variant.NoMemory (Err y) is done same ok = record { run = same; bridge = inr done }
  by_made (variant.Made oid) (Err y) is done same ok = absurd (false≢true ok)
  by_made variant.Full (Err y) is done same ok = absurd (false≢true ok)
  by_made variant.Gone (Ok u) is done same ok = absurd (true≢false ok)
  by_made variant.NoMemory (Ok u) is done same ok = absurd (true≢false ok)

-- the line that was made beforehand is that of the run with its new variable
pub made_there : (text : List ℕ) (r : Ref) (before mid after : Run) (to line : List ℕ) (new : Plain) → new ≡ v.ref r → line ≡ line_of before text → mid ≡ adds to new before
    → ((other : List ℕ) → line ≡ line_of mid other → after ≡ over_with other mid) → after ≡ over_with text (adds to (v.ref r) before)
unfolding line_of
made_there text r before mid after to line new is told added over =
    let same : mid ≡ adds to (v.ref r) before = added ∙ ap (λ x. adds to x before) is in
    over text (told ∙ ap (λ m. line_of m text) (sym same)) ∙ ap (over_with text) same
