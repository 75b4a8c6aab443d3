-- A run of `answer` that nothing hinders ends as the order of work does.
use Rattle.std.proofs.Common.{◌≡◌, refl, sym, ap, subst, ◌∙◌, ◌⊎◌, inl, inr, ℕ, zero, suc, Bool, true, false, List, [], ◌++◌, append-nil}
use Rattle.std.proofs.Common.{Option, None, Some, Result, Ok, Err}
use Rattle.std.specs.Io.KnownBytes.{Consumes, IsAtEnd}
use Rattle.uno_base.specs.Causes.{Rose}
use Rattle.uno_io.specs.Files.{Stored}
use Rattle.uno_model.specs.Entities.{Entity}
use Rattle.plan_model.specs.Keeps.{IsTextOf, IsVerdict, Wrong}
use Rattle.plan_model.specs.Plans.{Plan}
use Rattle.plan_model.specs.declared.line_reason.LineReason.{LineReason}
use Rattle.plan_model.proofs.VerdictLaws.{texts_have_one}
use Rattle.plan_reading_model.proofs.LineOne.{says_one}
use Rattle.registry_reading_model.proofs.NoneOfRegistry.{one_registry}
use Rattle.bridge_model.specs.Answers.{awaits_input}
use Rattle.bridge_model.specs.Histories.{Told}
use Rattle.bridge_model.specs.Orders.{Working, begins_work, works_once, goes_on_working, works}
use Rattle.bridge_model.specs.Settings.{Setting}
use Rattle.bridge_model.specs.declared.cause.Cause.{Cause}
use Rattle.bridge_model.specs.declared.cause.Cause.TheVariants as cause
use Rattle.bridge_laws.proofs.RestingLaws.{rests_once}
use Rattle.bridge_laws.specs.Working.{IsDone}
use Rattle.answering.specs.Answering.{AnsweredWhole, GoesOnTelling, Had, no_more, more, InputEnded, WasRead}
use Rattle.command_words.specs.Names.{Text}
use Rattle.uno_run.specs.Answer.{AnswerRun, FilesServed, IsIdle, IsOf, LacksPlan, OwnRun, RefusedPlan, Served, WasServed}
use Rattle.uno_run.specs.Ending.{AreWell, EndsAs, IsUnhindered}
use Rattle.uno_run.specs.Idl.{IsRefused, IsRegistryText, Refused, Tells}
use Rattle.uno_run.specs.Plans.{IsPlan, IsRefusedPlan, IsShallow, NoOwnEnd, RefusedWith}
use Rattle.uno_run.specs.declared.reason.RegistryReason.{RegistryReason}
use Rattle.uno_run.specs.declared.status.Status.{Status}
use Rattle.uno_run.specs.declared.status.Status.TheVariants.{Done, Words, BadUnoidl, BadRegistry, BadPlan, ReadFault, WriteFault, Broken, Cut, Full, NoFile, NoMemory}
use Rattle.uno_run.proofs.IdlRuns.{not_refused}

-- ---- the order ends in one way

by_next : (w u v : Working) (few many : Working → Option Working) → ((x : Working) → few x ≡ Some u → many x ≡ Some v → u ≡ v) → (next : Option Working)
    → goes_on_working few w next ≡ Some u → goes_on_working many w next ≡ Some v → u ≡ v
by_next w u v few many same None one other = cc
by_next w u v few many same (Some x) one other = same x one other

same_end : (n m : ℕ) (g : Setting) (w u v : Working) → works n g w ≡ Some u → works m g w ≡ Some v → u ≡ v
unfolding works
same_end zero m g w u v one other = absurd (cc)
same_end (suc n) zero g w u v one other = absurd (cc)
same_end (suc n) (suc m) g w u v one other = by_next w u v (works n g) (works m g) (λ x. same_end n m g x u v) (works_once g w) one other

pub one_end : (g : Setting) (bytes : List ℕ) (t u : Told) → IsDone g bytes t → IsDone g bytes u → t ≡ u
one_end g bytes t u a b = sym a.told ∙ (ap (λ w. w.told) (same_end a.steps b.steps g (begins_work g bytes) a.last b.last a.works b.works) ∙ b.told)

-- ---- the input ends in one way

pub one_way : (g : Setting) (bytes : List ℕ) (one other : Bool) → InputEnded g bytes one → InputEnded g bytes other → one ≡ other
one_way g bytes one other a b =
    let same = rests_once g bytes a.told b.told a.runs b.runs a.order a.done a.stood b.order b.done b.stood in
    sym a.awaited ∙ (ap (λ t. awaits_input t.side) same ∙ b.awaited)

-- ---- what was read

-- a front of the bytes that the input had; these are left
record ReadOf (old new : Option (List ℕ)) (bytes : List ℕ) : Type 0 where
  pub front : List ℕ
  pub rest : List ℕ
  pub was : WasRead old new front
  pub left : new ≡ Some rest
  pub parts : bytes ≡ front ++ rest

read_of : (old new : Option (List ℕ)) (bytes front : List ℕ) → old ≡ Some bytes → Consumes old new front → ReadOf old new bytes
read_of None new bytes front had consumed = absurd (cc)
read_of (Some xs) None bytes front had consumed = absurd consumed
read_of (Some xs) (Some ys) bytes front had consumed =
    let same : bytes ≡ xs = cc in
    record { front = front; rest = ys; was = consumed; left = refl; parts = same ∙ consumed }

-- where nothing is left, all were read
all_read : (old new : Option (List ℕ)) (bytes : List ℕ) → (r : ReadOf old new bytes) → IsAtEnd new → r.front ≡ bytes
all_read old None bytes r end = let left = r.left in absurd (cc)
all_read old (Some ys) bytes r end =
    let left = r.left in
    let none : r.rest ≡ [] = cc in
    sym (r.parts ∙ (ap (λ z. r.front ++ z) none ∙ append-nil r.front))

-- ---- why the order ends

module _ (g : Setting) (bytes : List ℕ) (told : Told) (done : IsDone g bytes told) (o p : Option (List ℕ)) (why : Cause) where
  same_cause : (u : Told) → IsDone g bytes u → u.side.cause ≡ Some why → told.side.cause ≡ Some why
  same_cause u done_too ended = ap (λ t. t.side.cause) (one_end g bytes told u done done_too) ∙ ended

  before_the_end : (front rest : List ℕ) → bytes ≡ front ++ rest → AnsweredWhole g front false o p why → told.side.cause ≡ Some why
  before_the_end front rest parts whole =
      same_cause whole.told (subst (λ z. IsDone g z whole.told) (sym parts) (whole.done (front ++ rest) (more rest))) whole.ended

  at_the_end : (front : List ℕ) → front ≡ bytes → AnsweredWhole g front true o p why → told.side.cause ≡ Some why
  at_the_end front all whole = same_cause whole.told (subst (λ z. IsDone g z whole.told) all (whole.done front no_more)) whole.ended

ends_for : (g : Setting) (bytes : List ℕ) (found why : Option Cause) (status : Status) → found ≡ why → EndsAs g bytes why status → EndsAs g bytes found status
ends_for g bytes found why status same = subst (λ c. EndsAs g bytes c status) (sym same)

module _ {I O : Type 0} (left : I → Option (List ℕ)) (reads : I → ℕ) (taken : O → Option (List ℕ)) (writes : O → ℕ)
    (g : Setting) (input_old input_new : I) (output_old output_new : O) (bytes : List ℕ) (told : Told) (un : IsUnhindered left reads writes g input_old input_new output_old output_new bytes told) where
  done_so : (r : ReadOf (left input_old) (left input_new) bytes)
      → AnsweredWhole g r.front false (taken output_old) (taken output_new) cause.Disposed
      ⊎ (AnsweredWhole g r.front true (taken output_old) (taken output_new) cause.Ended × InputEnded g r.front false × IsAtEnd (left input_new))
      → EndsAs g bytes told.side.cause Done
  done_so r (inl whole) =
      ends_for g bytes told.side.cause (Some cause.Disposed) Done
      (before_the_end g bytes told un.done (taken output_old) (taken output_new) cause.Disposed r.front r.rest r.parts whole) refl
  done_so r (inr all) =
      let is = all_read (left input_old) (left input_new) bytes r all.2 in
      ends_for g bytes told.side.cause (Some cause.Ended) Done
      (at_the_end g bytes told un.done (taken output_old) (taken output_new) cause.Ended r.front is all.0)
      (inl (refl, subst (λ z. InputEnded g z false) is all.1))

  cut_so : (r : ReadOf (left input_old) (left input_new) bytes)
      → AnsweredWhole g r.front true (taken output_old) (taken output_new) cause.Ended × InputEnded g r.front true × IsAtEnd (left input_new)
      → EndsAs g bytes told.side.cause Cut
  cut_so r all =
      let is = all_read (left input_old) (left input_new) bytes r all.2 in
      ends_for g bytes told.side.cause (Some cause.Ended) Cut
      (at_the_end g bytes told un.done (taken output_old) (taken output_new) cause.Ended r.front is all.0)
      (inr (refl, subst (λ z. InputEnded g z true) is all.1))

  bridge_so : (why : Cause) (status : Status) → EndsAs g bytes (Some why) status → (r : ReadOf (left input_old) (left input_new) bytes)
      → AnsweredWhole g r.front false (taken output_old) (taken output_new) why → EndsAs g bytes told.side.cause status
  bridge_so why status is r whole =
      ends_for g bytes told.side.cause (Some why) status
      (before_the_end g bytes told un.done (taken output_old) (taken output_new) why r.front r.rest r.parts whole) is

  pub served_ends : (status : Status) → Served left reads taken writes g input_old input_new output_old output_new status
      → EndsAs g bytes told.side.cause status ⊎ (status ≡ NoMemory)
  served_ends status s = by_status status s (read_of (left input_old) (left input_new) bytes s.goes_on.front un.had s.goes_on.consumed)
    where
      by_status : (status : Status) → Served left reads taken writes g input_old input_new output_old output_new status
          → ReadOf (left input_old) (left input_new) bytes → EndsAs g bytes told.side.cause status ⊎ (status ≡ NoMemory)
      by_status Done s r = inl (done_so r (s.done refl r.front r.was))
      by_status Words s r = absurd s.only
      by_status (BadUnoidl file byte reason) s r = absurd s.only
      by_status (BadRegistry file line reason) s r = absurd s.only
      by_status (BadPlan file line reason) s r = absurd s.only
      by_status ReadFault s r = absurd (un.read (s.read_fault refl))
      by_status WriteFault s r = absurd (un.written (s.write_fault refl))
      by_status (Broken why place) s r = inl (bridge_so (cause.Broken why place) (Broken why place) refl r (s.broken why place refl r.front r.was))
      by_status Cut s r = inl (cut_so r (s.cut refl r.front r.was))
      by_status Full s r = inl (bridge_so cause.Full Full refl r (s.full refl r.front r.was))
      by_status (NoFile file) s r = absurd s.only
      by_status NoMemory s r = inr refl

-- ---- two texts have one setting

is_setting : (g : Setting) (tag : List ℕ) (registry : List Entity) (plan : Plan) → g.tag ≡ tag → g.registry ≡ registry → g.plan ≡ plan
    → g ≡ record { tag = tag; registry = registry; plan = plan }
is_setting g tag registry plan tagged same planned = rw (sym tagged, sym same, sym planned) refl

pub same_registry : (text : List ℕ) (one other : List Entity) → IsRegistryText text one → IsRegistryText text other → one ≡ other
same_registry text one other a b =
    let x = a.accepted in
    let y = b.accepted in
    one_registry one other x.keeps y.keeps x.built_in y.built_in x.rising y.rising (x.text ∙ sym y.text)

pub one_verdict : (reg : List Entity) (text : List ℕ) (out other : Result Plan Wrong) → IsVerdict reg text out → IsVerdict reg text other → out ≡ other
one_verdict reg text out other = texts_have_one reg text out other (says_one reg)

-- what is accepted is not refused
pub plan_not_refused : (registry : List Entity) (text : List ℕ) (plan : Plan) (line : ℕ) (why : LineReason) → IsPlan registry text plan → IsRefusedPlan registry text line why → ⊥
plan_not_refused registry text plan line why is (inl wrong) =
    let refused : Result Plan Wrong = Err (record { line = line; reason = why }) in
    let both : ◌≡◌ {A = Result Plan Wrong} (Err (record { line = line; reason = why })) (Ok plan) = one_verdict registry text refused (Ok plan) wrong is.0 in
    cc
plan_not_refused registry text plan line why is (inr deep) =
    let both : ◌≡◌ {A = Result Plan Wrong} (Ok plan) (Ok deep.plan) = one_verdict registry text (Ok plan) (Ok deep.plan) is.0 deep.is_text in
    let same : plan ≡ deep.plan = cc in
    deep.deep (subst (λ p. IsShallow registry p) same is.1)

pub with_kept : (types text : List ℕ) (registry : List Entity) (plan : Plan) (line : ℕ) (why : LineReason) → IsRegistryText types registry → IsPlan registry text plan
    → RefusedWith types text line why → ⊥
with_kept types text registry plan line why is_text is_plan r =
    let same = same_registry types r.registry registry r.is_text is_text in
    plan_not_refused registry text plan line why is_plan (subst (λ x. IsRefusedPlan x text line why) same r.refused)

-- so where own texts are accepted, memory alone can be wanting
own_kept : (types plan tag : List ℕ) (g : Setting) → IsOf types plan tag g → (status : Status) → NoOwnEnd types plan status → status ≡ NoMemory
own_kept types plan tag g is Done n = absurd n
own_kept types plan tag g is Words n = absurd n
own_kept types plan tag g is (BadUnoidl file byte reason) n = absurd n
own_kept types plan tag g is (BadRegistry file line reason) n = absurd (not_refused types g.registry is.is_text line reason n.1)
own_kept types plan tag g is (BadPlan file line why) n = absurd (with_kept types plan g.registry g.plan line why is.is_text is.is_plan n.1)
own_kept types plan tag g is ReadFault n = absurd n
own_kept types plan tag g is WriteFault n = absurd n
own_kept types plan tag g is (Broken reason place) n = absurd n
own_kept types plan tag g is Cut n = absurd n
own_kept types plan tag g is Full n = absurd n
own_kept types plan tag g is (NoFile file) n = absurd n
own_kept types plan tag g is NoMemory n = refl

one_setting : (types plan tag : List ℕ) (g h : Setting) → IsOf types plan tag g → IsOf types plan tag h → g ≡ h
one_setting types plan tag g h a b =
    let same = same_registry types g.registry h.registry a.is_text b.is_text in
    let both : ◌≡◌ {A = Result Plan Wrong} (Ok g.plan) (Ok h.plan) = one_verdict g.registry plan (Ok g.plan) (Ok h.plan) a.is_plan.0 (subst (λ r. IsTextOf r plan h.plan) (sym same) b.is_plan.0) in
    let planned : g.plan ≡ h.plan = cc in
    is_setting g h.tag h.registry h.plan (a.tagged ∙ sym b.tagged) same planned

-- ---- `answer` alone, and with files

module _ {I O : Type 0} (left : I → Option (List ℕ)) (reads : I → ℕ) (taken : O → Option (List ℕ)) (writes : O → ℕ)
    (input_old input_new : I) (output_old output_new : O) (g : Setting) (bytes : List ℕ) (told : Told)
    (un : IsUnhindered left reads writes g input_old input_new output_old output_new bytes told) (status : Status) where
  was_ends : (types plan tag : List ℕ) → IsOf types plan tag g
      → WasServed left reads taken writes types plan tag input_old input_new output_old output_new status
      → EndsAs g bytes told.side.cause status ⊎ (status ≡ NoMemory)
  was_ends types plan tag is was =
      let same = one_setting types plan tag was.setting g was.is_of is in
      served_ends left reads taken writes g input_old input_new output_old output_new bytes told un status
      (subst (λ h. Served left reads taken writes h input_old input_new output_old output_new status) same was.served)

  pub own_ends : (types plan tag : List ℕ) → IsOf types plan tag g
      → OwnRun left reads taken writes types plan tag input_old input_new output_old output_new status
      → EndsAs g bytes told.side.cause status ⊎ (status ≡ NoMemory)
  own_ends types plan tag is (inl was) = was_ends types plan tag is was
  own_ends types plan tag is (inr none) = inr (own_kept types plan tag g is status none.0)

-- what is told of a file is one
pub one_text : (store : Option Stored) (name : Text) (files : Stored) (one other : Option (List ℕ)) → store ≡ Some files
    → Tells store name one → Tells store name other → one ≡ other
one_text store name files one other stores told there = sym (told files stores) ∙ there files stores

module _ {F I O : Type 0} (stored : F → Option Stored) (readings : F → ℕ) (left : I → Option (List ℕ)) (reads : I → ℕ)
    (taken : O → Option (List ℕ)) (writes : O → ℕ)
    (types plan : Text) (tag : List ℕ) (files_old files_new : F) (input_old input_new : I) (output_old output_new : O)
    (g : Setting) (well : AreWell stored readings types plan tag files_old files_new g) where
  same_types : (text : List ℕ) → Tells (stored files_old) types (Some text) → text ≡ well.is_of.types_text
  same_types text told =
      let both : Some text ≡ Some well.is_of.types_text = one_text (stored files_old) types well.store (Some text) (Some well.is_of.types_text) well.tells told well.is_of.types_told in
      cc

  same_plan : (text : List ℕ) → Tells (stored files_old) plan (Some text) → text ≡ well.is_of.plan_text
  same_plan text told =
      let both : Some text ≡ Some well.is_of.plan_text = one_text (stored files_old) plan well.store (Some text) (Some well.is_of.plan_text) well.tells told well.is_of.plan_told in
      cc

  -- neither file is missing
  types_there : Tells (stored files_old) types None → ⊥
  types_there told =
      let both : ◌≡◌ {A = Option (List ℕ)} None (Some well.is_of.types_text) = one_text (stored files_old) types well.store None (Some well.is_of.types_text) well.tells told well.is_of.types_told in
      cc

  plan_there : Tells (stored files_old) plan None → ⊥
  plan_there told =
      let both : ◌≡◌ {A = Option (List ℕ)} None (Some well.is_of.plan_text) = one_text (stored files_old) plan well.store None (Some well.is_of.plan_text) well.tells told well.is_of.plan_told in
      cc

  -- nor is it refused
  types_kept : (line : ℕ) (reason : RegistryReason) → Refused (stored files_old) types line reason → ⊥
  types_kept line reason r =
      not_refused well.is_of.types_text g.registry well.is_of.is_of.is_text line reason (subst (λ t. IsRefused t line reason) (same_types r.text r.told) r.refused)

  plan_kept : (line : ℕ) (why : LineReason) → RefusedPlan (stored files_old) types plan line why → ⊥
  plan_kept line why r =
      let typed = subst (λ t. IsRegistryText t r.registry) (same_types r.is_of.text r.is_of.told) r.is_of.is_text in
      let same = same_registry well.is_of.types_text r.registry g.registry typed well.is_of.is_of.is_text in
      let refused = subst (λ t. IsRefusedPlan g.registry t line why) (same_plan r.plan_text r.plan_told) (subst (λ x. IsRefusedPlan x r.plan_text line why) same r.refused) in
      plan_not_refused g.registry well.is_of.plan_text g.plan line why well.is_of.is_of.is_plan refused

  no_file_lacks : (file : ℕ) → ((file ≡ 0) × Tells (stored files_old) types None) ⊎ ((file ≡ 1) × LacksPlan (stored files_old) types plan) → ⊥
  no_file_lacks file (inl first) = types_there first.1
  no_file_lacks file (inr second) = plan_there second.1.plan_told

  module _ (bytes : List ℕ) (told : Told) (un : IsUnhindered left reads writes g input_old input_new output_old output_new bytes told) where
    files_end : (status : Status) → FilesServed left reads taken writes (stored files_old) types plan tag input_old input_new output_old output_new status
        → EndsAs g bytes told.side.cause status ⊎ (status ≡ NoMemory)
    files_end status s =
        let of_types = subst (λ t. IsOf t s.is_of.plan_text tag s.setting) (same_types s.is_of.types_text s.is_of.types_told) s.is_of.is_of in
        let of_both = subst (λ t. IsOf well.is_of.types_text t tag s.setting) (same_plan s.is_of.plan_text s.is_of.plan_told) of_types in
        was_ends left reads taken writes input_old input_new output_old output_new g bytes told un status well.is_of.types_text well.is_of.plan_text tag well.is_of.is_of
        (record { setting = s.setting; is_of = of_both; served = s.served })

    by_fault : (Rose (readings files_old) (readings files_new) × IsIdle input_old input_new output_old output_new)
        ⊎ ((readings files_new ≡ readings files_old)
        × FilesServed left reads taken writes (stored files_old) types plan tag input_old input_new output_old output_new ReadFault) → ⊥
    by_fault (inl failed) = well.read failed.0
    by_fault (inr served) = un.read (served.1.served.read_fault refl)

    pub run_ends : (status : Status)
        → AnswerRun stored readings left reads taken writes types plan tag files_old files_new input_old input_new output_old output_new status
        → EndsAs g bytes told.side.cause status ⊎ (status ≡ NoMemory)
    run_ends Done run = files_end Done (run.served tt)
    run_ends Words run = absurd run.only
    run_ends (BadUnoidl file byte reason) run = absurd run.only
    run_ends (BadRegistry file line reason) run = let bad = run.bad_registry file line reason refl in absurd (types_kept line reason bad.1)
    run_ends (BadPlan file line why) run = let bad = run.bad_plan file line why refl in absurd (plan_kept line why bad.1)
    run_ends ReadFault run = absurd (by_fault (run.read_fault refl))
    run_ends WriteFault run = files_end WriteFault (run.served tt)
    run_ends (Broken why place) run = files_end (Broken why place) (run.served tt)
    run_ends Cut run = files_end Cut (run.served tt)
    run_ends Full run = files_end Full (run.served tt)
    run_ends (NoFile file) run = absurd (no_file_lacks file (run.no_file file refl))
    run_ends NoMemory run = inr refl
