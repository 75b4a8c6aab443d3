-- The setting of two texts, and what follows of a run that has it or has none.
use Rattle.std.proofs.Common.{◌≡◌, ◌↔◌, ℕ, ◌<◌, ◌≤◌, List, length, Option, Some, Ok, Err, sym, subst, inl, inr, arith}
use Rattle.uno_io.specs.Files.{Stored}
use Rattle.uno_model.specs.Entities.{Entity}
use Rattle.bridge_model.specs.Settings.{Setting}
use Rattle.command_words.specs.Names.{Text}
use Rattle.uno_run.specs.Answer.{IsOf, IsOfFiles}
use Rattle.uno_run.specs.Idl.{IsOfFile, IsRegistryText, Tells}
use Rattle.uno_run.specs.Plans.{IsPlan, NoOwnEnd}
use Rattle.uno_run.specs.Reading.{Unread}
use Rattle.uno_run.specs.SettingUp.{NotSetUp, RefusedRegistry, RefusedText}
use Rattle.uno_run.specs.declared.status.Status.{Status}
use Rattle.uno_run.specs.declared.status.Status.TheVariants.{Done, Words, BadUnoidl, BadRegistry, BadPlan, ReadFault, WriteFault, Broken, Cut, Full, NoFile, NoMemory}

pub is_of : (types plan tag : List ℕ) (registry : List Entity) (g : Setting) → IsRegistryText types registry → g.tag ≡ tag → g.registry ≡ registry
    → IsPlan registry plan g.plan → IsOf types plan tag g
is_of types plan tag registry g is_text tagged same is_plan =
    record { is_text = subst (IsRegistryText types) (sym same) is_text; is_plan = subst (λ r. IsPlan r plan g.plan) (sym same) is_plan; tagged = tagged }

-- a text that was read is not too long
pub short_text : {T E : Type 0} (x : T) (e : E) (text : List ℕ) → (Ok x ≡ Err e) ↔ (4194304 < length text) → length text ≤ 4194304
short_text x e text long = let within : 4194304 < length text → ⊥ = λ above. no_error (long.1 above) in omega (arith, within)
  where
    no_error : Ok x ≡ Err e → ⊥
    no_error is = cc

-- ---- the first file

-- it was not read
pub unread_types : (store : Option Stored) (types plan : Text) (before now : ℕ) (status : Status) → Unread store types 0 before now status → NotSetUp store types plan before now status
unread_types store types plan before now Done u = absurd u
unread_types store types plan before now Words u = absurd u
unread_types store types plan before now (BadUnoidl file byte reason) u = absurd u
unread_types store types plan before now (BadRegistry file line reason) u = absurd u
unread_types store types plan before now (BadPlan file line reason) u = absurd u
unread_types store types plan before now ReadFault u = u
unread_types store types plan before now WriteFault u = absurd u
unread_types store types plan before now (Broken reason place) u = absurd u
unread_types store types plan before now Cut u = absurd u
unread_types store types plan before now Full u = absurd u
unread_types store types plan before now (NoFile file) u = (inl (u.0, u.1), u.2)
unread_types store types plan before now NoMemory u = u

-- its text was refused
pub refused_types : (store : Option Stored) (types plan : Text) (before now : ℕ) (text : List ℕ) (status : Status) → Tells store types (Some text) → now ≡ before
    → RefusedRegistry text status → NotSetUp store types plan before now status
refused_types store types plan before now text Done told same r = absurd r
refused_types store types plan before now text Words told same r = absurd r
refused_types store types plan before now text (BadUnoidl file byte reason) told same r = absurd r
refused_types store types plan before now text (BadRegistry file line reason) told same r = (r.0, record { text = text; told = told; refused = r.1 }, same)
refused_types store types plan before now text (BadPlan file line reason) told same r = absurd r
refused_types store types plan before now text ReadFault told same r = absurd r
refused_types store types plan before now text WriteFault told same r = absurd r
refused_types store types plan before now text (Broken reason place) told same r = absurd r
refused_types store types plan before now text Cut told same r = absurd r
refused_types store types plan before now text Full told same r = absurd r
refused_types store types plan before now text (NoFile file) told same r = absurd r
refused_types store types plan before now text NoMemory told same r = same

-- ---- the second

pub unread_plan : (store : Option Stored) (types plan : Text) (before now : ℕ) (registry : List Entity) (status : Status) → IsOfFile store types registry
    → Unread store plan 1 before now status → NotSetUp store types plan before now status
unread_plan store types plan before now registry Done first u = absurd u
unread_plan store types plan before now registry Words first u = absurd u
unread_plan store types plan before now registry (BadUnoidl file byte reason) first u = absurd u
unread_plan store types plan before now registry (BadRegistry file line reason) first u = absurd u
unread_plan store types plan before now registry (BadPlan file line reason) first u = absurd u
unread_plan store types plan before now registry ReadFault first u = u
unread_plan store types plan before now registry WriteFault first u = absurd u
unread_plan store types plan before now registry (Broken reason place) first u = absurd u
unread_plan store types plan before now registry Cut first u = absurd u
unread_plan store types plan before now registry Full first u = absurd u
unread_plan store types plan before now registry (NoFile file) first u = (inr (u.0, record { registry = registry; is_of = first; plan_told = u.1 }), u.2)
unread_plan store types plan before now registry NoMemory first u = u

pub refused_plan : (store : Option Stored) (types plan : Text) (before now : ℕ) (registry : List Entity) (text : List ℕ) (status : Status) → IsOfFile store types registry
    → Tells store plan (Some text) → now ≡ before → RefusedText registry text status → NotSetUp store types plan before now status
refused_plan store types plan before now registry text Done first told same r = absurd r
refused_plan store types plan before now registry text Words first told same r = absurd r
refused_plan store types plan before now registry text (BadUnoidl file byte reason) first told same r = absurd r
refused_plan store types plan before now registry text (BadRegistry file line reason) first told same r = absurd r
refused_plan store types plan before now registry text (BadPlan file line reason) first told same r =
    (r.0, record { registry = registry; is_of = first; plan_text = text; plan_told = told; refused = r.1 }, same)
refused_plan store types plan before now registry text ReadFault first told same r = absurd r
refused_plan store types plan before now registry text WriteFault first told same r = absurd r
refused_plan store types plan before now registry text (Broken reason place) first told same r = absurd r
refused_plan store types plan before now registry text Cut first told same r = absurd r
refused_plan store types plan before now registry text Full first told same r = absurd r
refused_plan store types plan before now registry text (NoFile file) first told same r = absurd r
refused_plan store types plan before now registry text NoMemory first told same r = same

pub both_files : (store : Option Stored) (types plan : Text) (tag text : List ℕ) (registry : List Entity) (g : Setting) → IsOfFile store types registry → Tells store plan (Some text)
    → ((typed : List ℕ) → IsRegistryText typed registry → IsOf typed text tag g) → IsOfFiles store types plan tag g
both_files store types plan tag text registry g first told is =
    record { types_text = first.text; plan_text = text; types_told = first.told; plan_told = told; is_of = is first.text first.is_text }

-- ---- own texts

pub own_types_refused : (types plan : List ℕ) (status : Status) → RefusedRegistry types status → NoOwnEnd types plan status
own_types_refused types plan Done n = absurd n
own_types_refused types plan Words n = absurd n
own_types_refused types plan (BadUnoidl file byte reason) n = absurd n
own_types_refused types plan (BadRegistry file line reason) n = n
own_types_refused types plan (BadPlan file line why) n = absurd n
own_types_refused types plan ReadFault n = absurd n
own_types_refused types plan WriteFault n = absurd n
own_types_refused types plan (Broken reason place) n = absurd n
own_types_refused types plan Cut n = absurd n
own_types_refused types plan Full n = absurd n
own_types_refused types plan (NoFile file) n = absurd n
own_types_refused types plan NoMemory n = tt

pub own_plan_refused : (types plan : List ℕ) (registry : List Entity) → IsRegistryText types registry → (status : Status) → RefusedText registry plan status → NoOwnEnd types plan status
own_plan_refused types plan registry is Done n = absurd n
own_plan_refused types plan registry is Words n = absurd n
own_plan_refused types plan registry is (BadUnoidl file byte reason) n = absurd n
own_plan_refused types plan registry is (BadRegistry file line reason) n = absurd n
own_plan_refused types plan registry is (BadPlan file line why) n = (n.0, record { registry = registry; is_text = is; refused = n.1 })
own_plan_refused types plan registry is ReadFault n = absurd n
own_plan_refused types plan registry is WriteFault n = absurd n
own_plan_refused types plan registry is (Broken reason place) n = absurd n
own_plan_refused types plan registry is Cut n = absurd n
own_plan_refused types plan registry is Full n = absurd n
own_plan_refused types plan registry is (NoFile file) n = absurd n
own_plan_refused types plan registry is NoMemory n = tt
