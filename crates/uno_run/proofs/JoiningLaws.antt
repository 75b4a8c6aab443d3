-- Two ends of three files: whose settings they are, and what follows where one of the files gives none.
use Rattle.std.proofs.Common.{◌≡◌, ℕ, List, Option, None, Some, Result, Err, refl, sym, subst, ◌∙◌, ◌⊎◌, inl, inr, codes}
use Rattle.uno_base.specs.Causes.{Rose}
use Rattle.uno_io.specs.Files.{Stored}
use Rattle.uno_model.specs.Entities.{Entity}
use Rattle.behaviour_text.specs.declared.error.PlanError.{PlanError}
use Rattle.behaviour_text.specs.declared.error.PlanError.TheVariants as why
use Rattle.bridge_model.specs.Settings.{Setting}
use Rattle.command_words.specs.Names.{Text}
use Rattle.plan_model.specs.declared.line_reason.LineReason.{LineReason}
use Rattle.world_model.specs.Worlds.{Settings, of_a, of_b}
use Rattle.uno_run.specs.Answer.{LacksPlan}
use Rattle.uno_run.specs.Idl.{IsOfFile, IsRegistryText, Tells}
use Rattle.uno_run.specs.Joining.{IsEndOf, IsEndWith, NoEnd, NotJoined, RefusedAt, refused_at}
use Rattle.uno_run.specs.Pair.{AreOf, AreOfFiles, HasPlan, MissingOf}
use Rattle.uno_run.specs.Plans.{IsPlan, IsRefusedPlan}
use Rattle.uno_run.specs.Reading.{Unread}
use Rattle.uno_run.specs.SettingUp.{NotSetUp}
use Rattle.uno_run.specs.declared.status.Status.{Status}
use Rattle.uno_run.specs.declared.status.Status.TheVariants.{Done, Words, BadUnoidl, BadRegistry, BadPlan, ReadFault, WriteFault, Broken, Cut, Full, NoFile, NoMemory}

-- ---- both

pub are_of : (types plan_a plan_b : List ℕ) (registry : List Entity) (g : Settings) → IsRegistryText types registry → IsEndWith registry plan_a (codes "A") (of_a g)
    → IsEndWith registry plan_b (codes "B") (of_b g) → AreOf types plan_a plan_b g
are_of types plan_a plan_b registry g is_text a b =
    record {
      is_text = subst (IsRegistryText types) (sym a.same) is_text;
      is_plan_a = subst (λ r. IsPlan r plan_a g.a.plan) (sym a.same) a.is_plan;
      is_plan_b = subst (λ r. IsPlan r plan_b g.b.plan) (sym b.same) b.is_plan;
      tag_a = a.tagged;
      tag_b = b.tagged;
    }

pub are_of_files : (store : Option Stored) (types plan_a plan_b : Text) (registry : List Entity) (g : Settings) → IsOfFile store types registry → IsEndOf store registry plan_a (codes "A") (of_a g)
    → IsEndOf store registry plan_b (codes "B") (of_b g) → AreOfFiles store types plan_a plan_b g
are_of_files store types plan_a plan_b registry g first a b =
    record {
      types_text = first.text;
      a_text = a.text;
      b_text = b.text;
      types_told = first.told;
      a_told = a.told;
      b_told = b.told;
      are_of = are_of first.text a.text b.text registry g first.is_text a.is_end b.is_end;
    }

pub end_as : (store : Option Stored) (registry : List Entity) (plan : Text) (tag : List ℕ) (g h : Setting) → h ≡ g → IsEndOf store registry plan tag g → IsEndOf store registry plan tag h
end_as store registry plan tag g h same is = subst (IsEndOf store registry plan tag) (sym same) is

pub with_as : (registry : List Entity) (text tag : List ℕ) (g h : Setting) → h ≡ g → IsEndWith registry text tag g → IsEndWith registry text tag h
with_as registry text tag g h same is = subst (IsEndWith registry text tag) (sym same) is

pub has_plan : (store : Option Stored) (types plan : Text) (tag : List ℕ) (registry : List Entity) (g : Setting) → IsOfFile store types registry → IsEndOf store registry plan tag g → HasPlan store types plan
has_plan store types plan tag registry g first a = record { registry = registry; is_of = first; read = g.plan; plan_text = a.text; plan_told = a.told; is_plan = a.is_end.is_plan }

-- ---- the first file

pub types_none : (store : Option Stored) (types plan_a plan_b : Text) (before now : ℕ) (status : Status) → NotSetUp store types plan_a before now status → NotJoined store types plan_a plan_b before now status
types_none store types plan_a plan_b before now Done n = n
types_none store types plan_a plan_b before now Words n = n
types_none store types plan_a plan_b before now (BadUnoidl file byte reason) n = n
types_none store types plan_a plan_b before now (BadRegistry file line reason) n = n
types_none store types plan_a plan_b before now (BadPlan file line why) n = (inl (n.0, n.1), n.2)
types_none store types plan_a plan_b before now ReadFault n = n
types_none store types plan_a plan_b before now WriteFault n = n
types_none store types plan_a plan_b before now (Broken reason place) n = n
types_none store types plan_a plan_b before now Cut n = n
types_none store types plan_a plan_b before now Full n = n
types_none store types plan_a plan_b before now (NoFile file) n = (missing n.0, n.1)
  where
    missing : ((file ≡ 0) × Tells store types None) ⊎ ((file ≡ 1) × LacksPlan store types plan_a) → MissingOf store types plan_a plan_b file
    missing (inl none) = inl none
    missing (inr none) = inr (inl none)
types_none store types plan_a plan_b before now NoMemory n = n

-- ---- a file of a plan

-- it was not read
pub unread_end : (store : Option Stored) (registry : List Entity) (plan : Text) (place before now : ℕ) (status : Status) → Unread store plan place before now status
    → NoEnd store registry plan place before now status
unread_end store registry plan place before now Done u = u
unread_end store registry plan place before now Words u = u
unread_end store registry plan place before now (BadUnoidl file byte reason) u = u
unread_end store registry plan place before now (BadRegistry file line reason) u = u
unread_end store registry plan place before now (BadPlan file line why) u = absurd u
unread_end store registry plan place before now ReadFault u = u
unread_end store registry plan place before now WriteFault u = u
unread_end store registry plan place before now (Broken reason at) u = u
unread_end store registry plan place before now Cut u = u
unread_end store registry plan place before now Full u = u
unread_end store registry plan place before now (NoFile file) u = u
unread_end store registry plan place before now NoMemory u = u

-- its text was refused
pub refused_end : (store : Option Stored) (registry : List Entity) (plan : Text) (place before now : ℕ) (text : List ℕ) (status : Status) → Tells store plan (Some text) → now ≡ before
    → RefusedAt registry text place status → NoEnd store registry plan place before now status
refused_end store registry plan place before now text Done told same r = r
refused_end store registry plan place before now text Words told same r = r
refused_end store registry plan place before now text (BadUnoidl file byte reason) told same r = r
refused_end store registry plan place before now text (BadRegistry file line reason) told same r = r
refused_end store registry plan place before now text (BadPlan file line why) told same r = (r.0, record { text = text; told = told; refused = r.1 }, same)
refused_end store registry plan place before now text ReadFault told same r = absurd r
refused_end store registry plan place before now text WriteFault told same r = r
refused_end store registry plan place before now text (Broken reason at) told same r = r
refused_end store registry plan place before now text Cut told same r = r
refused_end store registry plan place before now text Full told same r = r
refused_end store registry plan place before now text (NoFile file) told same r = absurd r
refused_end store registry plan place before now text NoMemory told same r = same

-- the second of the files that the words name gives no end
pub no_first : (store : Option Stored) (types plan_a plan_b : Text) (before now : ℕ) (registry : List Entity) (status : Status) → IsOfFile store types registry
    → NoEnd store registry plan_a 1 before now status → NotJoined store types plan_a plan_b before now status
no_first store types plan_a plan_b before now registry Done first n = n
no_first store types plan_a plan_b before now registry Words first n = n
no_first store types plan_a plan_b before now registry (BadUnoidl file byte reason) first n = n
no_first store types plan_a plan_b before now registry (BadRegistry file line reason) first n = absurd n
no_first store types plan_a plan_b before now registry (BadPlan file line why) first n =
    (inl (n.0, record { registry = registry; is_of = first; plan_text = n.1.text; plan_told = n.1.told; refused = n.1.refused }), n.2)
no_first store types plan_a plan_b before now registry ReadFault first n = n
no_first store types plan_a plan_b before now registry WriteFault first n = n
no_first store types plan_a plan_b before now registry (Broken reason at) first n = n
no_first store types plan_a plan_b before now registry Cut first n = n
no_first store types plan_a plan_b before now registry Full first n = n
no_first store types plan_a plan_b before now registry (NoFile file) first n = (inr (inl (n.0, record { registry = registry; is_of = first; plan_told = n.1 })), n.2)
no_first store types plan_a plan_b before now registry NoMemory first n = n

-- the third gives none
pub no_second : (store : Option Stored) (types plan_a plan_b : Text) (before between now : ℕ) (registry : List Entity) (status : Status) → IsOfFile store types registry
    → HasPlan store types plan_a → between ≡ before → NoEnd store registry plan_b 2 between now status → NotJoined store types plan_a plan_b before now status
no_second store types plan_a plan_b before between now registry Done first a same n = n
no_second store types plan_a plan_b before between now registry Words first a same n = n
no_second store types plan_a plan_b before between now registry (BadUnoidl file byte reason) first a same n = n
no_second store types plan_a plan_b before between now registry (BadRegistry file line reason) first a same n = absurd n
no_second store types plan_a plan_b before between now registry (BadPlan file line why) first a same n =
    (inr (n.0, a, record { registry = registry; is_of = first; plan_text = n.1.text; plan_told = n.1.told; refused = n.1.refused }), n.2 ∙ same)
no_second store types plan_a plan_b before between now registry ReadFault first a same n = subst (λ m. Rose m now) same n
no_second store types plan_a plan_b before between now registry WriteFault first a same n = n
no_second store types plan_a plan_b before between now registry (Broken reason at) first a same n = n
no_second store types plan_a plan_b before between now registry Cut first a same n = n
no_second store types plan_a plan_b before between now registry Full first a same n = n
no_second store types plan_a plan_b before between now registry (NoFile file) first a same n = (inr (inr (n.0, a, record { registry = registry; is_of = first; plan_told = n.1 })), n.2 ∙ same)
no_second store types plan_a plan_b before between now registry NoMemory first a same n = n ∙ same

-- nor where memory is wanted
pub lost_end : (store : Option Stored) (registry : List Entity) (plan : Text) (place before now : ℕ) (status : Status) → status ≡ NoMemory → now ≡ before
    → NoEnd store registry plan place before now status
lost_end store registry plan place before now status lost same = subst (NoEnd store registry plan place before now) (sym lost) same

-- the status of a refused text
pub refused_so : {T : Type 0} (registry : List Entity) (text : List ℕ) (place : ℕ) (error : PlanError) (status : Status) (r : Result T PlanError) → status ≡ refused_at error place → r ≡ Err error
    → ((line : ℕ) (reason : LineReason) → r ≡ Err (why.BadLine line reason) → IsRefusedPlan registry text line reason) → RefusedAt registry text place status
refused_so registry text place why.NoMemory status r so is wrong = subst (RefusedAt registry text place) (sym so) tt
refused_so registry text place (why.BadLine line reason) status r so is wrong = subst (RefusedAt registry text place) (sym so) (refl, wrong line reason is)

pub lost_at : (registry : List Entity) (text : List ℕ) (place : ℕ) (status : Status) → status ≡ NoMemory → RefusedAt registry text place status
lost_at registry text place status lost = subst (RefusedAt registry text place) (sym lost) tt
