-- What a status says to the outside: the line on `errors`, and the number with which the process ends.
use Rattle.std.specs.Prelude.{ℕ, Bool, true, false, List, [], ◌∷◌, ◌++◌, codes, Option, ◌⊎◌, slice_get, unwrap_or}
use Rattle.std.specs.Fmt.{decimal}
use Rattle.std.specs.Io.KnownBytes.{Appends}
use Rattle.uno_base.specs.Causes.{Rose}
use Rattle.uno_io.specs.Fronts.{AppendsFront}
use Rattle.urp_model.specs.declared.reason.Reason.{Reason}
use Rattle.urp_model.specs.declared.reason.Reason.TheVariants as broken
use Rattle.idl_compile.specs.declared.error.Reason as unoidl
use Rattle.idl_compile.specs.declared.error.Reason.TheVariants as idl
use Rattle.plan_model.specs.declared.line_reason.LineReason.{LineReason}
use Rattle.plan_model.specs.declared.line_reason.LineReason.TheVariants as plan
use Rattle.uno_run.specs.declared.reason.RegistryReason.{RegistryReason}
use Rattle.uno_run.specs.declared.reason.RegistryReason.TheVariants as reason
use Rattle.uno_run.specs.declared.status.Status.{Status}
use Rattle.uno_run.specs.declared.status.Status.TheVariants.{Done, Words, BadUnoidl, BadRegistry, BadPlan, ReadFault, WriteFault, Broken, Cut, Full, NoFile, NoMemory}

-- a reason's name
abbrev pub name_of : Reason → List ℕ
name_of broken.ShortMessage = codes "ShortMessage"
name_of broken.BadClass = codes "BadClass"
name_of broken.BadSlot = codes "BadSlot"
name_of broken.UnknownSlot = codes "UnknownSlot"
name_of broken.LongName = codes "LongName"
name_of broken.BadText = codes "BadText"
name_of broken.UnknownType = codes "UnknownType"
name_of broken.BadBoolean = codes "BadBoolean"
name_of broken.BadAny = codes "BadAny"
name_of broken.Deep = codes "Deep"
name_of broken.BadFlags = codes "BadFlags"
name_of broken.NoLast = codes "NoLast"
name_of broken.NotInterface = codes "NotInterface"
name_of broken.UnknownFunction = codes "UnknownFunction"
name_of broken.Acquire = codes "Acquire"
name_of broken.OneWay = codes "OneWay"
name_of broken.NobodyWaits = codes "NobodyWaits"
name_of broken.BadException = codes "BadException"
name_of broken.Unowed = codes "Unowed"
name_of broken.UnknownOid = codes "UnknownOid"
name_of broken.BusyThread = codes "BusyThread"
name_of broken.UnknownThread = codes "UnknownThread"
name_of broken.WrongInterface = codes "WrongInterface"
name_of broken.TooLarge = codes "TooLarge"
name_of broken.NoMessages = codes "NoMessages"
name_of broken.LeftOver = codes "LeftOver"

-- the name of a file by its place
abbrev pub file_at : List (List ℕ) → ℕ → List ℕ
file_at files place = unwrap_or (slice_get files place) []

-- why the text of a registry is refused
abbrev pub reason_of : RegistryReason → List ℕ
reason_of reason.BadLine = codes "BadLine"
reason_of reason.Order = codes "Order"
reason_of (reason.Rule rule) = codes "Rule " ++ decimal rule
reason_of reason.TooLong = codes "TooLong"

-- why UNOIDL is refused
abbrev pub unoidl_reason : unoidl.Reason → List ℕ
unoidl_reason idl.BadUtf8 = codes "BadUtf8"
unoidl_reason idl.BadToken = codes "BadToken"
unoidl_reason idl.OpenComment = codes "OpenComment"
unoidl_reason idl.TooLong = codes "TooLong"
unoidl_reason idl.Unexpected = codes "Unexpected"
unoidl_reason idl.Nested = codes "Nested"
unoidl_reason idl.Unknown = codes "Unknown"
unoidl_reason idl.Twice = codes "Twice"
unoidl_reason idl.FloatRefused = codes "FloatRefused"
unoidl_reason (idl.Rule rule) = codes "Rule " ++ decimal rule

-- why a line of a plan is wrong
abbrev pub line_reason : LineReason → List ℕ
line_reason plan.Form = codes "Form"
line_reason plan.Unknown = codes "Unknown"
line_reason plan.Twice = codes "Twice"
line_reason plan.Misfit = codes "Misfit"
line_reason plan.Limit = codes "Limit"
line_reason plan.Open = codes "Open"

-- the line of a status, with its line feed, where the words name these files; none where all was done
abbrev pub line_of : List (List ℕ) → Status → List ℕ
line_of files Done = []
line_of files Words = codes "uno: words\n"
line_of files (BadUnoidl file byte reason) = file_at files file ++ (codes ":" ++ (decimal byte ++ (codes ": " ++ (unoidl_reason reason ++ 10 ∷ []))))
line_of files (BadRegistry file line reason) = file_at files file ++ (codes ":" ++ (decimal line ++ (codes ": " ++ (reason_of reason ++ 10 ∷ []))))
line_of files (BadPlan file line reason) = file_at files file ++ (codes ":" ++ (decimal line ++ (codes ": " ++ (line_reason reason ++ 10 ∷ []))))
line_of files ReadFault = codes "uno: read fault\n"
line_of files WriteFault = codes "uno: write fault\n"
line_of files (Broken reason place) = codes "uno: broken " ++ (name_of reason ++ (codes " at " ++ (decimal place ++ 10 ∷ [])))
line_of files Cut = codes "uno: cut\n"
line_of files Full = codes "uno: full\n"
line_of files (NoFile file) = codes "uno: no file " ++ (file_at files file ++ 10 ∷ [])
line_of files NoMemory = codes "uno: no memory\n"

-- the line has a name or a number in it, and is made for the status
abbrev pub has_own_line : Status → Bool
has_own_line (BadUnoidl file byte reason) = true
has_own_line (BadRegistry file line reason) = true
has_own_line (BadPlan file line reason) = true
has_own_line (Broken reason place) = true
has_own_line (NoFile file) = true
has_own_line _ = false

-- the number with which the process ends
abbrev pub code_of : Status → ℕ
code_of Done = 0
code_of Words = 1
code_of (BadUnoidl file byte reason) = 2
code_of (BadRegistry file line reason) = 3
code_of (BadPlan file line reason) = 3
code_of ReadFault = 4
code_of WriteFault = 5
code_of (Broken reason place) = 6
code_of Cut = 7
code_of Full = 8
code_of (NoFile file) = 11
code_of NoMemory = 70

-- the line was taken whole, or the sink failed and took a prefix of it
abbrev pub Printed : ℕ → ℕ → Option (List ℕ) → Option (List ℕ) → List ℕ → Type 0
Printed before now old new line = Appends old new line ⊎ (Rose before now × AppendsFront old new line)
