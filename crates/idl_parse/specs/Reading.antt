-- What comes of a call of the parser, where the reading of a rule of the grammar says it.
use Rattle.std.specs.Prelude.{◌≡◌, Bool, length, Option, Result, Ok, Err, if◌then◌else◌}
use Rattle.grammar_model.specs.Readings.{next, fault}
use Rattle.grammar_model.specs.declared.fault.Fault.{Fault}
use Rattle.grammar_model.specs.declared.fault.Why.TheVariants.{Unexpected, Nested}
use Rattle.idl_model.specs.Grammar.{Tokens}
use Rattle.idl_model.specs.PlacedTokens.{PlacedToken}
use Rattle.idl_parse.specs.declared.stop.Stop.{Stop}
use Rattle.idl_parse.specs.declared.stop.Stop.TheVariants.{NoMemory, At}

-- the reading goes wrong so; of want of memory it says nothing
abbrev pub Fails : {A : Type 0} → Stop → Result A Fault → Type 0
Fails NoMemory read = Unit {0}
Fails (At f) read = read ≡ Err f

-- the call gives what is read, as a plain tree, and these tokens are left; or it is refused where the reading goes wrong
abbrev pub Gives : {A X : Type 0} → (A → X) → Result A Stop → (left : Tokens) → Result (X × Tokens) Fault → Type 0
Gives view (Ok x) left read = read ≡ Ok (view x, left)
Gives view (Err stop) left read = Fails stop read

-- the refusal of the next token, or of the end
abbrev pub unexpected_at : Tokens → Stop
unexpected_at toks = At (fault Unexpected (length toks))

-- the refusal of the next token where nothing more may open
abbrev pub closed_at : (Option PlacedToken → Bool) → Tokens → Stop
closed_at opens toks = if opens (next toks) then At (fault Nested (length toks)) else unexpected_at toks
