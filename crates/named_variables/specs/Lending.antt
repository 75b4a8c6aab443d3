-- A value that is lent.
use Rattle.std.specs.Borrow.{Bor}
use Rattle.std.specs.Prelude.{Option, None, Some}
use Rattle.uno_model.specs.Values.{Plain, void}
use Rattle.uno_values.specs.Values.{plain_of}
use Rattle.uno_values.specs.declared.value.Value.{Value}

-- one that is not there is as one of type void
abbrev pub value_or_void : Option (Bor Value) → Plain
value_or_void None = void
value_or_void (Some x) = plain_of x.now
