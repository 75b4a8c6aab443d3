use Rattle.std.proofs.Common.{◌≡◌, ◌++◌, length, IsUtf8}
use Rattle.uno_model.specs.Names.{parts_of}
use Rattle.idl_print.specs.Tokens.{followed, closed}
use Rattle.idl_print.proofs.canonical.push_closed.Given as goal

abbrev pub invariant-loop-behind : goal.invariant-loop-behind
invariant-loop-behind l = record {
  written : l.text.items ++ followed (closed (parts_of l.rest)) ≡ l.fn.text.items ++ followed (closed (parts_of l.name));
  utf8 : IsUtf8 l.rest;
}

abbrev pub decreases-loop-behind : goal.decreases-loop-behind
decreases-loop-behind l = length l.rest
