use Rattle.std.proofs.Common.{◌≡◌, ◌++◌, length, IsUtf8}
use Rattle.uno_model.specs.Names.{parts_of}
use Rattle.idl_print.specs.Tokens.{followed, opened, last_part}
use Rattle.idl_print.proofs.canonical.push_opened.Given as goal

abbrev pub invariant-loop-module : goal.invariant-loop-module
invariant-loop-module l = record {
  written : l.text.items ++ followed (opened (parts_of l.rest)) ≡ l.fn.text.items ++ followed (opened (parts_of l.name));
  last : last_part (parts_of l.rest) ≡ last_part (parts_of l.name);
  utf8 : IsUtf8 l.rest;
}

abbrev pub decreases-loop-module : goal.decreases-loop-module
decreases-loop-module l = length l.rest
