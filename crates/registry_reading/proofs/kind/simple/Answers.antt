use Rattle.std.proofs.Common.{arith}
use Rattle.uno_types.proofs.TypeTextLemmas.{no_simple as none_named}
use Rattle.registry_reading.proofs.KindLemmas.{no_simple}
use Rattle.registry_reading.proofs.SimpleNames.{void_named, char_named, boolean_named, byte_named, short_named, unsigned_short_named, long_named, unsigned_long_named, hyper_named, unsigned_hyper_named, str_named, type_named, any_named}
use Rattle.registry_reading.proofs.kind.simple.Goals as goal

pub returns-then-text-gt-LONGEST : goal.returns-then-text-gt-LONGEST
returns-then-text-gt-LONGEST c = no_simple _ (omega (arith, c.if-text-gt-LONGEST.true))

pub returns-in-void : goal.returns-in-void
returns-in-void c = void_named _ c.in-void.is

pub returns-in-char : goal.returns-in-char
returns-in-char c = char_named _ c.in-char.is

pub returns-in-boolean : goal.returns-in-boolean
returns-in-boolean c = boolean_named _ c.in-boolean.is

pub returns-in-byte : goal.returns-in-byte
returns-in-byte c = byte_named _ c.in-byte.is

pub returns-in-short : goal.returns-in-short
returns-in-short c = short_named _ c.in-short.is

pub returns-in-text : goal.returns-in-text
returns-in-text c = unsigned_short_named _ c.in-text.is

pub returns-in-long : goal.returns-in-long
returns-in-long c = long_named _ c.in-long.is

pub returns-in-text-2 : goal.returns-in-text-2
returns-in-text-2 c = unsigned_long_named _ c.in-text-2.is

pub returns-in-hyper : goal.returns-in-hyper
returns-in-hyper c = hyper_named _ c.in-hyper.is

pub returns-in-text-3 : goal.returns-in-text-3
returns-in-text-3 c = unsigned_hyper_named _ c.in-text-3.is

pub returns-in-string : goal.returns-in-string
returns-in-string c = str_named _ c.in-string.is

pub returns-in-type : goal.returns-in-type
returns-in-type c = type_named _ c.in-type.is

pub returns-in-any : goal.returns-in-any
returns-in-any c = any_named _ c.in-any.is

pub returns-in_default : goal.returns-in_default
returns-in_default c =
    let word = c.in_default in
    none_named c.args.text.now word.not-void word.not-char word.not-boolean word.not-byte word.not-short word.not-text word.not-long word.not-text-2 word.not-hyper word.not-text-3
    word.not-string word.not-type word.not-any
