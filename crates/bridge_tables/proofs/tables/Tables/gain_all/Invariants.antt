use Rattle.std.proofs.Common.{◌≡◌, map, take}
use Rattle.uno_values.specs.References.{ref_of}
use Rattle.bridge_model.specs.References.{gains_all}
use Rattle.bridge_tables.specs.EndTables.{on_tables}
use Rattle.bridge_tables.proofs.tables.Tables.gain_all.Given as goal

abbrev pub invariant-loop-place : goal.invariant-loop-place
invariant-loop-place l = l.self ≡ on_tables (gains_all l.holder (map ref_of (take l.place l.references))) l.fn.self
