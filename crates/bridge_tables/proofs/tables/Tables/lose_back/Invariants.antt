use Rattle.std.proofs.Common.{◌≡◌, map, take}
use Rattle.uno_values.specs.References.{ref_of}
use Rattle.bridge_model.specs.References.{gains_all}
use Rattle.bridge_tables.specs.EndTables.{EndTables, on_tables, quiet}
use Rattle.bridge_tables.proofs.tables.Tables.lose_back.Given as goal

abbrev pub invariant-loop-place : goal.invariant-loop-place
invariant-loop-place l =
    ((e : EndTables) → l.fn.self ≡ on_tables (gains_all l.holder (map ref_of (take l.count l.references))) e → l.self ≡ on_tables (gains_all l.holder (map ref_of (take l.place l.references))) e)
    × ((e : EndTables) → quiet l.fn.self ≡ quiet (on_tables (gains_all l.holder (map ref_of (take l.count l.references))) e) → quiet l.self ≡ quiet (on_tables (gains_all l.holder (map ref_of (take l.place l.references))) e))
