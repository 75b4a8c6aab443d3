use Rattle.std.proofs.Common.{◌≡◌, map, take}
use Rattle.std.specs.Prelude.{vec_items}
use Rattle.uno_run.specs.Compile.{AllTell}
use Rattle.uno_run.proofs.files.texts_of.Given as goal

abbrev pub invariant-loop-name : goal.invariant-loop-name
invariant-loop-name g l =
    record {
      told : AllTell (g.F.Files.stored l.fn.files) (map (λ s. s.now) (take l.name-index l.names)) (map vec_items l.texts.items);
      kept : g.F.Files.stored l.files ≡ g.F.Files.stored l.fn.files;
      same : g.F.Files.faults l.files ≡ g.F.Files.faults l.fn.files;
    }
