use Rattle.std.specs.Prelude.{◌≡◌, ◌++◌, drop}
use Rattle.uno_values.specs.Values.{plains_of}
use Rattle.urp_model.specs.Writing.{spellings, afters}
use Rattle.urp_wire.specs.Written.{names_of, AreWritable}
use Rattle.urp_wire.proofs.value.+write.Given as goal
use Rattle.uno_model.specs.Spellable.{AreSpellable}

abbrev pub invariant-put_all-loop-value : goal.invariant-put_all-loop-value
invariant-put_all-loop-value l = record {
  bytes : l.to.items ++ spellings (plains_of (drop l.value-index l.values)) (names_of l.caches) ≡ l.fn.to.items ++ spellings (plains_of l.values) (names_of l.fn.caches);
  names : afters (plains_of (drop l.value-index l.values)) (names_of l.caches) ≡ afters (plains_of l.values) (names_of l.fn.caches);
  left : AreWritable (plains_of (drop l.value-index l.values));
  ranges : AreSpellable (plains_of (drop l.value-index l.values)) → AreSpellable (plains_of l.values);
}
