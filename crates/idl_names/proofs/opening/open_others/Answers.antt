use Rattle.idl_names.proofs.CollectedLemmas.{all_numbers_kept, kept_both}
use Rattle.idl_names.proofs.OpenLemmas.{first_kept, has_opened}
use Rattle.idl_names.proofs.opening.open_others.Goals as goal

pub open_exceptions-requires : goal.open_exceptions-requires
open_exceptions-requires c = first_kept c.args.paths.now c.open_interfaces.new.paths c.requires.outermost c.in_ok-open_interfaces.ensures.kept

pub open_values-requires : goal.open_values-requires
open_values-requires c =
    all_numbers_kept c.args.paths.now c.open_exceptions.new.paths c.args.all.now
    (kept_both c.args.paths.now c.open_interfaces.new.paths c.open_exceptions.new.paths c.in_ok-open_interfaces.ensures.kept c.in_ok-open_exceptions.ensures.kept) c.requires.numbers

pub returns-clause-kept : goal.returns-clause-kept
returns-clause-kept c =
    kept_both c.args.paths.now c.open_exceptions.new.paths c.open_values.new.paths
    (kept_both c.args.paths.now c.open_interfaces.new.paths c.open_exceptions.new.paths c.in_ok-open_interfaces.ensures.kept c.in_ok-open_exceptions.ensures.kept) c.in_ok-open_values.ensures.kept

pub returns-clause-opened : goal.returns-clause-opened
returns-clause-opened c =
    has_opened c.args.paths.now c.open_interfaces.new.paths c.open_exceptions.new.paths c.open_values.new.paths c.args.all.now c.new.result.items c.new-2.result.items c.new-3.result.items
    (record { interfaces = c.open_interfaces.new.numbers; exceptions = c.open_exceptions.new.numbers; values = c.open_values.new.numbers }) c.requires.numbers c.new.ensures.items c.new-2.ensures.items c.new-3.ensures.items
    c.in_ok-open_interfaces.ensures c.in_ok-open_exceptions.ensures c.in_ok-open_values.ensures
