use Rattle.std.proofs.Common.{Ok, Err, map, ap, ◌∙◌}
use Rattle.service_manager.specs.Created.{created_of}
use Rattle.uno_values.specs.Values.{plain_of}
use Rattle.bridge_setting.specs.Settings.{setting_of}
use Rattle.bridge_frames.specs.Unwinding.{stacks_by, tables_by}
use Rattle.bridge_frames.proofs.CreatingLemmas.{on_same, fresh_applied, singleton_applied, unknown_applied, bad_applied}
use Rattle.bridge_frames.proofs.creating.apply_creating.Goals as goal

pub returns-in-Ok-Fresh-clause-stacks : goal.returns-in-Ok-Fresh-clause-stacks
returns-in-Ok-Fresh-clause-stacks c = λ b fs at.
    on_same c.return_fresh.result c.return_fresh.new.stacks _ _
    (ap (λ u. stacks_by c.args.tid.now u c.args.stacks.now)
    (fresh_applied (setting_of c.args.setting.now) c.args.tid.now b c.args.name.now c.as_str.result.now (map plain_of c.args.args.now) fs c.args.tables.now.tables c.as_str.ensures c.in-Ok-Fresh.behaviour
    (map plain_of c.in-Ok-Fresh.fields.items) (c.in-Ok-Fresh.ensures.made ∙ ap (λ z. Ok (created_of z)) c.in-Ok-Fresh.field-0-is)))
    (c.return_fresh.ensures.stacks b fs at)

pub returns-in-Ok-Fresh-clause-tables : goal.returns-in-Ok-Fresh-clause-tables
returns-in-Ok-Fresh-clause-tables c = λ b fs at.
    on_same c.return_fresh.result c.return_fresh.new.tables _ _
    (ap (λ u. tables_by u c.args.tables.now)
    (fresh_applied (setting_of c.args.setting.now) c.args.tid.now b c.args.name.now c.as_str.result.now (map plain_of c.args.args.now) fs c.args.tables.now.tables c.as_str.ensures c.in-Ok-Fresh.behaviour
    (map plain_of c.in-Ok-Fresh.fields.items) (c.in-Ok-Fresh.ensures.made ∙ ap (λ z. Ok (created_of z)) c.in-Ok-Fresh.field-0-is)))
    (c.return_fresh.ensures.tables b fs at)

pub returns-in_ok-number-in-Ok-Singleton-clause-stacks : goal.returns-in_ok-number-in-Ok-Singleton-clause-stacks
returns-in_ok-number-in-Ok-Singleton-clause-stacks c = λ b fs at.
    on_same c.return_object.result c.return_object.new.stacks _ _
    (ap (λ u. stacks_by c.args.tid.now u c.args.stacks.now)
    (singleton_applied (setting_of c.args.setting.now) c.args.tid.now b c.args.name.now c.as_str.result.now (map plain_of c.args.args.now) fs c.args.tables.now.tables c.as_str.ensures c.in-Ok-Singleton.place
    c.in_ok-number-in-Ok-Singleton.number (c.in-Ok-Singleton.ensures.made ∙ ap (λ z. Ok (created_of z)) c.in-Ok-Singleton.field-0-is) c.in_ok-number-in-Ok-Singleton.ensures))
    (c.return_object.ensures.stacks b fs at)

pub returns-in_ok-number-in-Ok-Singleton-clause-tables : goal.returns-in_ok-number-in-Ok-Singleton-clause-tables
returns-in_ok-number-in-Ok-Singleton-clause-tables c = λ b fs at.
    on_same c.return_object.result c.return_object.new.tables _ _
    (ap (λ u. tables_by u c.args.tables.now)
    (singleton_applied (setting_of c.args.setting.now) c.args.tid.now b c.args.name.now c.as_str.result.now (map plain_of c.args.args.now) fs c.args.tables.now.tables c.as_str.ensures c.in-Ok-Singleton.place
    c.in_ok-number-in-Ok-Singleton.number (c.in-Ok-Singleton.ensures.made ∙ ap (λ z. Ok (created_of z)) c.in-Ok-Singleton.field-0-is) c.in_ok-number-in-Ok-Singleton.ensures))
    (c.return_object.ensures.tables b fs at)

pub returns-in-Err-UnknownService-clause-stacks : goal.returns-in-Err-UnknownService-clause-stacks
returns-in-Err-UnknownService-clause-stacks c = λ b fs at.
    on_same c.refuse.result c.refuse.new.stacks _ _
    (ap (λ u. stacks_by c.args.tid.now u c.args.stacks.now)
    (unknown_applied (setting_of c.args.setting.now) c.args.tid.now b c.args.name.now c.as_str.result.now (map plain_of c.args.args.now) fs c.args.tables.now.tables c.as_str.ensures
    (c.in-Err-UnknownService.ensures.unknown.0 (ap Err c.in-Err-UnknownService.field-0-is))))
    (c.refuse.ensures.stacks b fs at)

pub returns-in-Err-UnknownService-clause-tables : goal.returns-in-Err-UnknownService-clause-tables
returns-in-Err-UnknownService-clause-tables c = λ b fs at.
    on_same c.refuse.result c.refuse.new.tables _ _
    (ap (λ u. tables_by u c.args.tables.now)
    (unknown_applied (setting_of c.args.setting.now) c.args.tid.now b c.args.name.now c.as_str.result.now (map plain_of c.args.args.now) fs c.args.tables.now.tables c.as_str.ensures
    (c.in-Err-UnknownService.ensures.unknown.0 (ap Err c.in-Err-UnknownService.field-0-is))))
    (c.refuse.ensures.tables b fs at)

pub returns-in-Err-BadArguments-clause-stacks : goal.returns-in-Err-BadArguments-clause-stacks
returns-in-Err-BadArguments-clause-stacks c = λ b fs at.
    on_same c.refuse-in-Err-BadArguments.result c.refuse-in-Err-BadArguments.new.stacks _ _
    (ap (λ u. stacks_by c.args.tid.now u c.args.stacks.now)
    (bad_applied (setting_of c.args.setting.now) c.args.tid.now b c.args.name.now c.as_str.result.now (map plain_of c.args.args.now) fs c.args.tables.now.tables c.as_str.ensures
    (c.in-Err-BadArguments.ensures.bad.0 (ap Err c.in-Err-BadArguments.field-0-is))))
    (c.refuse-in-Err-BadArguments.ensures.stacks b fs at)

pub returns-in-Err-BadArguments-clause-tables : goal.returns-in-Err-BadArguments-clause-tables
returns-in-Err-BadArguments-clause-tables c = λ b fs at.
    on_same c.refuse-in-Err-BadArguments.result c.refuse-in-Err-BadArguments.new.tables _ _
    (ap (λ u. tables_by u c.args.tables.now)
    (bad_applied (setting_of c.args.setting.now) c.args.tid.now b c.args.name.now c.as_str.result.now (map plain_of c.args.args.now) fs c.args.tables.now.tables c.as_str.ensures
    (c.in-Err-BadArguments.ensures.bad.0 (ap Err c.in-Err-BadArguments.field-0-is))))
    (c.refuse-in-Err-BadArguments.ensures.tables b fs at)
