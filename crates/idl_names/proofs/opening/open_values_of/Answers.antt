use Rattle.std.proofs.Common.{[], get_or, refl}
use Rattle.idl_names.proofs.OpenLemmas.{no_values_in}
use Rattle.idl_names.proofs.opening.open_values_of.Goals as goal

pub returns-in-Forward : goal.returns-in-Forward
returns-in-Forward c = no_values_in c.args.paths.now c.args.numbers.now.items (get_or c.args.paths.now c.args.declared.now.path []) _ _ c.in-Forward.is refl

pub returns-in-Interface : goal.returns-in-Interface
returns-in-Interface c = no_values_in c.args.paths.now c.args.numbers.now.items (get_or c.args.paths.now c.args.declared.now.path []) _ _ c.in-Interface.is refl

pub returns-in-Struct : goal.returns-in-Struct
returns-in-Struct c = no_values_in c.args.paths.now c.args.numbers.now.items (get_or c.args.paths.now c.args.declared.now.path []) _ _ c.in-Struct.is refl

pub returns-in-Exception : goal.returns-in-Exception
returns-in-Exception c = no_values_in c.args.paths.now c.args.numbers.now.items (get_or c.args.paths.now c.args.declared.now.path []) _ _ c.in-Exception.is refl

pub returns-in-Typedef : goal.returns-in-Typedef
returns-in-Typedef c = no_values_in c.args.paths.now c.args.numbers.now.items (get_or c.args.paths.now c.args.declared.now.path []) _ _ c.in-Typedef.is refl

pub returns-in-NewService : goal.returns-in-NewService
returns-in-NewService c = no_values_in c.args.paths.now c.args.numbers.now.items (get_or c.args.paths.now c.args.declared.now.path []) _ _ c.in-NewService.is refl

pub returns-in-OldService : goal.returns-in-OldService
returns-in-OldService c = no_values_in c.args.paths.now c.args.numbers.now.items (get_or c.args.paths.now c.args.declared.now.path []) _ _ c.in-OldService.is refl

pub returns-in-NewSingleton : goal.returns-in-NewSingleton
returns-in-NewSingleton c = no_values_in c.args.paths.now c.args.numbers.now.items (get_or c.args.paths.now c.args.declared.now.path []) _ _ c.in-NewSingleton.is refl

pub returns-in-OldSingleton : goal.returns-in-OldSingleton
returns-in-OldSingleton c = no_values_in c.args.paths.now c.args.numbers.now.items (get_or c.args.paths.now c.args.declared.now.path []) _ _ c.in-OldSingleton.is refl
