use Rattle.std.proofs.Common.{◌∙◌, ◌++◌, OnOk, append-nil, ap, map, subst, sym}
use Rattle.idl_meant.specs.Using.{AddsUses, entity_use, use_of}
use Rattle.idl_names.specs.Used.{used_of}
use Rattle.idl_meant.proofs.uses.add_use.Goals as goal

pub returns-in-Entity : goal.returns-in-Entity
returns-in-Entity c =
    subst (λ u. OnOk c.add_path.result (AddsUses c.args.uses.now.items (entity_use c.args.modules (used_of u)) c.add_path.new.uses.items)) (sym c.in-Entity.is) c.add_path.ensures

pub returns-in-Value : goal.returns-in-Value
returns-in-Value c =
    sym (append-nil (map use_of c.args.uses.now.items)) ∙ ap (λ u. map use_of c.args.uses.now.items ++ entity_use c.args.modules (used_of u)) (sym c.in-Value.is)
