use Rattle.std.proofs.Common.{Some, ap, cond, string_bytes, ◌∙◌}
use Rattle.std.proofs.lemmas.Map.Text.{btree_map_updates_text}
use Rattle.std.specs.BTreeMap.{get_by_text}
use Rattle.std.specs.Str.{bytes_eq}
use Rattle.plan_checks.proofs.fields.by_name.note.Goals as goal

pub returns-clause-noted : goal.returns-clause-noted
returns-clause-noted c = λ q.
    btree_map_updates_text (string_bytes c.in_ok-key.key) c.args.by_name.now c.insert.new.self (Some c.args.place) c.in_ok-insert.ensures.updates q
    ∙ ap (λ name. cond (bytes_eq name q) (Some c.args.place) (get_by_text c.args.by_name.now q)) c.in_ok-key.ensures.ok
