use Rattle.std.proofs.Common.{◌≡◌, ◌∙◌, [], IfOk, get_or, ap, map, subst}
use Rattle.idl_names.proofs.WayLaws.{joined_by_points}
use Rattle.idl_names.proofs.paths.Paths.full_name.Goals as goal

pub returns : goal.returns
returns c =
    subst (λ text. IfOk c.of.result (λ name. name ≡ text))
    (c.as_str.ensures.value ∙ c.in_ok-text.ensures.ok
    ∙ joined_by_points (λ part. part.now) c.deref.result.now (get_or c.args.self.now c.args.number []) (ap (map (λ part. part.now)) c.deref.ensures.value ∙ c.in-Ok.ensures)) c.of.ensures
