use Rattle.std.proofs.Common.{◌≡◌, ◌∙◌, ap, subst, sym, inl, inr}
use Rattle.bridge_endpoint.specs.Journals.{Endpoint, opening_endpoint, setting_at}
use Rattle.uno_run.proofs.Results.{ok_both, ok_so}
use Rattle.uno_run.proofs.ShallowEnds.{is_planned, too_deep}
use Rattle.uno_run.proofs.shallow.shallow_end.Goals as goal

pub returns-in-Ok-clause-tag : goal.returns-in-Ok-clause-tag
returns-in-Ok-clause-tag c = ok_so _ _ c.if_shallow.result (λ e same. ap (λ (x : Endpoint). (setting_at x).tag) same ∙ c.in-Ok.ensures.tag) c.if_shallow.ensures.same

pub returns-in-Ok-clause-registry : goal.returns-in-Ok-clause-registry
returns-in-Ok-clause-registry c = ok_so _ _ c.if_shallow.result (λ e same. ap (λ (x : Endpoint). (setting_at x).registry) same ∙ c.in-Ok.ensures.registry) c.if_shallow.ensures.same

pub returns-in-Ok-clause-plan : goal.returns-in-Ok-clause-plan
returns-in-Ok-clause-plan c =
    ok_both _ _ _ c.if_shallow.result (λ e same shallow. is_planned _ _ _ e same c.in-Ok.ensures.registry c.in-Ok.ensures.plan shallow) c.if_shallow.ensures.same c.if_shallow.ensures.shallow

pub returns-in-Ok-clause-opening : goal.returns-in-Ok-clause-opening
returns-in-Ok-clause-opening c =
    ok_so _ _ c.if_shallow.result (λ e same. subst (λ (x : Endpoint). x ≡ opening_endpoint x.configured) (sym same) c.in-Ok.ensures.opening) c.if_shallow.ensures.same

pub returns-in-Ok-clause-wrong : goal.returns-in-Ok-clause-wrong
returns-in-Ok-clause-wrong c = λ line why is. inr (too_deep _ _ c.in-Ok.end line why c.in-Ok.ensures.registry c.in-Ok.ensures.plan (c.if_shallow.ensures.deep line why is))

pub returns-in-Err-clause-wrong : goal.returns-in-Err-clause-wrong
returns-in-Err-clause-wrong c = λ line why is. inl (c.set_up.ensures.wrong line why (c.in-Err.is ∙ is))
