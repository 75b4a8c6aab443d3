use Rattle.std.proofs.Common.{◌≡◌, ◌+◌, min, refl, subst, sym}
use Rattle.typedef_chains.specs.Chains.{IsEnd}
use Rattle.typedef_chains.proofs.ChainLemmas.{end_behind}
use Rattle.typedef_chains.proofs.chains.behind.Goals as goal

pub returns : goal.returns
returns c = λ steps node next s at leads adds right.
    end_behind steps c.args.most node next s c.in-Some.known (record { last = c.in-Some.known.last; sum = c.limited.result }) at leads refl
    (subst (λ n. c.limited.result ≡ min (c.in-Some.known.sum + n) c.args.most) (sym adds) c.limited.ensures) (subst (IsEnd steps c.args.most next) c.in-Some.is right)
