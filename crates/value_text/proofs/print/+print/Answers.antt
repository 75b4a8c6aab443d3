use Rattle.std.proofs.Common.{refl, arith, string_bytes}
use Rattle.literal_model.specs.Literals.{tokens_in, tokens_of}
use Rattle.uno_values.specs.Values.{plain_of, plains_of}
use Rattle.value_text.proofs.PrintLemmas.{one_written, all_written}
use Rattle.value_text.proofs.print.+print.Goals as goal

pub push_all-loop-value-preserved : goal.push_all-loop-value-preserved
unfolding tokens_in
push_all-loop-value-preserved t c =
    one_written (λ b vs. tokens_in c.args.registry.now b (plains_of vs)) (λ v. tokens_of c.args.registry.now (plain_of v)) c.args.values.now c.loop-value.value-index c.loop-value.is_first
    c.value-item.result (string_bytes c.loop-value.text) (string_bytes c.push_comma.new.text) _ _ (λ b y ys. refl) (omega arith) c.value-item.is c.loop-value.invariant c.in_ok-push_comma.ensures c.in_ok-push_value.ensures

pub push_all-returns : goal.push_all-returns
unfolding tokens_in
push_all-returns t c = all_written (λ b vs. tokens_in c.args.registry.now b (plains_of vs)) (λ v. tokens_of c.args.registry.now (plain_of v)) c.args.values.now c.loop-value.value-index c.loop-value.is_first _ _ refl (omega arith) c.loop-value.invariant
