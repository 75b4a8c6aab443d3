use Rattle.std.proofs.Common.{◌≡◌, ◌<◌, ◌∷◌, [], length, get_or, refl, arith, rules, string_bytes}
use Rattle.std.proofs.lemmas.List.{get_or_default}
use Rattle.std.specs.Int.{w8, cast_signed}
use Rattle.literal_model.specs.Literals.{byte_tokens, number}
use Rattle.value_text.proofs.PrintLemmas.{one_written, all_written}
use Rattle.value_text.proofs.print.push_numbers.Goals as goal

pub loop-byte-preserved : goal.loop-byte-preserved
unfolding byte_tokens
loop-byte-preserved c =
    let x = get_or c.args.bytes.now c.loop-byte.byte-index 0 in
    let within : c.loop-byte.byte-index < length c.args.bytes.now = omega arith in
    let read : x ≡ get_or c.args.bytes.now c.loop-byte.byte-index x = get_or_default c.args.bytes.now c.loop-byte.byte-index 0 x within in
    one_written byte_tokens (λ b. number (cast_signed w8 b) ∷ []) c.args.bytes.now c.loop-byte.byte-index c.loop-byte.is_first x (string_bytes c.loop-byte.text) (string_bytes c.push_comma.new.text)
    (string_bytes c.push_signed.new.text) _ (λ b y ys. refl) within read c.loop-byte.invariant c.in_ok-push_comma.ensures (search rules)

pub returns : goal.returns
unfolding byte_tokens
returns c = all_written byte_tokens (λ b. number (cast_signed w8 b) ∷ []) c.args.bytes.now c.loop-byte.byte-index c.loop-byte.is_first _ _ refl (omega arith) c.loop-byte.invariant
