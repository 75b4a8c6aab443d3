use Rattle.std.proofs.Common.{◌≡◌, ◌-◌, ◌∙◌, ap, get_or, length, arith}
use Rattle.idl_names.proofs.SlotLemmas.{slot_is}
use Rattle.idl_names.proofs.paths.slot_of.Goals as goal

pub returns : goal.returns
returns c =
    let bytes = c.as_bytes-bytes.result.now in
    let before : c.saturating_sub.result ≡ length bytes - 2 = let is = c.saturating_sub.ensures in omega (arith, is) in
    let end : c.saturating_sub-2.result ≡ length bytes - 1 = let is = c.saturating_sub-2.ensures in omega (arith, is) in
    slot_is c.args.outer c.args.name.now bytes c.byte_at-first.result c.byte_at-middle.result c.byte_at-last_but_one.result c.byte_at-last.result c.as_bytes-bytes.ensures.value
    c.byte_at-first.ensures.byte c.byte_at-middle.ensures.byte (c.byte_at-last_but_one.ensures.byte ∙ ap (λ k. get_or bytes k 0) before) (c.byte_at-last.ensures.byte ∙ ap (λ k. get_or bytes k 0) end)
