-- Entries behind which there is other room.
use Rattle.std.proofs.Common.{◌≡◌, sym, ap, ◌∙◌, ℕ, ◌+◌, ◌-◌, arith}
use Rattle.bridge_journal.specs.Logs.{Log, entered, more_room}
use Rattle.bridge_model.specs.Entries.{Entry}
use Rattle.bridge_endpoint.specs.Entering.{with_room}

-- room is taken, and taken again, and then an entry is made
pub entered_with : (old first second new : Log) (n : ℕ) (x y : Entry) → first ≡ more_room old → second ≡ with_room n first → new ≡ entered x second → x ≡ y → new ≡ with_room new.room (entered y old)
entered_with old first second new n x y one two done same =
    let all : new ≡ with_room (n - 1) (entered y old) = done ∙ ap (entered x) (two ∙ ap (with_room n) one) ∙ ap (λ z. with_room (n - 1) (entered z old)) same in
    all ∙ ap (λ k. with_room k (entered y old)) (sym (ap (λ l. l.room) all))

-- room is taken for an entry and for more, and then the entry is made
pub entered_in : (old new : Log) (x : Entry) (n : ℕ) → new ≡ with_room new.room old → new.room ≡ old.room + 1 + n → entered x new ≡ with_room (old.room + n) (entered x old)
entered_in old new x n kept room =
    let less : new.room - 1 ≡ old.room + n = omega (arith, room) in
    ap (entered x) kept ∙ ap (λ k. with_room k (entered x old)) less
