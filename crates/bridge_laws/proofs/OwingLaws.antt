-- What a stub owes: one more for each place that is sent, one less for each release, and never nothing.
use Rattle.std.proofs.Common.{◌≡◌, ◌+◌, ◌<◌, Bool, true, false, cond, ◌&&◌, nat_lt, if◌then◌else◌, List, [], ◌∷◌, Option, None, Some, IfSome, is_some, refl, sym, ap, ◌∙◌, subst, arith, eqb-true}
use Rattle.std.proofs.lemmas.Bool.Decides.{nat_tests}
use Rattle.std.specs.Cmp.{Equal-is}
use Rattle.std.specs.FinMap.{put}
use Rattle.std.specs.FinMap.Entries.{find-put}
use Rattle.message_model.specs.MessageNamings.{message_namings}
use Rattle.message_model.specs.Messages.{Message}
use Rattle.uno_model.specs.Entities.{Entity}
use Rattle.urp_model.specs.Namings.{Naming}
use Rattle.table_model.specs.Pair.{Pair, pair, pair_cmp, is_pair}
use Rattle.table_model.specs.Rows.{without}
use Rattle.table_model.specs.Stubs.{Stubs, stub, sent_again, sent_one, is_last, released_from, released_one, IsOwed}
use Rattle.table_model.specs.declared.stub.Stub.{Stub}
use Rattle.table_model.proofs.PairLaws.{pair_order, same_pair}
use Rattle.table_model.proofs.RowLaws.{found_without, all_put, all_without}
use Rattle.bridge_model.specs.References.{counts_one, counts_sent}
use Rattle.bridge_laws.specs.Counting.{total, one_if, is_place, places, owed_by}
use Rattle.bridge_laws.proofs.GrowsLaws.{stubs_after}

-- each stub is owed
abbrev pub AreOwed : Stubs → Type 0
AreOwed stubs = (p : Pair) → IfSome (stub p stubs) IsOwed

-- a pair that is another has its stub
same_stub : (p q : Pair) (stubs : Stubs) → is_pair q p ≡ true → stub p stubs ≡ stub q stubs
same_stub p q stubs is = ap (λ k. stub k stubs) (sym (same_pair q p ((Equal-is _).0 is)))

-- ---- sending

again_owed : (o : Option Stub) → IfSome o IsOwed → IsOwed (sent_again o)
again_owed None owed = omega arith
again_owed (Some s) owed = omega arith

again_owes : (o : Option Stub) → IfSome o IsOwed → owed_by (Some (sent_again o)) ≡ 1 + owed_by o
again_owes None owed = refl
again_owes (Some s) owed = omega arith

sent_step : (b : Bool) (mine here : Option Stub) → (b ≡ true → mine ≡ here) → IfSome here IsOwed → owed_by (cond b (Some (sent_again mine)) here) ≡ one_if b + owed_by here
sent_step true mine here same owed = ap (λ o. owed_by (Some (sent_again o))) (same refl) ∙ again_owes here owed
sent_step false mine here same owed = omega arith

-- a pair that is sent is owed once more
sent_owes : (q p : Pair) (stubs : Stubs) → AreOwed stubs → owed_by (stub q (sent_one p stubs)) ≡ one_if (is_pair q p) + owed_by (stub q stubs)
sent_owes q p stubs owed =
    ap owed_by (find-put pair_cmp pair_order q p (sent_again (stub p stubs)) stubs)
    ∙ sent_step (is_pair q p) (stub p stubs) (stub q stubs) (same_stub p q stubs) (owed q)

sent_owed : (p : Pair) (stubs : Stubs) → AreOwed stubs → AreOwed (sent_one p stubs)
sent_owed p stubs owed q = all_put pair_order IsOwed p stubs owed (sent_again (stub p stubs)) (again_owed (stub p stubs) (owed p)) q

counted_if : (b : Bool) (q p : Pair) (stubs : Stubs) → AreOwed stubs
    → owed_by (stub q (if b then sent_one p stubs else stubs)) ≡ one_if (b && is_pair q p) + owed_by (stub q stubs)
counted_if true q p stubs owed = sent_owes q p stubs owed
counted_if false q p stubs owed = omega arith

owed_if : (b : Bool) (p : Pair) (stubs : Stubs) → AreOwed stubs → AreOwed (if b then sent_one p stubs else stubs)
owed_if true p stubs owed = sent_owed p stubs owed
owed_if false p stubs owed = owed

pub counts_owed : (ns : List Naming) (stubs : Stubs) → AreOwed stubs → AreOwed (counts_sent ns stubs)
unfolding counts_sent
counts_owed [] stubs owed = owed
counts_owed (n ∷ ns) stubs owed = counts_owed ns (counts_one n stubs) (owed_if n.is_own (pair n.oid n.written) stubs owed)

-- each place that names a pair is one more that is owed
pub counts_owe : (q : Pair) (ns : List Naming) (stubs : Stubs) → AreOwed stubs
    → owed_by (stub q (counts_sent ns stubs)) ≡ total (λ n. one_if (is_place q n)) ns + owed_by (stub q stubs)
unfolding counts_sent total
counts_owe q [] stubs owed = omega arith
counts_owe q (n ∷ ns) stubs owed =
    let here = counted_if n.is_own q (pair n.oid n.written) stubs owed in
    let rest = counts_owe q ns (counts_one n stubs) (owed_if n.is_own (pair n.oid n.written) stubs owed) in omega arith

-- ---- messages

pub after_owed : (reg : List Entity) (ms : List Message) (stubs : Stubs) → AreOwed stubs → AreOwed (stubs_after reg ms stubs)
unfolding stubs_after
after_owed reg [] stubs owed = owed
after_owed reg (m ∷ ms) stubs owed = after_owed reg ms (counts_sent (message_namings reg m) stubs) (counts_owed (message_namings reg m) stubs owed)

pub after_owe : (reg : List Entity) (q : Pair) (ms : List Message) (stubs : Stubs) → AreOwed stubs
    → owed_by (stub q (stubs_after reg ms stubs)) ≡ total (places reg q) ms + owed_by (stub q stubs)
unfolding stubs_after places total
after_owe reg q [] stubs owed = omega arith
after_owe reg q (m ∷ ms) stubs owed =
    let here = counts_owe q (message_namings reg m) stubs owed in
    let rest = after_owe reg q ms (counts_sent (message_namings reg m) stubs) (counts_owed (message_namings reg m) stubs owed) in omega arith

-- ---- releases

last_owes : (s : Stub) → is_last s ≡ true → owed_by (Some s) ≡ 1
last_owes s last = let meet : s.released + 1 ≡ s.sent = eqb-true (s.released + 1) s.sent last in omega arith

not_last : (s : Stub) → IsOwed s → is_last s ≡ false → s.released + 1 < s.sent
not_last s owed more = grind (arith, nat_tests)

gone_step : (b : Bool) (s : Stub) (here : Option Stub) → (b ≡ true → Some s ≡ here) → is_last s ≡ true → owed_by here ≡ one_if b + owed_by (cond b None here)
gone_step true s here same last = ap owed_by (sym (same refl)) ∙ last_owes s last
gone_step false s here same last = omega arith

less_step : (b : Bool) (s : Stub) (here : Option Stub) → (b ≡ true → Some s ≡ here) → IsOwed s
    → owed_by here ≡ one_if b + owed_by (cond b (Some (record s { released = s.released + 1 })) here)
less_step true s here same owed = ap owed_by (sym (same refl)) ∙ omega arith
less_step false s here same owed = omega arith

released_by : (q p : Pair) (s : Stub) (stubs : Stubs) → stub p stubs ≡ Some s → IsOwed s → (last : Bool) → is_last s ≡ last
    → owed_by (stub q stubs) ≡ one_if (is_pair q p) + owed_by (stub q (cond last (without pair_cmp p stubs) (put pair_cmp p (record s { released = s.released + 1 }) stubs)))
released_by q p s stubs found owed true last =
    gone_step (is_pair q p) s (stub q stubs) (λ is. sym found ∙ same_stub p q stubs is) last
    ∙ ap (λ o. one_if (is_pair q p) + owed_by o) (sym (found_without pair_order q p stubs))
released_by q p s stubs found owed false last =
    less_step (is_pair q p) s (stub q stubs) (λ is. sym found ∙ same_stub p q stubs is) owed
    ∙ ap (λ o. one_if (is_pair q p) + owed_by o) (sym (find-put pair_cmp pair_order q p (record s { released = s.released + 1 }) stubs))

released_some : (q p : Pair) (stubs : Stubs) → AreOwed stubs → (o : Option Stub) → stub p stubs ≡ o → is_some o ≡ true
    → owed_by (stub q stubs) ≡ one_if (is_pair q p) + owed_by (stub q (released_from p o stubs))
released_some q p stubs owed None found there = absurd (cc)
released_some q p stubs owed (Some s) found there =
    released_by q p s stubs found (subst (λ o. IfSome o IsOwed) found (owed p)) (is_last s) refl

-- a pair that has a stub and is released is owed once less
pub released_owes : (q p : Pair) (stubs : Stubs) → AreOwed stubs → is_some (stub p stubs) ≡ true
    → owed_by (stub q stubs) ≡ one_if (is_pair q p) + owed_by (stub q (released_one p stubs))
released_owes q p stubs owed there = released_some q p stubs owed (stub p stubs) refl there

still_owed_by : (p : Pair) (s : Stub) (stubs : Stubs) → AreOwed stubs → IsOwed s → (last : Bool) → is_last s ≡ last
    → AreOwed (cond last (without pair_cmp p stubs) (put pair_cmp p (record s { released = s.released + 1 }) stubs))
still_owed_by p s stubs owed mine true last q = all_without pair_order IsOwed p stubs owed q
still_owed_by p s stubs owed mine false last q = all_put pair_order IsOwed p stubs owed (record s { released = s.released + 1 }) (not_last s mine last) q

still_owed_from : (p : Pair) (stubs : Stubs) → AreOwed stubs → (o : Option Stub) → IfSome o IsOwed → AreOwed (released_from p o stubs)
still_owed_from p stubs owed None mine = owed
still_owed_from p stubs owed (Some s) mine = still_owed_by p s stubs owed mine (is_last s) refl

pub released_owed : (p : Pair) (stubs : Stubs) → AreOwed stubs → AreOwed (released_one p stubs)
released_owed p stubs owed = still_owed_from p stubs owed (stub p stubs) (owed p)

-- ---- the debt

-- what is owed is owed at least once, and only where there is a stub
pub owed_where : (o : Option Stub) → IfSome o IsOwed → is_some o ≡ nat_lt 0 (owed_by o)
owed_where None owed = refl
owed_where (Some s) owed = grind (arith, nat_tests)
