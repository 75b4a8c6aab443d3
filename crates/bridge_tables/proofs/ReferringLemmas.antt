-- References that are gained, taken, lost and let go one after the other.
use Rattle.std.specs.Prelude.{OnErr, OnOk}
use Rattle.std.specs.Result.{is_err}
use Rattle.std.proofs.Common.{◌≡◌, ℕ, ◌+◌, ◌<◌, ◌≤◌, Result, Ok, Err, List, [], ◌∷◌, ◌++◌, length, map, take, drop, get_or, if◌then◌else◌, Bool, true, false, refl, sym, ap, ◌∙◌}
use Rattle.std.proofs.lemmas.List.{map-append, take_more, at_drop_more, drop_all}
use Rattle.message_model.specs.Messages.{Answer, returned, raised}
use Rattle.uno_model.specs.Kinds.{Kind}
use Rattle.uno_model.specs.Values.{Ref, null, own, peer, Plain, plains, refs, refs_in}
use Rattle.uno_values.specs.Values.{plain_of, plains_of}
use Rattle.uno_values.specs.declared.value.Value.{Value}
use Rattle.table_model.specs.Holdings.{hold}
use Rattle.table_model.specs.Pair.{pair}
use Rattle.table_model.specs.declared.holder.Holder.{Holder}
use Rattle.table_model.proofs.BagLaws.{one_less_one_more}
use Rattle.table_model.proofs.HoldLaws.{hold_order}
use Rattle.message_model.specs.MessageNamings.{message_namings}
use Rattle.bridge_model.specs.References.{counts_sent, says, gains, gains_all, is_held, releases, takes, takes_all, loses, loses_all, lets_go, lets_go_all, refs_of_values, refs_of_answer}
use Rattle.bridge_model.specs.Settings.{Setting}
use Rattle.bridge_model.specs.Sides.{Tables}
use Rattle.bridge_tables.specs.EndTables.{EndTables, on_tables, quiet, with_tables}

-- ---- what was gained last is lost

pub lost_gained : (h : Holder) (r : Ref) (t : Tables) → loses h r (gains h r t) ≡ t
lost_gained h null t = refl
lost_gained h (own oid face) t = ap (λ hs. record t { holdings = hs }) (one_less_one_more hold_order (hold h (pair oid face)) t.holdings)
lost_gained h (peer oid face) t = ap (λ hs. record t { holdings = hs }) (one_less_one_more hold_order (hold h (pair oid face)) t.holdings)

gained_last : (h : Holder) (rs : List Ref) (r : Ref) (t : Tables) → gains_all h (rs ++ r ∷ []) t ≡ gains h r (gains_all h rs t)
unfolding gains_all
gained_last h [] r t = refl
gained_last h (q ∷ rs) r t = gained_last h rs r (gains h q t)

taken_last : (g : Setting) (h : Holder) (rs : List Ref) (r : Ref) (t : Tables) → takes_all g h (rs ++ r ∷ []) t ≡ takes g h r (takes_all g h rs t)
unfolding takes_all
taken_last g h [] r t = refl
taken_last g h (q ∷ rs) r t = taken_last g h rs r (takes g h q t)

pub none_gained : (h : Holder) (t : Tables) → gains_all h [] t ≡ t
unfolding gains_all
none_gained h t = refl

pub none_taken : (g : Setting) (h : Holder) (t : Tables) → takes_all g h [] t ≡ t
unfolding takes_all
none_taken g h t = refl

module _ {R : Type 0} (ref_of : R → Ref) (h : Holder) (xs : List R) (i : ℕ) (x : R) (within : i < length xs) (is : x ≡ get_or xs i x) where
  refs_more : map ref_of (take (i + 1) xs) ≡ map ref_of (take i xs) ++ ref_of x ∷ []
  refs_more = ap (map ref_of) (take_more xs i x within) ∙ map-append ref_of (take i xs) (get_or xs i x ∷ []) ∙ ap (λ y. map ref_of (take i xs) ++ ref_of y ∷ []) (sym is)

  -- one reference more is gained, or taken
  pub gained_next : (t : Tables) → gains_all h (map ref_of (take (i + 1) xs)) t ≡ gains h (ref_of x) (gains_all h (map ref_of (take i xs)) t)
  gained_next t = ap (λ rs. gains_all h rs t) refs_more ∙ gained_last h (map ref_of (take i xs)) (ref_of x) t

  pub taken_next : (g : Setting) (t : Tables) → takes_all g h (map ref_of (take (i + 1) xs)) t ≡ takes g h (ref_of x) (takes_all g h (map ref_of (take i xs)) t)
  taken_next g t = ap (λ rs. takes_all g h rs t) refs_more ∙ taken_last g h (map ref_of (take i xs)) (ref_of x) t

  -- one that was gained last is lost again
  pub lost_again : (e now after : EndTables) → now ≡ on_tables (gains_all h (map ref_of (take (i + 1) xs))) e → after ≡ on_tables (loses h (ref_of x)) now
      → after ≡ on_tables (gains_all h (map ref_of (take i xs))) e
  lost_again e now after held gone =
      gone ∙ ap (on_tables (loses h (ref_of x))) (held ∙ ap (λ t. record e { tables = t }) (gained_next e.tables))
      ∙ ap (λ t. record e { tables = t }) (lost_gained h (ref_of x) (gains_all h (map ref_of (take i xs)) e.tables))

  -- and so quietly
  pub quietly_again : (e now after : EndTables) → quiet now ≡ quiet (on_tables (gains_all h (map ref_of (take (i + 1) xs))) e) → after ≡ on_tables (loses h (ref_of x)) now
      → quiet after ≡ quiet (on_tables (gains_all h (map ref_of (take i xs))) e)
  quietly_again e now after held gone =
      ap quiet gone ∙ quiet_loss (ref_of x) now ∙ ap (λ q. quiet (on_tables (loses h (ref_of x)) q)) held
      ∙ sym (quiet_loss (ref_of x) (on_tables (gains_all h (map ref_of (take (i + 1) xs))) e))
      ∙ ap quiet (lost_again e (on_tables (gains_all h (map ref_of (take (i + 1) xs))) e) (on_tables (loses h (ref_of x)) (on_tables (gains_all h (map ref_of (take (i + 1) xs))) e)) refl refl)
    where
      quiet_loss : (r : Ref) (u : EndTables) → quiet (on_tables (loses h r) u) ≡ quiet (on_tables (loses h r) (quiet u))
      quiet_loss null u = refl
      quiet_loss (own oid face) u = refl
      quiet_loss (peer oid face) u = refl

-- ---- what is taken is gained, but for what is said

pub quiet_said : (g : Setting) (oid face : List ℕ) (e : EndTables) → quiet (on_tables (releases g oid face) e) ≡ quiet e
unfolding says counts_sent message_namings
quiet_said g oid face e = refl

quiet_release : (b : Bool) (g : Setting) (h : Holder) (oid face : List ℕ) (e : EndTables)
    → quiet (on_tables (λ t. gains h (peer oid face) (if b then releases g oid face t else t)) e) ≡ quiet (on_tables (gains h (peer oid face)) (quiet e))
quiet_release true g h oid face e = ap (λ q. quiet (on_tables (gains h (peer oid face)) q)) (quiet_said g oid face e)
quiet_release false g h oid face e = refl

quiet_taking : (g : Setting) (h : Holder) (r : Ref) (e : EndTables) → quiet (on_tables (takes g h r) e) ≡ quiet (on_tables (gains h r) (quiet e))
quiet_taking g h null e = refl
quiet_taking g h (own oid face) e = refl
quiet_taking g h (peer oid face) e = quiet_release (is_held oid face e.tables) g h oid face e

quiet_gain : (h : Holder) (r : Ref) (e : EndTables) → quiet (on_tables (gains h r) e) ≡ quiet (on_tables (gains h r) (quiet e))
quiet_gain h null e = refl
quiet_gain h (own oid face) e = refl
quiet_gain h (peer oid face) e = refl

pub quietly_taken : (g : Setting) (h : Holder) (rs : List Ref) (e u : EndTables) → quiet e ≡ quiet u → quiet (on_tables (takes_all g h rs) e) ≡ quiet (on_tables (gains_all h rs) u)
unfolding takes_all gains_all
quietly_taken g h [] e u same = same
quietly_taken g h (r ∷ rs) e u same =
    quietly_taken g h rs (on_tables (takes g h r) e) (on_tables (gains h r) u)
    (quiet_taking g h r e ∙ ap (λ q. quiet (on_tables (gains h r) q)) same ∙ sym (quiet_gain h r u))

-- ---- letting go of several

module _ {R : Type 0} (ref_of : R → Ref) (g : Setting) (h : Holder) (xs : List R) where
  -- the rest is let go behind this one
  pub going_next : (i : ℕ) (x : R) (e before after : EndTables) → i < length xs → x ≡ get_or xs i x → after ≡ on_tables (lets_go g h (ref_of x)) before
      → on_tables (lets_go_all g h (map ref_of (drop i xs))) before ≡ e → on_tables (lets_go_all g h (map ref_of (drop (i + 1) xs))) after ≡ e
  unfolding lets_go_all
  going_next i x e before after within is here all =
      ap (on_tables (lets_go_all g h (map ref_of (drop (i + 1) xs)))) here
      ∙ ap (λ y. on_tables (lets_go_all g h (ref_of y ∷ map ref_of (drop (i + 1) xs))) before) is
      ∙ sym (at_drop_more (λ ys. on_tables (lets_go_all g h (map ref_of ys)) before) xs i x within)
      ∙ all

pub none_going : (g : Setting) (h : Holder) (t : Tables) → lets_go_all g h [] t ≡ t
unfolding lets_go_all
none_going g h t = refl

module _ {R : Type 0} (ref_of : R → Ref) (g : Setting) (h : Holder) (xs : List R) where
  -- and nothing is left
  pub going_done : (i : ℕ) (e now : EndTables) → length xs ≤ i → on_tables (lets_go_all g h (map ref_of (drop i xs))) now ≡ e → now ≡ e
  going_done i e now past all =
      sym (ap (λ ys. on_tables (lets_go_all g h (map ref_of ys)) now) (drop_all i xs past) ∙ ap (λ t. record now { tables = t }) (none_going g h now.tables)) ∙ all

-- whatever was answered, what holds holds where it is a refusal
pub at_err : {A E P : Type 0} (r : Result A E) → P → OnErr r P
at_err (Ok x) p = tt
at_err (Err e) p = p

-- what was answered decides which clause holds
pub was_ok : {A E P : Type 0} (r : Result A E) (b : Bool) → b ≡ is_err r → b ≡ false → OnOk r P → P
was_ok (Ok x) b told is p = p
was_ok (Err e) b told is p = let bad : true ≡ false = sym told ∙ is in absurd (cc)

pub was_err : {A E P : Type 0} (r : Result A E) (b : Bool) → b ≡ is_err r → b ≡ true → OnErr r P → P
was_err (Ok x) b told is p = let bad : false ≡ true = sym told ∙ is in absurd (cc)
was_err (Err e) b told is p = p

-- ---- the references of values, one value after the other

going_on : (g : Setting) (h : Holder) (rs qs : List Ref) (t : Tables) → lets_go_all g h (rs ++ qs) t ≡ lets_go_all g h qs (lets_go_all g h rs t)
unfolding lets_go_all
going_on g h [] qs t = refl
going_on g h (r ∷ rs) qs t = going_on g h rs qs (lets_go g h r t)

losing_on : (h : Holder) (rs qs : List Ref) (t : Tables) → loses_all h (rs ++ qs) t ≡ loses_all h qs (loses_all h rs t)
unfolding loses_all
losing_on h [] qs t = refl
losing_on h (r ∷ rs) qs t = losing_on h rs qs (loses h r t)

refs_next : (xs : List Value) (i : ℕ) (x : Value) → i < length xs → x ≡ get_or xs i x → refs_in (plains_of (drop i xs)) ≡ refs (plain_of x) ++ refs_in (plains_of (drop (i + 1) xs))
unfolding refs_in
refs_next xs i x within is =
    at_drop_more (λ ys. refs_in (plains_of ys)) xs i x within ∙ ap (λ y. refs (plain_of y) ++ refs_in (plains_of (drop (i + 1) xs))) (sym is)

pub value_going : (g : Setting) (h : Holder) (xs : List Value) (i : ℕ) (x : Value) (e before after : EndTables) → i < length xs → x ≡ get_or xs i x
    → after ≡ on_tables (lets_go_all g h (refs (plain_of x))) before → on_tables (lets_go_all g h (refs_in (plains_of (drop i xs)))) before ≡ e
    → on_tables (lets_go_all g h (refs_in (plains_of (drop (i + 1) xs)))) after ≡ e
value_going g h xs i x e before after within is here all =
    ap (on_tables (lets_go_all g h (refs_in (plains_of (drop (i + 1) xs))))) here
    ∙ ap (λ t. with_tables t before) (sym (going_on g h (refs (plain_of x)) (refs_in (plains_of (drop (i + 1) xs))) before.tables))
    ∙ ap (λ rs. on_tables (lets_go_all g h rs) before) (sym (refs_next xs i x within is))
    ∙ all

pub value_losing : (h : Holder) (xs : List Value) (i : ℕ) (x : Value) (e before after : EndTables) → i < length xs → x ≡ get_or xs i x
    → after ≡ on_tables (loses_all h (refs (plain_of x))) before → on_tables (loses_all h (refs_in (plains_of (drop i xs)))) before ≡ e
    → on_tables (loses_all h (refs_in (plains_of (drop (i + 1) xs)))) after ≡ e
value_losing h xs i x e before after within is here all =
    ap (on_tables (loses_all h (refs_in (plains_of (drop (i + 1) xs))))) here
    ∙ ap (λ t. with_tables t before) (sym (losing_on h (refs (plain_of x)) (refs_in (plains_of (drop (i + 1) xs))) before.tables))
    ∙ ap (λ rs. on_tables (loses_all h rs) before) (sym (refs_next xs i x within is))
    ∙ all

pub values_gone : (g : Setting) (h : Holder) (xs : List Value) (i : ℕ) (e now : EndTables) → length xs ≤ i → on_tables (lets_go_all g h (refs_in (plains_of (drop i xs)))) now ≡ e → now ≡ e
unfolding refs_in lets_go_all
values_gone g h xs i e now past all = sym (ap (λ ys. on_tables (lets_go_all g h (refs_in (plains_of ys))) now) (drop_all i xs past)) ∙ all

pub values_lost : (h : Holder) (xs : List Value) (i : ℕ) (e now : EndTables) → length xs ≤ i → on_tables (loses_all h (refs_in (plains_of (drop i xs)))) now ≡ e → now ≡ e
unfolding refs_in loses_all
values_lost h xs i e now past all = sym (ap (λ ys. on_tables (loses_all h (refs_in (plains_of ys))) now) (drop_all i xs past)) ∙ all

-- those of values are the same, told as a list
pub refs_flat : (xs : List Plain) → refs_in (plains xs) ≡ refs_of_values xs
unfolding refs_in refs_of_values
refs_flat [] = refl
refs_flat (x ∷ xs) = ap (λ rs. refs x ++ rs) (refs_flat xs)

-- ---- the references of an outcome

pub answer_lost : (h : Holder) (x : Plain) (outs : List Plain) (a : Answer) (e between after : EndTables) → a ≡ returned x outs → between ≡ on_tables (loses_all h (refs x)) e
    → after ≡ on_tables (loses_all h (refs_of_values outs)) between → after ≡ on_tables (loses_all h (refs_of_answer a)) e
unfolding refs_of_answer
answer_lost h x outs a e between after is first second =
    second ∙ ap (on_tables (loses_all h (refs_of_values outs))) first ∙ ap (λ t. with_tables t e) (sym (losing_on h (refs x) (refs_of_values outs) e.tables))
    ∙ ap (λ b. on_tables (loses_all h (refs_of_answer b)) e) (sym is)

pub exception_lost : (h : Holder) (k : Kind) (x : Plain) (a : Answer) (e after : EndTables) → a ≡ raised k x → after ≡ on_tables (loses_all h (refs x)) e
    → after ≡ on_tables (loses_all h (refs_of_answer a)) e
unfolding refs_of_answer
exception_lost h k x a e after is here = here ∙ ap (λ b. on_tables (loses_all h (refs_of_answer b)) e) (sym is)

pub nothing_lost : (h : Holder) (rs : List Ref) (e : EndTables) → rs ≡ [] → e ≡ on_tables (loses_all h rs) e
unfolding loses_all
nothing_lost h rs e is = ap (λ qs. on_tables (loses_all h qs) e) (sym is)
