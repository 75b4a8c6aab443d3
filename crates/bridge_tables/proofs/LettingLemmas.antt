-- What letting go of a reference does: an occurrence less, and a release where it was the last one of a pair of the peer's.
use Rattle.std.proofs.Common.{◌≡◌, ℕ, ◌+◌, Bool, true, false, not, ◌&&◌, ◌||◌, nat_eq, cond, if◌then◌else◌, List, [], ◌∷◌, ◌++◌, refl, sym, ap, ◌∙◌, arith}
use Rattle.std.proofs.lemmas.Bool.Decides.{nat_tests}
use Rattle.std.specs.Cmp.{tied_itself}
use Rattle.std.specs.Ordering.{is_eq}
use Rattle.uno_model.specs.Values.{own, peer}
use Rattle.table_model.specs.Holdings.{hold, holders, holds, let_go}
use Rattle.table_model.specs.Pair.{Pair, pair, is_pair}
use Rattle.table_model.specs.declared.holder.Holder.{Holder}
use Rattle.table_model.proofs.PairLaws.{pair_order}
use Rattle.bridge_model.specs.References.{releases, is_held, loses, stays, gives_back, lets_go}
use Rattle.bridge_model.specs.Settings.{Setting, is_own}
use Rattle.bridge_model.specs.Sides.{Tables}
use Rattle.message_model.specs.MessageNamings.{message_namings}
use Rattle.bridge_model.specs.References.{counts_sent, says}
use Rattle.bridge_model.specs.Settings.{prefix, release_tid}
use Rattle.bridge_model.specs.Sides.{RootState}
use Rattle.bridge_objects.specs.Kept.{Kept, without_hold}
use Rattle.bridge_streams.specs.Queues.{Queue, with_release}
use Rattle.bridge_tables.specs.Covered.{gave}
use Rattle.bridge_tables.specs.EndTables.{EndTables, on_tables}
use Rattle.bridge_tables.proofs.Counts.{held_less, none_less}

-- what is not held is let go without a change
unheld : (who : Holder) (oid face : List ℕ) (t : Tables) → holds (hold who (pair oid face)) t.holdings ≡ false → loses who (own oid face) t ≡ t
unheld who oid face t none = ap (λ hs. record t { holdings = hs }) (none_less (hold who (pair oid face)) t.holdings none)

-- an object of this end is let go without a release
own_goes : (b : Bool) (g : Setting) (who : Holder) (oid face : List ℕ) (t : Tables) → holds (hold who (pair oid face)) t.holdings ≡ b
    → (if b then gives_back g (own oid face) (loses who (own oid face) t) else t) ≡ loses who (own oid face) t
own_goes true g who oid face t is = refl
own_goes false g who oid face t is = sym (unheld who oid face t is)

pub own_let_go : (g : Setting) (who : Holder) (oid face : List ℕ) (t : Tables) → lets_go g who (own oid face) t ≡ loses who (own oid face) t
own_let_go g who oid face t = own_goes (holds (hold who (pair oid face)) t.holdings) g who oid face t refl

module _ (g : Setting) (who : Holder) (oid face : List ℕ) (t : Tables) where
  p : Pair
  p = pair oid face

  -- whether it was the last occurrence of a pair of the peer's
  abbrev pub goes_last : Bool
  goes_last = holds (hold who (pair oid face)) t.holdings && (not (is_own g oid) && nat_eq (holders (pair oid face) t.holdings) 1)

  same_self : is_pair (pair oid face) (pair oid face) ≡ true
  same_self = ap is_eq (tied_itself pair_order (pair oid face))

  one_fewer : holds (hold who (pair oid face)) t.holdings ≡ true → holders (pair oid face) t.holdings ≡ 1 + holders (pair oid face) (let_go (hold who (pair oid face)) t.holdings)
  one_fewer there = held_less (pair oid face) who (pair oid face) t.holdings there ∙ ap (λ b. cond b 1 0 + holders (pair oid face) (let_go (hold who (pair oid face)) t.holdings)) same_self

  still_stays : (mine one : Bool) → is_own g oid ≡ mine → nat_eq (holders (pair oid face) t.holdings) 1 ≡ one → holds (hold who (pair oid face)) t.holdings ≡ true → (not mine && one) ≡ false
      → stays g oid face (loses who (peer oid face) t) ≡ true
  still_stays true one is count there few = ap (λ b. b || is_held oid face (loses who (peer oid face) t)) is
  still_stays false true is count there few = absurd (cc)
  still_stays false false is count there few =
      let fewer = one_fewer there in
      let some : nat_eq (holders (pair oid face) (let_go (hold who (pair oid face)) t.holdings)) 0 ≡ false = grind (arith, nat_tests) in
      ap (λ b. b || is_held oid face (loses who (peer oid face) t)) is ∙ ap not some

  quiet : (there : Bool) → holds (hold who (pair oid face)) t.holdings ≡ there → (there && (not (is_own g oid) && nat_eq (holders (pair oid face) t.holdings) 1)) ≡ false
      → (if there then gives_back g (peer oid face) (loses who (peer oid face) t) else t) ≡ loses who (peer oid face) t
  quiet true is last =
      ap (λ b. if b then loses who (peer oid face) t else releases g oid face (loses who (peer oid face) t))
      (still_stays (is_own g oid) (nat_eq (holders (pair oid face) t.holdings) 1) refl refl is last)
  quiet false is last = sym (unheld who oid face t is)

  -- otherwise nothing is said
  pub let_go_quietly : goes_last ≡ false → lets_go g who (peer oid face) t ≡ loses who (peer oid face) t
  let_go_quietly last = quiet (holds (hold who (pair oid face)) t.holdings) refl last

  last_gone : (mine one : Bool) → is_own g oid ≡ mine → nat_eq (holders (pair oid face) t.holdings) 1 ≡ one → holds (hold who (pair oid face)) t.holdings ≡ true → (not mine && one) ≡ true
      → stays g oid face (loses who (peer oid face) t) ≡ false
  last_gone true one is count there last = absurd (cc)
  last_gone false false is count there last = absurd (cc)
  last_gone false true is count there last =
      let fewer = one_fewer there in
      let none : nat_eq (holders (pair oid face) (let_go (hold who (pair oid face)) t.holdings)) 0 ≡ true = grind (arith, nat_tests) in
      ap (λ b. b || is_held oid face (loses who (peer oid face) t)) is ∙ ap not none

  released : (there : Bool) → holds (hold who (pair oid face)) t.holdings ≡ there → (there && (not (is_own g oid) && nat_eq (holders (pair oid face) t.holdings) 1)) ≡ true
      → (if there then gives_back g (peer oid face) (loses who (peer oid face) t) else t) ≡ releases g oid face (loses who (peer oid face) t)
  released true is last =
      ap (λ b. if b then loses who (peer oid face) t else releases g oid face (loses who (peer oid face) t))
      (last_gone (is_own g oid) (nat_eq (holders (pair oid face) t.holdings) 1) refl refl is last)
  released false is last = absurd (cc)

  -- the last one is released
  pub let_go_last : goes_last ≡ true → lets_go g who (peer oid face) t ≡ releases g oid face (loses who (peer oid face) t)
  let_go_last last = released (holds (hold who (pair oid face)) t.holdings) refl last

-- ---- what code sees of that

-- a name is told by its front
pub told_by_front : (g : Setting) (front oid bytes : List ℕ) (b : Bool) → front ≡ prefix g → bytes ≡ oid → b ≡ is_own g bytes → gave front oid ≡ b
unfolding is_own
told_by_front g front oid bytes b of same told = (λ i. gave (of i) (sym same i)) ∙ sym told

-- the tables of an end by their parts
abbrev pub seen : Kept → Queue → Bool → List RootState → ℕ → EndTables
seen k q stands roots frames_made =
    record {
      prefix = k.prefix;
      first = k.first;
      release_tid = q.tid;
      stands = stands;
      tables =
          record {
            objects = k.objects;
            objects_made = k.objects_made;
            frames_made = frames_made;
            holdings = k.holdings;
            stubs = k.stubs;
            roots = roots;
            unsaid = q.said;
          };
    }

module _ (g : Setting) (who : Holder) (oid face : List ℕ) (k : Kept) (q : Queue) (stands : Bool) (roots : List RootState) (frames_made : ℕ) (front : k.prefix ≡ prefix g) (tid : q.tid ≡ release_tid g) where
  last_told : (b : Bool) → b ≡ (holds (hold who (pair oid face)) k.holdings && (not (gave k.prefix oid) && nat_eq (holders (pair oid face) k.holdings) 1))
      → goes_last g who oid face (seen k q stands roots frames_made).tables ≡ b
  unfolding is_own
  last_told b told =
      ap (λ p. holds (hold who (pair oid face)) k.holdings && (not (gave p oid) && nat_eq (holders (pair oid face) k.holdings) 1)) (sym front) ∙ sym told

  -- nothing was said
  pub seen_quietly : (new : Kept) → new ≡ without_hold (hold who (pair oid face)) k
      → false ≡ (holds (hold who (pair oid face)) k.holdings && (not (gave k.prefix oid) && nat_eq (holders (pair oid face) k.holdings) 1))
      → seen new q stands roots frames_made ≡ on_tables (lets_go g who (peer oid face)) (seen k q stands roots frames_made)
  seen_quietly new gone told =
      ap (λ x. seen x q stands roots frames_made) gone
      ∙ ap (λ t. record (seen k q stands roots frames_made) { tables = t }) (sym (let_go_quietly g who oid face (seen k q stands roots frames_made).tables (last_told false told)))

  said_so : (t : Tables) → record t { unsaid = t.unsaid ++ Rattle.message_model.specs.Messages.release q.tid oid face ∷ [] } ≡ releases g oid face t
  unfolding says counts_sent message_namings
  said_so t = ap (λ n. record t { unsaid = t.unsaid ++ Rattle.message_model.specs.Messages.release n oid face ∷ [] }) tid

  -- the pair was released
  pub seen_released : (new : Kept) (after : Queue) (o f : List ℕ) → new ≡ without_hold (hold who (pair oid face)) k → after ≡ with_release o f q → pair o f ≡ pair oid face
      → true ≡ (holds (hold who (pair oid face)) k.holdings && (not (gave k.prefix oid) && nat_eq (holders (pair oid face) k.holdings) 1))
      → seen new after stands roots frames_made ≡ on_tables (lets_go g who (peer oid face)) (seen k q stands roots frames_made)
  seen_released new after o f gone said named told =
      (λ i. seen (gone i) (said i) stands roots frames_made)
      ∙ ap (λ p. seen (without_hold (hold who (pair oid face)) k) (with_release p.oid p.face q) stands roots frames_made) named
      ∙ ap (λ t. record (seen k q stands roots frames_made) { tables = t }) (said_so (loses who (peer oid face) (seen k q stands roots frames_made).tables))
      ∙ ap (λ t. record (seen k q stands roots frames_made) { tables = t }) (sym (let_go_last g who oid face (seen k q stands roots frames_made).tables (last_told true told)))
