-- What roots do leaves a side of which all can be carried by bytes.
use Rattle.std.proofs.Common.{◌≡◌, ℕ, suc, Bool, true, false, if◌then◌else◌, List, [], Option, None, Some}
use Rattle.std.specs.Str.{IsUtf8}
use Rattle.message_model.specs.Messages.{returned}
use Rattle.uno_model.specs.BuiltIn.{x_interface_name}
use Rattle.uno_model.specs.Kinds as kd
use Rattle.uno_model.specs.Spellable.{IsSpellableRef, IsSpellable}
use Rattle.uno_model.specs.Values.{Ref, own, peer, Plain, refs}
use Rattle.uno_model.specs.Values as v
use Rattle.table_model.specs.Holdings.{hold}
use Rattle.table_model.specs.Pair.{pair}
use Rattle.table_model.specs.declared.holder.Holder.TheVariants as holder
use Rattle.plan_model.specs.Leaving.{caused}
use Rattle.plan_model.specs.declared.runtime_cause.RuntimeCause.{RuntimeCause}
use Rattle.bridge_model.specs.Calls.{calls_own, calls_peer, query_args}
use Rattle.bridge_model.specs.Objects.{object_answer, makes_default}
use Rattle.bridge_model.specs.References.{gains, gains_all, lets_go, loses}
use Rattle.bridge_model.specs.Roots.{holds_pair, answered_before, is_answered, bottom, begins_call, calls_unless, root_calls, gets_at_once, asks_peer, begins_query, queries_unless, root_queries, asks_unless, root_asks, root_makes, root_drops, root_takes}
use Rattle.bridge_model.specs.Settings.{Setting, own_oid, root_tid, ref_of}
use Rattle.bridge_model.specs.Sides.{Incoming, idle, waits_call, waits_query, answered, answer, Tables, Side, stands, with_root}
use Rattle.bridge_laws.proofs.CallSpelling.{query_args_spellable, calls_own_spellable, calls_peer_spellable}
use Rattle.bridge_laws.proofs.EffectSpelling.{caused_goes}
use Rattle.bridge_laws.proofs.SpellableGiven.{IsGiven}
use Rattle.bridge_laws.proofs.HandingSpelling.{root_gets_spellable}
use Rattle.bridge_laws.proofs.ObjectSpelling.{object_answers, makes_default_spellable}
use Rattle.bridge_laws.proofs.ReceivingSpelling.{ref_of_spellable}
use Rattle.bridge_laws.proofs.SideSpelling.{SideSpellable, unwound_spellable, tabled_spellable}
use Rattle.bridge_laws.proofs.TableSpelling.{TablesSpellable, holds_spellable, gains_spellable, gains_all_spellable, lets_go_spellable, loses_spellable, with_root_spellable}
use Rattle.bridge_laws.proofs.ValueSpelling.{AllSpellable, refs_spellable, own_utf8}

-- the identity of what a root holds
pub pair_spellable : (C : Incoming → Type 0) (root : ℕ) (oid face : List ℕ) (s : Side) → SideSpellable C s → holds_pair root oid face s.tables ≡ true → IsUtf8 oid
pair_spellable C root oid face s fine is = holds_spellable (hold (holder.Root root) (pair oid face)) s.tables.holdings fine.tables.held is

module _ (g : Setting) (given : IsGiven g) (C : Incoming → Type 0) where
  answered_spellable : (root : ℕ) (why : RuntimeCause) (s : Side) → SideSpellable C s → SideSpellable C (is_answered root (caused why) s)
  answered_spellable root why s fine =
      tabled_spellable C (with_root root (answered (answer (caused why))) s.tables) s (with_root_spellable root (answered (answer (caused why))) s.tables (caused_goes why) fine.tables) fine

  -- ---- calls

  call_begins : (root : ℕ) (r : Ref) (function : ℕ) (args : List Plain) (s : Side) → IsSpellableRef r → AllSpellable args → SideSpellable C s
      → SideSpellable C (begins_call g root r function args s)
  call_begins root v.null function args s is all fine = fine
  call_begins root (own oid face) function args s is all fine =
      unwound_spellable C (root_tid g root) (calls_own g oid face function args (bottom root) (with_root root waits_call s.tables)) s
      (calls_own_spellable g given oid face function args (bottom root) (with_root root waits_call s.tables) all (tt, tt) (with_root_spellable root waits_call s.tables tt fine.tables)) fine
  call_begins root (peer oid face) function args s is all fine =
      unwound_spellable C (root_tid g root) (calls_peer g (root_tid g root) oid face function args (bottom root) (with_root root waits_call s.tables)) s
      (calls_peer_spellable g given (root_tid g root) oid face function args (bottom root) (with_root root waits_call s.tables) is all (tt, tt)
      (with_root_spellable root waits_call s.tables tt fine.tables)) fine

  calls_by : (root : ℕ) (oid face : List ℕ) (function : ℕ) (args : List Plain) (why : Option RuntimeCause) (s : Side) → IsUtf8 oid → AllSpellable args → SideSpellable C s
      → SideSpellable C (calls_unless g root oid face function args why s)
  calls_by root oid face function args (Some why) s is all fine = answered_spellable root why s fine
  calls_by root oid face function args None s is all fine = call_begins root (ref_of g oid face) function args s (ref_of_spellable g oid face is) all fine

  pub root_calls_spellable : (root : ℕ) (oid face : List ℕ) (function : ℕ) (args : List Plain) (s : Side) → IsUtf8 oid → AllSpellable args → SideSpellable C s
      → SideSpellable C (root_calls g root oid face function args s)
  unfolding root_calls
  root_calls_spellable root oid face function args s is all fine = calls_by root oid face function args (answered_before (root_tid g root) oid face function args) s is all fine

  -- ---- queries

  at_once_spellable : (root : ℕ) (wanted : List ℕ) (x : Plain) (t : Tables) → IsSpellable x → TablesSpellable t → TablesSpellable (gets_at_once g root wanted x t)
  at_once_spellable root wanted x t is fine =
      root_gets_spellable g root (waits_query wanted) (returned x []) (gains_all (holder.Root root) (refs x) t) (is, tt)
      (gains_all_spellable (holder.Root root) (refs x) t (refs_spellable x is) fine)

  asks_spellable : (root : ℕ) (oid face wanted : List ℕ) (s : Side) → IsUtf8 oid → SideSpellable C s → SideSpellable C (asks_peer g root oid face wanted s)
  asks_spellable root oid face wanted s is fine =
      unwound_spellable C (root_tid g root)
      (calls_peer g (root_tid g root) oid face 0 (query_args wanted) (bottom root) (with_root root (waits_query wanted) s.tables)) s
      (calls_peer_spellable g given (root_tid g root) oid face 0 (query_args wanted) (bottom root) (with_root root (waits_query wanted) s.tables) is (query_args_spellable wanted) (tt, tt)
      (with_root_spellable root (waits_query wanted) s.tables tt fine.tables)) fine

  query_begins : (root : ℕ) (r : Ref) (wanted : List ℕ) (s : Side) → IsSpellableRef r → SideSpellable C s → SideSpellable C (begins_query g root r wanted s)
  query_begins root v.null wanted s is fine = fine
  query_begins root (own oid face) wanted s is fine =
      tabled_spellable C (gets_at_once g root wanted (object_answer g oid (kd.interface wanted) s.tables.objects) s.tables) s
      (at_once_spellable root wanted (object_answer g oid (kd.interface wanted) s.tables.objects) s.tables (object_answers g given oid (kd.interface wanted) s.tables.objects is) fine.tables) fine
  query_begins root (peer oid face) wanted s is fine = asks_spellable root oid face wanted s is fine

  queries_by : (root : ℕ) (oid face wanted : List ℕ) (why : Option RuntimeCause) (s : Side) → IsUtf8 oid → SideSpellable C s → SideSpellable C (queries_unless g root oid face wanted why s)
  queries_by root oid face wanted (Some why) s is fine = answered_spellable root why s fine
  queries_by root oid face wanted None s is fine = query_begins root (ref_of g oid face) wanted s (ref_of_spellable g oid face is) fine

  pub root_queries_spellable : (root : ℕ) (oid face wanted : List ℕ) (s : Side) → IsUtf8 oid → SideSpellable C s → SideSpellable C (root_queries g root oid face wanted s)
  unfolding root_queries
  root_queries_spellable root oid face wanted s is fine = queries_by root oid face wanted (answered_before (root_tid g root) oid face 0 (query_args wanted)) s is fine

  asks_by : (root : ℕ) (name wanted : List ℕ) (why : Option RuntimeCause) (s : Side) → IsUtf8 name → SideSpellable C s → SideSpellable C (asks_unless g root name wanted why s)
  asks_by root name wanted (Some why) s is fine = answered_spellable root why s fine
  asks_by root name wanted None s is fine = asks_spellable root name x_interface_name wanted s is fine

  pub root_asks_spellable : (root : ℕ) (name wanted : List ℕ) (s : Side) → IsUtf8 name → SideSpellable C s → SideSpellable C (root_asks g root name wanted s)
  unfolding root_asks
  root_asks_spellable root name wanted s is fine = asks_by root name wanted (answered_before (root_tid g root) name x_interface_name 0 (query_args wanted)) s is fine

  -- ---- objects and references

  pub root_makes_spellable : (root behaviour : ℕ) (wanted : List ℕ) (s : Side) → SideSpellable C s → SideSpellable C (root_makes g root behaviour wanted s)
  unfolding root_makes
  root_makes_spellable root behaviour wanted s fine =
      tabled_spellable C (gains (holder.Root root) (own (own_oid g (suc s.tables.objects_made)) wanted) (makes_default g behaviour s.tables)) s
      (gains_spellable (holder.Root root) (own (own_oid g (suc s.tables.objects_made)) wanted) (makes_default g behaviour s.tables) (own_utf8 g given.tag (suc s.tables.objects_made))
      (makes_default_spellable g given behaviour s.tables fine.tables)) fine

  dropped_by : (b : Bool) (root : ℕ) (r : Ref) (t : Tables) → TablesSpellable t → TablesSpellable ((if b then lets_go g (holder.Root root) r else loses (holder.Root root) r) t)
  dropped_by true root r t fine = lets_go_spellable g (holder.Root root) r t fine
  dropped_by false root r t fine = loses_spellable (holder.Root root) r t fine

  pub root_drops_spellable : (root : ℕ) (oid face : List ℕ) (s : Side) → SideSpellable C s → SideSpellable C (root_drops g root oid face s)
  unfolding root_drops
  root_drops_spellable root oid face s fine =
      tabled_spellable C ((if stands s then lets_go g (holder.Root root) (ref_of g oid face) else loses (holder.Root root) (ref_of g oid face)) s.tables) s
      (dropped_by (stands s) root (ref_of g oid face) s.tables fine.tables) fine

  pub root_takes_spellable : (root : ℕ) (s : Side) → SideSpellable C s → SideSpellable C (root_takes root s)
  unfolding root_takes
  root_takes_spellable root s fine = tabled_spellable C (with_root root idle s.tables) s (with_root_spellable root idle s.tables tt fine.tables) fine
