-- Sending, receiving and letting go: what messages and values do to holdings and stubs (URP specification, releases).
use Rattle.std.specs.Prelude.{ℕ, Bool, false, not, ◌||◌, ◌==◌, List, [], ◌∷◌, ◌++◌, if◌then◌else◌}
use Rattle.std.specs.List.{flat_map}
use Rattle.message_model.specs.MessageNamings.{message_namings}
use Rattle.message_model.specs.Messages.{Answer, returned, raised, Message, release}
use Rattle.uno_model.specs.Values.{Ref, null, own, peer, Plain, Plains, any, tuple, list, ref, none, more, refs}
use Rattle.urp_model.specs.Namings.{Naming}
use Rattle.table_model.specs.Holdings.{hold, holders, holds, held, let_go}
use Rattle.table_model.specs.Pair.{pair}
use Rattle.table_model.specs.Stubs.{Stubs, sent_one}
use Rattle.table_model.specs.declared.holder.Holder.{Holder}
use Rattle.bridge_model.specs.Settings.{Setting, is_own, at_home, release_tid}
use Rattle.bridge_model.specs.Sides.{Tables}

-- ---- sending

-- a stub counts one more for each own object that is named, under the interface that is written; an object of the peer's counts nothing
abbrev pub counts_one : Naming → Stubs → Stubs
counts_one n stubs = if n.is_own then sent_one (pair n.oid n.written) stubs else stubs

unfoldable pub counts_sent : List Naming → Stubs → Stubs
counts_sent [] stubs = stubs
counts_sent (n ∷ ns) stubs = counts_sent ns (counts_one n stubs)

-- a message is said
unfoldable pub says : Setting → Message → Tables → Tables
says g m t = record t { stubs = counts_sent (message_namings g.registry m) t.stubs; unsaid = t.unsaid ++ m ∷ [] }

-- that a pair of the peer's is held no more
abbrev pub releases : Setting → (oid face : List ℕ) → Tables → Tables
releases g oid face t = says g (release (release_tid g) oid face) t

-- ---- holding

-- one occurrence more of what is here already
abbrev pub gains : Holder → Ref → Tables → Tables
gains h null t = t
gains h (own oid face) t = record t { holdings = held (hold h (pair oid face)) t.holdings }
gains h (peer oid face) t = record t { holdings = held (hold h (pair oid face)) t.holdings }

unfoldable pub gains_all : Holder → List Ref → Tables → Tables
gains_all h [] t = t
gains_all h (r ∷ rs) t = gains_all h rs (gains h r t)

-- ---- receiving

-- whether anybody holds a pair
abbrev pub is_held : (oid face : List ℕ) → Tables → Bool
is_held oid face t = not (holders (pair oid face) t.holdings == 0)

-- what arrives: a pair of the peer's that is held already is released once, since the peer counted it once more
abbrev pub takes : Setting → Holder → Ref → Tables → Tables
takes g h null t = t
takes g h (own oid face) t = gains h (own oid face) t
takes g h (peer oid face) t = gains h (peer oid face) (if is_held oid face t then releases g oid face t else t)

unfoldable pub takes_all : Setting → Holder → List Ref → Tables → Tables
takes_all g h [] t = t
takes_all g h (r ∷ rs) t = takes_all g h rs (takes g h r t)

-- ---- letting go

-- one occurrence less, and no message
abbrev pub loses : Holder → Ref → Tables → Tables
loses h null t = t
loses h (own oid face) t = record t { holdings = let_go (hold h (pair oid face)) t.holdings }
loses h (peer oid face) t = record t { holdings = let_go (hold h (pair oid face)) t.holdings }

unfoldable pub loses_all : Holder → List Ref → Tables → Tables
loses_all h [] t = t
loses_all h (r ∷ rs) t = loses_all h rs (loses h r t)

-- an object of this end stays, and so does a pair that somebody holds
abbrev pub stays : Setting → (oid face : List ℕ) → Tables → Bool
stays g oid face t = is_own g oid || is_held oid face t

-- a pair of the peer's that does not stay is released
abbrev pub gives_back : Setting → Ref → Tables → Tables
gives_back g (peer oid face) t = if stays g oid face t then t else releases g oid face t
gives_back g r t = t

abbrev pub holds_ref : Holder → Ref → Tables → Bool
holds_ref h null t = false
holds_ref h (own oid face) t = holds (hold h (pair oid face)) t.holdings
holds_ref h (peer oid face) t = holds (hold h (pair oid face)) t.holdings

-- who holds an occurrence lets it go; who holds none lets nothing go
abbrev pub lets_go : Setting → Holder → Ref → Tables → Tables
lets_go g h r t = if holds_ref h r t then gives_back g r (loses h r t) else t

unfoldable pub lets_go_all : Setting → Holder → List Ref → Tables → Tables
lets_go_all g h [] t = t
lets_go_all g h (r ∷ rs) t = lets_go_all g h rs (lets_go g h r t)

-- ---- values

-- the references of values, and of an answer in the order of its bytes
unfoldable pub refs_of_values : List Plain → List Ref
refs_of_values xs = flat_map refs xs

unfoldable pub refs_of_answer : Answer → List Ref
refs_of_answer (returned x outs) = refs x ++ refs_of_values outs
refs_of_answer (raised k x) = refs x

-- a value that came as it is here
unfoldable mutual
  pub home_value : Setting → Plain → Plain
  home_value g (any k x) = any k (home_value g x)
  home_value g (tuple name xs) = tuple name (home_values g xs)
  home_value g (list k xs) = list k (home_values g xs)
  home_value g (ref r) = ref (at_home g r)
  home_value g x = x

  pub home_values : Setting → Plains → Plains
  home_values g none = none
  home_values g (more x xs) = more (home_value g x) (home_values g xs)

unfoldable pub each_home : Setting → List Plain → List Plain
each_home g [] = []
each_home g (x ∷ xs) = home_value g x ∷ each_home g xs

unfoldable pub home_answer : Setting → Answer → Answer
home_answer g (returned x outs) = returned (home_value g x) (each_home g outs)
home_answer g (raised k x) = raised k (home_value g x)
