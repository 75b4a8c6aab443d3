-- Holdings: who holds which pair, in rising order, one item for each occurrence.
use Rattle.std.specs.Prelude.{ℕ, Bool, true, false, not, ◌&&◌, List, nat_lt}
use Rattle.std.specs.declared.cmp.Ordering.{Ordering}
use Rattle.std.specs.List.{filter, list_all}
use Rattle.std.specs.Ordering.{nat_cmp, then_cmp, on}
use Rattle.std.specs.Str.{bytes_eq}
use Rattle.table_model.specs.Bags.{how_many, how_often, one_more, one_less}
use Rattle.table_model.specs.Pair.{Pair, pair_cmp, is_pair}
use Rattle.table_model.specs.declared.holder.Holder.{Holder}
use Rattle.table_model.specs.declared.holder.Holder.TheVariants.{Frame, Object, Root}

-- one occurrence of a pair with a holder
pub record Hold : Type 0 where
  pub holder : Holder
  pub pair : Pair

-- an occurrence of a pair with a holder
abbrev pub hold : Holder → Pair → Hold
hold holder p = record { holder = holder; pair = p }

-- frames are below objects, and these below threads
abbrev pub holder_kind : Holder → ℕ
holder_kind (Frame n) = 0
holder_kind (Object n) = 1
holder_kind (Root n) = 2

-- the number of a holder among those of its kind
abbrev pub holder_number : Holder → ℕ
holder_number (Frame n) = n
holder_number (Object n) = n
holder_number (Root n) = n

-- holders rise by kind, and then by number
abbrev pub holder_cmp : Holder → Holder → Ordering
holder_cmp = then_cmp (on holder_kind nat_cmp) (on holder_number nat_cmp)

-- occurrences rise by holder, and then by pair
abbrev pub hold_cmp : Hold → Hold → Ordering
hold_cmp = then_cmp (on (λ h. h.holder) holder_cmp) (on (λ h. h.pair) pair_cmp)

-- all occurrences
abbrev pub Holdings : Type 0
Holdings = List Hold

-- how many occurrences a pair has
abbrev pub holders : Pair → Holdings → ℕ
holders p holdings = how_many (λ h. is_pair p h.pair) holdings

-- whether a holder has an occurrence of a pair
abbrev pub holds : Hold → Holdings → Bool
holds h holdings = nat_lt 0 (how_often hold_cmp h holdings)

-- the holdings with one occurrence more
abbrev pub held : Hold → Holdings → Holdings
held h holdings = one_more hold_cmp h holdings

-- the holdings with one occurrence less
abbrev pub let_go : Hold → Holdings → Holdings
let_go h holdings = one_less hold_cmp h holdings

-- ---- what frames hold, and what others do

abbrev pub is_frame : Holder → Bool
is_frame (Frame n) = true
is_frame (Object n) = false
is_frame (Root n) = false

abbrev pub is_of_frame : Hold → Bool
is_of_frame h = is_frame h.holder

-- what frames hold goes at the end of a bridge, and all else stays
abbrev pub outlasts : Hold → Bool
outlasts h = not (is_of_frame h)

-- all of these are of frames
abbrev pub are_frames : Holdings → Bool
are_frames holdings = list_all is_of_frame holdings

-- none of these is
abbrev pub are_others : Holdings → Bool
are_others holdings = list_all outlasts holdings

-- the holdings without those of an OID
abbrev pub without_holds : List ℕ → Holdings → Holdings
without_holds oid holdings = filter (λ h. not (bytes_eq oid h.pair.oid)) holdings

-- the holdings without what frames hold of an OID
abbrev pub frames_without : List ℕ → Holdings → Holdings
frames_without oid holdings = filter (λ h. not (is_of_frame h && bytes_eq oid h.pair.oid)) holdings
