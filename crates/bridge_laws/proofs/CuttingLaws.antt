-- How bytes are cut into pieces does not matter: what is told is the same.
use Rattle.std.proofs.Common.{◌≡◌, refl, sym, ap, subst, ◌∙◌, ℕ, Bool, true, false, not, ◌&&◌, ◌||◌, List, [], ◌∷◌, ◌++◌, length, drop, map, Option, None, Some, arith, if◌then◌else◌}
use Rattle.std.proofs.lemmas.Bool.{and_parts, not-true, true≢false, false≢true}
use Rattle.std.proofs.lemmas.List.{append_assoc, append-nil, drop_all}
use Rattle.std.specs.List.{flat_map, AllByRecursion}
use Rattle.message_model.specs.Messages.{Message}
use Rattle.urp_model.specs.declared.reason.Reason.{Reason}
use Rattle.bridge_model.specs.Ends.{ends_by}
use Rattle.bridge_model.specs.Entries.{Entry, fed}
use Rattle.bridge_model.specs.Feeding.{header_fault, block_stands, is_some_reason, ends_part, heard_nothing, holds_bytes, feeds_whole, feeds_part, feeds}
use Rattle.bridge_model.specs.Histories.{Told, nothing_told, told_more, tells, tells_all, replay, Leads}
use Rattle.bridge_model.specs.Settings.{Setting}
use Rattle.bridge_model.specs.Sides.{Side, stands}
use Rattle.bridge_model.specs.Steps.{has_entries, but_last, is_some_bytes, may_feed, may, does, turn, step}
use Rattle.bridge_laws.specs.Cutting.{IsCut, ends, same, cut, HaveSameBytes, both_end, same_entry, first_shorter, second_shorter}
use Rattle.bridge_laws.proofs.PieceLaws.{MayFeed, fed_is, may_fed, first_may, second_may, no_end_before}

-- ---- what feeding does

-- bytes that end nothing are held
held_if : (g : Setting) (bytes : List ℕ) (why : Option Reason) (s : Side) → (is_some_reason why || block_stands bytes) ≡ false
    → feeds_part g bytes why s ≡ heard_nothing (holds_bytes bytes s)
held_if g bytes (Some why) s is = absurd (true≢false is)
held_if g bytes None s is = rw (is) refl

feeds_held : (g : Setting) (a : List ℕ) (s : Side) → ends_part (s.incoming.held ++ a) ≡ false → feeds g a s ≡ heard_nothing (holds_bytes (s.incoming.held ++ a) s)
unfolding feeds ends_part
feeds_held g a s is = held_if g (s.incoming.held ++ a) (header_fault (s.incoming.held ++ a)) s is

-- what bytes do with the ones that are held does not depend on which are held
whole_same : (g : Setting) (bytes held : List ℕ) (b : Bool) (s : Side)
    → (if b then feeds_whole g bytes (holds_bytes held s) else heard_nothing (holds_bytes bytes (holds_bytes held s)))
    ≡ (if b then feeds_whole g bytes s else heard_nothing (holds_bytes bytes s))
whole_same g bytes held true s = refl
whole_same g bytes held false s = refl

part_same : (g : Setting) (bytes held : List ℕ) (why : Option Reason) (s : Side) → feeds_part g bytes why (holds_bytes held s) ≡ feeds_part g bytes why s
unfolding ends_by
part_same g bytes held (Some why) s = refl
part_same g bytes held None s = whole_same g bytes held (block_stands bytes) s

feeds_second : (g : Setting) (a b : List ℕ) (s : Side) → feeds g b (holds_bytes (s.incoming.held ++ a) s) ≡ feeds g (a ++ b) s
unfolding feeds
feeds_second g a b s =
    let held = s.incoming.held in
    part_same g ((held ++ a) ++ b) (held ++ a) (header_fault ((held ++ a) ++ b)) s ∙ ap (λ z. feeds_part g z (header_fault z) s) (append_assoc held a b)

-- ---- a piece in two

-- what a piece in two is tested for and does
pub record IsInTwo (g : Setting) (s : Side) (a b : List ℕ) : Type 0 where
  pub first : may g s (fed a) ≡ true
  pub held : does g (fed a) s ≡ heard_nothing (holds_bytes (s.incoming.held ++ a) s)
  pub second : may g (holds_bytes (s.incoming.held ++ a) s) (fed b) ≡ true
  pub whole : does g (fed b) (holds_bytes (s.incoming.held ++ a) s) ≡ does g (fed (a ++ b)) s

may_feed_is : (g : Setting) (s : Side) (b : List ℕ) → may g s (fed b) ≡ true → (stands s ≡ true) × (has_entries s ≡ false) × MayFeed b s.incoming.place s.incoming.held
unfolding may
may_feed_is g s b is =
    let parts = and_parts (stands s) (not (has_entries s) && may_feed b s.incoming) is in
    let more = and_parts (not (has_entries s)) (may_feed b s.incoming) parts.1 in
    (parts.0, not-true (has_entries s) more.0, fed_is b s.incoming more.1)

may_feed_by : (g : Setting) (s : Side) (b : List ℕ) → stands s ≡ true → has_entries s ≡ false → MayFeed b s.incoming.place s.incoming.held → may g s (fed b) ≡ true
unfolding may
may_feed_by g s b standing few fits = rw (standing, few, may_fed b s.incoming fits) refl

pub in_two : (g : Setting) (s : Side) (a b : List ℕ) → is_some_bytes a ≡ true → is_some_bytes b ≡ true → may g s (fed (a ++ b)) ≡ true → IsInTwo g s a b
unfolding does
in_two g s a b some_a some_b is =
    let held = s.incoming.held in
    let parts = may_feed_is g s (a ++ b) is in
    let later = second_may a b s.incoming.place held some_b parts.2 in
    record {
      first = may_feed_by g s a parts.0 parts.1 (first_may a b s.incoming.place held some_a some_b parts.2);
      held = feeds_held g a s (no_end_before (held ++ a) (but_last b) later.unended);
      second = may_feed_by g (holds_bytes (held ++ a) s) b parts.0 parts.1 later;
      whole = feeds_second g a b s;
    }

-- the same with what the first part does
pub then_may : (g : Setting) (s : Side) (a b : List ℕ) → IsInTwo g s a b → may g (does g (fed a) s).side (fed b) ≡ true
then_may g s a b two = subst (λ x. may g x.side (fed b) ≡ true) (sym two.held) two.second

pub then_does : (g : Setting) (s : Side) (a b : List ℕ) → IsInTwo g s a b → does g (fed b) (does g (fed a) s).side ≡ does g (fed (a ++ b)) s
then_does g s a b two = ap (λ x. does g (fed b) x.side) two.held ∙ two.whole

-- ---- histories

tells_where : (g : Setting) (x : Told) (e : Entry) → may g x.side e ≡ true → tells g x e ≡ Some (told_more x e (turn e x.side (does g e x.side)))
unfolding step
tells_where g x e is = rw (is) refl

tells_nowhere : (g : Setting) (x : Told) (e : Entry) → may g x.side e ≡ false → tells g x e ≡ None
unfolding step
tells_nowhere g x e is = rw (is) refl

-- one after the other
told_two : (side : Side) (got new said unsaid more : List Message) (came a b out : List ℕ)
    → ◌≡◌ {A = Told} (record { side = side; got = (got ++ []) ++ new; said = (said ++ drop (length unsaid) unsaid) ++ more; bytes_in = (came ++ a) ++ b; bytes_out = (out ++ []) ++ [] }) (record { side = side; got = got ++ new; said = said ++ more; bytes_in = came ++ (a ++ b); bytes_out = out ++ [] })
told_two side got new said unsaid more came a b out =
    let no_news = drop_all (length unsaid) unsaid (omega arith) in
    rw (no_news, append-nil got, append-nil said, append_assoc came a b, append-nil (out ++ [])) refl

-- what is told behind the first part
abbrev behind_first : Told → List ℕ → Told
behind_first x a = told_more x (fed a) (turn (fed a) x.side (heard_nothing (holds_bytes (x.side.incoming.held ++ a) x.side)))

tells_first : (g : Setting) (x : Told) (a b : List ℕ) → IsInTwo g x.side a b → tells g x (fed a) ≡ Some (behind_first x a)
tells_first g x a b two = tells_where g x (fed a) two.first ∙ ap (λ h. Some (told_more x (fed a) (turn (fed a) x.side h))) two.held

tells_second : (g : Setting) (x : Told) (a b : List ℕ) → IsInTwo g x.side a b → may g x.side (fed (a ++ b)) ≡ true → tells g (behind_first x a) (fed b) ≡ tells g x (fed (a ++ b))
tells_second g x a b two is =
    let h = does g (fed (a ++ b)) x.side in
    tells_where g (behind_first x a) (fed b) two.second
    ∙ (ap (λ k. Some (told_more (behind_first x a) (fed b) (turn (fed b) (behind_first x a).side k))) two.whole
    ∙ (ap
    Some
    (told_two h.side x.got h.got x.said x.side.tables.unsaid (drop (length x.side.tables.unsaid) h.side.tables.unsaid) x.bytes_in a b x.bytes_out)
    ∙ sym (tells_where g x (fed (a ++ b)) is)))

told_cut : (g : Setting) (x : Told) (a b : List ℕ) (es fs : List Entry) (y : Told) → is_some_bytes a ≡ true → is_some_bytes b ≡ true
    → ((o : Option Told) → tells_all g o (fed b ∷ es) ≡ Some y → tells_all g o fs ≡ Some y) → (m : Bool) → may g x.side (fed (a ++ b)) ≡ m
    → tells_all g (tells g x (fed (a ++ b))) es ≡ Some y → tells_all g (tells g x (fed a)) fs ≡ Some y
unfolding tells_all
told_cut g x a b es fs y some_a some_b later false is leads = absurd (none_told (sym (ap (λ o. tells_all g o es) (tells_nowhere g x (fed (a ++ b)) is)) ∙ leads))
  where
    none_told : ◌≡◌ {A = Option Told} None (Some y) → ⊥
    none_told e = cc
told_cut g x a b es fs y some_a some_b later true is leads =
    let two = in_two g x.side a b some_a some_b is in
    ap (λ o. tells_all g o fs) (tells_first g x a b two) ∙ later (Some (behind_first x a)) (ap (λ o. tells_all g o es) (tells_second g x a b two is) ∙ leads)

cut_told : (g : Setting) (es fs : List Entry) → IsCut es fs → (o : Option Told) (y : Told) → tells_all g o es ≡ Some y → tells_all g o fs ≡ Some y
unfolding tells_all
cut_told g es fs c None y leads = absurd (cc)
cut_told g [] [] ends (Some x) y leads = leads
cut_told g es' fs' (same e es fs c) (Some x) y leads = cut_told g es fs c (tells g x e) y leads
cut_told g es' fs' (cut a b es fs some_a some_b c) (Some x) y leads =
    told_cut g x a b es fs y some_a some_b (λ o. cut_told g (fed b ∷ es) fs c o y) (may g x.side (fed (a ++ b))) refl leads

-- a journal whose pieces are cut tells the same
pub cut_leads : (g : Setting) (es fs : List Entry) (x : Told) → IsCut es fs → Leads g es x → Leads g fs x
unfolding replay
cut_leads g es fs x c leads = cut_told g es fs c (Some (nothing_told g)) x leads

-- ---- two journals

some_same : (x y z : Told) → ◌≡◌ {A = Option Told} (Some z) (Some x) → ◌≡◌ {A = Option Told} (Some z) (Some y) → x ≡ y
some_same x y z p q = cc

-- what is told by a piece is told by its parts
parts_told : (g : Setting) (x : Told) (a b : List ℕ) (es : List Entry) (y : Told) → is_some_bytes a ≡ true → is_some_bytes b ≡ true
    → tells_all g (tells g x (fed (a ++ b))) es ≡ Some y → tells_all g (tells g x (fed a)) (fed b ∷ es) ≡ Some y
parts_told g x a b es y some_a some_b leads = told_cut g x a b es (fed b ∷ es) y some_a some_b (λ o is. is) (may g x.side (fed (a ++ b))) refl leads

same_told : (g : Setting) (es fs : List Entry) → HaveSameBytes es fs → (o : Option Told) (x y : Told) → tells_all g o es ≡ Some x → tells_all g o fs ≡ Some y → x ≡ y
unfolding tells_all
same_told g es fs c None x y first second = absurd (cc)
same_told g [] [] both_end (Some z) x y first second = some_same x y z first second
same_told g es' fs' (same_entry e es fs c) (Some z) x y first second = same_told g es fs c (tells g z e) x y first second
same_told g es' fs' (first_shorter a b es fs some_a some_b c) (Some z) x y first second =
    same_told g es (fed b ∷ fs) c (tells g z (fed a)) x y first (parts_told g z a b fs y some_a some_b second)
same_told g es' fs' (second_shorter a b es fs some_a some_b c) (Some z) x y first second =
    same_told g (fed b ∷ es) fs c (tells g z (fed a)) x y (parts_told g z a b es x some_a some_b first) second

-- journals with the same entries and the same bytes tell the same
pub same_leads : (g : Setting) (es fs : List Entry) (x y : Told) → HaveSameBytes es fs → Leads g es x → Leads g fs y → x ≡ y
unfolding replay
same_leads g es fs x y c first second = same_told g es fs c (Some (nothing_told g)) x y first second

-- ---- pieces

no_cut : (es : List Entry) → IsCut es es
no_cut [] = ends
no_cut (e ∷ es) = same e es es (no_cut es)

behind_same : (front es fs : List Entry) → IsCut es fs → IsCut (front ++ es) (front ++ fs)
behind_same [] es fs c = c
behind_same (e ∷ front) es fs c = same e (front ++ es) (front ++ fs) (behind_same front es fs c)

some_append : (a b : List ℕ) → is_some_bytes a ≡ true → is_some_bytes (a ++ b) ≡ true
some_append [] b some = absurd (false≢true some)
some_append (c ∷ cs) b some = refl

-- no piece is empty
abbrev AreSome : List (List ℕ) → Type 0
AreSome pieces = AllByRecursion (λ p. is_some_bytes p ≡ true) pieces

pieces_cut : (p : List ℕ) (ps : List (List ℕ)) (es : List Entry) → AreSome (p ∷ ps) → IsCut (fed (flat_map (λ q. q) (p ∷ ps)) ∷ es) (map fed (p ∷ ps) ++ es)
pieces_cut p [] es some = subst (λ z. IsCut (fed z ∷ es) (fed p ∷ es)) (sym (append-nil p)) (same (fed p) es es (no_cut es))
pieces_cut p (q ∷ qs) es some =
    cut p (flat_map (λ z. z) (q ∷ qs)) es (map fed (q ∷ qs) ++ es) some.0 (some_append q (flat_map (λ z. z) qs) some.1.0) (pieces_cut q qs es some.1)

-- a list of pieces is the same as the whole
pub pieces_lead : (g : Setting) (front back : List Entry) (p : List ℕ) (ps : List (List ℕ)) (x : Told) → AllByRecursion (λ q. is_some_bytes q ≡ true) (p ∷ ps)
    → Leads g (front ++ fed (flat_map (λ q. q) (p ∷ ps)) ∷ back) x → Leads g (front ++ (map fed (p ∷ ps) ++ back)) x
pieces_lead g front back p ps x some leads =
    cut_leads
    g
    (front ++ fed (flat_map (λ q. q) (p ∷ ps)) ∷ back)
    (front ++ (map fed (p ∷ ps) ++ back))
    x
    (behind_same front (fed (flat_map (λ q. q) (p ∷ ps)) ∷ back) (map fed (p ∷ ps) ++ back) (pieces_cut p ps back some))
    leads

-- ---- one step

pub first_part_may : (g : Setting) (s : Side) (a b : List ℕ) → is_some_bytes a ≡ true → is_some_bytes b ≡ true → may g s (fed (a ++ b)) ≡ true → may g s (fed a) ≡ true
first_part_may g s a b some_a some_b is = (in_two g s a b some_a some_b is).first

pub second_part_may : (g : Setting) (s : Side) (a b : List ℕ) → is_some_bytes a ≡ true → is_some_bytes b ≡ true → may g s (fed (a ++ b)) ≡ true
    → may g (does g (fed a) s).side (fed b) ≡ true
second_part_may g s a b some_a some_b is = then_may g s a b (in_two g s a b some_a some_b is)

pub parts_do : (g : Setting) (s : Side) (a b : List ℕ) → is_some_bytes a ≡ true → is_some_bytes b ≡ true → may g s (fed (a ++ b)) ≡ true
    → does g (fed b) (does g (fed a) s).side ≡ does g (fed (a ++ b)) s
parts_do g s a b some_a some_b is = then_does g s a b (in_two g s a b some_a some_b is)
