-- How passes are made, counted and taken in.
use Rattle.std.proofs.Common.{◌≡◌, ℕ, zero, suc, ◌+◌, ◌-◌, ◌%◌, ◌^◌, ◌<◌, ◌≤◌, List, [], ◌∷◌, ◌++◌, length, set, slice_index, slice_set, Option, Some, sym, refl, ap, ◌∙◌, subst, ⊎_elim, inl, length-append, arith}
use mathlib.Core.Option.{some, some-injective, some-ne-none}
use lib.ListN.{get_elem?}
use Rattle.atomic_table.specs.Table.{State, Me, keeps, Allows, Splits, Joins, opening}
use Rattle.atomic_table.proofs.Lists.{at_snoc, set_else}
use Rattle.turn_book.specs.declared.view.View.{View}
use Rattle.turn_book.specs.declared.view.Stage.{Stage}
use Rattle.turn_book.specs.declared.view.Stage.TheVariants.{Idle, Numbered, Counted, Joined}
use Rattle.turn_book.specs.History.{longer, made_by, same, below, times, numbers_of}
use Rattle.turn_book.specs.Views.{view}
use Rattle.turn_book.specs.Steps.{numbered, counted_up, counted_down, asked, kept_view, new_view, joined, spent}
use Rattle.turn_book.specs.Ruled.{total, counts, weight, room_of, share, has_number, has_ticket, waits, turns, Fits, Lies, opened, Ruled}
use Rattle.turn_book.proofs.Totals.{total_set, total_same, total_end, total_at, total_le, total_twice, none_else}
use Rattle.turn_book.proofs.Counts.{below_self, below_next, small_mod, less_mod, all_more, times_both}
use Rattle.turn_book.proofs.Makers.{fill, length_fill, all_fill, starts_same, starts_chosen, owns_both, made_fill, made_none}
use Rattle.turn_book.proofs.Marks.{counts_some, weight_le, no_weight, no_share, spent_fits, fits_set}
use Rattle.turn_book.proofs.Keeping.{weighs_same, still}

module _ {B I F : Type 0} (items : B → List I) (fixed : B → F) (key : F) where
  abbrev R : State (Option B) (View I F) → Type 0
  R = Ruled items fixed key

  pub numbers : (slots id : ℕ) (f : Option F) (sn : List I) (ow : List (ℕ × List I)) (rm : ℕ) (c : List (ℕ × Option B)) → 0 < length ow → 0 < rm
      → Allows R slots id (view f sn ow rm Idle, c) 4 (λ n. (n + 1) % 2 ^ 64) (numbered (view f sn ow rm Idle, c))
  numbers slots id f sn ow rm c some_own some_room s r _ at _ =
      let k : ℕ = slice_index s.words 4 in
      let v : View I F = view f sn ow rm Idle in
      let w : View I F = view f sn ow (rm - 1) (Numbered k) in
      let vs : List (View I F) = set s.views id w in
      let g = r.fits id v at in
      let is : k ≡ r.made = ap (λ (l : List ℕ). slice_index l 4) r.words in
      let less : rm ≤ total room_of s.views = total_at room_of s.views id v at in
      let rooms : total room_of s.views + r.made ≡ 65537 = r.rooms in
      let fits_word : r.made + 1 < 2 ^ 64 = omega arith in
      let ws : slice_set s.words 4 ((slice_index s.words 4 + 1) % 2 ^ 64) ≡ r.out ∷ r.drawn % 2 ^ 64 ∷ r.served % 2 ^ 64 ∷ length r.log ∷ (r.made + 1) ∷ [] =
      ap (λ (l : List ℕ). slice_set l 4 ((slice_index l 4 + 1) % 2 ^ 64)) r.words ∙ ap (λ (n : ℕ). r.out ∷ r.drawn % 2 ^ 64 ∷ r.served % 2 ^ 64 ∷ length r.log ∷ n ∷ []) (small_mod (r.made + 1) fits_word) in
      let one_less : total room_of vs + rm ≡ total room_of s.views + (rm - 1) = total_set room_of s.views id v w at in
      let rooms_after : total room_of vs + (r.made + 1) ≡ 65537 = omega arith in
      let same_share : (rm - 1) + (length ow + 1) ≡ rm + (length ow + 0) = omega arith in
      let number : (n : ℕ) → total (has_number n) vs ≡ below n (r.made + 1) = λ n.
      (let a : total (has_number n) vs + (times n (numbers_of ow) + 0) ≡ total (has_number n) s.views + (times n (numbers_of ow) + same n k) = total_set (has_number n) s.views id v w at in
      let b : total (has_number n) s.views ≡ below n r.made = r.numbers n in
      let d : below n (r.made + 1) ≡ below n r.made + same n r.made = below_next n r.made in
      let e : same n k ≡ same n r.made = ap (same n) is in
      omega arith) in
      let queue : total waits vs + r.served ≡ r.drawn = ap (λ (n : ℕ). n + r.served) (total_same waits s.views id v w at refl) ∙ r.queue in
      let unused : made_by k r.makers r.log ≡ [] = ap (λ (n : ℕ). made_by n r.makers r.log) is ∙ made_none r.made r.makers r.log r.of_all in
      let mine : Fits key r.log r.makers r.served w = record { seen = g.seen; made = g.made; fixed = g.fixed; spent = λ z. (let bad : ⊥ = omega arith in absurd bad); stage = unused } in
      let kept : times k (numbers_of ow) + 0 ≤ total (has_number k) s.views = total_at (has_number k) s.views id v at in
      let not_yet : total (has_number k) s.views ≡ 0 = r.numbers k ∙ (ap (λ (n : ℕ). below n r.made) is ∙ below_self r.made) in
      let new : times k (numbers_of ow) ≡ 0 = omega arith in (
        w,
        keeps,
        tt,
        record {
          out = r.out;
          drawn = r.drawn;
          served = r.served;
          made = r.made + 1;
          log = r.log;
          makers = r.makers;
          words = ws;
          passes = total_same weight s.views id v w at (weighs_same ow (Numbered k) Idle refl) ∙ r.passes;
          rooms = rooms_after;
          shares = total_same share s.views id v w at same_share ∙ r.shares;
          numbers = number;
          queue = queue;
          tickets = λ u. ap (λ (n : ℕ). n + below u r.served) (total_same (has_ticket u) s.views id v w at refl) ∙ r.tickets u;
          book = subst (λ (n : ℕ). Lies items fixed key r.log n s.homes) (sym (total_same turns s.views id v w at refl)) r.book;
          one_each = r.one_each;
          of_all = all_more r.made (r.made + 1) r.makers (omega arith) r.of_all;
          fits = fits_set key r.log r.makers r.served s.views id w (λ j u _ there. r.fits j u there) mine;
        },
        (refl, new),
      )

  -- few passes are counted
  few : (s : State (Option B) (View I F)) (r : R s) → r.out ≤ 131074
  few s r =
      let a : total weight s.views ≤ total (λ v. share v + share v) s.views = total_le weight (λ v. share v + share v) s.views (λ j u _. weight_le u) in
      let b : total (λ v. share v + share v) s.views ≡ total share s.views + total share s.views = total_twice share s.views in
      let c : total share s.views ≡ 65537 = r.shares in
      let d : total weight s.views ≡ r.out = r.passes in
      omega arith

  -- only the weight of one view changes
  counted : (s : State (Option B) (View I F)) (r : R s) (id : ℕ) (f : Option F) (sn : List I) (ow : List (ℕ × List I)) (rm : ℕ) (a b : Stage) (out : ℕ) (words : List ℕ) → get_elem? s.views id ≡ some (view f sn ow rm a)
      → words ≡ out ∷ r.drawn % 2 ^ 64 ∷ r.served % 2 ^ 64 ∷ length r.log ∷ r.made ∷ [] → total weight (set s.views id (view f sn ow rm b)) ≡ out
      → share (view f sn ow rm b) ≡ share (view f sn ow rm a) → ((n : ℕ) → has_number n (view f sn ow rm b) ≡ has_number n (view f sn ow rm a)) → waits (view f sn ow rm b) ≡ waits (view f sn ow rm a)
      → ((t : ℕ) → has_ticket t (view f sn ow rm b) ≡ has_ticket t (view f sn ow rm a)) → turns (view f sn ow rm b) ≡ turns (view f sn ow rm a)
      → Fits key r.log r.makers r.served (view f sn ow rm b) → R record { words = words; homes = s.homes; views = set s.views id (view f sn ow rm b) }
  counted s r id f sn ow rm a b out words at ws passes shared kept waited held in_turn mine =
      let v : View I F = view f sn ow rm a in
      let w : View I F = view f sn ow rm b in
      record {
        out = out;
        drawn = r.drawn;
        served = r.served;
        made = r.made;
        log = r.log;
        makers = r.makers;
        words = ws;
        passes = passes;
        rooms = ap (λ (n : ℕ). n + r.made) (total_same room_of s.views id v w at refl) ∙ r.rooms;
        shares = total_same share s.views id v w at shared ∙ r.shares;
        numbers = λ n. total_same (has_number n) s.views id v w at (kept n) ∙ r.numbers n;
        queue = ap (λ (n : ℕ). n + r.served) (total_same waits s.views id v w at waited) ∙ r.queue;
        tickets = λ u. ap (λ (n : ℕ). n + below u r.served) (total_same (has_ticket u) s.views id v w at (held u)) ∙ r.tickets u;
        book = subst (λ (n : ℕ). Lies items fixed key r.log n s.homes) (sym (total_same turns s.views id v w at in_turn)) r.book;
        one_each = r.one_each;
        of_all = r.of_all;
        fits = fits_set key r.log r.makers r.served s.views id w (λ j u _ there. r.fits j u there) mine;
      }

  pub counts_up : (slots id : ℕ) (f : Option F) (sn : List I) (ow : List (ℕ × List I)) (rm k : ℕ) (c : List (ℕ × Option B)) → 0 < length ow
      → Allows R slots id (view f sn ow rm (Numbered k), c) 0 (λ n. (n + 1) % 2 ^ 64) (λ _ n. counted_up (view f sn ow rm (Numbered k), c) n)
  counts_up slots id f sn ow rm k c some_own s r _ at _ =
      let v : View I F = view f sn ow rm (Numbered k) in
      let w : View I F = view f sn ow rm (Counted k) in
      let g = r.fits id v at in
      let le : r.out ≤ 131074 = few s r in
      let fits_word : r.out + 1 < 2 ^ 64 = omega arith in
      let ws : slice_set s.words 0 ((slice_index s.words 0 + 1) % 2 ^ 64) ≡ (r.out + 1) ∷ r.drawn % 2 ^ 64 ∷ r.served % 2 ^ 64 ∷ length r.log ∷ r.made ∷ [] =
      ap (λ (l : List ℕ). slice_set l 0 ((slice_index l 0 + 1) % 2 ^ 64)) r.words ∙ ap (λ (n : ℕ). n ∷ r.drawn % 2 ^ 64 ∷ r.served % 2 ^ 64 ∷ length r.log ∷ r.made ∷ []) (small_mod (r.out + 1) fits_word) in
      let a : total weight (set s.views id w) + counts ow (Numbered k) ≡ total weight s.views + counts ow (Counted k) = total_set weight s.views id v w at in
      let b : counts ow (Numbered k) ≡ 1 = counts_some ow (Numbered k) some_own in
      let d : counts ow (Counted k) ≡ 2 = counts_some ow (Counted k) some_own in
      let e : total weight s.views ≡ r.out = r.passes in
      let passes : total weight (set s.views id w) ≡ r.out + 1 = omega arith in
      let mine : Fits key r.log r.makers r.served w = record { seen = g.seen; made = g.made; fixed = g.fixed; spent = g.spent; stage = g.stage } in
      (w, keeps, tt, counted s r id f sn ow rm (Numbered k) (Counted k) (r.out + 1) (slice_set s.words 0 ((slice_index s.words 0 + 1) % 2 ^ 64)) at ws passes refl (λ _. refl) refl (λ _. refl) refl mine, refl)

  pub counts_down : (slots id : ℕ) (f : Option F) (sn : List I) (ow : List (ℕ × List I)) (rm : ℕ) (c : List (ℕ × Option B)) → 0 < length ow
      → Allows R slots id (view f sn ow rm Joined, c) 0 (λ n. (n + (2 ^ 64 - 1)) % 2 ^ 64) (λ _ n. counted_down (view f sn ow rm Joined, c) n)
  counts_down slots id f sn ow rm c some_own s r _ at _ =
      let v : View I F = view f sn ow rm Joined in
      let w : View I F = view f sn ow rm Idle in
      let g = r.fits id v at in
      let le : r.out ≤ 131074 = few s r in
      let x : counts ow Joined ≤ total weight s.views = total_at weight s.views id v at in
      let a : total weight (set s.views id w) + counts ow Joined ≡ total weight s.views + counts ow Idle = total_set weight s.views id v w at in
      let b : counts ow Joined ≡ 2 = counts_some ow Joined some_own in
      let d : counts ow Idle ≡ 1 = counts_some ow Idle some_own in
      let e : total weight s.views ≡ r.out = r.passes in
      let out : ℕ = total weight (set s.views id w) in
      let next : r.out ≡ out + 1 = omega arith in
      let fits_word : r.out < 2 ^ 64 = omega arith in
      let ws : slice_set s.words 0 ((slice_index s.words 0 + (2 ^ 64 - 1)) % 2 ^ 64) ≡ out ∷ r.drawn % 2 ^ 64 ∷ r.served % 2 ^ 64 ∷ length r.log ∷ r.made ∷ [] =
      ap (λ (l : List ℕ). slice_set l 0 ((slice_index l 0 + (2 ^ 64 - 1)) % 2 ^ 64)) r.words ∙ ap (λ (n : ℕ). n ∷ r.drawn % 2 ^ 64 ∷ r.served % 2 ^ 64 ∷ length r.log ∷ r.made ∷ []) (less_mod r.out out next fits_word) in
      let mine : Fits key r.log r.makers r.served w = record { seen = g.seen; made = g.made; fixed = g.fixed; spent = g.spent; stage = tt } in
      (w, keeps, tt, counted s r id f sn ow rm Joined Idle out (slice_set s.words 0 ((slice_index s.words 0 + (2 ^ 64 - 1)) % 2 ^ 64)) at ws refl refl (λ _. refl) refl (λ _. refl) refl mine, refl)

  pub splits : (id : ℕ) (f : Option F) (sn : List I) (ow : List (ℕ × List I)) (rm k : ℕ) → 0 < length ow
      → Splits R id (view f sn ow rm (Counted k)) (kept_view (view f sn ow rm (Counted k))) (new_view (view f sn ow rm (Counted k)))
  splits id f sn ow rm k some_own s r at =
      let v : View I F = view f sn ow rm (Counted k) in
      let w : View I F = view f sn ow rm Idle in
      let u : View I F = view f sn ((k, []) ∷ []) 0 Idle in
      let vs : List (View I F) = set s.views id w in
      let us : List (View I F) = vs ++ u ∷ [] in
      let g = r.fits id v at in
      let has : f ≡ Some key = g.fixed some_own in
      let weights : total weight us ≡ r.out =
      (let a : total weight vs + counts ow (Counted k) ≡ total weight s.views + counts ow Idle = total_set weight s.views id v w at in
      let b : total weight us ≡ total weight vs + 1 = total_end weight vs u in
      let d : counts ow (Counted k) ≡ 2 = counts_some ow (Counted k) some_own in
      let e : counts ow Idle ≡ 1 = counts_some ow Idle some_own in
      let h : total weight s.views ≡ r.out = r.passes in
      omega arith) in
      let rooms : total room_of us + r.made ≡ 65537 =
      (let a : total room_of vs + rm ≡ total room_of s.views + rm = total_set room_of s.views id v w at in
      let b : total room_of us ≡ total room_of vs + 0 = total_end room_of vs u in
      let h : total room_of s.views + r.made ≡ 65537 = r.rooms in
      omega arith) in
      let shares : total share us ≡ 65537 =
      (let a : total share vs + (rm + (length ow + 1)) ≡ total share s.views + (rm + (length ow + 0)) = total_set share s.views id v w at in
      let b : total share us ≡ total share vs + 1 = total_end share vs u in
      let h : total share s.views ≡ 65537 = r.shares in
      omega arith) in
      let number : (n : ℕ) → total (has_number n) us ≡ below n r.made = λ n.
      (let a : total (has_number n) vs + (times n (numbers_of ow) + same n k) ≡ total (has_number n) s.views + (times n (numbers_of ow) + 0) = total_set (has_number n) s.views id v w at in
      let b : total (has_number n) us ≡ total (has_number n) vs + ((same n k + 0) + 0) = total_end (has_number n) vs u in
      let h : total (has_number n) s.views ≡ below n r.made = r.numbers n in
      omega arith) in
      let queue : total waits us + r.served ≡ r.drawn =
      (let a : total waits vs ≡ total waits s.views = total_same waits s.views id v w at refl in
      let b : total waits us ≡ total waits vs + 0 = total_end waits vs u in
      let h : total waits s.views + r.served ≡ r.drawn = r.queue in
      omega arith) in
      let ticket : (t : ℕ) → total (has_ticket t) us + below t r.served ≡ below t r.drawn = λ t.
      (let a : total (has_ticket t) vs ≡ total (has_ticket t) s.views = total_same (has_ticket t) s.views id v w at refl in
      let b : total (has_ticket t) us ≡ total (has_ticket t) vs + 0 = total_end (has_ticket t) vs u in
      let h : total (has_ticket t) s.views + below t r.served ≡ below t r.drawn = r.tickets t in
      omega arith) in
      let in_turn : total turns us ≡ total turns s.views =
      (let a : total turns vs ≡ total turns s.views = total_same turns s.views id v w at refl in
      let b : total turns us ≡ total turns vs + 0 = total_end turns vs u in
      omega arith) in
      let mine : Fits key r.log r.makers r.served w = record { seen = g.seen; made = g.made; fixed = g.fixed; spent = λ z. (let bad : ⊥ = omega arith in absurd bad); stage = tt } in
      let new : Fits key r.log r.makers r.served u = record { seen = g.seen; made = (sym g.stage, tt); fixed = λ _. has; spent = λ z. (let bad : ⊥ = omega arith in absurd bad); stage = tt } in
      record {
        out = r.out;
        drawn = r.drawn;
        served = r.served;
        made = r.made;
        log = r.log;
        makers = r.makers;
        words = r.words;
        passes = weights;
        rooms = rooms;
        shares = shares;
        numbers = number;
        queue = queue;
        tickets = ticket;
        book = subst (λ (n : ℕ). Lies items fixed key r.log n s.homes) (sym in_turn) r.book;
        one_each = r.one_each;
        of_all = r.of_all;
        fits = λ j x there. ⊎_elim
            (λ was. fits_set key r.log r.makers r.served s.views id w (λ i y _ here. r.fits i y here) mine j x was)
            (λ (e : u ≡ x). subst (λ (y : View I F). Fits key r.log r.makers r.served y) e new)
            (at_snoc vs u x j there);
      }

  pub joins : (id : ℕ) (f : Option F) (sn : List I) (ow : List (ℕ × List I)) (rm other : ℕ) (f' : Option F) (sn' : List I) (ow' : List (ℕ × List I)) (rm' : ℕ) → 0 < length ow → 0 < length ow'
      → Joins R id (view f sn ow rm Idle) other (view f' sn' ow' rm' Idle) (joined (view f sn ow rm Idle) (view f' sn' ow' rm' Idle)) spent
  joins id f sn ow rm other f' sn' ow' rm' some_own some_other s r at apart there =
      let v : View I F = view f sn ow rm Idle in
      let v' : View I F = view f' sn' ow' rm' Idle in
      let w : View I F = view f (longer sn sn') (ow ++ ow') (rm + rm') Joined in
      let vs : List (View I F) = set s.views id w in
      let us : List (View I F) = set vs other spent in
      let g = r.fits id v at in
      let g' = r.fits other v' (sym (set_else s.views id other w apart) ∙ there) in
      let long : length (ow ++ ow') ≡ length ow + length ow' = length-append ow ow' in
      let some_both : 0 < length (ow ++ ow') = omega arith in
      let weights : total weight us ≡ r.out =
      (let a : total weight vs + counts ow Idle ≡ total weight s.views + counts (ow ++ ow') Joined = total_set weight s.views id v w at in
      let b : total weight us + counts ow' Idle ≡ total weight vs + 0 = total_set weight vs other v' spent there in
      let d : counts ow Idle ≡ 1 = counts_some ow Idle some_own in
      let e : counts ow' Idle ≡ 1 = counts_some ow' Idle some_other in
      let i : counts (ow ++ ow') Joined ≡ 2 = counts_some (ow ++ ow') Joined some_both in
      let h : total weight s.views ≡ r.out = r.passes in
      omega arith) in
      let rooms : total room_of us + r.made ≡ 65537 =
      (let a : total room_of vs + rm ≡ total room_of s.views + (rm + rm') = total_set room_of s.views id v w at in
      let b : total room_of us + rm' ≡ total room_of vs + 0 = total_set room_of vs other v' spent there in
      let h : total room_of s.views + r.made ≡ 65537 = r.rooms in
      omega arith) in
      let shares : total share us ≡ 65537 =
      (let a : total share vs + (rm + (length ow + 0)) ≡ total share s.views + ((rm + rm') + (length (ow ++ ow') + 0)) = total_set share s.views id v w at in
      let b : total share us + (rm' + (length ow' + 0)) ≡ total share vs + 0 = total_set share vs other v' spent there in
      let h : total share s.views ≡ 65537 = r.shares in
      omega arith) in
      let number : (n : ℕ) → total (has_number n) us ≡ below n r.made = λ n.
      (let a : total (has_number n) vs + (times n (numbers_of ow) + 0) ≡ total (has_number n) s.views + (times n (numbers_of (ow ++ ow')) + 0) = total_set (has_number n) s.views id v w at in
      let b : total (has_number n) us + (times n (numbers_of ow') + 0) ≡ total (has_number n) vs + 0 = total_set (has_number n) vs other v' spent there in
      let d : times n (numbers_of (ow ++ ow')) ≡ times n (numbers_of ow) + times n (numbers_of ow') = times_both n ow ow' in
      let h : total (has_number n) s.views ≡ below n r.made = r.numbers n in
      omega arith) in
      let same_of : (c : View I F → ℕ) → c v ≡ 0 → c v' ≡ 0 → c w ≡ 0 → c spent ≡ 0 → total c us ≡ total c s.views = λ c e e' e'' z.
      (total_same c vs other v' spent there (z ∙ sym e') ∙ total_same c s.views id v w at (e'' ∙ sym e)) in
      let mine : Fits key r.log r.makers r.served w = record {
        seen = starts_chosen (length sn' - length sn) r.log sn sn' g.seen g'.seen;
        made = owns_both r.makers r.log ow ow' g.made g'.made;
        fixed = λ _. g.fixed some_own;
        spent = λ z. (let bad : ⊥ = omega arith in absurd bad);
        stage = tt;
      } in
      record {
        out = r.out;
        drawn = r.drawn;
        served = r.served;
        made = r.made;
        log = r.log;
        makers = r.makers;
        words = r.words;
        passes = weights;
        rooms = rooms;
        shares = shares;
        numbers = number;
        queue = ap (λ (n : ℕ). n + r.served) (same_of waits refl refl refl refl) ∙ r.queue;
        tickets = λ t. ap (λ (n : ℕ). n + below t r.served) (same_of (has_ticket t) refl refl refl refl) ∙ r.tickets t;
        book = subst (λ (n : ℕ). Lies items fixed key r.log n s.homes) (sym (same_of turns refl refl refl refl)) r.book;
        one_each = r.one_each;
        of_all = r.of_all;
        fits = fits_set key r.log r.makers r.served vs other spent (λ j u _ here. fits_set key r.log r.makers r.served s.views id w (λ i y _ was. r.fits i y was) mine j u here) spent_fits;
      }

  pub asks : (slots id : ℕ) (f : Option F) (sn : List I) (ow : List (ℕ × List I)) (rm : ℕ) (c : List (ℕ × Option B)) → 0 < length ow → Allows R slots id (view f sn ow rm Idle, c) 0 (λ n. n) (asked (view f sn ow rm Idle, c))
  asks slots id f sn ow rm c some_own s r _ at _ =
      let v : View I F = view f sn ow rm Idle in
      let found : ℕ = slice_index s.words 0 in
      let shown : found ≡ r.out = ap (λ (l : List ℕ). slice_index l 0) r.words in
      let passes : total weight s.views ≡ r.out = r.passes in
      let one : counts ow Idle ≡ 1 = counts_some ow Idle some_own in
      let mine : counts ow Idle ≤ total weight s.views = total_at weight s.views id v at in
      let some_out : 1 ≤ found = omega arith in
      let shares : total share s.views ≡ 65537 = r.shares in
      let part : rm + (length ow + 0) ≤ total share s.views = total_at share s.views id v at in
      let within : rm + length ow ≤ 65537 = omega arith in (
        v,
        keeps,
        tt,
        still items fixed key s r 0 id v at,
        (
          refl,
          some_out,
          within,
          (λ (alone : found ≡ 1).
              let all : total weight s.views ≡ counts ow Idle = omega arith in
              let e : total share s.views ≡ rm + (length ow + 0) = none_else weight share s.views id v spent at refl refl
              (λ j u here z. no_share u (fits_set key r.log r.makers r.served s.views id spent (λ i y _ was. r.fits i y was) spent_fits j u here) z) all in
              let has_all : rm + length ow ≡ 65537 = omega arith in
              has_all),
          (λ (has_all : rm + length ow ≡ 65537).
              let all : total share s.views ≡ rm + (length ow + 0) = omega arith in
              let e : total weight s.views ≡ counts ow Idle = none_else share weight s.views id v spent at refl refl (λ j u _ z. no_weight u z) all in
              let alone : found ≡ 1 = omega arith in
              alone),
        ),
      )

  -- the lock begins with one pass, which has made all items
  pub opens : (book : B) (count : ℕ) → fixed book ≡ key → count ≡ length (items book) → R (opening (1 ∷ 0 ∷ 0 ∷ count ∷ 1 ∷ []) (Some book ∷ []) (opened (items book) key))
  opens book count same_fixed long = record {
    out = 1;
    drawn = 0;
    served = 0;
    made = 1;
    log = items book;
    makers = fill 0 (items book);
    words = ap (λ (n : ℕ). 1 ∷ 0 ∷ 0 ∷ n ∷ 1 ∷ []) long;
    passes = refl;
    rooms = refl;
    shares = refl;
    numbers = zero_alone;
    queue = refl;
    tickets = λ t. refl;
    book = inl (book, refl, refl, same_fixed, refl);
    one_each = length_fill 0 (items book);
    of_all = all_fill 1 0 (items book) (omega arith);
    fits = first;
  }
    where
      zero_alone : (n : ℕ) → total (has_number n) (opened (items book) key ∷ []) ≡ below n 1
      zero_alone zero = refl
      zero_alone (suc n) = refl

      first : (j : ℕ) (v : View I F) → get_elem? (opened (items book) key ∷ []) j ≡ some v → Fits key (items book) (fill 0 (items book)) 0 v
      first zero v at = subst (λ (y : View I F). Fits key (items book) (fill 0 (items book)) 0 y) (some-injective (opened (items book) key) v at) record {
        seen = starts_same (items book) (items book) refl;
        made = (sym (made_fill 0 0 (items book)), tt);
        fixed = λ _. refl;
        spent = λ z. (let bad : ⊥ = omega arith in absurd bad);
        stage = tt;
      }
      first (suc j) v at = absurd (some-ne-none v (sym at))

  -- the same, of a view that is known by its stage
  abbrev M : Type 0
  M = Me (Option B) (View I F)

  pub numbers_as : (slots id : ℕ) (me : M) → 0 < length me.0.own → me.0.stage ≡ Idle → 0 < me.0.room → Allows R slots id me 4 (λ n. (n + 1) % 2 ^ 64) (numbered me)
  numbers_as slots id me some_own is some_room =
      subst (λ (st : Stage). Allows R slots id (view me.0.fixed me.0.seen me.0.own me.0.room st, me.1) 4 (λ n. (n + 1) % 2 ^ 64) (numbered (view me.0.fixed me.0.seen me.0.own me.0.room st, me.1))) (sym is)
      (numbers slots id me.0.fixed me.0.seen me.0.own me.0.room me.1 some_own some_room)

  pub counts_up_as : (slots id : ℕ) (me : M) (k : ℕ) → 0 < length me.0.own → me.0.stage ≡ Numbered k → Allows R slots id me 0 (λ n. (n + 1) % 2 ^ 64) (λ _ n. counted_up me n)
  counts_up_as slots id me k some_own is =
      subst (λ (st : Stage). Allows R slots id (view me.0.fixed me.0.seen me.0.own me.0.room st, me.1) 0 (λ n. (n + 1) % 2 ^ 64) (λ _ n. counted_up (view me.0.fixed me.0.seen me.0.own me.0.room st, me.1) n)) (sym is)
      (counts_up slots id me.0.fixed me.0.seen me.0.own me.0.room k me.1 some_own)

  pub counts_down_as : (slots id : ℕ) (me : M) → 0 < length me.0.own → me.0.stage ≡ Joined → Allows R slots id me 0 (λ n. (n + (2 ^ 64 - 1)) % 2 ^ 64) (λ _ n. counted_down me n)
  counts_down_as slots id me some_own is =
      subst (λ (st : Stage). Allows R slots id (view me.0.fixed me.0.seen me.0.own me.0.room st, me.1) 0 (λ n. (n + (2 ^ 64 - 1)) % 2 ^ 64) (λ _ n. counted_down (view me.0.fixed me.0.seen me.0.own me.0.room st, me.1) n)) (sym is)
      (counts_down slots id me.0.fixed me.0.seen me.0.own me.0.room me.1 some_own)

  pub splits_as : (id : ℕ) (v : View I F) (k : ℕ) → 0 < length v.own → v.stage ≡ Counted k → Splits R id v (kept_view v) (new_view v)
  splits_as id v k some_own is =
      subst (λ (st : Stage). Splits R id (view v.fixed v.seen v.own v.room st) (kept_view (view v.fixed v.seen v.own v.room st)) (new_view (view v.fixed v.seen v.own v.room st))) (sym is)
      (splits id v.fixed v.seen v.own v.room k some_own)

  pub joins_as : (id : ℕ) (v : View I F) (other : ℕ) (w : View I F) → 0 < length v.own → v.stage ≡ Idle → 0 < length w.own → w.stage ≡ Idle → Joins R id v other w (joined v w) spent
  joins_as id v other w some_own is some_other is_other =
      subst (λ (x : Stage × Stage). Joins R id (view v.fixed v.seen v.own v.room x.0) other (view w.fixed w.seen w.own w.room x.1) (joined (view v.fixed v.seen v.own v.room x.0) (view w.fixed w.seen w.own w.room x.1)) spent)
      (λ i. (sym is i, sym is_other i)) (joins id v.fixed v.seen v.own v.room other w.fixed w.seen w.own w.room some_own some_other)

  pub asks_as : (slots id : ℕ) (me : M) → 0 < length me.0.own → me.0.stage ≡ Idle → Allows R slots id me 0 (λ n. n) (asked me)
  asks_as slots id me some_own is =
      subst (λ (st : Stage). Allows R slots id (view me.0.fixed me.0.seen me.0.own me.0.room st, me.1) 0 (λ n. n) (asked (view me.0.fixed me.0.seen me.0.own me.0.room st, me.1))) (sym is)
      (asks slots id me.0.fixed me.0.seen me.0.own me.0.room me.1 some_own)
