-- A turn: a ticket is drawn, the book is taken, the items are recorded, and the book is given back.
use Rattle.std.proofs.Common.{◌≡◌, ◌≢◌, ℕ, ◌+◌, ◌%◌, ◌^◌, ◌<◌, ◌≤◌, List, [], ◌∷◌, ◌++◌, length, drop, set, slice_index, slice_set, Option, Some, None, sym, refl, ap, ◌∙◌, subst, ⊎_elim, inl, inr, length-append, arith}
use mathlib.Core.Logic.{dite}
use Rattle.std.proofs.Math.Seq.{drop-append_seam}
use mathlib.Core.Option.{some, none}
use mathlib.Core.Option as maybe
use native.Mathlib.Decide.{ℕ_discrete}
use lib.ListN.{get_elem?}
use Rattle.atomic_table.specs.Table.{State, Me, keeps, takes, gives, Allows}
use Rattle.atomic_table.proofs.Lists.{one_turn}
use Rattle.turn_book.specs.declared.view.View.{View}
use Rattle.turn_book.specs.declared.view.Stage.{Stage}
use Rattle.turn_book.specs.declared.view.Stage.TheVariants.{Idle, Waits, Turns, Recorded}
use Rattle.turn_book.specs.History.{Stands, Whole, same, below, times, numbers_of}
use Rattle.turn_book.specs.Views.{view}
use Rattle.turn_book.specs.Steps.{drew, passed_on, recorded, grows, grown, looked, Took}
use Rattle.turn_book.specs.Ruled.{total, weight, room_of, share, has_number, has_ticket, waits, turns, Fits, Lies, Ruled}
use Rattle.turn_book.proofs.Totals.{total_set, total_same, total_at, total_le}
use Rattle.turn_book.proofs.Counts.{same_self, below_le, below_is, not_below, below_next, next_mod, all_both}
use Rattle.turn_book.proofs.Makers.{fill, length_fill, all_fill, starts_more, starts_same, owns_same, owns_more}
use Rattle.turn_book.proofs.Marks.{waits_le, turn_holds, stage_served, stage_grows, fits_set}
use Rattle.turn_book.proofs.Keeping.{weighs_same, still, one_turn_at_most, once, given, not_others, alone_in_turn, stands, whole}

-- what an option has, or else the first
abbrev or_else : {F : Type 0} → F → Option F → F
or_else d (Some x) = x
or_else d None = d

module _ {B I F : Type 0} (items : B → List I) (fixed : B → F) (key : F) where
  abbrev R : State (Option B) (View I F) → Type 0
  R = Ruled items fixed key

  pub draws : (slots id : ℕ) (f : Option F) (sn : List I) (ow : List (ℕ × List I)) (rm : ℕ) (c : List (ℕ × Option B)) → 0 < length ow
      → Allows R slots id (view f sn ow rm Idle, c) 1 (λ n. (n + 1) % 2 ^ 64) (drew (view f sn ow rm Idle, c))
  draws slots id f sn ow rm c some_own s r _ at _ =
      let v : View I F = view f sn ow rm Idle in
      let w : View I F = view f sn ow rm (Waits r.drawn) in
      let vs : List (View I F) = set s.views id w in
      let g = r.fits id v at in
      let ws : slice_set s.words 1 ((slice_index s.words 1 + 1) % 2 ^ 64) ≡ r.out ∷ (r.drawn + 1) % 2 ^ 64 ∷ r.served % 2 ^ 64 ∷ length r.log ∷ r.made ∷ [] =
      ap (λ (l : List ℕ). slice_set l 1 ((slice_index l 1 + 1) % 2 ^ 64)) r.words ∙ ap (λ (k : ℕ). r.out ∷ k ∷ r.served % 2 ^ 64 ∷ length r.log ∷ r.made ∷ []) (next_mod r.drawn (2 ^ 64)) in
      let rooms : total room_of vs + r.made ≡ 65537 = ap (λ (k : ℕ). k + r.made) (total_same room_of s.views id v w at refl) ∙ r.rooms in
      let one_more : total waits vs + 0 ≡ total waits s.views + 1 = total_set waits s.views id v w at in
      let before : total waits s.views + r.served ≡ r.drawn = r.queue in
      let queue : total waits vs + r.served ≡ r.drawn + 1 = omega arith in
      let ticket : (t : ℕ) → total (has_ticket t) vs + below t r.served ≡ below t (r.drawn + 1) = λ t.
      (let a : total (has_ticket t) vs + 0 ≡ total (has_ticket t) s.views + same t r.drawn = total_set (has_ticket t) s.views id v w at in
      let b : total (has_ticket t) s.views + below t r.served ≡ below t r.drawn = r.tickets t in
      let d : below t (r.drawn + 1) ≡ below t r.drawn + same t r.drawn = below_next t r.drawn in
      omega arith) in
      let mine : Fits key r.log r.makers r.served w = record { seen = g.seen; made = g.made; fixed = g.fixed; spent = λ z. (let bad : ⊥ = omega arith in absurd bad); stage = tt } in (
        w,
        keeps,
        tt,
        record {
          out = r.out;
          drawn = r.drawn + 1;
          served = r.served;
          made = r.made;
          log = r.log;
          makers = r.makers;
          words = ws;
          passes = total_same weight s.views id v w at (weighs_same ow (Waits r.drawn) Idle refl) ∙ r.passes;
          rooms = rooms;
          shares = total_same share s.views id v w at refl ∙ r.shares;
          numbers = λ n. total_same (has_number n) s.views id v w at refl ∙ r.numbers n;
          queue = queue;
          tickets = ticket;
          book = subst (λ (k : ℕ). Lies items fixed key r.log k s.homes) (sym (total_same turns s.views id v w at refl)) r.book;
          one_each = r.one_each;
          of_all = r.of_all;
          fits = fits_set key r.log r.makers r.served s.views id w (λ j u _ there. r.fits j u there) mine;
        },
        (r.drawn, refl, ap (λ (l : List ℕ). slice_index l 1) r.words),
      )

  -- the ticket that the word shows is the one that is served
  is_served : (s : State (Option B) (View I F)) (r : R s) (id : ℕ) (v : View I F) (t : ℕ) → get_elem? s.views id ≡ some v → has_ticket t v ≡ 1 → r.served % 2 ^ 64 ≡ t % 2 ^ 64 → r.served ≡ t
  is_served s r id v t at has e =
      let a : has_ticket t v ≤ total (has_ticket t) s.views = total_at (has_ticket t) s.views id v at in
      let b : total (has_ticket t) s.views + below t r.served ≡ below t r.drawn = r.tickets t in
      let d : below t r.drawn ≤ 1 = below_le t r.drawn in
      let unserved : below t r.served ≡ 0 = omega arith in
      let drawn : t < r.drawn = below_is t r.drawn (omega arith) in
      let served : r.served ≤ t = not_below t r.served unserved in
      let few : total waits s.views ≤ total share s.views = total_le waits share s.views (λ j u there. waits_le u (r.fits j u there)) in
      let all : total share s.views ≡ 65537 = r.shares in
      let queue : total waits s.views + r.served ≡ r.drawn = r.queue in
      let near : t < r.served + 2 ^ 64 = omega arith in
      one_turn r.served t (2 ^ 64) served near e

  -- while a view with this ticket waits, nobody has the turn
  nobody : (s : State (Option B) (View I F)) (r : R s) (id : ℕ) (f : Option F) (sn : List I) (ow : List (ℕ × List I)) (rm t : ℕ) → 0 < length ow → get_elem? s.views id ≡ some (view f sn ow rm (Waits t)) → r.served ≡ t
      → total turns s.views ≡ 0
  nobody s r id f sn ow rm t some_own at e =
      let v : View I F = view f sn ow rm (Waits t) in
      let w : View I F = view f r.log ow rm (Turns t) in
      let vs : List (View I F) = set s.views id w in
      let g = r.fits id v at in
      let mine : Fits key r.log r.makers r.served w = record { seen = starts_same r.log r.log refl; made = g.made; fixed = g.fixed; spent = λ z. (let bad : ⊥ = omega arith in absurd bad); stage = (sym e, refl) } in
      let fit = fits_set key r.log r.makers r.served s.views id w (λ j u _ there. r.fits j u there) mine in
      let one_more : total turns vs + 0 ≡ total turns s.views + 1 = total_set turns s.views id v w at in
      let as_many : total (has_ticket t) vs ≡ total (has_ticket t) s.views = total_same (has_ticket t) s.views id v w at refl in
      let few : total turns vs ≤ total (has_ticket t) vs = total_le turns (has_ticket t) vs (λ j u there. turn_holds r.served r.log r.makers u.seen t u.stage (fit j u there).stage e) in
      let b : total (has_ticket t) s.views + below t r.served ≡ below t r.drawn = r.tickets t in
      let d : below t r.drawn ≤ 1 = below_le t r.drawn in
      omega arith

  -- it has the turn, and the book is home
  takes_book : (s : State (Option B) (View I F)) (r : R s) (id : ℕ) (f : Option F) (sn : List I) (ow : List (ℕ × List I)) (rm t : ℕ) (c : List (ℕ × Option B)) → 0 < length ow → get_elem? s.views id ≡ some (view f sn ow rm (Waits t))
      → r.served ≡ t → total turns s.views ≡ 0 → (b : B) → s.homes ≡ some (Some b) ∷ [] → items b ≡ r.log → fixed b ≡ key
      → R record { words = slice_set s.words 2 (slice_index s.words 2); homes = slice_set s.homes 0 none; views = set s.views id (view f (items b) ow rm (Turns t)) } × Took items fixed (view f sn ow rm (Waits t), c) (view f (items b) ow rm (Turns t), (0, Some b) ∷ c)
  takes_book s r id f sn ow rm t c some_own at e free b home it fx =
      let v : View I F = view f sn ow rm (Waits t) in
      let w : View I F = view f (items b) ow rm (Turns t) in
      let vs : List (View I F) = set s.views id w in
      let g = r.fits id v at in
      let ws : slice_set s.words 2 (slice_index s.words 2) ≡ r.out ∷ r.drawn % 2 ^ 64 ∷ r.served % 2 ^ 64 ∷ length r.log ∷ r.made ∷ [] = ap (λ (l : List ℕ). slice_set l 2 (slice_index l 2)) r.words in
      let out : slice_set s.homes 0 none ≡ none ∷ [] = ap (λ (h : List (maybe.Option (Option B))). slice_set h 0 none) home in
      let rooms : total room_of vs + r.made ≡ 65537 = ap (λ (k : ℕ). k + r.made) (total_same room_of s.views id v w at refl) ∙ r.rooms in
      let queue : total waits vs + r.served ≡ r.drawn = ap (λ (k : ℕ). k + r.served) (total_same waits s.views id v w at refl) ∙ r.queue in
      let one_more : total turns vs + 0 ≡ total turns s.views + 1 = total_set turns s.views id v w at in
      let one : total turns vs ≡ 1 = omega arith in
      let mine : Fits key r.log r.makers r.served w = record { seen = starts_same r.log (items b) it; made = g.made; fixed = g.fixed; spent = λ z. (let bad : ⊥ = omega arith in absurd bad); stage = (sym e, it) } in (
        record {
          out = r.out;
          drawn = r.drawn;
          served = r.served;
          made = r.made;
          log = r.log;
          makers = r.makers;
          words = ws;
          passes = total_same weight s.views id v w at (weighs_same ow (Turns t) (Waits t) refl) ∙ r.passes;
          rooms = rooms;
          shares = total_same share s.views id v w at refl ∙ r.shares;
          numbers = λ n. total_same (has_number n) s.views id v w at refl ∙ r.numbers n;
          queue = queue;
          tickets = λ u. ap (λ (k : ℕ). k + below u r.served) (total_same (has_ticket u) s.views id v w at refl) ∙ r.tickets u;
          book = inr (out, one);
          one_each = r.one_each;
          of_all = r.of_all;
          fits = fits_set key r.log r.makers r.served s.views id w (λ j u _ there. r.fits j u there) mine;
        },
        record {
          book = b;
          out = refl;
          now = refl;
          fixed_is = g.fixed some_own ∙ ap (λ (x : F). Some x) (sym fx);
          begins = (g.seen.0, it ∙ g.seen.1);
          stands = subst (λ (l : List I). Stands l ow) (sym it) (stands items fixed key s r id f sn ow rm t at);
          alone = λ all. subst (λ (l : List I). Whole l ow) (sym it) (whole items fixed key s r id f sn ow rm t at all);
        },
      )

  pub looks : (slots id : ℕ) (f : Option F) (sn : List I) (ow : List (ℕ × List I)) (rm t : ℕ) (c : List (ℕ × Option B)) → 0 < length ow
      → Allows R slots id (view f sn ow rm (Waits t), c) 2 (λ n. n) (looked items fixed (view f sn ow rm (Waits t), c))
  looks slots id f sn ow rm t c some_own s r _ at _ =
      let v : View I F = view f sn ow rm (Waits t) in
      dite (ℕ_discrete (slice_index s.words 2) (t % 2 ^ 64))
      (λ hit.
      let shown : slice_index s.words 2 ≡ r.served % 2 ^ 64 = ap (λ (l : List ℕ). slice_index l 2) r.words in
      let e : r.served ≡ t = is_served s r id v t at (same_self t) (sym shown ∙ hit) in
      let free : total turns s.views ≡ 0 = nobody s r id f sn ow rm t some_own at e in
      ⊎_elim
      (λ (x : (b : B) × (s.homes ≡ some (Some b) ∷ []) × (items b ≡ r.log) × (fixed b ≡ key) × (total turns s.views ≡ 0)).
      let b : B = x.0 in
      let taken = takes_book s r id f sn ow rm t c some_own at e free b x.1 x.2 x.3 in
      let there : get_elem? s.homes 0 ≡ some (some (Some b)) = ap (λ (h : List (maybe.Option (Option B))). get_elem? h 0) x.1 in
      (view f (items b) ow rm (Turns t), takes 0 (Some b), there, taken.0, ((λ _. taken.1), λ miss. absurd (miss hit))))
      (λ (x : (s.homes ≡ none ∷ []) × (total turns s.views ≡ 1)). let one : total turns s.views ≡ 1 = x.1 in let bad : ⊥ = omega arith in absurd bad)
      r.book)
      (λ miss. (v, keeps, tt, still items fixed key s r 2 id v at, ((λ hit. absurd (miss hit)), λ _. refl)))

  -- the items that a turn has added are recorded
  records_new : (s : State (Option B) (View I F)) (r : R s) (id : ℕ) (f : Option F) (sn : List I) (ow : List (ℕ × List I)) (rm t count : ℕ) (xs new : List I) → 0 < length ow → get_elem? s.views id ≡ some (view f sn ow rm (Turns t))
      → xs ≡ sn ++ new → count ≡ length xs
      → R record { words = slice_set s.words 3 count; homes = s.homes; views = set s.views id (view f xs (grown ow new) rm (Recorded t)) }
  records_new s r id f sn [] rm t count xs new some_own at e long = let bad : ⊥ = omega arith in absurd bad
  records_new s r id f sn (p ∷ ps) rm t count xs new some_own at e long =
      let m : ℕ = p.0 in
      let v : View I F = view f sn (p ∷ ps) rm (Turns t) in
      let w : View I F = view f xs ((m, p.1 ++ new) ∷ ps) rm (Recorded t) in
      let vs : List (View I F) = set s.views id w in
      let g = r.fits id v at in
      let all : xs ≡ r.log ++ new = e ∙ ap (λ (l : List I). l ++ new) g.stage.1 in
      let up : count ≡ length (r.log ++ new) = long ∙ ap length all in
      let ws : slice_set s.words 3 count ≡ r.out ∷ r.drawn % 2 ^ 64 ∷ r.served % 2 ^ 64 ∷ length (r.log ++ new) ∷ r.made ∷ [] =
      ap (λ (l : List ℕ). slice_set l 3 count) r.words ∙ ap (λ (k : ℕ). r.out ∷ r.drawn % 2 ^ 64 ∷ r.served % 2 ^ 64 ∷ k ∷ r.made ∷ []) up in
      let self : same m m ≡ 1 = same_self m in
      let one : (same m m + times m (numbers_of ps)) + 0 ≤ 1 = once items fixed key s r id v at m in
      let mine_once : times m (numbers_of ps) ≡ 0 = omega arith in
      let mine_is : 1 ≤ has_number m v = (let h : 1 ≤ (same m m + times m (numbers_of ps)) + 0 = omega arith in h) in
      let m_given : m < r.made = given items fixed key s r id v at m mine_is in
      let rooms : total room_of vs + r.made ≡ 65537 = ap (λ (k : ℕ). k + r.made) (total_same room_of s.views id v w at refl) ∙ r.rooms in
      let queue : total waits vs + r.served ≡ r.drawn = ap (λ (k : ℕ). k + r.served) (total_same waits s.views id v w at refl) ∙ r.queue in
      let a : length (r.makers ++ fill m new) ≡ length r.makers + length (fill m new) = length-append r.makers (fill m new) in
      let b : length (r.log ++ new) ≡ length r.log + length new = length-append r.log new in
      let d : length (fill m new) ≡ length new = length_fill m new in
      let h : length r.makers ≡ length r.log = r.one_each in
      let one_each : length (r.makers ++ fill m new) ≡ length (r.log ++ new) = omega arith in
      let mine : Fits key (r.log ++ new) (r.makers ++ fill m new) r.served w = record {
        seen = starts_same (r.log ++ new) xs all;
        made = owns_more r.makers r.log new p ps r.one_each mine_once g.made;
        fixed = λ _. g.fixed some_own;
        spent = λ z. (let bad : ⊥ = omega arith in absurd bad);
        stage = (g.stage.0, all);
      } in
      record {
        out = r.out;
        drawn = r.drawn;
        served = r.served;
        made = r.made;
        log = r.log ++ new;
        makers = r.makers ++ fill m new;
        words = ws;
        passes = total_same weight s.views id v w at refl ∙ r.passes;
        rooms = rooms;
        shares = total_same share s.views id v w at refl ∙ r.shares;
        numbers = λ n. total_same (has_number n) s.views id v w at refl ∙ r.numbers n;
        queue = queue;
        tickets = λ u. ap (λ (k : ℕ). k + below u r.served) (total_same (has_ticket u) s.views id v w at refl) ∙ r.tickets u;
        book = records_book s.homes (total_same turns s.views id v w at refl) (one_turn_at_most items fixed key r.log (total turns s.views) s.homes r.book) (total_at turns s.views id v at) r.book;
        one_each = one_each;
        of_all = all_both r.made r.makers (fill m new) r.of_all (all_fill r.made m new m_given);
        fits = fits_set key (r.log ++ new) (r.makers ++ fill m new) r.served s.views id w
            (λ j u apart there. grows_other j u apart there (r.fits j u there) (not_others items fixed key s r id v at m mine_is j u apart there) (alone_in_turn items fixed key s r id v at refl j u apart there))
            mine;
      }
    where
      records_book : (homes : List (maybe.Option (Option B))) {k k' : ℕ} → k' ≡ k → k ≤ 1 → 1 ≤ k → Lies items fixed key r.log k homes → Lies items fixed key (r.log ++ new) k' homes
      records_book homes {k} {k'} same_k le ge = ⊎_elim
          (λ (x : (b : B) × (homes ≡ some (Some b) ∷ []) × (items b ≡ r.log) × (fixed b ≡ key) × (k ≡ 0)). let z : k ≡ 0 = x.4 in let bad : ⊥ = omega arith in absurd bad)
          (λ (x : (homes ≡ none ∷ []) × (k ≡ 1)). inr (x.0, same_k ∙ x.1))

      grows_other : (j : ℕ) (u : View I F) → j ≢ id → get_elem? s.views j ≡ some u → Fits key r.log r.makers r.served u → has_number p.0 u ≡ 0 → turns u ≡ 0 → Fits key (r.log ++ new) (r.makers ++ fill p.0 new) r.served u
      grows_other j u apart there fit unowned no_turn =
          let no_own : times p.0 (numbers_of u.own) ≡ 0 = omega arith in
          record {
            seen = starts_more r.log u.seen new fit.seen;
            made = owns_same p.0 r.makers r.log new u.own r.one_each no_own fit.made;
            fixed = fit.fixed;
            spent = fit.spent;
            stage = stage_grows r.served r.log r.makers u.seen p.0 new u.stage r.one_each no_turn (omega arith) fit.stage;
          }

  pub records : (slots id : ℕ) (f : Option F) (sn : List I) (ow : List (ℕ × List I)) (rm t count : ℕ) (b : B) (new : List I) → 0 < length ow → items b ≡ sn ++ new → count ≡ length (items b)
      → Allows R slots id (view f sn ow rm (Turns t), (0, Some b) ∷ []) 3 (λ _. count) (λ _ n. recorded items (view f sn ow rm (Turns t), (0, Some b) ∷ []) n)
  records slots id f sn ow rm t count b new some_own e long s r _ at _ =
      let dropped : drop (length sn) (items b) ≡ new = ap (drop (length sn)) e ∙ drop-append_seam sn new in (
        grows (view f sn ow rm (Turns t)) (items b),
        keeps,
        tt,
        subst (λ (l : List I). R record { words = slice_set s.words 3 count; homes = s.homes; views = set s.views id (view f (items b) (grown ow l) rm (Recorded t)) }) (sym dropped)
            (records_new s r id f sn ow rm t count (items b) new some_own at e long),
        refl,
      )

  pub passes_on : (slots id : ℕ) (f : Option F) (sn : List I) (ow : List (ℕ × List I)) (rm t : ℕ) (b : B) → 0 < length ow → items b ≡ sn → f ≡ Some (fixed b)
      → Allows R slots id (view f sn ow rm (Recorded t), (0, Some b) ∷ []) 2 (λ n. (n + 1) % 2 ^ 64) (λ _ n. passed_on (view f sn ow rm (Recorded t), (0, Some b) ∷ []) n)
  passes_on slots id f sn ow rm t b some_own same_items same_fixed s r _ at _ =
      let v : View I F = view f sn ow rm (Recorded t) in
      let w : View I F = view f sn ow rm Idle in
      let vs : List (View I F) = set s.views id w in
      let g = r.fits id v at in
      let ws : slice_set s.words 2 ((slice_index s.words 2 + 1) % 2 ^ 64) ≡ r.out ∷ r.drawn % 2 ^ 64 ∷ (r.served + 1) % 2 ^ 64 ∷ length r.log ∷ r.made ∷ [] =
      ap (λ (l : List ℕ). slice_set l 2 ((slice_index l 2 + 1) % 2 ^ 64)) r.words ∙ ap (λ (k : ℕ). r.out ∷ r.drawn % 2 ^ 64 ∷ k ∷ length r.log ∷ r.made ∷ []) (next_mod r.served (2 ^ 64)) in
      let rooms : total room_of vs + r.made ≡ 65537 = ap (λ (k : ℕ). k + r.made) (total_same room_of s.views id v w at refl) ∙ r.rooms in
      let one_less : total waits vs + 1 ≡ total waits s.views + 0 = total_set waits s.views id v w at in
      let before : total waits s.views + r.served ≡ r.drawn = r.queue in
      let queue : total waits vs + (r.served + 1) ≡ r.drawn = omega arith in
      let ticket : (u : ℕ) → total (has_ticket u) vs + below u (r.served + 1) ≡ below u r.drawn = λ u.
      (let a : total (has_ticket u) vs + same u t ≡ total (has_ticket u) s.views + 0 = total_set (has_ticket u) s.views id v w at in
      let b : total (has_ticket u) s.views + below u r.served ≡ below u r.drawn = r.tickets u in
      let d : below u (r.served + 1) ≡ below u r.served + same u r.served = below_next u r.served in
      let e : same u t ≡ same u r.served = ap (same u) g.stage.0 in
      omega arith) in
      let le : total turns s.views ≤ 1 = one_turn_at_most items fixed key r.log (total turns s.views) s.homes r.book in
      let one_fewer : total turns vs + 1 ≡ total turns s.views + 0 = total_set turns s.views id v w at in
      let all_home : total turns vs ≡ 0 = omega arith in
      let home : slice_set s.homes 0 (some (Some b)) ≡ some (Some b) ∷ [] = ⊎_elim
      (λ (x : (b : B) × (s.homes ≡ some (Some b) ∷ []) × (items b ≡ r.log) × (fixed b ≡ key) × (total turns s.views ≡ 0)). ap (λ (h : List (maybe.Option (Option B))). slice_set h 0 (some (Some b))) x.1)
      (λ (x : (s.homes ≡ none ∷ []) × (total turns s.views ≡ 1)). ap (λ (h : List (maybe.Option (Option B))). slice_set h 0 (some (Some b))) x.0)
      r.book in
      let fixed_is : fixed b ≡ key = ap (or_else key) (sym same_fixed ∙ g.fixed some_own) in
      let mine : Fits key r.log r.makers (r.served + 1) w = record { seen = g.seen; made = g.made; fixed = g.fixed; spent = λ z. (let bad : ⊥ = omega arith in absurd bad); stage = tt } in (
        w,
        gives,
        tt,
        record {
          out = r.out;
          drawn = r.drawn;
          served = r.served + 1;
          made = r.made;
          log = r.log;
          makers = r.makers;
          words = ws;
          passes = total_same weight s.views id v w at (weighs_same ow Idle (Recorded t) refl) ∙ r.passes;
          rooms = rooms;
          shares = total_same share s.views id v w at refl ∙ r.shares;
          numbers = λ n. total_same (has_number n) s.views id v w at refl ∙ r.numbers n;
          queue = queue;
          tickets = ticket;
          book = inl (b, home, same_items ∙ g.stage.1, fixed_is, all_home);
          one_each = r.one_each;
          of_all = r.of_all;
          fits = fits_set key r.log r.makers (r.served + 1) s.views id w (λ j u apart there. goes_on r.log r.makers r.served u (r.fits j u there) (alone_in_turn items fixed key s r id v at refl j u apart there)) mine;
        },
        refl,
      )
    where
      goes_on : (log : List I) (makers : List ℕ) (served : ℕ) (u : View I F) → Fits key log makers served u → turns u ≡ 0 → Fits key log makers (served + 1) u
      goes_on log makers served u fit no_turn = record { seen = fit.seen; made = fit.made; fixed = fit.fixed; spent = fit.spent; stage = stage_served served (served + 1) log makers u.seen u.stage no_turn fit.stage }

  -- the same, of a view that is known by its stage
  abbrev M : Type 0
  M = Me (Option B) (View I F)

  pub draws_as : (slots id : ℕ) (me : M) → 0 < length me.0.own → me.0.stage ≡ Idle → Allows R slots id me 1 (λ n. (n + 1) % 2 ^ 64) (drew me)
  draws_as slots id me some_own is =
      subst (λ (st : Stage). Allows R slots id (view me.0.fixed me.0.seen me.0.own me.0.room st, me.1) 1 (λ n. (n + 1) % 2 ^ 64) (drew (view me.0.fixed me.0.seen me.0.own me.0.room st, me.1))) (sym is)
      (draws slots id me.0.fixed me.0.seen me.0.own me.0.room me.1 some_own)

  pub looks_as : (slots id : ℕ) (me : M) (t : ℕ) → 0 < length me.0.own → me.0.stage ≡ Waits t → Allows R slots id me 2 (λ n. n) (looked items fixed me)
  looks_as slots id me t some_own is =
      subst (λ (st : Stage). Allows R slots id (view me.0.fixed me.0.seen me.0.own me.0.room st, me.1) 2 (λ n. n) (looked items fixed (view me.0.fixed me.0.seen me.0.own me.0.room st, me.1))) (sym is)
      (looks slots id me.0.fixed me.0.seen me.0.own me.0.room t me.1 some_own)

  pub records_as : (slots id : ℕ) (me : M) (t count : ℕ) (b : B) (new : List I) → 0 < length me.0.own → me.0.stage ≡ Turns t → me.1 ≡ (0, Some b) ∷ [] → items b ≡ me.0.seen ++ new → count ≡ length (items b)
      → Allows R slots id me 3 (λ _. count) (λ _ n. recorded items me n)
  records_as slots id me t count b new some_own is holds e long =
      subst (λ (x : Stage × List (ℕ × Option B)). Allows R slots id (view me.0.fixed me.0.seen me.0.own me.0.room x.0, x.1) 3 (λ _. count) (λ _ n. recorded items (view me.0.fixed me.0.seen me.0.own me.0.room x.0, x.1) n))
      (λ i. (sym is i, sym holds i)) (records slots id me.0.fixed me.0.seen me.0.own me.0.room t count b new some_own e long)

  pub passes_on_as : (slots id : ℕ) (me : M) (t : ℕ) (b : B) → 0 < length me.0.own → me.0.stage ≡ Recorded t → me.1 ≡ (0, Some b) ∷ [] → items b ≡ me.0.seen → me.0.fixed ≡ Some (fixed b)
      → Allows R slots id me 2 (λ n. (n + 1) % 2 ^ 64) (λ _ n. passed_on me n)
  passes_on_as slots id me t b some_own is holds e same_fixed =
      subst (λ (x : Stage × List (ℕ × Option B)). Allows R slots id (view me.0.fixed me.0.seen me.0.own me.0.room x.0, x.1) 2 (λ n. (n + 1) % 2 ^ 64) (λ _ n. passed_on (view me.0.fixed me.0.seen me.0.own me.0.room x.0, x.1) n))
      (λ i. (sym is i, sym holds i)) (passes_on slots id me.0.fixed me.0.seen me.0.own me.0.room t b some_own e same_fixed)
