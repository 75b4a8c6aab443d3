-- Files that are read one after the other.
use Rattle.std.proofs.Common.{◌≡◌, refl, sym, ap, subst, ◌∙◌, ℕ, zero, suc, ◌+◌, ◌<◌, ◌≤◌, List, [], ◌∷◌, ◌++◌, map, length, take, drop, get_or, Option, None, Some, Result, Ok, Err, arith}
use Rattle.std.specs.Prelude.{IfErr}
use Rattle.std.specs.Result.{IsErrAnd}
use Rattle.std.proofs.lemmas.List.{map-append, take_all, take_more}
use Rattle.uno_io.specs.Files.{Stored}
use Rattle.command_words.specs.Names.{Text}
use Rattle.uno_run.specs.Compile.{AllTell, Lacks}
use Rattle.uno_run.specs.Compiling.{AddsText, OneUnread}
use Rattle.uno_run.specs.Idl.{Tells}
use Rattle.uno_run.specs.Reading.{Unread}
use Rattle.uno_run.specs.declared.status.Status.{Status}
use Rattle.uno_run.specs.declared.status.Status.TheVariants.{Done, Words, BadUnoidl, BadRegistry, BadPlan, ReadFault, WriteFault, Broken, Cut, Full, NoFile, NoMemory}

as_many : (store : Option Stored) (names : List Text) (texts : List (List ℕ)) → AllTell store names texts → length names ≡ length texts
as_many store [] [] told = refl
as_many store [] (t ∷ texts) told = absurd told
as_many store (n ∷ names) [] told = absurd told
as_many store (n ∷ names) (t ∷ texts) told = ap suc (as_many store names texts told.1)

one_behind : (store : Option Stored) (names : List Text) (texts : List (List ℕ)) (name : Text) (text : List ℕ) → AllTell store names texts
    → Tells store name (Some text)
    → AllTell store (names ++ name ∷ []) (texts ++ text ∷ [])
one_behind store [] [] name text told one = (one, tt)
one_behind store [] (t ∷ texts) name text told one = absurd told
one_behind store (n ∷ names) [] name text told one = absurd told
one_behind store (n ∷ names) (t ∷ texts) name text told one = (told.0, one_behind store names texts name text told.1 one)

split_at : {X Y : Type 0} (view : X → Y) (xs : List X) (i : ℕ) (d : X) → i < length xs
    → map view xs ≡ map view (take i xs) ++ view (get_or xs i d) ∷ map view (drop (suc i) xs)
split_at view [] i d within = absurd (omega (arith, within))
split_at view (y ∷ xs) zero d within = refl
split_at view (y ∷ xs) (suc i) d within = ap (λ zs. view y ∷ zs) (split_at view xs i d (omega (arith, within)))

-- ---- in a loop over names

module _ {X : Type 0} (view : X → Text) (store : Option Stored) (xs : List X) (i : ℕ) (d : X) (within : i < length xs) where
  taken : map view (take (i + 1) xs) ≡ map view (take i xs) ++ view (get_or xs i d) ∷ []
  taken = ap (map view) (take_more xs i d within) ∙ map-append view (take i xs) (get_or xs i d ∷ [])

  -- one text more is told
  pub told_more : (was : Option Stored) (old new : List (List ℕ)) → was ≡ store → AllTell store (map view (take i xs)) old
      → AddsText was (view (get_or xs i d)) old new → AllTell store (map view (take (i + 1) xs)) new
  told_more was old new same told adds =
      let name = view (get_or xs i d) in
      let one = subst (λ s. Tells s name (Some adds.text)) same adds.told in
      let more = one_behind store (map view (take i xs)) old name adds.text told one in
      subst (λ ns. AllTell store ns new) (sym taken) (subst (AllTell store (map view (take i xs) ++ name ∷ [])) (sym adds.added) more)

  -- or one file was not read
  module _ (texts : List (List ℕ)) (told : AllTell store (map view (take i xs)) texts) (before now : ℕ) where
    lacks : (file : ℕ) → file ≡ length texts → Tells store (view (get_or xs i d)) None → Lacks store (map view xs) file
    lacks file at absent =
        record {
          before = map view (take i xs);
          name = view (get_or xs i d);
          behind = map view (drop (suc i) xs);
          split = split_at view xs i d within;
          at = at ∙ sym (as_many store (map view (take i xs)) texts told);
          texts = texts;
          told = told;
          absent = absent;
        }

    unread_at : (status : Status) → Unread store (view (get_or xs i d)) (length texts) before now status → OneUnread store (map view xs) before now status
    unread_at Done u = u
    unread_at Words u = u
    unread_at (BadUnoidl file byte reason) u = u
    unread_at (BadRegistry file line why) u = u
    unread_at (BadPlan file line why) u = u
    unread_at ReadFault u = u
    unread_at WriteFault u = u
    unread_at (Broken why at) u = u
    unread_at Cut u = u
    unread_at Full u = u
    unread_at (NoFile file) u = (lacks file u.0 u.1, u.2)
    unread_at NoMemory u = u

    pub one_unread : (was : Option Stored) (place count : ℕ) (status : Status) → was ≡ store → place ≡ length texts → count ≡ before
        → Unread was (view (get_or xs i d)) place count now status → OneUnread store (map view xs) before now status
    one_unread was place count status same many quiet u =
        let name = view (get_or xs i d) in
        let there = subst (λ s. Unread s name place count now status) same u in
        let placed = subst (λ n. Unread store name n count now status) many there in
        unread_at status (subst (λ n. Unread store name (length texts) n now status) quiet placed)

pub all_told : {X : Type 0} (view : X → Text) (store : Option Stored) (xs : List X) (i : ℕ) (texts : List (List ℕ)) → length xs ≤ i
    → AllTell store (map view (take i xs)) texts
    → AllTell store (map view xs) texts
all_told view store xs i texts past told = subst (λ ys. AllTell store (map view ys) texts) (take_all i xs past) told

pub handed_on : {X : Type 0} (Is : Status → Type 0) (r : Result X Status) (status : Status) → IsErrAnd r (λ s. s ≡ status) → Is status → IfErr r Is
handed_on Is (Ok x) status same is = tt
handed_on Is (Err s) status same is = subst Is (sym same) is
