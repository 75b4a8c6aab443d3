-- Requests are read as they are spelled.
use Rattle.std.proofs.Common.{◌≡◌, ℕ, ◌==◌, ◌&&◌, not, Bool, true, false, List, [], ◌∷◌, ◌++◌, Some, refl, sym, ap, subst, ◌∙◌, ◌⊎◌, inl, inr}
use Rattle.std.specs.List.{list_all}
use Rattle.std.proofs.lemmas.Bool.{eqb-true, eqb-false, eq-eqb, ne_eqb}
use Rattle.uno_model.specs.Entities.{Entity}
use Rattle.uno_model.specs.Functions.{Function}
use Rattle.uno_model.specs.Kinds.{Kind, interface_of}
use Rattle.uno_model.specs.Kinds as kd
use Rattle.uno_model.specs.Sound.{is_named}
use Rattle.uno_model.specs.Values.{Plain}
use Rattle.uno_model.proofs.KindLaws.{interface_is}
use Rattle.urp_model.specs.Agreement.{Agrees, pair, triple}
use Rattle.urp_model.specs.Reading.{value_at}
use Rattle.urp_model.specs.Spelling.{SpellsEach, Spells}
use Rattle.urp_model.specs.Tables.{Tables}
use Rattle.urp_model.specs.declared.reason.Reason.TheVariants.{NotInterface, UnknownFunction, Acquire, OneWay}
use Rattle.urp_model.proofs.Agreeing.{weaken, done_agrees, fail_agrees, choice_agrees, judged_agrees, bind_agrees, map_agrees}
use Rattle.urp_model.proofs.ValueLaws.{members_agree, value_agrees}
use Rattle.message_model.specs.Calls.{acquire_number, release_number, numbered, argument_kinds}
use Rattle.message_model.specs.Headers.{Heard, hearing, Opening, Target}
use Rattle.message_model.specs.Messages.{Message, request, release}
use Rattle.message_model.specs.ReadingMessages.{release_at, arguments_at, call_at, asked_at, request_at, opens_reply}
use Rattle.message_model.specs.SpellingMessages.{SpellsOpening, SpellsAsked, a_release, a_call, SpellsRequest}
use Rattle.message_model.proofs.OpeningReadingLaws.{spelled_opening, opening_agrees}
use Rattle.message_model.proofs.TargetReadingLaws.{target_agrees}

-- ---- releases

-- a release, which has no answer and no arguments
abbrev pub IsRelease : Bool → List ℕ → Target → Heard → Message × Heard → List ℕ → Type 0
IsRelease answered face target heard x used = (answered ≡ false) × (x ≡ (release target.tid target.oid face, heard)) × (used ≡ [])

release_agrees : (answered : Bool) (face : List ℕ) (target : Target) (heard : Heard)
    → Agrees triple (release_at answered face target heard) (IsRelease answered face target heard)
unfolding release_at
release_agrees true face target heard =
    weaken triple (fail_agrees triple OneWay) (λ x used t. absurd t) (λ x used t. absurd (let bad : ⊥ = cc (t.0) in bad))
release_agrees false face target heard =
    weaken triple (done_agrees triple (release target.tid target.oid face, heard))
    (λ x used t. (refl, t.0, t.1)) (λ x used t. (t.1, t.2))

-- ---- calls

module _ (reg : List Entity) (named : list_all is_named reg ≡ true) where
  -- the arguments of a call of a function
  abbrev pub IsCall : Function → List ℕ → ℕ → Target → Heard → Message × Heard → List ℕ → Type 0
  IsCall f face function target heard x used =
      (args : List Plain × Tables) × (x ≡ (request target.tid target.oid face function args.0, hearing heard args.1))
      × SpellsEach (Spells 64 reg) (argument_kinds f) heard.tables args.0 used args.1

  arguments_agree : (f : Function) (face : List ℕ) (function : ℕ) (target : Target) (heard : Heard)
      → Agrees triple (arguments_at reg f face function target heard) (IsCall f face function target heard)
  unfolding arguments_at
  arguments_agree f face function target heard =
      map_agrees triple triple _ (λ (args : List Plain × Tables). (request target.tid target.oid face function args.0, hearing heard args.1))
      (members_agree (value_at 64 reg) (Spells 64 reg) (value_agrees 64 reg named) (argument_kinds f) heard.tables) (λ args rest. refl)

  -- a function of the interface, which is one-way only where the call is sent as one that has an answer, and its arguments
  abbrev pub IsCallOf : Opening → List ℕ → Target → Heard → Message × Heard → List ℕ → Type 0
  IsCallOf o face target heard x used =
      (f : Function) × (numbered reg face o.function ≡ Some f) × (f.oneway ≡ true → o.answered ≡ true) × IsCall f face o.function target heard x used

  -- a one-way function by its test
  oneway_answered : (oneway answered : Bool) → (oneway && not answered) ≡ false → oneway ≡ true → answered ≡ true
  oneway_answered true true test is = refl
  oneway_answered true false test is = absurd cc
  oneway_answered false answered test is = absurd cc

  answered_oneway : (oneway answered : Bool) → (oneway ≡ true → answered ≡ true) → (oneway && not answered) ≡ false
  answered_oneway true answered is = rw (is refl) refl
  answered_oneway false answered is = refl

  call_agrees : (o : Opening) (face : List ℕ) (target : Target) (heard : Heard) → Agrees triple (call_at reg o face target heard) (IsCallOf o face target heard)
  unfolding call_at
  call_agrees o face target heard =
      weaken triple
      (judged_agrees triple UnknownFunction (numbered reg face o.function) _ (λ (f : Function) is.
      choice_agrees triple (f.oneway && not o.answered) (λ test. fail_agrees triple OneWay) (λ test. arguments_agree f face o.function target heard)))
      (λ x used t. elim t.2 [ inl bad ↦ absurd bad.1 | inr call ↦ (t.0, t.1, oneway_answered t.0.oneway o.answered call.0, call.1) ])
      (λ x used t. (t.0, t.1, inr (answered_oneway t.0.oneway o.answered t.2, t.3)))

  -- ---- behind the header

  -- a release or a call, by its function
  abbrev pub IsAsked : Opening → List ℕ → Target → Heard → Message × Heard → List ℕ → Type 0
  IsAsked o face target heard x used =
      (((o.function == release_number) ≡ true) × IsRelease o.answered face target heard x used)
      ⊎ (((o.function == release_number) ≡ false)
      × ((((o.function == acquire_number) ≡ true) × ⊥) ⊎ (((o.function == acquire_number) ≡ false) × IsCallOf o face target heard x used)))

  asked_spells : (o : Opening) (face : List ℕ) (target : Target) (heard : Heard) (x : Message × Heard) (used : List ℕ) → target.kind ≡ kd.interface face
      → IsAsked o face target heard x used → SpellsAsked reg o target heard x.0 used x.1
  asked_spells o face target heard x used is t = elim t [
    | inl freed ↦
        let h = freed.1 in
        a_release face is (eqb-true o.function release_number freed.0) h.0 (ap (λ (z : Message × Heard). z.0) h.1) h.2 (ap (λ (z : Message × Heard). z.1) h.1)
    | inr other ↦ elim other.1 [
      | inl bad ↦ absurd bad.1
      | inr called ↦
          let h = called.1 in
          let args = h.3 in
          a_call face h.0 args.0.0 args.0.1 is (eqb-false o.function release_number other.0) (eqb-false o.function acquire_number called.0) h.1 h.2
          (ap (λ (z : Message × Heard). z.0) args.1) args.2 (ap (λ (z : Message × Heard). z.1) args.1)
    ]
  ]

  -- a type is one interface at most
  same_face : (k : Kind) (face other : List ℕ) → k ≡ kd.interface face → k ≡ kd.interface other → other ≡ face
  same_face k face other is also = cc

  spelled_asked : (o : Opening) (face : List ℕ) (target : Target) (heard : Heard) (x : Message × Heard) (used : List ℕ) → target.kind ≡ kd.interface face
      → SpellsAsked reg o target heard x.0 used x.1 → IsAsked o face target heard x used
  spelled_asked o face target heard x used is (a_release other also function answered said none after) =
      let same = same_face target.kind face other is also in
      inl (eq-eqb o.function release_number function, (answered, (λ i. ((said ∙ ap (release target.tid target.oid) same) i, after i)), none))
  spelled_asked o face target heard x used is (a_call other f args s also no_release no_acquire found oneway said spelled after) =
      let same = same_face target.kind face other is also in
      let there : numbered reg face o.function ≡ Some f = ap (λ z. numbered reg z o.function) (sym same) ∙ found in
      let message : x.0 ≡ request target.tid target.oid face o.function args = said ∙ ap (λ z. request target.tid target.oid z o.function args) same in
      let called : IsCallOf o face target heard x used = (f, there, oneway, ((args, s), (λ i. (message i, after i)), spelled)) in
      inr (ne_eqb o.function release_number no_release, inr (ne_eqb o.function acquire_number no_acquire, called))

  pub asked_agrees : (o : Opening) (face : List ℕ) (target : Target) (heard : Heard) → target.kind ≡ kd.interface face
      → Agrees triple (asked_at reg o face target heard) (λ x used. SpellsAsked reg o target heard x.0 used x.1)
  unfolding asked_at
  asked_agrees o face target heard is =
      weaken triple
      (choice_agrees triple (o.function == release_number) (λ test. release_agrees o.answered face target heard)
      (λ test. choice_agrees triple (o.function == acquire_number) (λ bad. fail_agrees triple Acquire) (λ other. call_agrees o face target heard)))
      (λ x used t. asked_spells o face target heard x used is t)
      (λ x used t. spelled_asked o face target heard x used is t)

  -- ---- requests

  asked_face : (o : Opening) (target : Target) (heard : Heard) (m : Message) (b : List ℕ) (after : Heard) → SpellsAsked reg o target heard m b after
      → (face : List ℕ) × (interface_of target.kind ≡ Some face)
  asked_face o target heard m b after (a_release face is _ _ _ _ _) = (face, ap interface_of is)
  asked_face o target heard m b after (a_call face f args s is _ _ _ _ _ _ _) = (face, ap interface_of is)

  pub request_agrees : (heard : Heard) (first : ℕ) → opens_reply first ≡ false
      → Agrees triple (request_at reg heard first) (λ x used. SpellsRequest reg heard x.0 (first ∷ used) x.1)
  unfolding request_at
  request_agrees heard first is =
      weaken triple
      (bind_agrees pair triple _ (opening_agrees first is) (λ o. bind_agrees triple triple _ (target_agrees reg named o heard) (λ (target : Target × Heard).
      judged_agrees triple NotInterface (interface_of target.0.kind) _ (λ face found. asked_agrees o face target.0 target.1 (interface_is target.0.kind face found)))))
      (λ x used t.
      let behind = t.5 in
      let last = behind.5 in
      record {
        opening = t.0;
        target = behind.0.0;
        between = behind.0.1;
        p = first ∷ t.1;
        q = behind.1;
        r = behind.2;
        whole = ap (λ z. first ∷ z) (t.3 ∙ ap (λ z. t.1 ++ z) behind.3);
        opens = t.4;
        targets = behind.4;
        asks = last.2;
      })
      (λ x used h.
      let s = spelled_opening h.opening h.p h.opens in
      let face = asked_face h.opening h.target h.between x.0 h.r x.1 h.asks in
      let whole = h.whole ∙ ap (λ z. z ++ (h.q ++ h.r)) s.whole in
      let one : s.first ≡ first = cc (whole) in
      let split : used ≡ s.used ++ (h.q ++ h.r) = cc (whole) in
      let opens : SpellsOpening h.opening (first ∷ s.used) = subst (SpellsOpening h.opening) (s.whole ∙ ap (λ z. z ∷ s.used) one) h.opens in
      (h.opening, s.used, h.q ++ h.r, split, opens, ((h.target, h.between), h.q, h.r, refl, h.targets, (face.0, face.1, h.asks))))
