-- Messages are read as they are spelled.
use Rattle.std.proofs.Common.{◌≡◌, ℕ, true, false, List, [], ◌∷◌, ◌++◌, refl, sym, ap, subst, ◌∙◌, ◌⊎◌, inl, inr}
use Rattle.std.specs.List.{list_all}
use Rattle.uno_model.specs.Entities.{Entity}
use Rattle.uno_model.specs.Sound.{is_named}
use Rattle.urp_model.specs.Agreement.{Agrees, pair, triple}
use Rattle.urp_model.proofs.Agreeing.{weaken, choice_agrees, bind_agrees}
use Rattle.urp_model.proofs.PartLaws.{byte_agrees}
use Rattle.message_model.specs.Calls.{Waits}
use Rattle.message_model.specs.Headers.{Heard}
use Rattle.message_model.specs.Messages.{Message}
use Rattle.message_model.specs.ReadingMessages.{message_at, opens_reply}
use Rattle.message_model.specs.SpellingMessages.{SpellsRequest, SpellsReply, SpellsMessage}
use Rattle.message_model.proofs.OpeningReadingLaws.{marked_reply, spelled_opening}
use Rattle.message_model.proofs.ReplyReadingLaws.{reply_agrees}
use Rattle.message_model.proofs.RequestReadingLaws.{request_agrees}

module _ (reg : List Entity) (waits : Waits) (heard : Heard) where
  -- what stands behind a first byte, by its test
  abbrev pub IsBehind : ℕ → Message × Heard → List ℕ → Type 0
  IsBehind first x used =
      ((opens_reply first ≡ true) × SpellsReply reg waits heard x.0 (first ∷ used) x.1)
      ⊎ ((opens_reply first ≡ false) × SpellsRequest reg heard x.0 (first ∷ used) x.1)

  -- a first byte and what stands behind it
  pub record Begun (x : Message × Heard) (b : List ℕ) : Type 0 where
    pub first : ℕ
    pub used : List ℕ
    pub whole : b ≡ first ∷ used
    pub behind : IsBehind first x used

  reply_begun : (x : Message × Heard) (b : List ℕ) → SpellsReply reg waits heard x.0 b x.1 → Begun x b
  reply_begun x b h = record {
    first = h.flags;
    used = h.p ++ h.q;
    whole = h.whole;
    behind = inl (marked_reply h.flags h.marked.0 h.marked.1, subst (λ z. SpellsReply reg waits heard x.0 z x.1) h.whole h);
  }

  request_begun : (x : Message × Heard) (b : List ℕ) → SpellsRequest reg heard x.0 b x.1 → Begun x b
  request_begun x b h =
      let s = spelled_opening h.opening h.p h.opens in
      let whole : b ≡ s.first ∷ (s.used ++ (h.q ++ h.r)) = h.whole ∙ ap (λ z. z ++ (h.q ++ h.r)) s.whole in
      record { first = s.first; used = s.used ++ (h.q ++ h.r); whole = whole; behind = inr (s.request, subst (λ z. SpellsRequest reg heard x.0 z x.1) whole h) }

  begun : (x : Message × Heard) (b : List ℕ) → SpellsMessage reg waits heard x.0 b x.1 → Begun x b
  begun x b h = elim h [ inl asked ↦ request_begun x b asked | inr answered ↦ reply_begun x b answered ]

  pub message_agrees : list_all is_named reg ≡ true
      → Agrees triple (message_at reg waits heard) (λ (x : Message × Heard) used. SpellsMessage reg waits heard x.0 used x.1)
  unfolding message_at
  message_agrees named =
      weaken triple
      (bind_agrees pair triple _ byte_agrees (λ first. choice_agrees triple (opens_reply first) (λ is. reply_agrees reg named waits heard first is)
      (λ is. request_agrees reg named heard first is)))
      (λ x used t.
      let whole : t.0 ∷ t.2 ≡ used = sym (t.3 ∙ ap (λ z. z ++ t.2) t.4) in
      subst (λ b. SpellsMessage reg waits heard x.0 b x.1) whole (elim t.5 [ inl answered ↦ inr answered.1 | inr asked ↦ inl asked.1 ]))
      (λ x used h.
      let b = begun x used h in
      (b.first, b.first ∷ [], b.used, b.whole, refl, b.behind))
