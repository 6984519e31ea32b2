-- What a visit leaves, from what was read and sent.
use Rattle.std.proofs.Common.{◌≡◌, ℕ, List, Option, None, Some, Result, Ok, Err, IfSome, subst}
use Rattle.std.specs.Io.KnownBytes.{Appends}
use Rattle.rd_messages.specs.Sent.{SendsPart}
use Rattle.rd_http.specs.Visits.{Visits}
use Rattle.rd_http.specs.declared.visit.WireFault.{WireFault}
use Rattle.rd_http.specs.declared.visit.WireFault.TheVariants.{Clock, Read, Write}

module _ {State : Type 0} (Reads : List ℕ → Type 0) (Answers : List ℕ → List ℕ → Type 0) (old new : State) (text : List ℕ)
    (answers : (stream : List ℕ) → Reads stream → Answers stream text) where
  -- the text went out whole
  pub sent_whole : (known before mid after : Option (List ℕ)) → IfSome known Reads → mid ≡ before → Appends mid after text
      → IfSome known (λ stream. Visits (Answers stream) old new before after (Ok tt))
  sent_whole None before mid after reads same sent = tt
  sent_whole (Some stream) before mid after reads same sent = (text, answers stream reads, subst (λ o. Appends o after text) same sent)

  -- a part of the text went out
  pub sent_cut : (known before mid after : Option (List ℕ)) → IfSome known Reads → mid ≡ before → SendsPart mid after text
      → IfSome known (λ stream. Visits (Answers stream) old new before after (Err Write))
  sent_cut None before mid after reads same sent = tt
  sent_cut (Some stream) before mid after reads same sent = (text, answers stream reads, subst (λ o. SendsPart o after text) same sent)

module _ {State : Type 0} (Answers Others : List ℕ → Type 0) (old new : State) (others : (text : List ℕ) → Answers text → Others text) where
  -- what follows from an answer follows of the text of a visit
  pub visits_then : (before after : Option (List ℕ)) (result : Result (Unit {0}) WireFault) → Visits Answers old new before after result
      → Visits Others old new before after result
  visits_then before after (Ok done) (text, is, sent) = (text, others text is, sent)
  visits_then before after (Err Write) (text, is, sent) = (text, others text is, sent)
  visits_then before after (Err Read) same = same
  visits_then before after (Err Clock) same = same
