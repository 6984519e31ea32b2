-- What a desk is asked once, and what is told of it.
use Rattle.std.proofs.Common.{◌≡◌, ◌≢◌, ◌∙◌, ℕ, List, Option, arith, inl, inr, subst, sym}
use Rattle.std.specs.Io.KnownBytes.{Keeps}
use Rattle.rd_program.specs.Asking.{IsAskRefusal, IsReplyRefusal, RefusesOneQuestion}
use Rattle.rd_program.specs.Importing.{IsRowRefusal}
use Rattle.rd_commands.specs.Refusals.{status_of}
use Rattle.rd_program.specs.Serving.{IsClockRefusal, IsOpenRefusal}
use Rattle.rd_commands.specs.declared.refusal.Refusal.{Refusal}
use Rattle.rd_commands.specs.declared.refusal.Refusal.TheVariants.{Clock, Device, NoAccession, NoMemory, StaffOnly, Store, UnknownKey}
use Rattle.rd_program.proofs.LeftStores.{opening_is_3}

-- ---- why it is refused

known_as : (refusal known : Refusal) → refusal ≡ known → status_of known ≢ 2 → status_of refusal ≢ 2
known_as refusal known is other = subst (λ r. status_of r ≢ 2) (sym is) other

of_row : (refusal : Refusal) → IsRowRefusal refusal → status_of refusal ≢ 2
of_row refusal (inl is) = known_as refusal Device is (λ two. omega (arith, two))
of_row refusal (inr (inl is)) = known_as refusal NoMemory is (λ two. omega (arith, two))
of_row refusal (inr (inr is)) = known_as refusal Store is (λ two. omega (arith, two))

of_reply : (refusal : Refusal) → IsReplyRefusal refusal → status_of refusal ≢ 2
of_reply refusal (inl is) = known_as refusal UnknownKey is (λ two. omega (arith, two))
of_reply refusal (inr (inl is)) = known_as refusal StaffOnly is (λ two. omega (arith, two))
of_reply refusal (inr (inr (inl is))) = known_as refusal NoAccession is (λ two. omega (arith, two))
of_reply refusal (inr (inr (inr row))) = of_row refusal row

of_clock : (refusal : Refusal) → IsClockRefusal refusal → status_of refusal ≢ 2
of_clock refusal (inl is) = known_as refusal Clock is (λ two. omega (arith, two))
of_clock refusal (inr is) = known_as refusal NoMemory is (λ two. omega (arith, two))

of_open : (refusal : Refusal) → IsOpenRefusal refusal → status_of refusal ≢ 2
of_open refusal opening two = let three : 2 ≡ 3 = sym two ∙ opening_is_3 refusal opening in omega (arith, three)

of_ask : (refusal : Refusal) → IsAskRefusal refusal → status_of refusal ≢ 2
of_ask refusal (inl opening) = of_open refusal opening
of_ask refusal (inr (inl clock)) = of_clock refusal clock
of_ask refusal (inr (inr reply)) = of_reply refusal reply

-- no refusal of a desk that is asked once is one of the words
pub once_never : (refusal : Refusal) (old new : Option (List ℕ)) → RefusesOneQuestion old new refusal → status_of refusal ≢ 2
once_never refusal old new (inl asked) = of_ask refusal asked.0
once_never refusal old new (inr is) = known_as refusal Device is (λ two. omega (arith, two))

-- and at status 1 nothing was written
pub once_kept : (refusal : Refusal) (old new : Option (List ℕ)) → RefusesOneQuestion old new refusal → status_of refusal ≡ 1 → Keeps old new
once_kept refusal old new (inl asked) one = asked.1
once_kept refusal old new (inr is) one = absurd (let three : status_of Device ≡ 1 = subst (λ r. status_of r ≡ 1) is one in omega (arith, three))
