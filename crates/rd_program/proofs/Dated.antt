-- Once the day is known no refusal is of the clock.
use Rattle.std.proofs.Common.{◌≡◌, ◌≢◌, ◌∙◌, Bool, inl, inr, sym}
use Rattle.rd_commands.specs.Refusals.{IsDeviceOrMemory}
use Rattle.rd_commands.specs.declared.refusal.Refusal.{Refusal}
use Rattle.rd_commands.specs.declared.refusal.Refusal.TheVariants.{Clock, Device, NoMemory}
use Rattle.rd_program.specs.Asking.{IsReplyRefusal}
use Rattle.rd_program.specs.Showing.{IsShowRefusal}

pub of_memory : (refusal : Refusal) → refusal ≡ NoMemory → refusal ≢ Clock
of_memory refusal is clock = cc (sym is ∙ clock)

pub of_write : (refusal : Refusal) → refusal ≡ Device → refusal ≢ Clock
of_write refusal is clock = cc (sym is ∙ clock)

pub of_show : (named : Bool) (refusal : Refusal) → IsShowRefusal named refusal → refusal ≢ Clock
of_show named refusal (inl is) clock = cc (sym is ∙ clock)
of_show named refusal (inr (inl is)) clock = cc (sym is ∙ clock)
of_show named refusal (inr (inr (inl is))) clock = cc (sym is.0 ∙ clock)
of_show named refusal (inr (inr (inr is))) clock = cc (sym is ∙ clock)

pub of_reply : (refusal : Refusal) → IsReplyRefusal refusal → refusal ≢ Clock
of_reply refusal (inl is) clock = cc (sym is ∙ clock)
of_reply refusal (inr (inl is)) clock = cc (sym is ∙ clock)
of_reply refusal (inr (inr (inl is))) clock = cc (sym is ∙ clock)
of_reply refusal (inr (inr (inr (inl is)))) clock = cc (sym is ∙ clock)
of_reply refusal (inr (inr (inr (inr (inl is))))) clock = cc (sym is ∙ clock)
of_reply refusal (inr (inr (inr (inr (inr is))))) clock = cc (sym is ∙ clock)

pub of_device : (refusal : Refusal) → IsDeviceOrMemory refusal → refusal ≢ Clock
of_device Clock device is = device
of_device refusal device is = cc is
