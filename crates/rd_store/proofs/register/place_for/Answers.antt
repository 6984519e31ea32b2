use Rattle.rd_store.proofs.Common.{◌∙◌, ap, entry_for, heading_of}
use Rattle.std.specs.List.{insert as insert_at}
use Rattle.rd_store.proofs.Registers.{nowhere}
use Rattle.rd_store.proofs.register.place_for.Goals as goal

pub returns-in-Ok-clause-place : goal.returns-in-Ok-clause-place
returns-in-Ok-clause-place c images image is free = absurd (nowhere images c.args.acc _ free (c.in-Ok.ensures.place images is (0, heading_of image)))

pub returns-in-Err-clause-place : goal.returns-in-Err-clause-place
returns-in-Err-clause-place c images image is free = ap (λ l. insert_at l c.in-Err.at (entry_for (c.args.acc, image))) is ∙ (c.in-Err.ensures.place images is).1 image
