use Rattle.rd_store.proofs.Common.{ℕ, ◌∙◌, Some, ap, option_map, slice_index_or, sym, Heading, heading_of}
use Rattle.rd_store.proofs.register.Register.find.Goals as goal

pub returns-in-Ok : goal.returns-in-Ok
returns-in-Ok c images is =
    let there = c.as_slice-entries.ensures ∙ is in
    let d : ℕ × Heading = (c.args.acc, c.heading_in.result) in
    ap Some (c.heading_in.ensures d) ∙ ap (λ l. Some (slice_index_or l c.in-Ok.at d).1) there ∙ sym (c.in-Ok.ensures.place images there d)

pub returns-in-Err : goal.returns-in-Err
returns-in-Err c images is = let there = c.as_slice-entries.ensures ∙ is in sym (ap (option_map heading_of) (c.in-Err.ensures.place images there).0)
