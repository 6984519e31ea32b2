-- The lines of a run of visits.
use Rattle.std.proofs.Common.{◌≡◌, ℕ, List, Option, Result, Ok, Err, IfErr, OnOk, inl, inr, refl, subst, sym, ap, append-nil, ◌++◌, []}
use Rattle.std.proofs.KnownBytes.{Appends-kept, Appends-trans, Keeps-refl}
use Rattle.std.specs.Io.KnownBytes.{Appends}
use Rattle.rd_http.specs.declared.serve.Ended.{Ended}
use Rattle.rd_http.specs.declared.serve.Ended.TheVariants as ended
use Rattle.rd_commands.specs.Output.{AppendsPart}
use Rattle.rd_commands.specs.Refusals.{IsDeviceOrMemory, refusal_for}
use Rattle.rd_commands.specs.declared.files.MachineFault.{MachineFault}
use Rattle.rd_commands.specs.declared.files.MachineFault.TheVariants as machine_fault
use Rattle.rd_program.specs.Serving.{IsOpenRefusal, RefusesServe, RefusesToEnd, RefusesVisits, listening_at, serve_text, served_line}
use Rattle.rd_commands.specs.declared.refusal.Refusal.{Refusal}
use Rattle.rd_commands.specs.declared.refusal.Refusal.TheVariants.{Clock, Device, NoMemory, Store}
use Rattle.rd_commands.proofs.WriterLemmas.{none_written, part_after, part_of, whole_part}
use Rattle.rd_commands.specs.Serving.{Place}
use Rattle.rd_program.proofs.LeftStores.{of_opening}

-- where the desk was not opened nothing was written
pub not_opened : (refusal : Refusal) (place : Place) (count : ℕ) (o : Option (List ℕ)) → IsOpenRefusal refusal → RefusesServe refusal place count o o
not_opened refusal place count o opening = of_opening (λ r. RefusesServe r place count o o) refusal opening (Keeps-refl o, inl refl) (Keeps-refl o, inr (inl refl))
    (Keeps-refl o, inr (inr (inl refl))) (Keeps-refl o, inr (inr (inr (inl refl)))) (none_written o o (serve_text place count) (Keeps-refl o))

of_failure : (refusal : Refusal) (place : Place) (count : ℕ) (old new : Option (List ℕ)) → IsDeviceOrMemory refusal
    → AppendsPart old new (serve_text place count) → RefusesServe refusal place count old new
of_failure Device place count old new failure part = part
of_failure NoMemory place count old new failure part = part
of_failure refusal place count old new failure part = absurd failure

-- the place is not opened, or the first line is cut
pub visits_failed : (refusal : Refusal) (place : Place) (old new : Option (List ℕ)) → IsDeviceOrMemory refusal → AppendsPart old new (listening_at place)
    → RefusesVisits place old new refusal
visits_failed Device place old new failure part = (failure, part)
visits_failed NoMemory place old new failure part = (failure, part)
visits_failed refusal place old new failure part = absurd failure

pub place_failed : (fault : MachineFault) (refusal : Refusal) (place : Place) (o : Option (List ℕ)) → refusal ≡ refusal_for Device fault → RefusesVisits place o o refusal
place_failed machine_fault.Failed refusal place o is = subst (RefusesVisits place o o) (sym is) (tt, none_written o o (listening_at place) (Keeps-refl o))
place_failed machine_fault.NoMemory refusal place o is = subst (RefusesVisits place o o) (sym is) (tt, none_written o o (listening_at place) (Keeps-refl o))

-- where no visits were served, nothing is written, or a part of both lines
pub not_listening : (refusal : Refusal) (place : Place) (count : ℕ) (old new : Option (List ℕ)) → RefusesVisits place old new refusal → RefusesServe refusal place count old new
not_listening Clock place count old new kept = inl kept
not_listening Store place count old new kept = (kept, inr (inr (inr (inl refl))))
not_listening refusal place count old new failed =
    of_failure refusal place count old new failed.0 (part_of old new (serve_text place count) (listening_at place) (served_line count) refl failed.1)

-- after the first line
not_ended : (how : Ended) (refusal : Refusal) (place : Place) (visits count : ℕ) (old mid new : Option (List ℕ)) → (how ≡ ended.Count → visits ≡ count)
    → Appends old mid (listening_at place) → RefusesToEnd how visits mid new refusal → RefusesServe refusal place count old new
not_ended ended.Count refusal place visits count old mid new whole written refused =
    let part : AppendsPart mid new (served_line count) = subst (λ n. AppendsPart mid new (served_line n)) (whole refl) refused.1 in
    of_failure refusal place count old new refused.0
    (part_after old mid new (serve_text place count) (listening_at place) (served_line count) [] (ap (λ l. listening_at place ++ l) (sym (append-nil (served_line count)))) written part)
not_ended ended.Clock refusal place visits count old mid new whole written refused =
    subst (λ r. RefusesServe r place count old new) (sym refused.0) (inr (Appends-kept old mid new (listening_at place) written refused.1))
not_ended ended.Shut refusal place visits count old mid new whole written refused =
    subst (λ r. RefusesServe r place count old new) (sym refused.0)
    (part_of old new (serve_text place count) (listening_at place) (served_line count) refl (whole_part old mid new (listening_at place) written refused.1))

pub ends : {T : Type 0} (r : Result T Refusal) (how : Ended) (place : Place) (visits count : ℕ) (old mid new : Option (List ℕ)) → (how ≡ ended.Count → visits ≡ count)
    → Appends old mid (listening_at place) → IfErr r (RefusesToEnd how visits mid new) → IfErr r (λ refusal. RefusesServe refusal place count old new)
ends (Ok value) how place visits count old mid new whole written refused = tt
ends (Err refusal) how place visits count old mid new whole written refused = not_ended how refusal place visits count old mid new whole written refused

-- both lines
pub both_lines : {T E : Type 0} (r : Result T E) (how : Ended) (place : Place) (visits count : ℕ) (old mid new : Option (List ℕ)) → (how ≡ ended.Count → visits ≡ count)
    → Appends old mid (listening_at place) → OnOk r (how ≡ ended.Count) → OnOk r (Appends mid new (served_line visits))
    → OnOk r (Appends old new (serve_text place count))
both_lines (Ok value) how place visits count old mid new whole written counted last =
    Appends-trans old mid new (listening_at place) (served_line count) written (subst (λ n. Appends mid new (served_line n)) (whole counted) last)
both_lines (Err error) how place visits count old mid new whole written counted last = tt
