use Rattle.std.proofs.Common.{◌∙◌, ap, arith, inl, inr, refl, subst, sym}
use Rattle.std.specs.Io.KnownBytes.{Keeps}
use Rattle.std.proofs.KnownBytes.{Keeps-refl}
use Rattle.std.proofs.lemmas.Result.{IfOk-weaker}
use Rattle.rd_commands.proofs.ReadLimits.{reads_within}
use Rattle.rd_program.specs.Completing.{Completes}
use Rattle.rd_program.specs.Leaves.{GivesBack}
use Rattle.rd_program.specs.Does.{DoesParsed}
use Rattle.rd_program.proofs.PerformLemmas.{other_input}
use Rattle.rd_program.proofs.CompletingLemmas.{early_never, kept_alike, reads_nothing_more, whole_alike}
use Rattle.rd_program.proofs.dispatch.perform_completed.Goals as goal

-- ---- what is whole

pub perform-requires : goal.perform-requires
perform-requires g c = record { accession = (whole_alike _ _ c.args.parsed c.completed-ask.result (c.completed-ask.ensures _ _ c.in-Ok.ensures.read)).within c.requires.accession }

pub returns-in-Ok-clause-kept : goal.returns-in-Ok-clause-kept
returns-in-Ok-clause-kept g c =
    let alike = whole_alike _ _ c.args.parsed c.completed-ask.result (c.completed-ask.ensures _ _ c.in-Ok.ensures.read) in
    kept_alike (Keeps (g.W.Write.contents c.args.output.now) (g.W.Write.contents c.perform.new.output)) c.perform.result c.completed-ask.result c.args.parsed.ask alike.rows alike.files
    c.perform.ensures.kept

pub returns-in-Ok-clause-in_part : goal.returns-in-Ok-clause-in_part
returns-in-Ok-clause-in_part g c =
    let alike = whole_alike _ _ c.args.parsed c.completed-ask.result (c.completed-ask.ensures _ _ c.in-Ok.ensures.read) in
    IfOk-weaker c.perform.result _ _ (λ done tells part. alike.output (tells part)) c.perform.ensures.in_part

pub returns-in-Ok-clause-flushed : goal.returns-in-Ok-clause-flushed
returns-in-Ok-clause-flushed g c = c.perform.ensures.flushed

pub returns-in-Ok-clause-back : goal.returns-in-Ok-clause-back
returns-in-Ok-clause-back g c =
    subst (λ machine. GivesBack (g.M.Machine.seen machine).shows (g.M.Machine.seen machine).left (g.M.Machine.seen c.perform.new.machine).left) c.read_operands.ensures.same c.perform.ensures.back

pub returns-in-Ok-clause-limit : goal.returns-in-Ok-clause-limit
returns-in-Ok-clause-limit g c =
    let alike = whole_alike _ _ c.args.parsed c.completed-ask.result (c.completed-ask.ensures _ _ c.in-Ok.ensures.read) in
    reads_nothing_more _ _ _ _ c.read_operands.ensures.limit c.perform.ensures.limit alike.read c.requires.of_store

pub returns-in-Ok-clause-completed : goal.returns-in-Ok-clause-completed
returns-in-Ok-clause-completed g c =
    let alike = whole_alike _ _ c.args.parsed c.completed-ask.result (c.completed-ask.ensures _ _ c.in-Ok.ensures.read) in
    inl (subst (λ machine. DoesParsed g.M.Disk.Store g.M.Door.Door.so_far g.M.Door.Door.coming (g.M.Machine.seen machine) (g.M.Machine.seen c.perform.new.machine)
    (record { input = g.R.Read.remaining c.args.input.now; out = g.W.Write.contents c.args.output.now; written = g.W.Write.contents c.perform.new.output }) c.args.parsed c.perform.result)
    c.read_operands.ensures.same (record {
      command = c.completed-ask.result;
      whole = subst (λ machine. Completes (g.M.Machine.seen machine).files (g.R.Read.remaining c.args.input.now) c.args.parsed c.completed-ask.result) (sym c.read_operands.ensures.same)
          (c.completed-ask.ensures _ _ c.in-Ok.ensures.read);
      does = other_input g.M.Disk.Store g.M.Door.Door.so_far g.M.Door.Door.coming (g.M.Machine.seen c.read_operands.new.machine) (g.M.Machine.seen c.perform.new.machine)
          (g.R.Read.remaining c.read_operands.new.input) (g.R.Read.remaining c.args.input.now) (g.W.Write.contents c.args.output.now) (g.W.Write.contents c.perform.new.output)
          c.completed-ask.result c.perform.result (alike.read ∙ c.requires.of_store) c.perform.ensures.does;
    }))

-- ---- a file that is not read

pub returns-in-Err-clause-never : goal.returns-in-Err-clause-never
returns-in-Err-clause-never g c = early_never c.in-Err.refused c.in-Err.ensures.refused

pub returns-in-Err-clause-kept : goal.returns-in-Err-clause-kept
returns-in-Err-clause-kept g c = λ one. inl (Keeps-refl _)

pub returns-in-Err-clause-back : goal.returns-in-Err-clause-back
returns-in-Err-clause-back g c =
    subst (λ machine. GivesBack (g.M.Machine.seen c.args.machine.now).shows (g.M.Machine.seen c.args.machine.now).left (g.M.Machine.seen machine).left) (sym c.read_operands.ensures.same) (λ shows had. had)

pub returns-in-Err-clause-limit : goal.returns-in-Err-clause-limit
returns-in-Err-clause-limit g c = reads_within _ _ _ _ (omega arith) c.read_operands.ensures.limit

pub returns-in-Err-clause-completed : goal.returns-in-Err-clause-completed
returns-in-Err-clause-completed g c = inr (record {
  refused = refl;
  why = c.in-Err.ensures.refused;
  same = ap g.M.Machine.seen c.read_operands.ensures.same;
  kept = Keeps-refl _;
})
