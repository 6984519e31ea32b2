use Rattle.std.proofs.Common.{◌≡◌, ◌∙◌, Err, Ok, arith, codes, inl, inr, refl, subst, sym}
use Rattle.std.specs.Prelude.{⊤}
use Rattle.rd_commands.specs.Input.{ReadsUpTo}
use Rattle.rd_commands.specs.Refusals.{status_of}
use Rattle.rd_commands.specs.RefusalLines.{Tells}
use Rattle.rd_commands.specs.Versions.{RefusesVersion}
use Rattle.rd_commands.specs.declared.refusal.Refusal.TheVariants.{NoMemory}
use Rattle.rd_commands.proofs.HelpLine.{help_not_taken, help_of_desk}
use Rattle.rd_commands.proofs.Places.{no_other_mistake}
use Rattle.rd_program.proofs.FileLemmas.{help_refused}
use Rattle.rd_commands.proofs.GetterLemmas.{help_asked, no_fault_in}
use Rattle.std.proofs.KnownBytes.{Keeps-refl}
use Rattle.std.specs.Io.KnownBytes.{Appends}
use Rattle.rd_program.proofs.ImportLemmas.{one_is_some, rows_tell}
use Rattle.rd_commands.proofs.RunLemmas.{not_done, reads_no_input, reads_of_kind, tells}
use Rattle.rd_commands.proofs.ReadLimits.{reads_none}
use Rattle.rd_commands.proofs.VersionLine.{version_asked, version_no_help, version_not_taken}
use Rattle.rd_program.proofs.Plain.{extraction_taken, kind_plain, store_plain}
use Rattle.rd_commands.specs.Parsed.{TellsAll}
use Rattle.rd_program.proofs.CompletingLemmas.{reads_no_more}
use Rattle.rd_program.proofs.WhyLemmas.{ends_by, is_parsed, none_so, some_so}
use Rattle.rd_program.proofs.dispatch.run.Goals as goal

-- ---- the call

pub perform_parsed-requires-clause-of_store : goal.perform_parsed-requires-clause-of_store
perform_parsed-requires-clause-of_store g c = λ apart. reads_no_more _ c.in-Ok.parsed c.in-Ok.ensures.all apart

-- ---- the words

pub returns-in-Ok-perform_parsed-clause-by_words : goal.returns-in-Ok-perform_parsed-clause-by_words
returns-in-Ok-perform_parsed-clause-by_words g c = record {
  command = λ zero. inl c.in-Ok.ensures.taken;
  refused_command = λ one. c.in-Ok.ensures.taken;
  zone = λ well. c.in-Ok.ensures.zone;
  no_rule = λ none. absurd (none c.in-Ok.ensures.zone);
  no_rule_said = λ none named placed fit. absurd (none c.in-Ok.ensures.zone);
  together = λ well. c.in-Ok.ensures.together;
  apart = λ none. absurd (none c.in-Ok.ensures.together);
  named = λ well. c.in-Ok.ensures.shown;
  none_named = λ none. absurd (none c.in-Ok.ensures.shown);
  place = λ well. c.in-Ok.ensures.place;
  no_place = λ none. absurd (none c.in-Ok.ensures.place);
  mistake = λ none. absurd (none c.in-Ok.ensures.taken);
  usage = λ two. absurd (omega (arith, c.status.ensures.most, two));
}

pub returns-in-Err-perform_parsed-clause-by_words : goal.returns-in-Err-perform_parsed-clause-by_words
returns-in-Err-perform_parsed-clause-by_words g c = record {
  command = λ zero. absurd (not_done c.in-Err-perform_parsed.refused (sym c.tell_and_keep.ensures.status ∙ zero));
  refused_command = λ one. c.in-Ok.ensures.taken;
  zone = λ well. c.in-Ok.ensures.zone;
  no_rule = λ none. absurd (none c.in-Ok.ensures.zone);
  no_rule_said = λ none named placed fit. absurd (none c.in-Ok.ensures.zone);
  together = λ well. c.in-Ok.ensures.together;
  apart = λ none. absurd (none c.in-Ok.ensures.together);
  named = λ well. c.in-Ok.ensures.shown;
  none_named = λ none. absurd (none c.in-Ok.ensures.shown);
  place = λ well. c.in-Ok.ensures.place;
  no_place = λ none. absurd (none c.in-Ok.ensures.place);
  mistake = λ none. absurd (none c.in-Ok.ensures.taken);
  usage = λ two. absurd (c.in-Err-perform_parsed.ensures.never (sym c.tell_and_keep.ensures.status ∙ two));
}

pub returns-in-Err-clause-by_words : goal.returns-in-Err-clause-by_words
returns-in-Err-clause-by_words g c = record {
  command = λ zero. inr (elim (c.tell_unread.ensures.shown zero) [
    | inl help ↦ inl (help_asked _ c.in-Err.unread help.0 c.in-Err.ensures.mistake_in, help.1)
    | inr version ↦ inr (version_asked _ c.in-Err.unread version.0 c.in-Err.ensures.mistake_in, version.1)
  ]);
  refused_command = λ one. absurd (c.tell_unread.ensures.not_refused one);
  zone = λ well name rows enters clocks.
      let zero : c.tell_unread.result ≡ 0 = omega (arith, c.tell_unread.ensures.not_refused, well) in
      absurd (elim (c.tell_unread.ensures.shown zero) as (λ _. ⊥) [
        | inl help ↦ no_fault_in _ name rows _ enters (help_asked _ c.in-Err.unread help.0 c.in-Err.ensures.mistake_in)
        | inr version ↦ no_fault_in _ name rows _ enters (version_asked _ c.in-Err.unread version.0 c.in-Err.ensures.mistake_in)
      ]);
  no_rule = λ none. elim (c.in-Err.ensures.no_rule none) [
    | inl usage ↦ inl (c.tell_unread.ensures.mistaken usage)
    | inr memory ↦ inr (tells (λ refusal. refusal ≡ NoMemory) NoMemory _ _ _ refl (c.tell_unread.ensures.memory memory).0 (c.tell_unread.ensures.no_memory memory))
  ];
  no_rule_said = λ none named placed fit. elim (c.in-Err.ensures.no_rule none) [
    | inl mistake ↦
        let usage = no_other_mistake _ _ _ c.in-Err.unread mistake c.in-Err.ensures.day c.in-Err.ensures.placeless c.in-Err.ensures.mixed named placed fit in
        inl (c.tell_unread.ensures.mistaken (inl usage), c.tell_unread.ensures.mistake_written usage)
    | inr memory ↦ inr (tells (λ refusal. refusal ≡ NoMemory) NoMemory _ _ _ refl (c.tell_unread.ensures.memory memory).0 (c.tell_unread.ensures.no_memory memory))
  ];
  together = λ well name rows enters.
      let zero : c.tell_unread.result ≡ 0 = omega (arith, c.tell_unread.ensures.not_refused, well) in
      absurd (elim (c.tell_unread.ensures.shown zero) as (λ _. ⊥) [
        | inl help ↦ no_fault_in _ name rows _ enters (help_asked _ c.in-Err.unread help.0 c.in-Err.ensures.mistake_in)
        | inr version ↦ no_fault_in _ name rows _ enters (version_asked _ c.in-Err.unread version.0 c.in-Err.ensures.mistake_in)
      ]);
  apart = λ none. elim (c.in-Err.ensures.apart none) [
    | inl mistake ↦ inl (c.tell_unread.ensures.mistaken mistake)
    | inr memory ↦ inr (tells (λ refusal. refusal ≡ NoMemory) NoMemory _ _ _ refl (c.tell_unread.ensures.memory memory).0 (c.tell_unread.ensures.no_memory memory))
  ];
  named = λ well rows enters.
      let zero : c.tell_unread.result ≡ 0 = omega (arith, c.tell_unread.ensures.not_refused, well) in
      absurd (elim (c.tell_unread.ensures.shown zero) as (λ _. ⊥) [
        | inl help ↦ no_fault_in _ (codes "show") rows _ enters (help_asked _ c.in-Err.unread help.0 c.in-Err.ensures.mistake_in)
        | inr version ↦ no_fault_in _ (codes "show") rows _ enters (version_asked _ c.in-Err.unread version.0 c.in-Err.ensures.mistake_in)
      ]);
  none_named = λ none. elim (c.in-Err.ensures.none_shown none) [
    | inl day ↦ inl (c.tell_unread.ensures.mistaken (inr (inl day)), c.tell_unread.ensures.day_mistake day)
    | inr memory ↦ inr (tells (λ refusal. refusal ≡ NoMemory) NoMemory _ _ _ refl (c.tell_unread.ensures.memory memory).0 (c.tell_unread.ensures.no_memory memory))
  ];
  place = λ well rows enters.
      let zero : c.tell_unread.result ≡ 0 = omega (arith, c.tell_unread.ensures.not_refused, well) in
      absurd (elim (c.tell_unread.ensures.shown zero) as (λ _. ⊥) [
        | inl help ↦ no_fault_in _ (codes "serve") rows _ enters (help_asked _ c.in-Err.unread help.0 c.in-Err.ensures.mistake_in)
        | inr version ↦ no_fault_in _ (codes "serve") rows _ enters (version_asked _ c.in-Err.unread version.0 c.in-Err.ensures.mistake_in)
      ]);
  no_place = λ none. elim (c.in-Err.ensures.no_place none) [
    | inl place ↦ inl (c.tell_unread.ensures.mistaken (inr (inr (inl place))), c.tell_unread.ensures.place_mistake place)
    | inr memory ↦ inr (tells (λ refusal. refusal ≡ NoMemory) NoMemory _ _ _ refl (c.tell_unread.ensures.memory memory).0 (c.tell_unread.ensures.no_memory memory))
  ];
  mistake = λ none. elim c.tell_unread.ensures.one_of [
    | inl two ↦ inl two
    | inr other ↦ elim other [
      | inl help ↦ inr (inl (help_asked _ c.in-Err.unread help c.in-Err.ensures.mistake_in))
      | inr more ↦ elim more [
        | inl version ↦ inr (inr (inl (version_asked _ c.in-Err.unread version c.in-Err.ensures.mistake_in)))
        | inr memory ↦ inr (inr (inr (tells (λ refusal. refusal ≡ NoMemory) NoMemory _ _ _ refl (c.tell_unread.ensures.memory memory).0 (c.tell_unread.ensures.no_memory memory))))
      ]
    ]
  ];
  usage = λ two command.
      let memory = c.tell_unread.ensures.memory (c.in-Err.ensures.unread command) in
      let three : c.tell_unread.result ≡ 3 = memory.0 in omega arith;
}

-- ---- what is written at each status

pub returns-in-Ok-perform_parsed-clause-by_status : goal.returns-in-Ok-perform_parsed-clause-by_status
returns-in-Ok-perform_parsed-clause-by_status g c = record {
  silent = λ zero. Keeps-refl _;
  names_failure = λ three. absurd (omega (arith, c.status.ensures.most, three));
  names_refusal = λ one.
      inr (Keeps-refl _, c.in-Ok.ensures.written_on_output (c.in-Ok-perform_parsed.ensures.in_part (c.status.ensures.in_part (one_is_some one))), c.in-Ok-perform_parsed.ensures.flushed);
  is_flushed = λ zero. c.in-Ok-perform_parsed.ensures.flushed;
  refused = λ one.
      inr (inl (c.in-Ok.ensures.written_on_output (c.in-Ok-perform_parsed.ensures.in_part (c.status.ensures.in_part (one_is_some one)))));
  usage_keeps = λ two. absurd (omega (arith, c.status.ensures.most, two));
}

pub returns-in-Err-perform_parsed-clause-by_status : goal.returns-in-Err-perform_parsed-clause-by_status
returns-in-Err-perform_parsed-clause-by_status g c = record {
  silent = λ zero. absurd (not_done c.in-Err-perform_parsed.refused (sym c.tell_and_keep.ensures.status ∙ zero));
  names_failure = λ three. tells (λ _. ⊤) c.in-Err-perform_parsed.refused _ _ _ tt c.tell_and_keep.ensures.status c.tell_and_keep.ensures.written;
  names_refusal = λ one.
      inl (tells (λ _. ⊤) c.in-Err-perform_parsed.refused _ _ _ tt c.tell_and_keep.ensures.status c.tell_and_keep.ensures.written);
  is_flushed = λ zero. absurd (not_done c.in-Err-perform_parsed.refused (sym c.tell_and_keep.ensures.status ∙ zero));
  refused = λ one.
      elim (c.in-Err-perform_parsed.ensures.kept (sym c.tell_and_keep.ensures.status ∙ one)) [
        | inl kept ↦ inl kept
        | inr (inl rows) ↦ inr (inl (c.in-Ok.ensures.written_on_output (rows_tell c.in-Ok.parsed.ask rows)))
        | inr (inr files) ↦ inr (inr (extraction_taken _ c.in-Ok.parsed files c.in-Ok.ensures.all))
      ];
  usage_keeps = λ two. absurd (c.in-Err-perform_parsed.ensures.never (sym c.tell_and_keep.ensures.status ∙ two));
}

pub returns-in-Err-clause-by_status : goal.returns-in-Err-clause-by_status
returns-in-Err-clause-by_status g c = record {
  silent = c.tell_unread.ensures.silent;
  names_failure = λ three.
      subst (λ s. Tells (λ _. ⊤) s (g.E.Write.contents c.args.errors.now) (g.E.Write.contents c.tell_unread.new.errors)) (sym three) (c.tell_unread.ensures.written three);
  names_refusal = λ one. absurd (c.tell_unread.ensures.not_refused one);
  is_flushed = λ zero. inr (c.tell_unread.ensures.flushed zero);
  refused = λ one. absurd (c.tell_unread.ensures.not_refused one);
  usage_keeps = c.tell_unread.ensures.usage;
}

-- ---- what is read

pub returns-in-Ok-perform_parsed-clause-reads : goal.returns-in-Ok-perform_parsed-clause-reads
returns-in-Ok-perform_parsed-clause-reads g c = record {
  limit = c.perform_parsed.ensures.limit;
  limit_of_store = λ asks.
      subst (λ most. ReadsUpTo most (g.R.Read.remaining c.args.input.now) (g.R.Read.remaining c.perform_parsed.new.input))
      (reads_no_input _ c.in-Ok.parsed.ask c.in-Ok.ensures.read asks) (c.perform_parsed.ensures.limit_plain (store_plain _ c.in-Ok.parsed.options c.in-Ok.ensures.options asks));
  limit_of_kind = λ kind asks.
      subst (λ most. ReadsUpTo most (g.R.Read.remaining c.args.input.now) (g.R.Read.remaining c.perform_parsed.new.input))
      (reads_of_kind _ c.in-Ok.parsed.ask kind c.in-Ok.ensures.read asks) (c.perform_parsed.ensures.limit_plain (kind_plain _ c.in-Ok.parsed c.in-Ok.ensures.all c.in-Ok.ensures.read kind asks));
}

pub returns-in-Err-perform_parsed-clause-reads : goal.returns-in-Err-perform_parsed-clause-reads
returns-in-Err-perform_parsed-clause-reads g c = record {
  limit = c.perform_parsed.ensures.limit;
  limit_of_store = λ asks.
      subst (λ most. ReadsUpTo most (g.R.Read.remaining c.args.input.now) (g.R.Read.remaining c.perform_parsed.new.input))
      (reads_no_input _ c.in-Ok.parsed.ask c.in-Ok.ensures.read asks) (c.perform_parsed.ensures.limit_plain (store_plain _ c.in-Ok.parsed.options c.in-Ok.ensures.options asks));
  limit_of_kind = λ kind asks.
      subst (λ most. ReadsUpTo most (g.R.Read.remaining c.args.input.now) (g.R.Read.remaining c.perform_parsed.new.input))
      (reads_of_kind _ c.in-Ok.parsed.ask kind c.in-Ok.ensures.read asks) (c.perform_parsed.ensures.limit_plain (kind_plain _ c.in-Ok.parsed c.in-Ok.ensures.all c.in-Ok.ensures.read kind asks));
}

pub returns-in-Err-clause-reads : goal.returns-in-Err-clause-reads
returns-in-Err-clause-reads g c = record {
  limit = reads_none _ _;
  limit_of_store = λ asks. reads_none _ _;
  limit_of_kind = λ kind asks. reads_none _ _;
}

-- ---- the machine

pub returns-in-Ok-perform_parsed-clause-keeps : goal.returns-in-Ok-perform_parsed-clause-keeps
returns-in-Ok-perform_parsed-clause-keeps g c = record {
  back = c.perform_parsed.ensures.back;
  untaken_untouched = λ none. absurd (none c.in-Ok.ensures.taken);
  usage_untouched = λ two. absurd (omega (arith, c.status.ensures.most, two));
}

pub returns-in-Err-perform_parsed-clause-keeps : goal.returns-in-Err-perform_parsed-clause-keeps
returns-in-Err-perform_parsed-clause-keeps g c = record {
  back = c.perform_parsed.ensures.back;
  untaken_untouched = λ none. absurd (none c.in-Ok.ensures.taken);
  usage_untouched = λ two. absurd (c.in-Err-perform_parsed.ensures.never (sym c.tell_and_keep.ensures.status ∙ two));
}

pub returns-in-Err-clause-keeps : goal.returns-in-Err-clause-keeps
returns-in-Err-clause-keeps g c = record {
  back = λ shows had. had;
  untaken_untouched = λ none. refl;
  usage_untouched = λ two. refl;
}

-- ---- help and the version

pub returns-in-Ok-perform_parsed-clause-itself : goal.returns-in-Ok-perform_parsed-clause-itself
returns-in-Ok-perform_parsed-clause-itself g c = record {
  help = λ zero asks. absurd (help_not_taken _ c.in-Ok.ensures.taken asks);
  help_due = λ some asks. absurd (help_not_taken _ c.in-Ok.ensures.taken asks);
  version = λ zero asks. absurd (version_not_taken _ c.in-Ok.ensures.taken asks);
  version_due = λ some asks. absurd (version_not_taken _ c.in-Ok.ensures.taken asks);
}

pub returns-in-Err-perform_parsed-clause-itself : goal.returns-in-Err-perform_parsed-clause-itself
returns-in-Err-perform_parsed-clause-itself g c = record {
  help = λ zero asks. absurd (help_not_taken _ c.in-Ok.ensures.taken asks);
  help_due = λ some asks. absurd (help_not_taken _ c.in-Ok.ensures.taken asks);
  version = λ zero asks. absurd (version_not_taken _ c.in-Ok.ensures.taken asks);
  version_due = λ some asks. absurd (version_not_taken _ c.in-Ok.ensures.taken asks);
}

pub returns-in-Err-clause-itself : goal.returns-in-Err-clause-itself
returns-in-Err-clause-itself g c = record {
  help = λ zero asks. elim (c.tell_unread.ensures.shown zero) [
    | inl help ↦
        subst (λ text. Appends (g.W.Write.contents c.args.output.now) (g.W.Write.contents c.tell_unread.new.output) text) (help_of_desk _ asks) help.1
    | inr version ↦ elim (c.in-Err.ensures.help asks) [
      | inl none ↦ let three : c.tell_unread.result ≡ 3 = (c.tell_unread.ensures.memory none).0 in absurd (omega arith)
      | inr help ↦ absurd (version_no_help c.in-Err.unread version.0 help)
    ]
  ];
  help_due = λ some asks. elim (c.in-Err.ensures.help asks) [
    | inl none ↦ let memory = c.tell_unread.ensures.memory none in
        tells _ NoMemory _ _ _ (memory.1, refl) memory.0 (c.tell_unread.ensures.no_memory none)
    | inr help ↦ let parsed = c.tell_unread.ensures.help help some in
        help_refused c.tell_unread.result (g.W.Write.contents c.args.output.now) (g.W.Write.contents c.tell_unread.new.output) (g.E.Write.contents c.args.errors.now)
        (g.E.Write.contents c.tell_unread.new.errors) _ _ (help_of_desk _ asks) parsed
  ];
  version = λ zero asks. elim (c.tell_unread.ensures.shown zero) [
    | inl help ↦ elim (c.in-Err.ensures.version asks) [
      | inl none ↦ let three : c.tell_unread.result ≡ 3 = (c.tell_unread.ensures.memory none).0 in absurd (omega arith)
      | inr shown ↦ absurd (version_no_help c.in-Err.unread shown help.0)
    ]
    | inr version ↦ version.1
  ];
  version_due = λ some asks. elim (c.in-Err.ensures.version asks) [
    | inl none ↦ let memory = c.tell_unread.ensures.memory none in
        tells _ NoMemory _ _ _ (memory.1, refl) memory.0 (c.tell_unread.ensures.no_memory none)
    | inr shown ↦ let parsed = c.tell_unread.ensures.version shown some in
        subst (λ s. Tells (RefusesVersion (g.W.Write.contents c.args.output.now) (g.W.Write.contents c.tell_unread.new.output)) s (g.E.Write.contents c.args.errors.now)
        (g.E.Write.contents c.tell_unread.new.errors)) (sym parsed.0) parsed.1
  ];
}

-- ---- what it keeps of its words and of its refusal

pub returns-in-Ok-perform_parsed-clause-why : goal.returns-in-Ok-perform_parsed-clause-why
returns-in-Ok-perform_parsed-clause-why g c = λ none. none_so _ c.args.why.now.refused none

pub returns-in-Err-perform_parsed-clause-why : goal.returns-in-Err-perform_parsed-clause-why
returns-in-Err-perform_parsed-clause-why g c = λ none.
    some_so (λ refusal. status_of refusal ≡ c.tell_and_keep.result) _ c.in-Err-perform_parsed.refused c.tell_and_keep.ensures.kept (sym c.tell_and_keep.ensures.status)

pub returns-in-Err-clause-why : goal.returns-in-Err-clause-why
returns-in-Err-clause-why g c = λ none. none_so _ c.args.why.now.refused none

pub returns-in-Ok-perform_parsed-clause-parsed : goal.returns-in-Ok-perform_parsed-clause-parsed
returns-in-Ok-perform_parsed-clause-parsed g c = λ none. c.in-Ok.ensures.all

pub returns-in-Err-perform_parsed-clause-parsed : goal.returns-in-Err-perform_parsed-clause-parsed
returns-in-Err-perform_parsed-clause-parsed g c = λ none. some_so (TellsAll _) _ c.in-Ok.parsed c.tell_and_keep.ensures.parsed c.in-Ok.ensures.all

pub returns-in-Err-clause-parsed : goal.returns-in-Err-clause-parsed
returns-in-Err-clause-parsed g c = λ none. none_so _ c.args.why.now.parsed none

pub returns-in-Ok-perform_parsed-clause-so : goal.returns-in-Ok-perform_parsed-clause-so
returns-in-Ok-perform_parsed-clause-so g c = λ none. record {
  result = Ok c.in-Ok-perform_parsed.done;
  ends = ends_by c.in-Ok-perform_parsed.done c.status.result (g.E.Write.contents c.args.errors.now) c.status.ensures.most c.status.ensures.whole c.status.ensures.in_part;
  does = c.in-Ok-perform_parsed.ensures.so;
}

pub returns-in-Err-perform_parsed-clause-so : goal.returns-in-Err-perform_parsed-clause-so
returns-in-Err-perform_parsed-clause-so g c = λ none. some_so _ _ c.in-Ok.parsed c.tell_and_keep.ensures.parsed (record {
  result = Err c.in-Err-perform_parsed.refused;
  ends = (c.tell_and_keep.ensures.status, c.tell_and_keep.ensures.written);
  does = c.in-Err-perform_parsed.ensures.so;
})

pub returns-in-Err-clause-so : goal.returns-in-Err-clause-so
returns-in-Err-clause-so g c = λ none. none_so _ c.args.why.now.parsed none

pub returns-in-Ok-perform_parsed-clause-unparsed : goal.returns-in-Ok-perform_parsed-clause-unparsed
returns-in-Ok-perform_parsed-clause-unparsed g c = λ before none. absurd (is_parsed c.in-Ok.parsed _ refl none)

pub returns-in-Err-perform_parsed-clause-unparsed : goal.returns-in-Err-perform_parsed-clause-unparsed
returns-in-Err-perform_parsed-clause-unparsed g c = λ before none. absurd (is_parsed c.in-Ok.parsed _ c.tell_and_keep.ensures.parsed none)

pub returns-in-Err-clause-unparsed : goal.returns-in-Err-clause-unparsed
returns-in-Err-clause-unparsed g c = λ before none. (
  refl,
  elim c.tell_unread.ensures.one_of [
    | inl two ↦ inl two
    | inr other ↦ elim other [
      | inl help ↦ inr (inl (help_asked _ c.in-Err.unread help c.in-Err.ensures.mistake_in))
      | inr more ↦ elim more [
        | inl version ↦ inr (inr (inl (version_asked _ c.in-Err.unread version c.in-Err.ensures.mistake_in)))
        | inr memory ↦ inr (inr (inr (tells (λ refusal. refusal ≡ NoMemory) NoMemory _ _ _ refl (c.tell_unread.ensures.memory memory).0 (c.tell_unread.ensures.no_memory memory))))
      ]
    ]
  ],
)
