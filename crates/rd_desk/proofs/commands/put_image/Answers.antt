use Rattle.std.proofs.Common.{rules}
use Rattle.rd_desk.proofs.OneChange.{change_alone, reads_alone}
use Rattle.rd_desk.proofs.commands.put_image.Goals as goal

pub returns-in_err-has_deed-clause-one_change : goal.returns-in_err-has_deed-clause-one_change
returns-in_err-has_deed-clause-one_change g c day = reads_alone g.S.Store day _ _ c.args.store.now c.has_deed.new.store c.has_deed.ensures.reads.keeps

pub returns-then-branch-clause-one_change : goal.returns-then-branch-clause-one_change
returns-then-branch-clause-one_change g c day = reads_alone g.S.Store day _ _ c.args.store.now c.has_deed.new.store c.has_deed.ensures.reads.keeps

pub returns-then-as_slice-size-clause-one_change : goal.returns-then-as_slice-size-clause-one_change
returns-then-as_slice-size-clause-one_change g c day = reads_alone g.S.Store day _ _ c.args.store.now c.has_deed.new.store c.has_deed.ensures.reads.keeps

pub returns-in_err-has_deed-2-clause-one_change : goal.returns-in_err-has_deed-2-clause-one_change
returns-in_err-has_deed-2-clause-one_change g c day = reads_alone g.S.Store day _ _ c.args.store.now c.has_deed-then-not-has_digest.new.store c.has_deed-then-not-has_digest.ensures.reads.keeps

pub returns-then-branch-2-clause-one_change : goal.returns-then-branch-2-clause-one_change
returns-then-branch-2-clause-one_change g c day = reads_alone g.S.Store day _ _ c.args.store.now c.has_deed-then-not-has_digest.new.store c.has_deed-then-not-has_digest.ensures.reads.keeps

pub returns-then-not-has_digest-clause-one_change : goal.returns-then-not-has_digest-clause-one_change
returns-then-not-has_digest-clause-one_change g c day = reads_alone g.S.Store day _ _ c.args.store.now c.has_deed-then-not-has_digest.new.store c.has_deed-then-not-has_digest.ensures.reads.keeps

pub returns-clause-carries : goal.returns-clause-carries
returns-clause-carries g c = λ day. let carries = c.commit_image.ensures.carries day in search rules

pub returns-clause-one_change : goal.returns-clause-one_change
returns-clause-one_change g c day = change_alone g.S.Store day _ _ c.args.store.now c.commit_image.new.store c.between_calls.ensures tt (c.commit_image.ensures.change day)
