use Rattle.std.proofs.Common.{refl}
use Rattle.rd_commands.proofs.HelpNames.{differs}
use Rattle.rd_commands.proofs.help.help_of.Goals as goal

pub returns-in_default : goal.returns-in_default
returns-in_default c = rw (
  differs _ _ c.in_default.not-cat,
  differs _ _ c.in_default.not-list,
  differs _ _ c.in_default.not-files,
  differs _ _ c.in_default.not-init,
  differs _ _ c.in_default.not-serve,
  differs _ _ c.in_default.not-import,
  differs _ _ c.in_default.not-export,
  differs _ _ c.in_default.not-check,
  differs _ _ c.in_default.not-show,
  differs _ _ c.in_default.not-text,
  differs _ _ c.in_default.not-copy,
  differs _ _ c.in_default.not-help,
) refl
