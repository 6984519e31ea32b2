-- Why no desk is made or opened, as the program tells it.
use Rattle.rd_store.specs.declared.faults.CreateFault.{CreateFault}
use Rattle.rd_store.specs.declared.faults.CreateFault.TheVariants as create
use Rattle.rd_store.specs.declared.faults.OpenFault.{OpenFault}
use Rattle.rd_store.specs.declared.faults.OpenFault.TheVariants as open_fault
use Rattle.rd_commands.specs.declared.refusal.Refusal.{Refusal}
use Rattle.rd_commands.specs.declared.refusal.Refusal.TheVariants.{Exists, Inconsistent, NotADesk, Store, Version}

-- why no desk is made
abbrev pub refusal_to_create : CreateFault → Refusal
refusal_to_create create.Exists = Exists
refusal_to_create create.Sql = Store

-- why a desk is not opened
abbrev pub refusal_to_open : OpenFault → Refusal
refusal_to_open open_fault.NotADesk = NotADesk
refusal_to_open open_fault.Version = Version
refusal_to_open open_fault.Inconsistent = Inconsistent
refusal_to_open open_fault.Sql = Store
