-- Faults whose names are lent.
use Rattle.eif_base.specs.declared.fault.Fault.{Fault}
use Rattle.eif_written.specs.declared.lent_fault.LentFault.{LentFault}
use Rattle.eif_written.specs.LentTypes.{owner_name}

-- the fault with its own names
abbrev pub fault_of_lent : LentFault → Fault
fault_of_lent f = record {
  code = f.code;
  case = f.case;
  class = f.class.now;
  feature = owner_name f.owner;
  place = f.place;
  about = f.about.now;
}
