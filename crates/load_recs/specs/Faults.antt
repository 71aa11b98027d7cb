-- A record's fault as the fault of a member's record.
use Rattle.le_bytes.specs.declared.record_what.RecWhat.{RecWhat}
use Rattle.le_bytes.specs.declared.record_what.RecWhat.TheVariants as member
use Rattle.load_recs.specs.declared.records.RecFault.{RecFault}
use Rattle.load_recs.specs.declared.records.RecFault.TheVariants.{UnknownId, BadLength, BadType, BadFlag}

abbrev pub what_of : RecFault → RecWhat
what_of UnknownId = member.UnknownId
what_of BadLength = member.BadLength
what_of BadType = member.BadType
what_of BadFlag = member.BadFlag
