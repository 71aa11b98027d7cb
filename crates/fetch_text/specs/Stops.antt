-- Why a member is not fetched, as why it is not printed.
use Rattle.prog_fetch.specs.declared.fault.FetchFault.{FetchFault}
use Rattle.prog_fetch.specs.declared.fault.FetchFault.TheVariants.{At, ReadFault, Memory}
use Rattle.fetch_text.specs.declared.stop.FetchStop.{FetchStop}
use Rattle.fetch_text.specs.declared.stop.FetchStop.TheVariants.{Module, ReadFault as Unread, Memory as NoMemory}

-- the fault of a fetch
abbrev pub stop_of : FetchFault → FetchStop
stop_of (At number what) = Module number what
stop_of ReadFault = Unread
stop_of Memory = NoMemory
