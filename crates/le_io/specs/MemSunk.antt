-- What a sink in memory holds, how much it takes at once, which of its calls are to fail, and how many there were.
use Rattle.std.specs.Prelude.{ℕ, List}
use Rattle.le_io.specs.declared.memory_sink.MemSink.{MemSink}

abbrev pub held_by : MemSink → List ℕ
held_by k = k.bytes.items

abbrev pub sink_most : MemSink → ℕ
sink_most k = k.most

abbrev pub sink_faults : MemSink → ℕ
sink_faults k = k.faults

abbrev pub sink_fails : MemSink → List ℕ
sink_fails k = k.calls.fail.items

abbrev pub sink_calls : MemSink → ℕ
sink_calls k = k.calls.made
