-- so many bytes of the text were written
use Rattle.std.proofs.Common.{◌-◌, ◌≤◌, length, take}
use Rattle.std.specs.Io.KnownBytes.{Appends}
use Rattle.program_io.specs.Sinks.{HasRisenOrStays}
use Rattle.program_io.proofs.sinks.put.Given as goal

abbrev pub invariant-loop-written : goal.invariant-loop-written
invariant-loop-written g l =
    let contents = g.S.Sink.contents in
    let failures = g.S.Sink.failures in
    record {
      within : l.written ≤ length l.text;
      written : Appends (contents l.fn.sink) (contents l.sink) (take l.written l.text);
      count : HasRisenOrStays (failures l.fn.sink) (failures l.sink);
    }

abbrev pub decreases-loop-written : goal.decreases-loop-written
decreases-loop-written g l = length l.text - l.written
