-- nothing is written until a write is taken; the count rises at each turn
use Rattle.std.proofs.Common.{◌<◌}
use Rattle.std.specs.Io.KnownBytes.{Keeps}
use Rattle.program_io.specs.Sinks.{HasRisen, HasRisenOrStays}
use Rattle.program_io.proofs.sinks.put_some.Given as goal

abbrev pub invariant-loop : goal.invariant-loop
invariant-loop g l =
    let contents = g.S.Sink.contents in
    let failures = g.S.Sink.failures in
    record {
      kept : Keeps (contents l.fn.sink) (contents l.sink);
      count : HasRisenOrStays (failures l.fn.sink) (failures l.sink);
      risen : 0 < l.counter → HasRisen (failures l.fn.sink) (failures l.sink);
    }
