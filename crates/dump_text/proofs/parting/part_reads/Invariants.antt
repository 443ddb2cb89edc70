use Rattle.std.proofs.Common.{◌≡◌, ◌++◌, take, drop}
use Rattle.dump_text.specs.Reads.{reads_at, reads_past}
use Rattle.dump_text.proofs.parting.part_reads.Given as goal

abbrev pub invariant-loop-count : goal.invariant-loop-count
invariant-loop-count l = record {
  here : reads_at l.place l.reads ≡ take l.count l.reads ++ reads_at l.place (drop l.count l.reads);
  past : reads_past l.place l.reads ≡ reads_past l.place (drop l.count l.reads);
}
