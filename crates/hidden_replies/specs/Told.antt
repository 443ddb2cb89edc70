-- What is told of a dump.
use Rattle.std.specs.Prelude.{◌≡◌, ℕ, List, [], map, None}
use Rattle.label_lattice.specs.Label.{LabelValue}
use Rattle.dump_text.specs.Dump.{IsDump}
use Rattle.dump_text.specs.Lists.{DumpLists}
use Rattle.dump_text.specs.Whole.{start_with}
use Rattle.kernel_rules.specs.State.{State}
use Rattle.hidden_replies.specs.Hidden.{both_from, differences, differing, exception_in, replied_in}
use Rattle.hidden_replies.specs.Places.{placed}
use Rattle.hidden_replies.specs.declared.differences.Difference.{Difference}

-- where the dump's events begin
abbrev pub begun : DumpLists → State
begun d = (start_with d.limits d.checkpoint).state

-- the bytes spell a dump, in which these are all replies that differ, each with its exception: none where no exception
-- was met
pub record AreTold (l : LabelValue) (bytes : List ℕ) (told : List Difference) : Type 0 where
  pub dump : DumpLists
  pub spelt : IsDump bytes dump
  pub named : told ≡ differences l (both_from (begun dump)) (placed dump.events dump.reads)
  pub all : map replied_in told ≡ differing l (begun dump) (begun dump) (placed dump.events dump.reads)
  pub quiet : exception_in l (both_from (begun dump)) (placed dump.events dump.reads) ≡ None → told ≡ []
