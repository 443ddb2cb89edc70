-- what each pass so far has seen begins the journal
use Rattle.std.proofs.Common.{take}
use Rattle.std.specs.List.{AllByRecursion}
use Rattle.script_runner.specs.Shared.{AreSeen}
use Rattle.script_runner.proofs.shared_play.are_seen.Given as goal

abbrev pub invariant-loop-pass : goal.invariant-loop-pass
invariant-loop-pass g l = AllByRecursion (AreSeen l.book.journal) (take l.pass-index l.passes)
