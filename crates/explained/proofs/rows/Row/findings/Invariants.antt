use Rattle.std.proofs.Common.{◌≡◌, ◌++◌, drop, map}
use Rattle.plain_state.specs.StateOf.{state_of}
use Rattle.explained.specs.Ruled.{ruled}
use Rattle.explained.specs.Told.{told}
use Rattle.explained.proofs.rows.Row.findings.Given as goal

abbrev pub invariant-loop-given : goal.invariant-loop-given
invariant-loop-given l =
    l.found.items ++ told (state_of l.state) l.fn.thread (map ruled (drop l.given-index l.all))
    ≡ told (state_of l.state) l.fn.thread (map ruled l.all)
