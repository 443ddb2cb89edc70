use Rattle.std.proofs.Common.{◌≡◌, drop}
use Rattle.flows.specs.Carriers.{all_added}
use Rattle.flows.proofs.rising.add_all.Given as goal

abbrev pub invariant-loop-id : goal.invariant-loop-id
invariant-loop-id l =
    all_added l.ids.items (drop l.id-index l.more) ≡ all_added l.fn.ids.items l.more
