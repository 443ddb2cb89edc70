use Rattle.std.proofs.Common.{◌≡◌, drop}
use Rattle.flows.specs.Carriers.{all_placed}
use Rattle.flows.proofs.rising.put_all.Given as goal

abbrev pub invariant-loop-id : goal.invariant-loop-id
invariant-loop-id l =
    all_placed l.ids.items (drop l.id-index l.more) ≡ all_placed l.fn.ids.items l.more
