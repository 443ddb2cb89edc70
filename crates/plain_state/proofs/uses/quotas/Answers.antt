use Rattle.std.proofs.Common.{◌≡◌, ◌+◌, ◌-◌, ◌≤◌, List, ℕ, length, take, drop, sum_by, ap, ◌∙◌, arith, length-drop}
use Rattle.std.proofs.lemmas.List.{take_all}
use Rattle.std.proofs.lemmas.List.Sums.{sum_by-take-drop}
use Rattle.kernel_rules.specs.State.{quota_at}
use Rattle.plain_state.specs.Recorded.{records_state}
use Rattle.plain_state.proofs.uses.quotas.Goals as goal

pub returns-clause-sum : goal.returns-clause-sum
returns-clause-sum c =
    let f = quota_at (records_state c.args.records.now) in
    let ids = c.args.ids.now in
    let met = c.walked-met.result.0 in
    let short : length (drop met ids) ≤ length ids - met = omega (arith, length-drop met ids) in
    let rest : take (length ids - met) (drop met ids) ≡ drop met ids = take_all (length ids - met) (drop met ids) short in
    let split = sum_by-take-drop f ids met in
    let added : c.looked_up-2.result ≡ c.walked-met.result.1 + sum_by f (drop met ids)
    = c.looked_up-2.ensures.sum ∙ ap (λ (l : List ℕ). c.walked-met.result.1 + sum_by f l) rest in
    omega (arith, added, split, c.walked-met.ensures.sum)
