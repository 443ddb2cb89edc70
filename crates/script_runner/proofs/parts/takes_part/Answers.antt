use Rattle.std.proofs.Common.{rules, ◌≡◌, ◌∙◌, ◌||◌, ◌+◌, true, false, ap, sym, drop}
use Rattle.script_runner.specs.Shared as spec
use Rattle.script_runner.proofs.WorkerLemmas.{next_part}
use Rattle.script_runner.proofs.parts.takes_part.Goals as goal

pub returns-then-is_of : goal.returns-then-is_of
returns-then-is_of c =
    let lines = c.args.phase.now in
    let worker = c.args.worker.now in
    let place = c.loop-place.place in
    let left = next_part worker lines place c.is_of-is_of.result (search rules) c.is_of-is_of.ensures in
    let on : c.is_of-is_of.result ≡ true = search rules in
    sym (left ∙ ap (λ b. b || spec.takes_part worker (drop (place + 1) lines)) on) ∙ c.loop-place.invariant

pub loop-place-preserved : goal.loop-place-preserved
loop-place-preserved c =
    let lines = c.args.phase.now in
    let worker = c.args.worker.now in
    let place = c.loop-place.place in
    let left = next_part worker lines place c.is_of-is_of.result (search rules) c.is_of-is_of.ensures in
    let off : c.is_of-is_of.result ≡ false = search rules in
    sym (left ∙ ap (λ b. b || spec.takes_part worker (drop (place + 1) lines)) off) ∙ c.loop-place.invariant
