use Rattle.std.proofs.Common.{◌≡◌, ◌+◌, List, ◌∷◌, drop, sym, ◌∙◌, ap, subst}
use Rattle.std.proofs.lemmas.List.{drop_more}
use Rattle.hidden_replies.specs.Hidden.{Runs, after}
use Rattle.hidden_replies.specs.RunsOf.{runs_of}
use Rattle.hidden_replies.specs.declared.differences.Difference.{Difference}
use Rattle.hidden_replies.specs.declared.differences.Placed.{Placed}
use Rattle.hidden_replies.proofs.Keeping.{IsKept, kept_on}
use Rattle.hidden_replies.proofs.runs.differences.Goals as goal

pub loop-placed-preserved : goal.loop-placed-preserved
loop-placed-preserved c =
    let l = c.args.label.now in
    let begun : Runs = runs_of c.args.runs.now in
    let calls = c.args.calls.now in
    let i = c.loop-placed.placed-index in
    let p = c.placed-item.result in
    let left : drop i calls ≡ p ∷ drop (i + 1) calls =
    drop_more calls i p c.loop-placed-test.true ∙ ap (λ (m : Placed). m ∷ drop (i + 1) calls) (sym c.placed-item.is) in
    let before : IsKept l begun calls (runs_of c.loop-placed.runs) c.loop-placed.all.items (p ∷ drop (i + 1) calls) =
    subst (λ (rest : List Placed). IsKept l begun calls (runs_of c.loop-placed.runs) c.loop-placed.all.items rest) left
    c.loop-placed.invariant in
    subst (λ (r : Runs). IsKept l begun calls r c.take.new.all.items (drop (i + 1) calls)) (sym c.in_ok-take.ensures.runs)
    (subst (λ (done : List Difference). IsKept l begun calls (after l (runs_of c.loop-placed.runs) p) done (drop (i + 1) calls))
    (sym c.in_ok-take.ensures.told)
    (kept_on l begun (runs_of c.loop-placed.runs) calls (drop (i + 1) calls) c.loop-placed.all.items p
    c.take.ensures.exact before))
