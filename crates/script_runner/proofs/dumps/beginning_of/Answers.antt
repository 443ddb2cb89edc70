use Rattle.std.proofs.Common.{◌≡◌, true, false, List, Option, take, is_some, refl, sym, ap, ◌∙◌, subst}
use Rattle.std.specs.Option.{IfSome}
use Rattle.checkpoints.specs.Checkpoint.{Checkpoint}
use Rattle.checkpoints.specs.Restorable.{is_restorable}
use Rattle.kernel_rules.specs.Events.{Event}
use Rattle.script_runner.specs.Dumps.{are_given}
use Rattle.script_runner.proofs.DumpLaws.{folds, made_is}
use Rattle.script_runner.proofs.dumps.beginning_of.Goals as goal

pub returns-in-Some-clause-folded : goal.returns-in-Some-clause-folded
returns-in-Some-clause-folded c =
    let limits = c.args.limits.now in
    let events : List Event = c.args.events.now in
    let same : c.as_slice.result.now ≡ take c.at_most-count.result events
    = c.as_slice.ensures.value ∙ c.in_ok-before.ensures ∙ c.split_at.ensures.front in
    folds limits c.args.first c.at_most-count.result events true c.at_most-count.ensures
    (ap (are_given limits) (sym same) ∙ sym c.in_ok-made.ensures.test ∙ ap is_some c.in-Some.is)

pub returns-in-Some-clause-made : goal.returns-in-Some-clause-made
returns-in-Some-clause-made c =
    made_is c.args.limits.now c.in_ok-made.field-0 c.in-Some.made c.as_slice.result.now (take c.at_most-count.result c.args.events.now)
    c.in_ok-made.ensures.made c.in-Some.is (c.as_slice.ensures.value ∙ c.in_ok-before.ensures ∙ c.split_at.ensures.front)

pub returns-in-Some-clause-restorable : goal.returns-in-Some-clause-restorable
returns-in-Some-clause-restorable c =
    subst (λ (o : Option Checkpoint). IfSome o (λ x. is_restorable c.args.limits.now x ≡ true)) c.in-Some.is c.in_ok-made.ensures.restorable

pub returns-clause-folded : goal.returns-clause-folded
returns-clause-folded c =
    let limits = c.args.limits.now in
    let events : List Event = c.args.events.now in
    let same : c.as_slice.result.now ≡ take c.at_most-count.result events
    = c.as_slice.ensures.value ∙ c.in_ok-before.ensures ∙ c.split_at.ensures.front in
    folds limits c.args.first c.at_most-count.result events false c.at_most-count.ensures
    (ap (are_given limits) (sym same) ∙ sym c.in_ok-made.ensures.test ∙ ap is_some c.in-None.is)

pub returns-clause-made : goal.returns-clause-made
returns-clause-made c = c.in_ok-boot-in-None.ensures.written

pub returns-clause-restorable : goal.returns-clause-restorable
returns-clause-restorable c = c.in_ok-boot-in-None.ensures.restorable refl
