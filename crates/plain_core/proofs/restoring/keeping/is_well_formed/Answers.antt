use Rattle.std.proofs.Common.{sym, ◌∙◌, ap, subst, is_some}
use Rattle.std.specs.Option.{IfSome}
use Rattle.plain_state.specs.Recorded.{records_state}
use Rattle.plain_core.specs.Counted.{CountsListers}
use Rattle.plain_core.proofs.FormedLaws.{formed, unformed}
use Rattle.plain_core.proofs.restoring.keeping.is_well_formed.Goals as goal

pub returns-in-None : goal.returns-in-None
returns-in-None c =
    sym (unformed (records_state c.args.records.now)
    (sym c.in_ok-count_listers.ensures.distinct ∙ ap is_some c.in-None.is))

pub returns-in-Some : goal.returns-in-Some
returns-in-Some c =
    c.is_formed.ensures
    ∙ formed (records_state c.args.records.now) c.in-Some.counts c.requires
    (subst (λ o. IfSome o (CountsListers (records_state c.args.records.now))) c.in-Some.is
    c.in_ok-count_listers.ensures.counted)
    (sym c.in_ok-count_listers.ensures.distinct ∙ ap is_some c.in-Some.is)
