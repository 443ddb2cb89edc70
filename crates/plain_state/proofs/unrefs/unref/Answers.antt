use Rattle.std.proofs.Common.{ap, subst, sym, ◌∙◌}
use Rattle.kernel_rules.specs.State.{State}
use Rattle.kernel_rules.specs.Step.{restricted}
use Rattle.plain_state.specs.Recorded.{records_state}
use Rattle.plain_state.proofs.PruneLaws.{Delisted, delisted_is, all_live}
use Rattle.plain_state.proofs.unrefs.unref.Goals as goal

pub drop_unlisted-requires : goal.drop_unlisted-requires
drop_unlisted-requires c =
    (subst (λ (s : State). Delisted c.args.id s) (sym c.in_ok-delist_in.ensures.ok)
    (delisted_is (records_state c.args.records.now) c.args.container c.args.id c.requires)).rise

pub returns-clause-ok : goal.returns-clause-ok
returns-clause-ok c =
    all_live (records_state c.delist_in.new.records) (records_state c.drop_unlisted.new.records) c.args.id
    (subst (λ (s : State). Delisted c.args.id s) (sym c.in_ok-delist_in.ensures.ok)
    (delisted_is (records_state c.args.records.now) c.args.container c.args.id c.requires))
    c.drop_unlisted.ensures.pruned c.drop_unlisted.ensures.settled c.drop_unlisted.ensures.stay
    ∙ ap (λ (s : State). restricted s) c.in_ok-delist_in.ensures.ok
