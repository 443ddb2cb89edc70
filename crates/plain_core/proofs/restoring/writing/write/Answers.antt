use Rattle.std.proofs.Common.{◌==◌, ℕ, length, ◌∙◌, ap}
use Rattle.std.specs.List.{list_all}
use Rattle.kernel_rules.specs.Sizes.{most_bytes}
use Rattle.kernel_rules.specs.State.{State}
use Rattle.kernel_rules.specs.declared.objects.Object.{Object}
use Rattle.plain_state.specs.StateOf.{state_of}
use Rattle.plain_core.proofs.WriteLaws.{all_noted}
use Rattle.plain_core.proofs.restoring.writing.write.Goals as goal

pub written_objects-requires-clause-whole : goal.written_objects-requires-clause-whole
written_objects-requires-clause-whole c =
    ap (λ (s : State). list_all (λ (e : ℕ × Object). length e.1.metadata == most_bytes) s.objects) c.records-records.ensures
    ∙ all_noted (state_of c.args.state.now) c.well_formed-2.ensures
