use Rattle.std.proofs.Common.{◌∙◌, arith}
use Rattle.label_intern.proofs.OwnersLemmas.{takes_as, takes_then}
use Rattle.arena_state.proofs.NewLaws.{still}
use Rattle.arena_state.proofs.boots.first_labels.Goals as goal

pub returns-clause-root : goal.returns-clause-root
returns-clause-root c =
    still _ _ _ _ _ _ c.intern-root.ensures.takes (c.intern-root.ensures.given ∙ c.uniform-plain.ensures.value)
    (takes_then _ _ _ _ _ c.intern-thread.ensures.takes (takes_then _ _ _ _ _ c.intern-clearance.ensures.takes
    (takes_then _ _ _ _ _ c.intern-verify.ensures.takes c.intern-device.ensures.takes)))

pub returns-clause-thread : goal.returns-clause-thread
returns-clause-thread c =
    still _ _ _ _ _ _ c.intern-thread.ensures.takes (c.intern-thread.ensures.given ∙ c.uniform-plain.ensures.value)
    (takes_then _ _ _ _ _ c.intern-clearance.ensures.takes (takes_then _ _ _ _ _ c.intern-verify.ensures.takes c.intern-device.ensures.takes))

pub returns-clause-takes : goal.returns-clause-takes
returns-clause-takes c =
    takes_as _ _ _ _ (λ i. omega arith)
    (takes_then _ _ _ _ _ c.intern-root.ensures.takes (takes_then _ _ _ _ _ c.intern-thread.ensures.takes
    (takes_then _ _ _ _ _ c.intern-clearance.ensures.takes (takes_then _ _ _ _ _ c.intern-verify.ensures.takes c.intern-device.ensures.takes))))
