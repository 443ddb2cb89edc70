use Rattle.containers.specs.Hints.{IsForgotten}
use Rattle.containers.proofs.object_arena.hints.forget_all.Given as goal

abbrev pub invariant-loop-id : goal.invariant-loop-id
invariant-loop-id l = IsForgotten l.initial.hints l.hints l.gone l.id-index
