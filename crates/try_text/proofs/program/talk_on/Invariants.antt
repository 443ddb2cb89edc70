-- what is printed so far
use Rattle.std.proofs.Common.{IfSome}
use Rattle.try_text.specs.Talks.{HasTalked}
use Rattle.try_text.proofs.program.talk_on.Given as goal

abbrev pub invariant-loop : goal.invariant-loop
invariant-loop g l =
    let contents = g.S.Sink.contents in
    let left = g.I.Read.remaining in
    IfSome (left l.fn.input) (λ bytes. HasTalked l.is_asked bytes l.fn.talk l.talk (left l.input) (contents l.fn.out) (contents l.out))
