use Rattle.std.proofs.Common.{◌≡◌, drop}
use Rattle.check_text.specs.Verbs.{all_verbs}
use Rattle.check_text.specs.Hints.{first_within}
use Rattle.check_text.proofs.hints.first_within.Given as goal

abbrev pub invariant-loop-verb : goal.invariant-loop-verb
invariant-loop-verb l =
    first_within l.binds l.more l.word l.most (drop l.verb-index l.verb-items) ≡ first_within l.binds l.more l.word l.most all_verbs
