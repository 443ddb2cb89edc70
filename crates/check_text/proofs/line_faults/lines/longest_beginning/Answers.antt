use Rattle.std.proofs.Common.{◌∙◌, ◌++◌, drop, sym, subst}
use Rattle.std.proofs.lemmas.List.{take-append-drop}
use Rattle.check_text.specs.Faults.{GoesOn, space_before}
use Rattle.check_text.proofs.FaultLemmas.{same_goes_on}
use Rattle.check_text.proofs.line_faults.lines.longest_beginning.Goals as goal

pub returns-clause-fault : goal.returns-clause-fault
returns-clause-fault c = λ line f whole stop fits is.
    stop.stops (stop.follows (drop f.before line) (whole, fits, sym is ∙ sym (take-append-drop f.before line), stop.ends))

pub returns-clause-longest : goal.returns-clause-longest
returns-clause-longest c = λ line word rest more f stop parts lack rest_is more_is may.
    stop.stops (subst (GoesOn f.expected) (sym parts)
    (same_goes_on f.expected word rest more lack rest_is more_is (stop.follows (space_before f.expected ++ (word ++ more)) may)))
