use Rattle.shown_dumps.specs.Colours.{marks_of}
use Rattle.shown_dumps.proofs.ColourLaws.{plain_again}
use Rattle.shown_dumps.proofs.tree.painting.colours_are_beside.Goals as goal

pub returns : goal.returns
returns c = λ text. plain_again (marks_of text) text
