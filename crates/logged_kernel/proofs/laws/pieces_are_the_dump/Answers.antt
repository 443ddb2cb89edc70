use Rattle.logged_kernel.proofs.PieceLaws.{pieces_text, pieces_legal}
use Rattle.logged_kernel.proofs.laws.pieces_are_the_dump.Goals as goal

pub returns-clause-text : goal.returns-clause-text
returns-clause-text c = pieces_text

pub returns-clause-legal : goal.returns-clause-legal
returns-clause-legal c = pieces_legal
