use Rattle.dump_text.proofs.PieceLemmas.{pieces_text, pieces_legal}
use Rattle.dump_text.proofs.pieces.pieces_are_the_dump.Goals as goal

pub returns-clause-text : goal.returns-clause-text
returns-clause-text c = pieces_text

pub returns-clause-legal : goal.returns-clause-legal
returns-clause-legal c = pieces_legal
