use Rattle.std.proofs.Common.{append_assoc}
use Rattle.explained.proofs.rows.Row.new_object.Goals as goal

pub returns : goal.returns
returns c = simp (append_assoc, c.in_ok-fitting.ensures, c.in_ok-put.ensures, c.in_ok-put-2.ensures)
