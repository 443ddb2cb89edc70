use Rattle.std.proofs.Common.{append_assoc}
use Rattle.explained.proofs.rows.Row.new_bearer.Goals as goal

pub returns : goal.returns
returns c =
    simp (append_assoc, c.in_ok-fitting.ensures, c.in_ok-good_label.ensures, c.in_ok-good_label-2.ensures, c.in_ok-put.ensures, c.in_ok-put-2.ensures)
