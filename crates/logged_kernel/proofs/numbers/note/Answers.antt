use Rattle.std.proofs.Common.{◌<◌, nat_lt, nat_le, ◌∙◌, ap, arith}
use Rattle.std.specs.List.{list_all}
use Rattle.std.proofs.lemmas.Bool.{and_parts, and_from, lt-ltb, le-leb}
use Rattle.plain_core.proofs.NumberLaws.{all_inserted}
use Rattle.logged_kernel.specs.Numbers.{is_noted}
use Rattle.logged_kernel.proofs.numbers.note.Goals as goal

pub returns-clause-noted : goal.returns-clause-noted
returns-clause-noted c = λ h.
    let given : c.args.thread < c.args.next_id = omega arith in
    let some = le-leb 2 c.args.number c.requires in
    ap (list_all (is_noted c.args.next_id)) c.in_ok-insert.ensures.entries
    ∙ all_inserted (is_noted c.args.next_id) c.args.numbers.now.entries c.args.thread c.args.number h
    (and_from (nat_lt c.args.thread c.args.next_id) (nat_le 2 c.args.number) (lt-ltb c.args.thread c.args.next_id given) some)
    (λ e is. and_from (nat_lt e.0 c.args.next_id) (nat_le 2 c.args.number)
    (and_parts (nat_lt e.0 c.args.next_id) (nat_le 2 e.1) is).0 some)
