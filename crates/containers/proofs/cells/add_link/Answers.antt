use Rattle.std.proofs.Common.{◌≡◌, arith}
use Rattle.containers.proofs.Moves.{one_zero, stands_beside_back}
use Rattle.containers.proofs.Handed.{first_stands}
use Rattle.containers.proofs.cells.add_link.Goals as goal

pub shift-requires-in-Some-clause-from : goal.shift-requires-in-Some-clause-from
shift-requires-in-Some-clause-from c =
    let s = first_stands c.args.rings.now 0 c.args.size c.in-Some.cell c.in-Some.ensures.value in
    (c.args.size, (λ (e : c.args.size ≡ c.args.object). omega (arith, c.requires.object)), stands_beside_back c.args.rings.now _ 0 c.args.container c.in-Some.cell c.shift.ensures.shifted 1 c.args.size c.in-Some.cell one_zero (c.requires.paired.spare c.in-Some.cell s))

pub returns-clause-added : goal.returns-clause-added
returns-clause-added c = record {
  cell = c.in-Some.cell;
  was_spare = first_stands c.args.rings.now 0 c.args.size c.in-Some.cell c.in-Some.ensures.value;
  between = c.shift.new.rings;
  first = c.shift.ensures.shifted;
  second = c.shift-in-Some.ensures.shifted;
}
