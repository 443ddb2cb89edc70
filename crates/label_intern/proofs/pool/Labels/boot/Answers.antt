use Rattle.std.proofs.Common.{◌≡◌, ◌≤◌, [], None, replicate, length, ap, rules, arith}
use Rattle.std.specs.Prelude.{vec_capacity}
use Rattle.std.proofs.lemmas.List.{length-replicate}
use Rattle.label_intern.proofs.HeldLemmas.{kept_none, none}
use Rattle.label_intern.proofs.ListedLemmas.{listed_none}
use Rattle.label_intern.proofs.pool.Labels.boot.Goals as goal

pub invariant_of-result : goal.invariant_of-result
invariant_of-result c =
    let items : c.in_ok-slots.slots.items ≡ replicate c.args.pool None = search rules in
    let width : c.in_ok-table.table.width ≡ c.args.pool = search rules in
    let empty : c.in_ok-listed.listed.items ≡ [] = search rules in
    let room : c.args.pool ≤ vec_capacity c.in_ok-listed.listed = search rules in (
      kept_none c.args.pool _ _ items width,
      listed_none c.args.pool _ _ items empty,
      omega (arith, ap length items, length-replicate c.args.pool none, room),
    )
