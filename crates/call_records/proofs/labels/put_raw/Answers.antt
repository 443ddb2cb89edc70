use Rattle.std.proofs.Common.{◌≡◌, ◌<◌, Some, length, arith}
use Rattle.label_lattice.specs.Columns.{filler}
use Rattle.call_records.specs.Labels.{level_of}
use Rattle.call_records.proofs.LabelLemmas.{written}
use Rattle.call_records.proofs.labels.put_raw.Goals as goal

pub loop-place-preserved : goal.loop-place-preserved
loop-place-preserved c =
    let to = c.loop-place.to in
    let ps = c.args.raw.now.pairs in
    let place = c.loop-place.place in
    let is : level_of c.number_of.result ≡ Some c.pair_at-pair.result.level = c.number_of.ensures in
    let few : place < length to.levels = omega arith in
    let fits : place < length to.categories = omega arith in
    let within : place < length ps = omega arith in
    record {
      default = c.loop-place.invariant.default;
      count = c.loop-place.invariant.count;
      pairs =
          rw c.pair_at-pair.ensures
          (written to.levels to.categories place c.number_of.result ps filler few fits within
          (rw c.pair_at-pair.ensures at is) c.loop-place.invariant.pairs);
    }
