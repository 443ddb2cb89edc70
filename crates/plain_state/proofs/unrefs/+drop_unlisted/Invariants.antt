use Rattle.std.proofs.Common.{◌≡◌, ◌<◌, ℕ, ◌||◌, true, length, drop}
use Rattle.base.specs.Live.{has}
use Rattle.kernel_rules.specs.WellFormed.{ids_rise}
use Rattle.plain_state.specs.Recorded.{records_state}
use Rattle.plain_state.specs.Settled.{is_settled, Pruned}
use Rattle.plain_state.proofs.unrefs.+drop_unlisted.Given as goal

abbrev pub decreases-drop_unlisted : goal.decreases-drop_unlisted
decreases-drop_unlisted l = length l.records.now.objects.entries

abbrev pub invariant-loop-listed : goal.invariant-loop-listed
invariant-loop-listed l = record {
  pruned : Pruned (records_state l.fn.records) (records_state l.records);
  rise : ids_rise l.records.objects.entries ≡ true;
  fewer : length l.records.objects.entries < length l.fn.records.objects.entries;
  own : is_settled l.records.objects.entries l.fn.id ≡ true;
  left : (q : ℕ) → is_settled l.fn.records.objects.entries q ≡ true
      → (is_settled l.records.objects.entries q || has (drop l.listed-index l.listed-items) q) ≡ true;
}
