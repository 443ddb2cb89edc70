use Rattle.std.proofs.Common.{◌≡◌, ◌+◌, ◌∷◌, length, take}
use Rattle.call_records.proofs.answers.put_ids.Given as goal

abbrev pub invariant-loop-place : goal.invariant-loop-place
invariant-loop-place l = record {
  kind : l.answer.reply ≡ 8;
  len : l.answer.len ≡ length l.ids;
  numbers : take (l.place + 1) l.answer.numbers ≡ l.count ∷ take l.place l.ids;
}
