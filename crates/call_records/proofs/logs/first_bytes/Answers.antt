use Rattle.std.proofs.Common.{◌≡◌, ◌≤◌, length, take, sym, ◌∙◌, arith}
use Rattle.std.proofs.lemmas.List.{take_all, length-take-le}
use Rattle.call_records.proofs.logs.first_bytes.Goals as goal

pub returns-then-text-le64 : goal.returns-then-text-le64
returns-then-text-le64 c =
    let few : length c.args.text.now ≤ 64 = omega arith in
    c.from_slice.ensures ∙ sym (take_all 64 c.args.text.now few)

pub slice_bounds-from_slice-end : goal.slice_bounds-from_slice-end
slice_bounds-from_slice-end c =
    let many : 64 ≤ length c.args.text.now = omega arith in
    sym (length-take-le 64 c.args.text.now many)

pub from_slice-requires-2 : goal.from_slice-requires-2
from_slice-requires-2 c =
    let many : 64 ≤ length c.args.text.now = omega arith in
    omega (arith, length-take-le 64 c.args.text.now many)
