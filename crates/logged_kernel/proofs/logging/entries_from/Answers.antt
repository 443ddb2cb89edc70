use Rattle.std.proofs.Common.{◌≡◌, ℕ, ◌+◌, ◌≤◌, ◌-◌, length, take, drop, ap, sym, ◌∙◌, arith, length-drop}
use Rattle.std.proofs.lemmas.List.{take_all}
use Rattle.logged_kernel.proofs.logging.entries_from.Goals as goal

pub returns-then-rest-le64 : goal.returns-then-rest-le64
returns-then-rest-le64 c =
    let rest = drop c.args.from c.args.entries.now in
    let few : length rest ≤ 64 = omega (arith, length-drop c.args.from c.args.entries.now, c.if-rest-le64.true) in
    let all : length rest ≤ length c.args.entries.now - c.args.from = omega (arith, length-drop c.args.from c.args.entries.now) in
    take_all (length c.args.entries.now - c.args.from) rest all ∙ sym (take_all 64 rest few)

pub returns : goal.returns
returns c =
    let count : c.args.from + 64 - c.args.from ≡ 64 = omega arith in
    ap (λ (n : ℕ). take n (drop c.args.from c.args.entries.now)) count
