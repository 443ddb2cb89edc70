-- Sets as numbers, and back.
use Rattle.std.proofs.Common.{◌≡◌, ℕ, ◌+◌, ◌*◌, ◌/◌, ◌%◌, ◌<◌, ◌≤◌, ◌==◌, nat_lt, Bool, true, false, Some, refl, arith}
use Rattle.std.proofs.lemmas.Bool.Decides.{nat_tests}
use Rattle.base.specs.declared.sets.TypeSet.{TypeSet}
use Rattle.call_records.specs.Words.{has_bit, kinds_of}
use Rattle.call_records.specs.Told.{bit}

-- a bit is at most 1
bit_few : (b : Bool) → bit b ≤ 1
bit_few true = omega arith
bit_few false = omega arith

-- a bit is read back
bit_back : (b : Bool) (n : ℕ) → n ≡ bit b → (n == 1) ≡ b
bit_back true n e = rw e refl
bit_back false n e = rw e refl

-- a set of kinds is read back
pub kinds_back : (k : TypeSet) (n : ℕ)
    → n ≡ bit k.container + 2 * bit k.segment + 4 * bit k.address_space + 8 * bit k.thread
    + 16 * bit k.gate + 32 * bit k.device
    → kinds_of n ≡ Some k
kinds_back k n e =
    let a = bit_few k.container in
    let b = bit_few k.segment in
    let c = bit_few k.address_space in
    let d = bit_few k.thread in
    let f = bit_few k.gate in
    let g = bit_few k.device in
    let small : n < 64 = omega arith in
    let fits : nat_lt n 64 ≡ true = grind (arith, nat_tests, small) in
    let first : has_bit n 0 ≡ k.container = bit_back k.container (n / 1 % 2) (omega arith) in
    let second : has_bit n 1 ≡ k.segment = bit_back k.segment (n / 2 % 2) (omega arith) in
    let third : has_bit n 2 ≡ k.address_space = bit_back k.address_space (n / 4 % 2) (omega arith) in
    let fourth : has_bit n 3 ≡ k.thread = bit_back k.thread (n / 8 % 2) (omega arith) in
    let fifth : has_bit n 4 ≡ k.gate = bit_back k.gate (n / 16 % 2) (omega arith) in
    let sixth : has_bit n 5 ≡ k.device = bit_back k.device (n / 32 % 2) (omega arith) in
    rw (fits, first, second, third, fourth, fifth, sixth) refl
