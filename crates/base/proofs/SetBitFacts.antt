-- Sets of the same digits are one set.
use Rattle.std.proofs.Common.{◌≡◌}
use Rattle.base.specs.DigitLaws.{then_is}
use Rattle.base.specs.declared.sets.Rights.{Rights}
use Rattle.base.specs.declared.sets.TypeSet.{TypeSet}
use Rattle.base.specs.SetBits.{rights_bits, types_bits}

pub rights_is : (a b : Rights) → rights_bits a ≡ rights_bits b → a ≡ b
rights_is a b e =
    let write = then_is _ _ a.write b.write e in
    let read = then_is 0 0 a.read b.read write.0 in
    λ i. record { read = read.1 i; write = write.1 i }

pub types_is : (a b : TypeSet) → types_bits a ≡ types_bits b → a ≡ b
types_is a b e =
    let device = then_is _ _ a.device b.device e in
    let gate = then_is _ _ a.gate b.gate device.0 in
    let thread = then_is _ _ a.thread b.thread gate.0 in
    let space = then_is _ _ a.address_space b.address_space thread.0 in
    let segment = then_is _ _ a.segment b.segment space.0 in
    let container = then_is 0 0 a.container b.container segment.0 in
    λ i. record {
      container = container.1 i;
      segment = segment.1 i;
      address_space = space.1 i;
      thread = thread.1 i;
      gate = gate.1 i;
      device = device.1 i;
    }
