-- The operators on sets are those on their digits.
use Rattle.std.proofs.Common.{◌≡◌, ◌-◌, ◌^◌, Bool, true, false, ◌&&◌, ◌||◌, ◌==◌, refl, sym, ◌∙◌, ap}
use Rattle.std.specs.Int.RustNames.{bit_and, bit_or, bit_xor}
use mathlib.Core.Bool.{beq}
use Rattle.base.specs.Digits.{one_of}
use Rattle.base.specs.DigitLaws.{and_then, or_then, xor_then, eq_then, no_other, other_then, other_is}
use Rattle.base.specs.declared.sets.Rights.{Rights}
use Rattle.base.specs.declared.sets.TypeSet.{TypeSet}
use Rattle.base.specs.SetBits.{rights_bits, types_bits, rights_by, other_rights, types_by, other_types}

-- of rights
pub rights_and : (a b r : Rights) → r ≡ rights_by ◌&&◌ a b → rights_bits r ≡ bit_and (rights_bits a) (rights_bits b)
rights_and a b r e = ap rights_bits e ∙ sym (and_then _ _ _ a.write b.write (and_then 0 0 0 a.read b.read refl))

pub rights_or : (a b r : Rights) → r ≡ rights_by ◌||◌ a b → rights_bits r ≡ bit_or (rights_bits a) (rights_bits b)
rights_or a b r e = ap rights_bits e ∙ sym (or_then _ _ _ a.write b.write (or_then 0 0 0 a.read b.read refl))

pub rights_xor : (a b r : Rights) → r ≡ rights_by one_of a b → rights_bits r ≡ bit_xor (rights_bits a) (rights_bits b)
rights_xor a b r e = ap rights_bits e ∙ sym (xor_then _ _ _ a.write b.write (xor_then 0 0 0 a.read b.read refl))

pub rights_not : (a r : Rights) → r ≡ other_rights a → rights_bits r ≡ 2 ^ 2 - 1 - rights_bits a
rights_not a r e =
    ap rights_bits e ∙ other_is 2 _ _ (other_then 1 _ _ a.write (other_then 0 0 0 a.read no_other))

pub rights_eq : (a b : Rights) → (beq a.read b.read && beq a.write b.write) ≡ (rights_bits a == rights_bits b)
rights_eq a b = eq_then _ _ (beq a.read b.read) a.write b.write (eq_then 0 0 true a.read b.read refl)

-- of sets of kinds
pub types_and : (a b r : TypeSet) → r ≡ types_by ◌&&◌ a b → types_bits r ≡ bit_and (types_bits a) (types_bits b)
types_and a b r e =
    ap types_bits e
    ∙ sym (and_then _ _ _ a.device b.device (and_then _ _ _ a.gate b.gate (and_then _ _ _ a.thread b.thread
    (and_then _ _ _ a.address_space b.address_space (and_then _ _ _ a.segment b.segment
    (and_then 0 0 0 a.container b.container refl))))))

pub types_or : (a b r : TypeSet) → r ≡ types_by ◌||◌ a b → types_bits r ≡ bit_or (types_bits a) (types_bits b)
types_or a b r e =
    ap types_bits e
    ∙ sym (or_then _ _ _ a.device b.device (or_then _ _ _ a.gate b.gate (or_then _ _ _ a.thread b.thread
    (or_then _ _ _ a.address_space b.address_space (or_then _ _ _ a.segment b.segment
    (or_then 0 0 0 a.container b.container refl))))))

pub types_xor : (a b r : TypeSet) → r ≡ types_by one_of a b → types_bits r ≡ bit_xor (types_bits a) (types_bits b)
types_xor a b r e =
    ap types_bits e
    ∙ sym (xor_then _ _ _ a.device b.device (xor_then _ _ _ a.gate b.gate (xor_then _ _ _ a.thread b.thread
    (xor_then _ _ _ a.address_space b.address_space (xor_then _ _ _ a.segment b.segment
    (xor_then 0 0 0 a.container b.container refl))))))

pub types_not : (a r : TypeSet) → r ≡ other_types a → types_bits r ≡ 2 ^ 6 - 1 - types_bits a
types_not a r e =
    ap types_bits e
    ∙ other_is 6 _ _ (other_then 5 _ _ a.device (other_then 4 _ _ a.gate (other_then 3 _ _ a.thread
    (other_then 2 _ _ a.address_space (other_then 1 _ _ a.segment (other_then 0 0 0 a.container no_other))))))

by_turns : (a b c d e f : Bool) → (a && (b && (c && (d && (e && f))))) ≡ (((((a && b) && c) && d) && e) && f)
by_turns false b c d e f = refl
by_turns true false c d e f = refl
by_turns true true false d e f = refl
by_turns true true true false e f = refl
by_turns true true true true e f = refl

pub types_eq : (a b : TypeSet)
    → (beq a.container b.container && (beq a.segment b.segment && (beq a.address_space b.address_space
    && (beq a.thread b.thread && (beq a.gate b.gate && beq a.device b.device)))))
    ≡ (types_bits a == types_bits b)
types_eq a b =
    by_turns (beq a.container b.container) (beq a.segment b.segment) (beq a.address_space b.address_space)
    (beq a.thread b.thread) (beq a.gate b.gate) (beq a.device b.device)
    ∙ eq_then _ _ _ a.device b.device (eq_then _ _ _ a.gate b.gate (eq_then _ _ _ a.thread b.thread
    (eq_then _ _ _ a.address_space b.address_space (eq_then _ _ _ a.segment b.segment
    (eq_then 0 0 true a.container b.container refl)))))
