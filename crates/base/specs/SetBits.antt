-- Sets as numbers: each right and each kind has a binary digit, the first the highest.
use Rattle.std.specs.Prelude.{ℕ, Bool, not, ◌&&◌, List, [], ◌∷◌, codes}
use Rattle.base.specs.Digits.{then_digit}
use Rattle.base.specs.declared.sets.Rights.{Rights}
use Rattle.base.specs.declared.sets.TypeSet.{TypeSet}

-- the digits of rights
abbrev pub rights_bits : Rights → ℕ
rights_bits a = then_digit (then_digit 0 a.read) a.write

-- the digits of a set of kinds
abbrev pub types_bits : TypeSet → ℕ
types_bits a =
    then_digit (then_digit (then_digit (then_digit (then_digit (then_digit 0 a.container) a.segment) a.address_space)
    a.thread) a.gate) a.device

-- what an operator makes of two sets of rights, right by right
abbrev pub rights_by : (Bool → Bool → Bool) → Rights → Rights → Rights
rights_by f a b = record { read = f a.read b.read; write = f a.write b.write }

-- what is in the first of two sets alone
abbrev pub without : Bool → Bool → Bool
without a b = a && not b

-- the rights that are not in the set
abbrev pub other_rights : Rights → Rights
other_rights a = record { read = not a.read; write = not a.write }

-- what an operator makes of two sets of kinds, kind by kind
abbrev pub types_by : (Bool → Bool → Bool) → TypeSet → TypeSet → TypeSet
types_by f a b = record {
  container = f a.container b.container;
  segment = f a.segment b.segment;
  address_space = f a.address_space b.address_space;
  thread = f a.thread b.thread;
  gate = f a.gate b.gate;
  device = f a.device b.device;
}

-- the kinds that are not in the set
abbrev pub other_types : TypeSet → TypeSet
other_types a = record {
  container = not a.container;
  segment = not a.segment;
  address_space = not a.address_space;
  thread = not a.thread;
  gate = not a.gate;
  device = not a.device;
}

-- the names of the rights
abbrev pub rights_table : List (List ℕ × ℕ)
rights_table = (codes "READ", 2) ∷ (codes "WRITE", 1) ∷ []

-- the names of the kinds
abbrev pub types_table : List (List ℕ × ℕ)
types_table =
    (codes "CONTAINER", 32) ∷ (codes "SEGMENT", 16) ∷ (codes "ADDRESS_SPACE", 8) ∷ (codes "THREAD", 4)
    ∷ (codes "GATE", 2) ∷ (codes "DEVICE", 1) ∷ []
