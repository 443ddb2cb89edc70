-- The spelling of sets of kinds.
use Rattle.std.specs.Prelude.{ℕ, ◌==◌, List, [], ◌∷◌, codes, if◌then◌else◌, fold}
use Rattle.base.specs.declared.kinds.Kind.{Kind}
use Rattle.base.specs.declared.kinds.Kind.TheVariants.{Container, Segment, AddressSpace, Thread}
use Rattle.base.specs.declared.kinds.Kind.TheVariants.{Gate, Device}
use Rattle.base.specs.declared.sets.TypeSet.{TypeSet}
use Rattle.base.specs.Sets.{no_kind, only, has_kind, union}

-- the letters csatgd, in the order in which they are written, each with its kind
abbrev pub letters : List (ℕ × Kind)
letters =
    (99, Container) ∷ (115, Segment) ∷ (97, AddressSpace) ∷ (116, Thread) ∷ (103, Gate)
    ∷ (100, Device) ∷ []

-- the letters of the kinds in the set
abbrev pub letters_of : TypeSet → List (ℕ × Kind) → List ℕ
letters_of set [] = []
letters_of set (l ∷ more) =
    if has_kind set l.1 then l.0 ∷ letters_of set more else letters_of set more

-- the text, or a dash where it is empty
abbrev pub or_dash : List ℕ → List ℕ
or_dash [] = codes "-"
or_dash (b ∷ bytes) = b ∷ bytes

-- the letters of the kinds in the set, or a dash where it is empty
abbrev pub types_text : TypeSet → List ℕ
types_text set = or_dash (letters_of set letters)

-- the kind that a letter stands for, and none for other bytes
abbrev pub set_of : ℕ → TypeSet
set_of b =
    if b == 99 then only Container
    else if b == 115 then only Segment
    else if b == 97 then only AddressSpace
    else if b == 116 then only Thread
    else if b == 103 then only Gate
    else if b == 100 then only Device
    else no_kind

-- the kinds whose letters stand in the text, in any order
abbrev pub gathered : List ℕ → TypeSet
gathered text = fold (λ set b. union set (set_of b)) no_kind text
