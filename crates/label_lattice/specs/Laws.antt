-- The laws of labels that hold for all of them at once.
use Rattle.std.specs.Prelude.{◌≡◌, ◌≢◌, ℕ, ◌≤◌, ◌↔◌, List, IsTrue, false}
use Rattle.base.specs.Level.{rank_of}
use Rattle.base.specs.declared.levels.Level.TheVariants.{Star}
use Rattle.label_lattice.specs.declared.pairings.Pair.{Pair}
use Rattle.label_lattice.specs.declared.raw_labels.RawLabel.{RawLabel}
use Rattle.label_lattice.specs.Label.{LabelValue, level, has_star, IsStored}
use Rattle.label_lattice.specs.Order.{Levels, levels, Leq, leq_test, join, up, down, IsDescribed}
use Rattle.label_lattice.specs.Placed.{with_level}
use Rattle.label_lattice.specs.Raw.{is_bad, is_made, all_made, raw_has_star}
use Rattle.label_lattice.specs.Raw.{raw_of, stored_of}
use Rattle.label_lattice.specs.Rule.{top_rank}

-- stored labels that agree at each category are one
abbrev pub AgreeingAreOne : Type 0
AgreeingAreOne =
    (a b : LabelValue) → IsStored a → IsStored b → ((c : ℕ) → level a c ≡ level b c) → a ≡ b

-- the raw form of a stored label is not bad
abbrev pub RawFormIsGood : Type 0
RawFormIsGood = (l : LabelValue) → IsStored l → is_bad (raw_of l) ≡ false

-- and is stored as that label
abbrev pub RawFormGivesBack : Type 0
RawFormGivesBack = (l : LabelValue) → IsStored l → stored_of (raw_of l) ≡ l

-- a label has star where its raw label does
abbrev pub StarIsKept : Type 0
StarIsKept = (raw : RawLabel) → is_bad raw ≡ false → has_star (stored_of raw) ≡ raw_has_star raw

-- where the categories of a raw label were made, so were those of the label that is stored
abbrev pub MadeIsStored : Type 0
MadeIsStored =
    (next : ℕ) (raw : RawLabel) → IsTrue (all_made next raw.pairs)
    → IsTrue (all_made next (stored_of raw).exceptions)

-- a level for a category that was made adds no other
abbrev pub MadeIsPlaced : Type 0
MadeIsPlaced =
    (next : ℕ) (l : LabelValue) (p : Pair) → IsTrue (all_made next l.exceptions)
    → IsTrue (is_made next p) → IsTrue (all_made next (with_level l p).exceptions)

-- what was made stays so as the next category rises
abbrev pub MadeStaysMade : Type 0
MadeStaysMade =
    (next later : ℕ) (ps : List Pair) → next ≤ later → IsTrue (all_made next ps)
    → IsTrue (all_made later ps)

-- everything is at most itself
abbrev pub OrderIsReflexive : Type 0
OrderIsReflexive = (a : Levels) → Leq a a

-- what is at most another is at most all above that
abbrev pub OrderIsTransitive : Type 0
OrderIsTransitive = (a b c : Levels) → Leq a b → Leq b c → Leq a c

-- stored labels that are at most each other are one
abbrev pub OrderIsAntisymmetric : Type 0
OrderIsAntisymmetric =
    (a b : LabelValue) → IsStored a → IsStored b
    → Leq (levels a) (levels b) → Leq (levels b) (levels a) → a ≡ b

-- both are at most their maximum
abbrev pub JoinIsAbove : Type 0
JoinIsAbove = (a b : Levels) → Leq a (join a b) × Leq b (join a b)

-- which is at most all that both are at most
abbrev pub JoinIsLeast : Type 0
JoinIsLeast = (a b c : Levels) → Leq a c → Leq b c → Leq (join a b) c

-- `up` takes star to J
abbrev pub UpRaisesStar : Type 0
UpRaisesStar = (a : Levels) (c : ℕ) → a.at c ≡ rank_of Star → (up a).at c ≡ top_rank

-- and leaves all other levels
abbrev pub UpKeepsOthers : Type 0
UpKeepsOthers = (a : Levels) (c : ℕ) → a.at c ≢ rank_of Star → (up a).at c ≡ a.at c

-- `down` takes J to star
abbrev pub DownLowersTop : Type 0
DownLowersTop = (a : Levels) (c : ℕ) → a.at c ≡ top_rank → (down a).at c ≡ rank_of Star

-- and leaves all other levels
abbrev pub DownKeepsOthers : Type 0
DownKeepsOthers = (a : Levels) (c : ℕ) → a.at c ≢ top_rank → (down a).at c ≡ a.at c

-- the test that computes says whether the order holds over all categories
abbrev pub TestTellsOrder : Type 0
TestTellsOrder =
    (a b : Levels) → IsDescribed a → IsDescribed b → IsTrue (leq_test a b) ↔ Leq a b

-- of the levels of labels
abbrev pub LabelsAreDescribed : Type 0
LabelsAreDescribed = (l : LabelValue) → IsDescribed (levels l)

-- of what `join` makes
abbrev pub JoinsAreDescribed : Type 0
JoinsAreDescribed = (a b : Levels) → IsDescribed a → IsDescribed b → IsDescribed (join a b)

-- of what `up` makes
abbrev pub UpsAreDescribed : Type 0
UpsAreDescribed = (a : Levels) → IsDescribed a → IsDescribed (up a)

-- and of what `down` makes
abbrev pub DownsAreDescribed : Type 0
DownsAreDescribed = (a : Levels) → IsDescribed a → IsDescribed (down a)
