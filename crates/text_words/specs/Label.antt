-- The spelling of a label.
use Rattle.std.specs.Prelude.{ℕ, ◌≤◌, List, [], ◌∷◌, ◌++◌, length, map}
use Rattle.std.specs.List.{AllByRecursion, join_with_byte}
use Rattle.base.specs.declared.levels.Level.{Level}
use Rattle.text_words.specs.declared.spoken_labels.SpokenPair.{SpokenPair}
use Rattle.text_words.specs.LevelWord.{level_text}
use Rattle.text_words.specs.Reference.{reference_text, IsReference}

-- a label as it is written: its pairs in order, and its default
pub record LabelValue : Type 0 where
  pub pairs : List SpokenPair
  pub default : Level

-- a category and its level, as #5:3
abbrev pub pair_text : SpokenPair → List ℕ
pair_text p = reference_text p.category ++ 58 ∷ level_text p.level

-- the category has a spelling
abbrev pub IsPair : SpokenPair → Type 0
IsPair p = IsReference p.category

-- the pairs and the default's level, parted by commas
abbrev pub inside_text : LabelValue → List ℕ
inside_text l = join_with_byte 44 (map pair_text l.pairs ++ level_text l.default ∷ [])

-- the same in braces
abbrev pub label_text : LabelValue → List ℕ
label_text l = 123 ∷ (inside_text l ++ 125 ∷ [])

-- at most 24 pairs
pub record IsLabel (l : LabelValue) : Type 0 where
  pub pairs : AllByRecursion IsPair l.pairs
  pub few : length l.pairs ≤ 24
