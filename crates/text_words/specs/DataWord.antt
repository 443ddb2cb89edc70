-- The spelling of data.
use Rattle.std.specs.Prelude.{ℕ, ◌≤◌, List, [], ◌∷◌, length, codes}
use Rattle.hex.specs.Hex.{encode_lower, IsBytes}

-- two digits a byte, or a dash where there is none
abbrev pub data_text : List ℕ → List ℕ
data_text [] = codes "-"
data_text (b ∷ bytes) = encode_lower (b ∷ bytes)

-- at most 64 bytes
pub record IsData (d : List ℕ) : Type 0 where
  pub few : length d ≤ 64
  pub bytes : IsBytes d
