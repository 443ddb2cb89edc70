-- A folder with a file that is replaced, and how each step changes it.
use Rattle.std.specs.Prelude.{◌≡◌, ◌⊎◌, ℕ, Bool, true, false, List, [], ◌++◌, Option, Some, None}
use Rattle.std.specs.Prelude.{option_map}

-- a file: its bytes, and whether they are on the disk
pub record Stored : Type 0 where
  pub bytes : List ℕ
  pub kept : Bool

-- what the path names, what stands beside it, and whether the names are on the disk
pub record Folder : Type 0 where
  pub named : Option Stored
  pub beside : Option Stored
  pub kept : Bool

-- what stood beside the path is gone
abbrev pub cleared : Folder → Folder
cleared f = record { named = f.named; beside = None; kept = f.kept }

-- an empty file stands beside the path
abbrev pub created : Folder → Folder
created f = record { named = f.named; beside = Some (record { bytes = []; kept = false }); kept = f.kept }

-- the file beside the path has these bytes more
abbrev pub written : List ℕ → Folder → Folder
written more f = record {
  named = f.named;
  beside = option_map (λ s. record { bytes = s.bytes ++ more; kept = false }) f.beside;
  kept = f.kept;
}

-- its bytes are on the disk
abbrev pub flushed : Folder → Folder
flushed f = record {
  named = f.named;
  beside = option_map (λ s. record { bytes = s.bytes; kept = true }) f.beside;
  kept = f.kept;
}

-- it takes the path's name
abbrev pub renamed : Folder → Folder
renamed f = record { named = f.beside; beside = None; kept = false }

-- the names are on the disk
abbrev pub settled : Folder → Folder
settled f = record { named = f.named; beside = f.beside; kept = true }

-- the path names a file of these bytes, which are on the disk, and nothing stands beside it
abbrev pub replaced : List ℕ → Folder → Folder
replaced bytes f =
    record { named = Some (record { bytes = bytes; kept = true }); beside = None; kept = false }

-- the same, with the names on the disk
abbrev pub saved : List ℕ → Folder → Folder
saved bytes f = settled (replaced bytes f)

-- the path names what it did, where that is known
abbrev pub IsOld : Option Folder → Option Folder → Type 0
IsOld old new = option_map (λ f. f.named) new ≡ option_map (λ f. f.named) old

-- it names what it did, or the whole of what was to be written
abbrev pub IsOldOrNew : List ℕ → Option Folder → Option Folder → Type 0
IsOldOrNew bytes old new = IsOld old new ⊎ (new ≡ option_map (replaced bytes) old)
