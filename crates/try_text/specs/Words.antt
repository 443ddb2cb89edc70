-- The words of a dialogue.
use Rattle.std.specs.Prelude.{ℕ, ◌==◌, ◌&&◌, ◌||◌, not, List, [], length, Bool, codes, if◌then◌else◌}
use Rattle.std.specs.Str.{bytes_eq}
use Rattle.check_text.specs.Lines.{before_byte, after_byte, is_equals}
use Rattle.call_text.specs.Lines.{is_silent}
use Rattle.try_text.specs.declared.words.Word.{Word}
use Rattle.try_text.specs.declared.words.Word.TheVariants.{Nothing, Why, Tree, Undo, Help, Quit, Save, Call}

-- the path of a file to save to
abbrev pub path_in : List ℕ → List ℕ
path_in line = after_byte 32 line

-- save and a path, where the line binds no name
abbrev pub is_save : List ℕ → Bool
is_save line =
    bytes_eq (before_byte 32 line) (codes "save")
    && (not (length (path_in line) == 0) && not (is_equals (path_in line)))

-- what a line is
abbrev pub word_of : List ℕ → Word
word_of line =
    if is_silent line || bytes_eq line (codes "--") then Nothing
    else if bytes_eq line (codes "why") then Why
    else if bytes_eq line (codes "tree") then Tree
    else if bytes_eq line (codes "undo") then Undo
    else if bytes_eq line (codes "help") then Help
    else if bytes_eq line (codes "quit") then Quit
    else if is_save line then Save
    else Call
