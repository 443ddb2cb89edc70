-- Words in which ids and categories are typed as # and a number, or as a number alone.
use Rattle.std.specs.Prelude.{ℕ, Bool, ◌==◌, ◌&&◌, ◌||◌, not, nat_lt, List, [], ◌∷◌, ◌++◌, length, codes, if◌then◌else◌}
use Rattle.std.specs.List.{before_first, after_first, position_or_len}
use Rattle.std.specs.Str.{bytes_eq}
use Rattle.clap.specs.Words.{Text}

-- the options whose value is an id or a category
abbrev pub takes_id : Text → Bool
takes_id word =
    bytes_eq word (codes "--from")
    || (bytes_eq word (codes "--category")
    || (bytes_eq word (codes "--next-id") || (bytes_eq word (codes "--next-category") || bytes_eq word (codes "--as"))))

-- the mark of an id
abbrev pub is_mark : ℕ → Bool
is_mark byte = byte == 35

-- a value without the mark, where it begins with one
abbrev pub bare : Text → Text
bare value =
    if nat_lt (position_or_len is_mark value) (length value) && (length (before_first is_mark value) == 0)
    then after_first is_mark value
    else value

-- a byte that stands between an option and its value
abbrev pub is_equals : ℕ → Bool
is_equals byte = byte == 61

-- a word, or the option and the value in it
abbrev pub parts_of : Text → List Text
parts_of word =
    if nat_lt (position_or_len is_equals word) (length word) && takes_id (before_first is_equals word)
    then before_first is_equals word ∷ bare (after_first is_equals word) ∷ []
    else word ∷ []

-- words, of which the first is an id or not: each id and each category without its mark
abbrev pub without_marks : Bool → List Text → List Text
without_marks is_id [] = []
without_marks is_id (word ∷ words) =
    (if is_id then bare word ∷ [] else parts_of word) ++ without_marks (not is_id && takes_id word) words
