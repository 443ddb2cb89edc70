-- A line of a dialogue as a line of a script.
use Rattle.std.specs.Prelude.{ℕ, List, [], ◌∷◌, ◌++◌, drop, Option, Some, None, Bool, codes, if◌then◌else◌}
use Rattle.text_words.specs.Lacks.{lacks}
use Rattle.check_text.specs.Lines.{before_byte, after_byte, binding}

-- the text with the worker boot, where its first word, which has no colon, is no worker
abbrev pub with_worker : List ℕ → List ℕ
with_worker text = if lacks 58 (before_byte 32 text) then codes "boot: " ++ text else text

-- NAME = and the rest
abbrev pub bound_text : List ℕ → List ℕ → List ℕ
bound_text name rest = name ++ codes " = " ++ rest

-- the rest of a line after the name that it binds
abbrev pub after_name : List ℕ → List ℕ
after_name text = drop 2 (after_byte 32 text)

abbrev pub full_with : Option (List ℕ) → List ℕ → List ℕ
full_with None text = with_worker text
full_with (Some name) text = bound_text name (with_worker (after_name text))

-- the whole line: where it names no worker, that is boot
abbrev pub full_line : List ℕ → List ℕ
full_line text = full_with (binding text) text
