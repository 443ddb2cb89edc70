-- The lines of an address space's filled slots.
use Rattle.std.specs.Prelude.{ℕ, ◌+◌, List, [], ◌∷◌, ◌++◌, Option, Some, None, codes, decimal}
use Rattle.call_text.specs.Reply.{reply_text}
use Rattle.call_text.specs.declared.known_names.Named.{Named}
use Rattle.kernel_rules.specs.declared.objects.Mapping.{Mapping}
use Rattle.kernel_rules.specs.declared.replies.Reply.TheVariants as replies
use Rattle.shown_dumps.specs.Objects.{indent}

-- a slot: nothing where it is empty
abbrev pub slot_line : List Named → ℕ → ℕ → Option Mapping → List ℕ
slot_line names depth slot None = []
slot_line names depth slot (Some m) =
    indent depth ++ codes "slot " ++ decimal slot ++ codes ": " ++ reply_text names (replies.Mapping (Some m)) ++ 10 ∷ []

-- slots, the first of which has this number
abbrev pub slot_lines : List Named → ℕ → ℕ → List (Option Mapping) → List ℕ
slot_lines names depth slot [] = []
slot_lines names depth slot (m ∷ ms) = slot_line names depth slot m ++ slot_lines names depth (slot + 1) ms
