-- The tree of a state: the root, below each container what it lists, in the order of its list, and below each address space
-- its filled slots. Where a thread is asked about, each object that it may delete is marked.
use Rattle.std.specs.Prelude.{ℕ, ◌+◌, List, [], ◌++◌, Option, None}
use Rattle.call_text.specs.declared.known_names.Named.{Named}
use Rattle.kernel_rules.specs.State.{State, object_at, of_object, quota_at, slots_of}
use Rattle.kernel_rules.specs.declared.objects.Object.{Object}
use Rattle.shown_dumps.specs.Objects.{object_line}
use Rattle.shown_dumps.specs.TreePlaces.{nothing, root, walk}
use Rattle.shown_dumps.specs.Slots.{slot_lines}
use Rattle.shown_dumps.specs.declared.tree.places.Place.{Place}

-- the line of an object, and those of its slots
abbrev pub object_lines : List Named → Option ℕ → State → Place → Object → List ℕ
object_lines names asked s p x = object_line names asked s p x ++ slot_lines names (p.depth + 1) 0 (slots_of x.body)

abbrev pub lines_at : List Named → Option ℕ → State → Place → List ℕ
lines_at names asked s p = of_object [] (object_lines names asked s p) (object_at s p.id)

-- so many levels of the tree from a place on
abbrev pub tree_from : List Named → Option ℕ → State → ℕ → Place → List ℕ
tree_from names asked s levels p = walk (lines_at names asked s) nothing s levels p

-- the whole tree. What a container lists has a smaller quota than the container, so there are no more levels than the root
-- has pages
abbrev pub whole_tree : List Named → Option ℕ → State → List ℕ
whole_tree names asked s = tree_from names asked s (quota_at s 1) root

-- the same, where no thread is asked about
abbrev pub named_tree : List Named → State → List ℕ
named_tree names s = whole_tree names None s
