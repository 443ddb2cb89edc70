-- What a graph for Graphviz has of one place: the node or the cluster of its object.
use Rattle.std.specs.Prelude.{ℕ, ◌+◌, ◌==◌, ◌&&◌, Bool, List, [], ◌∷◌, ◌++◌, Option, Some, None, codes, decimal, if◌then◌else◌}
use Rattle.base.specs.Live.{has}
use Rattle.base.specs.declared.kinds.Kind.TheVariants as kinds
use Rattle.call_text.specs.declared.known_names.Named.{Named}
use Rattle.kernel_rules.specs.State.{State, is_kind}
use Rattle.kernel_rules.specs.Translate.{names_none}
use Rattle.kernel_rules.specs.declared.calls.Entry.{Entry}
use Rattle.kernel_rules.specs.declared.objects.Mapping.{Mapping}
use Rattle.kernel_rules.specs.declared.objects.Object.{Object}
use Rattle.kernel_rules.specs.declared.objects.Body as body
use Rattle.kernel_rules.specs.declared.objects.Body.TheVariants as is
use Rattle.shown_dumps.specs.Objects.{indent, object_text}
use Rattle.shown_dumps.specs.declared.tree.places.Place.{Place}

-- a text whose lines end after each comma that a space follows; `last` is the byte before it
abbrev pub broken : ℕ → List ℕ → List ℕ
broken last [] = []
broken last (x ∷ xs) = (if (last == 44) && (x == 32) then codes "\\n" else x ∷ []) ++ broken x xs

-- the name of the node of an object
abbrev pub node_name : ℕ → List ℕ
node_name id = codes "o" ++ decimal id

-- an object that is reached is red, and each other one black: a cluster would else take the colour of the one around it
abbrev pub color_text : Bool → List ℕ
color_text is_reached = if is_reached then codes "\", color=red" else codes "\", color=black"

-- what Graphviz is told of the object: what the tree tells of it, by the names that are known, as a label, and its colour
abbrev pub attributes : List Named → State → List ℕ → Place → Object → List ℕ
attributes names s reached p x = codes "label=\"" ++ broken 0 (object_text names s p x) ++ color_text (has reached p.id)

-- the line of a node
abbrev pub node_line : List Named → State → List ℕ → Place → Object → List ℕ
node_line names s reached p x =
    indent p.depth ++ node_name p.id ++ codes " [" ++ attributes names s reached p x ++ codes "];\n"

-- an arrow to what an entry names
abbrev pub arrow_text : Place → Entry → List ℕ
arrow_text p e = node_name p.id ++ codes " -> " ++ node_name e.object

-- an arrow for each filled slot, the first of which has this number
abbrev pub slot_arrow : Place → ℕ → Option Mapping → List ℕ
slot_arrow p slot None = []
slot_arrow p slot (Some m) = arrow_text p m.entry ++ codes " [label=\"slot " ++ decimal slot ++ codes "\"];\n"

abbrev pub slot_arrows : Place → ℕ → List (Option Mapping) → List ℕ
slot_arrows p slot [] = []
slot_arrows p slot (m ∷ ms) = slot_arrow p slot m ++ slot_arrows p (slot + 1) ms

-- an arrow to the address space of a thread or of a gate, where it has one
abbrev pub space_arrow : Place → Entry → List ℕ
space_arrow p e = if names_none e then [] else arrow_text p e ++ codes " [style=dashed];\n"

abbrev pub body_arrows : Place → body.Body → List ℕ
body_arrows p (is.Thread t) = space_arrow p t.space
body_arrows p (is.Gate g) = space_arrow p g.space
body_arrows p (is.AddressSpace slots) = slot_arrows p 0 slots.slots
body_arrows p (is.Container avoid list) = []
body_arrows p (is.Segment bytes) = []
body_arrows p (is.Device packets) = []

-- a cluster begins with its label, and with a node that nobody sees, since Graphviz leaves out an empty cluster
abbrev pub cluster_begin : Place → List ℕ
cluster_begin p = indent p.depth ++ codes "subgraph cluster_" ++ decimal p.id ++ codes " { graph ["

abbrev pub unseen_node : ℕ → List ℕ
unseen_node id = codes "]; c" ++ decimal id ++ codes " [style=invis];\n"

abbrev pub cluster_text : List Named → State → List ℕ → Place → Object → List ℕ
cluster_text names s reached p x = cluster_begin p ++ attributes names s reached p x ++ unseen_node p.id

-- an arrow to the object from the container that lists it there
abbrev pub list_arrow : Place → List ℕ
list_arrow p = codes "c" ++ decimal p.container ++ codes " -> " ++ node_name p.id ++ codes " [style=dotted, dir=both, arrowtail=dot];\n"

-- what stands of an object before what it lists, and after it
abbrev pub open_text : List Named → State → List ℕ → Place → Object → List ℕ
open_text names s reached p x =
    if is_kind kinds.Container x then cluster_text names s reached p x else node_line names s reached p x

abbrev pub close_text : Place → Object → List ℕ
close_text p x = if is_kind kinds.Container x then indent p.depth ++ codes "}\n" else []
