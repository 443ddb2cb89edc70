-- A state as a graph for Graphviz: a cluster for each container, and in it a node for each object that it lists. An object that
-- more than one container lists stands in the first, and each of them has an arrow to it.
use Rattle.std.specs.Prelude.{ℕ, Bool, not, ◌==◌, ◌&&◌, nat_lt, List, [], ◌++◌, codes, if◌then◌else◌}
use Rattle.std.specs.List.{list_any}
use Rattle.base.specs.Live.{has}
use Rattle.call_text.specs.declared.known_names.Named.{Named}
use Rattle.kernel_rules.specs.Scratch.{ids_of}
use Rattle.kernel_rules.specs.State.{State, list_at, object_at, of_object, quota_at}
use Rattle.kernel_rules.specs.declared.objects.Object.{Object}
use Rattle.shown_dumps.specs.Nodes.{open_text, close_text, body_arrows, list_arrow}
use Rattle.shown_dumps.specs.TreePlaces.{nothing, root, walk}
use Rattle.shown_dumps.specs.declared.tree.places.Place.{Place}

-- another container lists the object at a place, and one of a lower id
abbrev pub is_other : State → Place → ℕ → Bool
is_other s p c = has (list_at s c) p.id && not (c == p.container)

abbrev pub is_shared : State → Place → Bool
is_shared s p = list_any (is_other s p) (ids_of s.objects)

abbrev pub is_before : State → Place → ℕ → Bool
is_before s p c = has (list_at s c) p.id && nat_lt c p.container

-- the object stands where the first container lists it
abbrev pub is_first : State → Place → Bool
is_first s p = not (list_any (is_before s p) (ids_of s.objects))

-- what stands of an object at a place before what it lists, and after it
abbrev pub opened_of : List Named → State → List ℕ → Place → Object → List ℕ
opened_of names s reached p x = if is_first s p then open_text names s reached p x else []

abbrev pub closed_of : State → Place → Object → List ℕ
closed_of s p x = if is_first s p then close_text p x else []

abbrev pub opened_at : List Named → State → List ℕ → Place → List ℕ
opened_at names s reached p = of_object [] (opened_of names s reached p) (object_at s p.id)

abbrev pub closed_at : State → Place → List ℕ
closed_at s p = of_object [] (closed_of s p) (object_at s p.id)

-- so many levels from a place on, of which these objects are reached
abbrev pub dot_from : List Named → State → List ℕ → ℕ → Place → List ℕ
dot_from names s reached levels p = walk (opened_at names s reached) (closed_at s) s levels p

-- the arrows from an object where it stands, and that of the container where more than one lists it
abbrev pub own_arrows : State → Place → Object → List ℕ
own_arrows s p x = if is_first s p then body_arrows p x.body else []

abbrev pub arrows_of : State → Place → Object → List ℕ
arrows_of s p x = own_arrows s p x ++ (if is_shared s p then list_arrow p else [])

-- the arrows of what is at a place
abbrev pub arrows_at : State → Place → List ℕ
arrows_at s p = of_object [] (arrows_of s p) (object_at s p.id)

-- Those of so many levels from a place on. They stand after all clusters: Graphviz takes a node into each cluster that names it.
abbrev pub arrows_from : State → ℕ → Place → List ℕ
arrows_from s levels p = walk (arrows_at s) nothing s levels p

-- the whole graph, which has as many levels as the tree
abbrev pub dot_text : List Named → State → List ℕ → List ℕ
dot_text names s reached =
    codes "digraph dump {\nnode [shape=box];\n" ++ dot_from names s reached (quota_at s 1) root
    ++ arrows_from s (quota_at s 1) root ++ codes "}\n"
