-- What an object has in the tables of a state, told by its id.
use Rattle.std.specs.Prelude.{ℕ, List, [], ◌∷◌, ◌++◌, Option, Some, None, if◌then◌else◌}
use Rattle.base.specs.declared.kinds.Kind.TheVariants as kinds
use Rattle.label_lattice.specs.Label.{LabelValue}
use Rattle.kernel_rules.specs.Sizes.{slot_count}
use Rattle.kernel_rules.specs.State.{State, is_live_kind, label_at, thread_at, gate_at}
use Rattle.kernel_rules.specs.Scratch.{shown_from}
use Rattle.kernel_rules.specs.declared.objects.Gate.{Gate}
use Rattle.kernel_rules.specs.declared.objects.Thread.{Thread}
use Rattle.kernel_rules.specs.declared.tables.Shown.{Shown}

-- what the sixteen slots of o show, where it is a thread
abbrev pub shown_at : State → ℕ → List Shown
shown_at s o = if is_live_kind s kinds.Thread o then shown_from s o 0 slot_count else []

-- a label that is there
abbrev pub label_list : Option LabelValue → List LabelValue
label_list None = []
label_list (Some l) = l ∷ []

-- the clearance and the verify label of a thread that is there
abbrev pub thread_labels : Option Thread → List LabelValue
thread_labels None = []
thread_labels (Some t) = t.clearance ∷ t.verify ∷ []

-- the clearance of a gate that is there
abbrev pub gate_labels : Option Gate → List LabelValue
gate_labels None = []
gate_labels (Some g) = g.clearance ∷ []

-- the labels that o stores: its own, and those of a thread or a gate
abbrev pub labels_at : State → ℕ → List LabelValue
labels_at s o =
    label_list (label_at s o) ++ (thread_labels (thread_at s o) ++ gate_labels (gate_at s o))
