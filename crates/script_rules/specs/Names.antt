-- Which names are known as lines are played.
use Rattle.std.specs.Prelude.{ℕ, List, [], ◌∷◌, ◌++◌, Option, Some, None, Result, Ok, Err}
use Rattle.kernel_rules.specs.declared.replies.Reply.{Reply}
use Rattle.kernel_rules.specs.declared.replies.Reply.TheVariants as replies
use Rattle.call_text.specs.Known.{value_of}
use Rattle.call_text.specs.declared.known_names.Named.{Named}
use Rattle.call_text.specs.declared.known_names.Value.{Value}
use Rattle.call_text.specs.declared.known_names.Value.TheVariants.{Object, Category}

-- the names with one more, unless it has a value already
abbrev pub unless_bound : Option Value → Named → List Named → List Named
unless_bound (Some value) n names = names
unless_bound None n names = names ++ n ∷ []

-- the names after one more is bound
abbrev pub bound : Named → List Named → List Named
bound n names = unless_bound (value_of n.name names) n names

-- what a call made that was answered so
abbrev pub made_by : Reply → Option Value
made_by (replies.Category c) = Some (Category c)
made_by (replies.Object id) = Some (Object id)
made_by _ = None

-- the names with that of a line, where it binds one and something was made
abbrev pub with_name : List Named → Option (List ℕ) → Option Value → List Named
with_name names (Some name) (Some value) = bound (record { name = name; value = value }) names
with_name names (Some name) None = names
with_name names None value = names

-- the names after a line that binds this was answered so
abbrev pub names_after : List Named → Option (List ℕ) → Result Reply (List ℕ) → List Named
names_after names binds (Ok reply) = with_name names binds (made_by reply)
names_after names binds (Err name) = names
