-- What is known of the lines of a script.
use Rattle.std.specs.Prelude.{ℕ, List, [], ◌∷◌, ◌++◌, Option, Some, None, Bool, false, not, ◌&&◌, ◌||◌, nat_lt, fold, if◌then◌else◌}
use Rattle.call_text.specs.Script.{is_bound, known_names}
use Rattle.call_text.specs.declared.phases.Line.{Line}
use Rattle.check_text.specs.Binders.{binder, is_used}
use Rattle.check_text.specs.Givers.{gives, is_kind}
use Rattle.check_text.specs.Mentions.{script_mentions}
use Rattle.check_text.specs.Outlines.{outlines_from}
use Rattle.check_text.specs.declared.script_checks.mentions.Mention.{Mention}
use Rattle.check_text.specs.declared.script_checks.outlines.Outline.{Outline}

-- the lines, and the names that they use
pub record Surveyed : Type 0 where
  pub outlines : List Outline
  pub mentions : List Mention

abbrev pub survey_of : List (List Line) → Surveyed
survey_of phases = record { outlines = outlines_from 0 phases; mentions = script_mentions phases }

-- the line that binds the name gives it to this one, as what is asked
abbrev pub is_given : List Outline → Outline → Bool → Option Outline → Bool
is_given lines to category None = false
is_given lines to category (Some from) = is_kind category from && gives lines from to

-- a name is known to a line at the start of each script, or where it is given
abbrev pub knows : List Outline → Outline → Mention → Bool
knows lines to m =
    (not m.category && is_bound m.name known_names)
    || is_given lines to m.category (binder m.name lines)

-- one more name, where it is not known to the line and not among those that were found
abbrev pub with_unknown : List Outline → Outline → List Mention → Mention → List Mention
with_unknown lines to found m = if knows lines to m || is_used m.name found then found else found ++ (m ∷ [])

-- the names that are not known to the line, each once
abbrev pub unknown : List Outline → Outline → List Mention → List Mention
unknown lines to mentions = fold (with_unknown lines to) [] mentions

-- an object is bound in an earlier phase
abbrev pub is_earlier : Outline → Option Outline → Bool
is_earlier to None = false
is_earlier to (Some from) = not from.category && nat_lt from.phase to.phase

-- a line's worker is known at the start of each script, or bound before the line's phase
abbrev pub knows_worker : List Outline → Outline → Bool
knows_worker lines to =
    is_bound to.worker known_names || is_earlier to (binder to.worker lines)

-- the name that a line binds, where no line uses it
abbrev pub unused_name : List Mention → Option (List ℕ) → Option (List ℕ)
unused_name mentions None = None
unused_name mentions (Some name) = if is_used name mentions then None else Some name

abbrev pub unused : List Mention → Outline → Option (List ℕ)
unused mentions line = unused_name mentions line.binds
