-- The page of a dump: a fixed head, its data as JSON, and a fixed tail.
use Rattle.std.specs.Prelude.{ℕ, ◌==◌, List, [], ◌∷◌, ◌++◌, map, codes, Option, Some, None, if◌then◌else◌}
use Rattle.base.specs.declared.ids.Category.{Category}
use Rattle.call_text.specs.ReplyWord.{value_text}
use Rattle.call_text.specs.declared.known_names.Named.{Named}
use Rattle.call_text.specs.declared.known_names.Value.{Value}
use Rattle.call_text.specs.declared.known_names.Value.TheVariants.{Object as OfObject, Category as OfCategory}
use Rattle.dump_text.specs.Lists.{DumpLists}
use Rattle.dump_text.specs.Whole.{start_with}
use Rattle.page_text.specs.Steps.{Step, turns, steps_of, step_data}
use Rattle.page_text.specs.Told.{told_in}
use Rattle.page_text.specs.declared.frame.TheConstants.{HEAD, TAIL}
use Rattle.serde_json.specs.Data.{Data, null, array, object, member, no_members}
use Rattle.serde_json.specs.View.{items_of}
use Rattle.serde_json.specs.Written.{compact_text}
use Rattle.shown_dumps.specs.Json.{word_data}

-- an object or a category by its name, or by its number where it has none
abbrev pub value_data : List Named → Value → Data
value_data names value = word_data (value_text names value)

abbrev pub object_data : List Named → ℕ → Data
object_data names id = value_data names (OfObject id)

-- the category and the object of a question, and what it reaches
abbrev pub question_data : Data → Data → List Data → Data
question_data category from reached =
    object (member (codes "category") category
    (member (codes "from") from
    (member (codes "reached") (array (items_of reached)) no_members)))

-- the flows that are asked for, and the objects that they reach
abbrev pub flow_data : List Named → Option (ℕ × Category) → List ℕ → Data
flow_data names None reached = null
flow_data names (Some flow) reached =
    question_data (value_data names (OfCategory flow.1)) (object_data names flow.0) (map (object_data names) reached)

-- what a page shows
abbrev pub shown_data : List Named → Option (ℕ × Category) → List ℕ → List Step → Data
shown_data names flow reached steps =
    object (member (codes "flow") (flow_data names flow reached)
    (member (codes "steps") (array (items_of (map (step_data names reached) steps))) no_members))

-- of a dump, its steps from the state that its events begin in
abbrev pub page_data : List Named → List ℕ → DumpLists → Option (ℕ × Category) → List ℕ → Data
page_data names text d flow reached =
    shown_data names flow reached (steps_of names (told_in text) (start_with d.limits d.checkpoint).state (turns d.events d.reads))

-- JSON in which no < stands, which would end its place in a page
abbrev pub escaped : List ℕ → List ℕ
escaped [] = []
escaped (x ∷ xs) = (if x == 60 then codes "\\u003c" else x ∷ []) ++ escaped xs

-- a text of JSON in its page
abbrev pub framed : List ℕ → List ℕ
framed text = HEAD.now ++ escaped text ++ TAIL.now

abbrev pub page_text : Data → List ℕ
page_text shown = framed (compact_text shown)
