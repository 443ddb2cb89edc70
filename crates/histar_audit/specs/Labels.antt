-- The label that a text spells.
use Rattle.std.specs.Prelude.{◌≡◌, ℕ, true, false, List, Option, Some, None, if◌then◌else◌}
use Rattle.dump_text.specs.Word.{spoken_label}
use Rattle.kernel_rules.specs.declared.calls.Call.{Call}
use Rattle.kernel_rules.specs.declared.calls.Call.TheVariants as calls
use Rattle.label_lattice.specs.Label.{LabelValue}
use Rattle.label_lattice.specs.Raw.{is_bad, stored_of}
use Rattle.label_lattice.specs.declared.raw_labels.RawLabel.{RawLabel}
use Rattle.text_words.specs.Label.{label_text, IsLabel}

-- the text spells this label as scripts do, with each category by its number
pub record IsLabelText (text : List ℕ) (raw : RawLabel) : Type 0 where
  pub fits : IsLabel (spoken_label raw)
  pub spelt : text ≡ label_text (spoken_label raw)

-- the label that a text spells, stored. There is none only where what it spells is bad
abbrev pub ReadsLabel : List ℕ → Option LabelValue → Type 0
ReadsLabel text (Some l) =
    (raw : RawLabel) × IsLabelText text raw × (is_bad raw ≡ false) × (l ≡ stored_of raw)
ReadsLabel text None = (raw : RawLabel) → IsLabelText text raw → is_bad raw ≡ true

-- the label that a call sets, stored
abbrev pub label_set : Option Call → Option LabelValue
label_set (Some (calls.SelfSetLabel raw)) = if is_bad raw then None else Some (stored_of raw)
label_set (Some c) = None
label_set None = None
