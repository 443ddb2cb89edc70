-- A raw label is bad exactly where it has no stored form.
use Rattle.std.proofs.Common.{◌≡◌, Bool, true, false, not, is_some, refl, ◌∙◌, ap, sym, Option, Some, None, cond}
use Rattle.label_lattice.specs.Raw.{is_bad, stored_of}
use Rattle.label_lattice.specs.Label.{LabelValue}
use Rattle.label_lattice.specs.declared.raw_labels.RawLabel.{RawLabel}
use Rattle.label_lattice.specs.LabelRules.{stored}

not_not : (a b : Bool) → not a ≡ not b → a ≡ b
not_not true true e = refl
not_not false false e = refl
not_not true false e = sym e
not_not false true e = sym e

pub unstored : (x : RawLabel) (l : Option LabelValue) (none : Bool) → l ≡ stored x → is_some l ≡ not none
    → none ≡ is_bad x
unfolding stored
unstored x l none e h =
    not_not none (is_bad x)
    (sym h ∙ ap (λ o. is_some o) e
    ∙ elim (is_bad x) as (λ v. is_some (cond v None (Some (stored_of x))) ≡ not v) [ true ↦ refl | false ↦ refl ])
