use Rattle.std.proofs.Common.{◌∙◌, ap, sym, refl}
use Rattle.indexmap.proofs.MapLemmas.{OnOk-map}
use Rattle.call_text.specs.declared.known_names.Value.TheVariants.{Object}
use Rattle.script_runner.proofs.NameLemmas.{noted_object, noted_category}
use Rattle.script_runner.proofs.names.FirstNames.note.Goals as goal

pub returns-in-Object-clause-ok : goal.returns-in-Object-clause-ok
returns-in-Object-clause-ok c =
    OnOk-map c.note_first.result _ _
    (noted_object c.args.self.now (record c.args.self.now { objects = c.note_first.new.names }) c.args.named.now c.number.result (c.in-Object.is ∙ ap Object (sym c.number.ensures)) refl)
    c.note_first.ensures.ok

pub returns-in-Category-clause-ok : goal.returns-in-Category-clause-ok
returns-in-Category-clause-ok c =
    OnOk-map c.note_first-in-Category.result _ _
    (noted_category c.args.self.now (record c.args.self.now { categories = c.note_first-in-Category.new.names }) c.args.named.now c.in-Category.category c.in-Category.is refl)
    c.note_first-in-Category.ensures.ok
