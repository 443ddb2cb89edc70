use Rattle.std.proofs.Common.{◌≡◌, sym, ◌∙◌}
use Rattle.label_lattice.specs.declared.pairings.Pair.{Pair}
use Rattle.label_lattice.specs.Raw.{all_made}
use Rattle.label_lattice.proofs.PairsLemmas.{list_all-map}
use Rattle.label_lattice.proofs.RawLemmas.{all_made-All}
use Rattle.label_lattice.proofs.raw_labels.RawLabel.all_made.Goals as goal

pub returns-clause-test : goal.returns-clause-test
returns-clause-test c =
    (rw c.categories.ensures at c.all_made_in.ensures)
    ∙ list_all-map (λ (p : Pair). p.category) _ c.args.self.now.pairs

pub returns-clause-made : goal.returns-clause-made
returns-clause-made c =
    let e : c.all_made_in.result ≡ all_made c.args.next_category c.args.self.now.pairs =
    (rw c.categories.ensures at c.all_made_in.ensures)
    ∙ list_all-map (λ (p : Pair). p.category) _ c.args.self.now.pairs in
    let told = all_made-All c.args.next_category c.args.self.now.pairs in
    (λ h. told.0 (sym e ∙ h), λ h. e ∙ told.1 h)
