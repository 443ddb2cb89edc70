use Rattle.std.proofs.Common.{◌≡◌, ◌∙◌, sym, rules}
use Rattle.label_lattice.specs.Listing.{label_cmp}
use Rattle.label_lattice.proofs.ListingLemmas.{labels_exact, labels_tied}
use Rattle.label_lattice.proofs.labels.Label.listing_cmp.Goals as goal

pub returns-clause-equal : goal.returns-clause-equal
returns-clause-equal c =
    let order : c.then.result ≡ label_cmp c.args.self.now c.args.other.now = search rules in (
      λ e. labels_exact c.args.self.now c.args.other.now (sym order ∙ e),
      λ e. order ∙ labels_tied c.args.self.now c.args.other.now e,
    )
