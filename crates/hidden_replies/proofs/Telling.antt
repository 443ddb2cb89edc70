-- What is told of a dump.
use Rattle.std.proofs.Common.{◌≡◌, ℕ, List, map, Option, Some, IfSome, Vec, Global, ◌∙◌, subst}
use Rattle.label_lattice.specs.Label.{LabelValue}
use Rattle.dump_text.specs.Dump.{IsDump}
use Rattle.dump_text.specs.Lists.{DumpLists}
use Rattle.hidden_replies.specs.Hidden.{both_from, differences, differing, replied_in}
use Rattle.hidden_replies.specs.Places.{placed}
use Rattle.hidden_replies.specs.Told.{AreTold, begun}
use Rattle.hidden_replies.specs.declared.differences.Difference.{Difference}
use Rattle.hidden_replies.proofs.Exact.{quiet}

pub told_all : (l : LabelValue) (bytes : List ℕ) (d : DumpLists) (found : Option (Vec Difference Global))
    (told : Vec Difference Global) → IsDump bytes d
    → IfSome found (λ all. all.items ≡ differences l (both_from (begun d)) (placed d.events d.reads))
    → IfSome found (λ all. map replied_in all.items ≡ differing l (begun d) (begun d) (placed d.events d.reads))
    → found ≡ Some told → AreTold l bytes told.items
told_all l bytes d found told spelt named exact is =
    let these : told.items ≡ differences l (both_from (begun d)) (placed d.events d.reads) =
    subst (λ (o : Option (Vec Difference Global)). IfSome o
    (λ all. all.items ≡ differences l (both_from (begun d)) (placed d.events d.reads))) is named in
    record {
      dump = d;
      spelt = spelt;
      named = these;
      all = subst (λ (o : Option (Vec Difference Global)). IfSome o
          (λ all. map replied_in all.items ≡ differing l (begun d) (begun d) (placed d.events d.reads))) is exact;
      quiet = λ none. these ∙ (quiet l (both_from (begun d)) (placed d.events d.reads) none).0;
    }
