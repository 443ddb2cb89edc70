use Rattle.std.proofs.Common.{◌≡◌, ap}
use Rattle.label_lattice.specs.Label.{LabelValue}
use Rattle.label_lattice.proofs.labels.Label.holds.Goals as goal

pub returns : goal.returns
returns c =
    let a_default : c.a.inside.default ≡ c.args.a.now.default_level =
    ap (λ (l : LabelValue). l.default_level) c.a.view_is in
    let b_default : c.b.inside.default ≡ c.args.b.now.default_level =
    ap (λ (l : LabelValue). l.default_level) c.b.view_is in
    let c_default : c.c.inside.default ≡ c.args.c.now.default_level =
    ap (λ (l : LabelValue). l.default_level) c.c.view_is in
    let a_pairs : c.a.inside.exceptions ≡ c.args.a.now.exceptions =
    ap (λ (l : LabelValue). l.exceptions) c.a.view_is in
    let b_pairs : c.b.inside.exceptions ≡ c.args.b.now.exceptions =
    ap (λ (l : LabelValue). l.exceptions) c.b.view_is in
    let c_pairs : c.c.inside.exceptions ≡ c.args.c.now.exceptions =
    ap (λ (l : LabelValue). l.exceptions) c.c.view_is in
    rw (
      a_default,
      b_default,
      c_default,
      a_pairs,
      b_pairs,
      c_pairs,
    ) at c.holds_everywhere.ensures
