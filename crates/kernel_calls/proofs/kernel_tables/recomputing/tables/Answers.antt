use Rattle.std.proofs.Common.{◌≡◌, [], map, ◌∙◌, ap}
use Rattle.std.specs.List.{flat_map}
use Rattle.label_lattice.specs.Raw.{raw_of}
use Rattle.kernel_rules.specs.Scratch.{uses_of, compared_from, with_labels, ids_of}
use Rattle.kernel_calls.specs.ById.{shown_at, labels_at}
use Rattle.kernel_calls.proofs.ByIdLaws.{recomputed}
use Rattle.kernel_calls.proofs.kernel_tables.recomputing.tables.Goals as goal

pub returns : goal.returns
returns g c =
    let s = g.S.Store.state c.args.state.now in
    let ids = c.in_ok-live.ensures in
    let stored =
    c.in_ok-stored.ensures
    ∙ ap (λ v. with_labels [] (flat_map (labels_at s) v)) (c.as_slice-3.ensures.value ∙ ids) in
    let labels = c.as_slice-4.ensures.value ∙ stored in
    let orders = c.as_slice-5.ensures.value ∙ stored in
    (λ i. record {
      live = ids i;
      uses = (c.in_ok-uses.ensures ∙ ap (uses_of s) (c.as_slice.ensures.value ∙ ids)) i;
      shown = (c.in_ok-shown.ensures ∙ ap (flat_map (shown_at s)) (c.as_slice-2.ensures.value ∙ ids)) i;
      labels = (c.in_ok-labels.ensures ∙ ap (map raw_of) labels) i;
      orders = (c.in_ok-orders.ensures ∙ ap (λ v. compared_from v 0 v) orders) i;
    }) ∙ recomputed s (g.met.S.Store.sound c.args.state.now)
