use Rattle.std.proofs.Common.{◌≡◌, map, take, drop}
use Rattle.call_text.specs.Place.{pair_of}
use Rattle.call_text.specs.Unbound.{noted_pairs}
use Rattle.call_text.proofs.places.raw_label.Given as goal

-- the pairs so far, and what the rest notes is what all note
abbrev pub invariant-loop-pair : goal.invariant-loop-pair
invariant-loop-pair g l =
    let names = g.K.Known.names l.names in
    record {
      value : l.pairs ≡ map (pair_of names) (take l.pair-index l.pair-items);
      noted : noted_pairs l.label.pairs names l.fn.unbound ≡ noted_pairs (drop l.pair-index l.pair-items) names l.unbound;
    }
