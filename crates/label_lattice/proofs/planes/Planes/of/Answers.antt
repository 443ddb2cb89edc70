use Rattle.std.proofs.Common.{◌≡◌, ◌<◌, ◌-◌, ◌+◌, ◌∙◌, [], ◌∷◌, IsTrue, refl, sym, arith, length, drop}
use Rattle.std.proofs.lemmas.List.{drop_all, drop_more}
use Rattle.label_lattice.specs.declared.pairings.Pair.{Pair}
use Rattle.label_lattice.specs.Columns.{filler}
use Rattle.label_lattice.specs.Planes.{lie_in}
use Rattle.label_lattice.proofs.PairsLemmas.{list_all-map}
use Rattle.label_lattice.proofs.PlanesMadeLemmas.{having, no_exception, one_exception}
use Rattle.label_lattice.proofs.PlanesMadeLemmas.{rising_left, in_block_at}
use Rattle.label_lattice.proofs.planes.Planes.of.Goals as goal

pub returns-then-not-lie_in : goal.returns-then-not-lie_in
returns-then-not-lie_in c =
    let within : c.lie_in.result ≡ lie_in c.first_block-block.result c.args.exceptions.now =
    (rw c.categories.ensures at c.lie_in.ensures)
    ∙ list_all-map (λ (p : Pair). p.category) _ c.args.exceptions.now in
    rw (← c.first_block-block.ensures, ← within, c.if-not-lie_in.true) refl

pub loop-place-init : goal.loop-place-init
loop-place-init c =
    let all : drop c.len-place.result c.args.exceptions.now ≡ [] =
    drop_all c.len-place.result c.args.exceptions.now (omega (arith, c.len-place.ensures.value)) in
    record {
      within = omega (arith, c.len-place.ensures.value);
      so_far = rw (c.from.ensures, c.rank.ensures, all) (no_exception c.first_block-block.result c.args.default);
    }

pub loop-place-preserved : goal.loop-place-preserved
loop-place-preserved c =
    let block = c.first_block-block.result in
    let ps = c.args.exceptions.now in
    let place = c.loop-place.place - 1 in
    let p = c.pair_at-pair.result in
    let few : place < length ps = omega (arith, c.loop-place.invariant.within, c.loop-place-test.true) in
    let on : place + 1 ≡ c.loop-place.place = omega (arith, c.loop-place-test.true) in
    let left : drop place ps ≡ p ∷ drop c.loop-place.place ps =
    drop_more ps place filler few ∙ rw (c.pair_at-pair.ensures, on) refl in
    let within : IsTrue (lie_in block ps) =
    sym ((rw c.categories.ensures at c.lie_in.ensures)
    ∙ list_all-map (λ (p : Pair). p.category) _ ps) ∙ c.if-not-lie_in.false in
    record {
      within = omega (arith, c.loop-place.invariant.within);
      so_far =
          rw (
            c.from-in-loop-place.ensures,
            c.rank-in-loop-place.ensures,
            c.from-in-loop-place-2.ensures,
            c.rank-in-loop-place-2.ensures,
            c.bit_of-bit.ensures,
            left,
            c.loop-place.invariant.so_far,
          )
          (one_exception block c.args.default p (drop c.loop-place.place ps) (rw left at (rising_left ps place c.requires))
          (rw c.pair_at-pair.ensures (in_block_at block ps place filler within few)));
    }

pub returns : goal.returns
returns c =
    let within : c.lie_in.result ≡ lie_in c.first_block-block.result c.args.exceptions.now =
    (rw c.categories.ensures at c.lie_in.ensures)
    ∙ list_all-map (λ (p : Pair). p.category) _ c.args.exceptions.now in
    let none_left : c.loop-place.place ≡ 0 = omega (arith, c.loop-place-test.false) in
    let having_all : c.loop-place.having ≡ having c.first_block-block.result c.args.default c.args.exceptions.now =
    c.loop-place.invariant.so_far ∙ rw none_left refl in
    rw (← c.first_block-block.ensures, ← within, c.if-not-lie_in.false, having_all) refl
