use Rattle.std.proofs.Common.{◌≡◌, ◌∙◌, ◌+◌, ◌-◌, ◌++◌, suc, [], refl, sym, ap, subst, arith, append_assoc}
use Rattle.std.proofs.lemmas.List.{append-nil}
use Rattle.check_text.specs.Checks.{AreToldLater}
use Rattle.check_text.proofs.LaterLaws.{none_later, one_later}
use Rattle.check_text.proofs.checks.put_later.Goals as goal

pub returns-then-is_empty : goal.returns-then-is_empty
returns-then-is_empty c =
    let told = c.loop-number.invariant in
    let all = told.2 [] (none_later c.args.source.now.path.now c.args.source.now.numbers.now c.loop-number.number (65537 - c.loop-number.number) c.loop-number.rest.now
    c.is_empty.result c.is_empty.ensures c.if-is_empty.true) in (
      told.0,
      subst (λ t. AreToldLater c.args.source.now.path.now c.args.source.now.numbers.now c.args.first (65537 - c.args.first) c.args.text.now t) (append-nil told.0) all,
      told.1,
    )

pub loop-number-preserved : goal.loop-number-preserved
loop-number-preserved c =
    let told = c.loop-number.invariant in
    let here = c.in_ok-put_later_line.ensures in
    let number = c.loop-number.number in
    let left : 65537 - number ≡ suc (65537 - (number + 1)) = omega arith in (
      told.0 ++ here.0,
      here.2 ∙ ap (λ t. t ++ here.0) told.1 ∙ append_assoc c.args.out.now.items told.0 here.0,
      λ later then. subst (λ t. AreToldLater c.args.source.now.path.now c.args.source.now.numbers.now c.args.first (65537 - c.args.first) c.args.text.now t)
          (sym (append_assoc told.0 here.0 later))
          (told.2 (here.0 ++ later)
          (one_later c.args.source.now.path.now c.args.source.now.numbers.now number (65537 - number) (65537 - (number + 1)) c.loop-number.rest.now c.cut.result.0.now c.cut.result.1.now here.0 later
          c.is_empty.result left c.is_empty.ensures c.if-is_empty.false c.cut.ensures.before c.cut.ensures.after here.1 then)),
    )

pub returns : goal.returns
returns c =
    let told = c.loop-number.invariant in
    let number = c.loop-number.number in
    let none : 65537 - number ≡ 0 = omega arith in
    let rest : AreToldLater c.args.source.now.path.now c.args.source.now.numbers.now number (65537 - number) c.loop-number.rest.now [] =
    subst (λ n. AreToldLater c.args.source.now.path.now c.args.source.now.numbers.now number n c.loop-number.rest.now []) (sym none) refl in (
      told.0,
      subst (λ t. AreToldLater c.args.source.now.path.now c.args.source.now.numbers.now c.args.first (65537 - c.args.first) c.args.text.now t) (append-nil told.0) (told.2 [] rest),
      told.1,
    )
