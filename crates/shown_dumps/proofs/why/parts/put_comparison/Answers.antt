use Rattle.std.proofs.Common.{◌≡◌, ◌++◌, ℕ, List, OnOk, codes, subst, sym}
use Rattle.explained.specs.declared.parts.Comparison.{Comparison}
use Rattle.shown_dumps.specs.Parts.{comparison_text, side_text, two_text}
use Rattle.shown_dumps.proofs.why.parts.put_comparison.Goals as goal

pub returns-in-BelowJoin : goal.returns-in-BelowJoin
returns-in-BelowJoin c =
    subst (λ (labels : Comparison). OnOk c.put_three.result (c.put_three.new.out.items
    ≡ c.args.out.now.items ++ comparison_text c.args.names.now c.args.against labels)) (sym c.in-BelowJoin.is)
    (subst (λ (words : List ℕ). OnOk c.put_three.result (c.put_three.new.out.items
    ≡ c.args.out.now.items ++ (two_text c.args.names.now c.in-BelowJoin.a words c.in-BelowJoin.b ++ codes " and "
    ++ side_text c.args.names.now c.in-BelowJoin.c)))
    c.either-maximum.ensures c.put_three.ensures)

pub returns-in-BelowJoinUp : goal.returns-in-BelowJoinUp
returns-in-BelowJoinUp c =
    subst (λ (labels : Comparison). OnOk c.put_three_raised.result (c.put_three_raised.new.out.items
    ≡ c.args.out.now.items ++ comparison_text c.args.names.now c.args.against labels)) (sym c.in-BelowJoinUp.is)
    (subst (λ (words : List ℕ). OnOk c.put_three_raised.result (c.put_three_raised.new.out.items
    ≡ c.args.out.now.items ++ (two_text c.args.names.now c.in-BelowJoinUp.a words c.in-BelowJoinUp.b ++ codes " and "
    ++ side_text c.args.names.now c.in-BelowJoinUp.c ++ codes " with star raised")))
    c.either-maximum.ensures c.put_three_raised.ensures)

pub returns-in-AboveFloor : goal.returns-in-AboveFloor
returns-in-AboveFloor c =
    subst (λ (labels : Comparison). OnOk c.put_three-in-AboveFloor.result (c.put_three-in-AboveFloor.new.out.items
    ≡ c.args.out.now.items ++ comparison_text c.args.names.now c.args.against labels)) (sym c.in-AboveFloor.is)
    (subst (λ (words : List ℕ). OnOk c.put_three-in-AboveFloor.result (c.put_three-in-AboveFloor.new.out.items
    ≡ c.args.out.now.items ++ (two_text c.args.names.now c.in-AboveFloor.c words c.in-AboveFloor.a ++ codes " and "
    ++ side_text c.args.names.now c.in-AboveFloor.b)))
    c.either-floor.ensures c.put_three-in-AboveFloor.ensures)
