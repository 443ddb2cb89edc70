use Rattle.std.proofs.Common.{◌≡◌, ◌++◌, ℕ, List, OnOk, decimal, subst, sym}
use Rattle.explained.specs.declared.parts.Part.{Part}
use Rattle.shown_dumps.specs.Parts.{said_text}
use Rattle.shown_dumps.proofs.why.parts.put_said.Goals as goal

pub returns-in-AtLeast : goal.returns-in-AtLeast
returns-in-AtLeast c =
    subst (λ (part : Part). OnOk c.put_numbers.result (c.put_numbers.new.out.items
    ≡ c.args.out.now.items ++ said_text c.args.names.now c.args.against part)) (sym c.in-AtLeast.is)
    (subst (λ (words : List ℕ). OnOk c.put_numbers.result (c.put_numbers.new.out.items
    ≡ c.args.out.now.items ++ (decimal c.in-AtLeast.number ++ words ++ decimal c.in-AtLeast.least)))
    c.either-words.ensures c.put_numbers.ensures)

pub returns-in-AtMost : goal.returns-in-AtMost
returns-in-AtMost c =
    subst (λ (part : Part). OnOk c.put_numbers-in-AtMost.result (c.put_numbers-in-AtMost.new.out.items
    ≡ c.args.out.now.items ++ said_text c.args.names.now c.args.against part)) (sym c.in-AtMost.is)
    (subst (λ (words : List ℕ). OnOk c.put_numbers-in-AtMost.result (c.put_numbers-in-AtMost.new.out.items
    ≡ c.args.out.now.items ++ (decimal c.in-AtMost.number ++ words ++ decimal c.in-AtMost.most)))
    c.either-words-in-AtMost.ensures c.put_numbers-in-AtMost.ensures)
