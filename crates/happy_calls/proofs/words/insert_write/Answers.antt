use Rattle.std.proofs.Common.{◌||◌, sym, ◌∙◌, refl, true, false}
use Rattle.base.specs.declared.sets.Rights.{Rights}
use Rattle.base.specs.SetBitLaws.{rights_or}
use Rattle.base.proofs.SetBitFacts.{rights_is}
use Rattle.happy_calls.proofs.words.insert_write.Goals as goal

pub returns : goal.returns
returns c =
    let was = c.args.rights.now in
    let now : Rights = record { read = was.read || false; write = was.write || true } in
    rights_is c.insert.new.self now
    (c.insert.ensures tt ∙ sym (rights_or was (record { read = false; write = true }) now refl))
