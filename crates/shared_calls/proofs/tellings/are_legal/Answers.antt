use Rattle.shared_calls.proofs.TellingLaws.{all_told, legal_told}
use Rattle.shared_calls.proofs.tellings.are_legal.Goals as goal

pub returns : goal.returns
returns c =
    let t = c.args.telling.now in
    let was = c.requires.telling in
    legal_told t was (all_told t was c.compare.ensures c.requires.all)
