use Rattle.worlds.proofs.Drawing.{one_of_few, few_are_counted}
use Rattle.worlds.proofs.laws.one_of_few.Goals as goal

pub returns-clause-told : goal.returns-clause-told
returns-clause-told c = one_of_few

pub returns-clause-few : goal.returns-clause-few
returns-clause-few c = few_are_counted
