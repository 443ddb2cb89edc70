use Rattle.page_text.proofs.StepLaws.{trees_made}
use Rattle.page_text.proofs.laws.trees_are_whole.Goals as goal

pub returns : goal.returns
returns c = λ names lines s turns. trees_made names lines s turns
