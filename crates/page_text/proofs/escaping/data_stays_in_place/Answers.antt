use Rattle.page_text.proofs.EscapeLaws.{no_less}
use Rattle.page_text.proofs.escaping.data_stays_in_place.Goals as goal

pub returns : goal.returns
returns c = λ text. no_less text
