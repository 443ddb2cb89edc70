use Rattle.std.proofs.Common.{length}
use Rattle.page_text.proofs.told.+begins_with.Given as goal

abbrev pub decreases-begins_with : goal.decreases-begins_with
decreases-begins_with l = length l.word.now
