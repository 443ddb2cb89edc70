-- What a seat knows of the list.
use Rattle.std.specs.Prelude.{◌≡◌}
use Rattle.logbook.specs.Pages.{Book, may_write}
use Rattle.shared_calls.specs.Cursors.{IsPlaced}
use Rattle.shared_calls.specs.Lists.{word_of}
use Rattle.shared_calls.specs.declared.lists.Known.{Known}

-- so many batches of this list, and the right to a mark that none of them has
pub record IsKnown (book : Book) (known : Known) : Type 0 where
  pub list : known.cursor.seen.book ≡ book
  pub placed : IsPlaced known.cursor
  pub pen : known.pen.book ≡ book
  pub right : known.pen.nib.right ≡ may_write
  pub word : known.word ≡ word_of book known.pen.nib.key
