-- Numbers that name a list.
use Rattle.std.specs.Prelude.{ℕ, List, [], ◌∷◌}
use Rattle.logbook.specs.Pages.{Book}

abbrev pub name_of : Book → List ℕ
name_of b = b.number ∷ b.log_name ∷ b.cells_name ∷ []
