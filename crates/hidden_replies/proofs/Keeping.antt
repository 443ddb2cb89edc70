-- What holds between two calls of a walk.
use Rattle.std.proofs.Common.{◌≡◌, List, ◌∷◌, ◌++◌, map, ◌∙◌, ap}
use Rattle.std.proofs.lemmas.List.{append_assoc, map-append}
use Rattle.label_lattice.specs.Label.{LabelValue}
use Rattle.hidden_replies.specs.Hidden.{Runs, after, differences, differing, IsAgreed, replied_in, TellsAll, told}
use Rattle.hidden_replies.specs.declared.differences.Difference.{Difference}
use Rattle.hidden_replies.specs.declared.differences.Placed.{Placed}

-- what was told of the calls before, with what is to be told of the rest, is all
abbrev pub IsKept : LabelValue → Runs → List Placed → Runs → List Difference → List Placed → Type 0
IsKept l begun all r done rest =
    (done ++ differences l r rest ≡ differences l begun all)
    × (IsAgreed l begun → IsAgreed l r
    × (map replied_in done ++ differing l r.whole r.purged rest ≡ differing l begun.whole begun.purged all))

pub kept_on : (l : LabelValue) (begun r : Runs) (all rest : List Placed) (done : List Difference) (p : Placed)
    → TellsAll l r p → IsKept l begun all r done (p ∷ rest) → IsKept l begun all (after l r p) (done ++ told l r p) rest
kept_on l begun r all rest done p tells h = (
  append_assoc done (told l r p) (differences l (after l r p) rest) ∙ h.0,
  λ start.
      let was = h.1 start in
      let now = tells was.0 in (
        now.1,
        ap (λ ds. ds ++ differing l (after l r p).whole (after l r p).purged rest) (map-append replied_in done (told l r p))
            ∙ append_assoc (map replied_in done) (map replied_in (told l r p)) (differing l (after l r p).whole (after l r p).purged rest)
            ∙ ap (λ ds. map replied_in done ++ (ds ++ differing l (after l r p).whole (after l r p).purged rest)) now.0
            ∙ was.1,
      ),
)
