-- The edits of steps make the trees.
use Rattle.std.proofs.Common.{◌≡◌, ℕ, List, [], ◌∷◌, map, drop, ap, ◌∙◌, refl}
use Rattle.call_text.specs.declared.known_names.Named.{Named}
use Rattle.kernel_rules.specs.State.{State}
use Rattle.page_text.specs.Edits.{patched_all}
use Rattle.page_text.specs.Steps.{Turn, line_count, turn_after, steps_from, steps_of, step_edits, states_from, tree_lines}
use Rattle.page_text.proofs.EditLaws.{edits_make}

later : (names : List Named) (turns : List Turn) (lines : List (List ℕ)) (s : State)
    → tree_lines names s ∷ patched_all (tree_lines names s) (map step_edits (steps_from names lines s turns)) ≡ map (tree_lines names) (states_from s turns)
later names [] lines s = refl
later names (t ∷ ts) lines s =
    let more : List (List ℕ) = drop (line_count t) lines in
    ap (λ l. tree_lines names s ∷ l ∷ patched_all l (map step_edits (steps_from names more (turn_after s t) ts)))
    (edits_make (tree_lines names s) (tree_lines names (turn_after s t)))
    ∙ ap (λ l. tree_lines names s ∷ l) (later names ts more (turn_after s t))

pub trees_made : (names : List Named) (lines : List (List ℕ)) (s : State) (turns : List Turn)
    → patched_all [] (map step_edits (steps_of names lines s turns)) ≡ map (tree_lines names) (states_from s turns)
trees_made names lines s turns =
    ap (λ l. l ∷ patched_all l (map step_edits (steps_from names lines s turns))) (edits_make [] (tree_lines names s))
    ∙ later names turns lines s
