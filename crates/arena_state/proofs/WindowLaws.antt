-- What a window of a list shows.
use Rattle.std.proofs.Common.{◌≡◌, ◌<◌, ℕ, ◌+◌, ◌-◌, List, length, take, drop, min, get_or, sym, ◌∙◌, ap, arith}
use Rattle.std.proofs.lemmas.List.{length-take, length-take-le, length-drop, get_or-take, get_or-drop}
use Rattle.std.proofs.lemmas.Grind.{same_number_lists}

-- a window of 16 places whose first ones were written holds up to 16 elements from a place on
pub window_is : (list window : List ℕ) (from count : ℕ) → length window ≡ 16 → count ≡ min 16 (length list - from)
    → ((k : ℕ) → k < count → get_or window k 0 ≡ get_or list (from + k) 0)
    → take count window ≡ take 16 (drop from list)
window_is list window from count long number same =
    let shown : length (take 16 (drop from list)) ≡ min 16 (length list - from)
    = length-take 16 (drop from list) ∙ ap (λ (n : ℕ). min 16 n) (length-drop from list) in
    let taken : length (take count window) ≡ count = length-take-le count window (omega arith) in
    same_number_lists (take count window) (take 16 (drop from list)) (taken ∙ number ∙ sym shown)
    (λ k lt. get_or-take count window k 0 (omega arith) ∙ same k (omega arith)
    ∙ sym (get_or-take 16 (drop from list) k 0 (omega arith) ∙ get_or-drop from list k 0))
