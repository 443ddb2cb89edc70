-- No line has a number with a fraction.
use Rattle.std.proofs.Common.{◌≡◌, ℕ, ◌+◌, false, ◌||◌, List, [], ◌∷◌, map, refl, ap, ◌∙◌}
use Rattle.serde_json.specs.View.{items_of}
use Rattle.serde_json.specs.Written.{has_float, items_have_float}
use Rattle.shown_dumps.specs.Json.{word_data, lines_data, text_data}
use Rattle.shown_dumps.specs.Pieces.{lines_of, words_of}

no_word : (words : List (List ℕ)) → items_have_float (items_of (map word_data words)) ≡ false
no_word [] = refl
no_word (word ∷ words) = no_word words

no_line : (n : ℕ) (lines : List (List ℕ)) → items_have_float (items_of (lines_data n lines)) ≡ false
no_line n [] = refl
no_line n (line ∷ lines) =
    ap (λ b. (false || (b || false)) || items_have_float (items_of (lines_data (n + 1) lines))) (no_word (words_of line))
    ∙ no_line (n + 1) lines

pub no_float : (text : List ℕ) → has_float (text_data text) ≡ false
no_float text = no_line 1 (lines_of text)
