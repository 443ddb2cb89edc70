-- How far names have been read.
use Rattle.std.proofs.Common.{◌≡◌, ℕ, ◌+◌, true, false, List, [], ◌∷◌, ◌++◌, length, Some, arith, length-append}
use Rattle.text_words.specs.Lacks.{lacks}
use Rattle.call_text.proofs.TextLemmas.{Came, came_more, fault_no_end, fault_line, stop_state}
use Rattle.call_text.specs.Names.{Binds}
use Rattle.call_text.specs.declared.known_names.Named.{Named}
use Rattle.call_text.specs.RunNames.{named_text, IsNamed, next, ends, NamesFaultAt}
use Rattle.call_text.proofs.NameLines.{named_grammar}

pub record Progress (bytes : List ℕ) (known : List (List ℕ)) (names : List Named) (line : ℕ) (rest : List ℕ) : Type 0 where
  pub came : Came named_text IsNamed next [] bytes names known rest
  pub counted : line ≡ length names + 1

-- one more line was read
pub progress_more : (bytes : List ℕ) (known later : List (List ℕ)) (names more : List Named) (line : ℕ) (rest l after : List ℕ) (v : Named)
    → Progress bytes known names line rest → rest ≡ l ++ 10 ∷ after → IsNamed v → l ≡ named_text v → Binds (Some v.name) known later true → more ≡ names ++ v ∷ [] → Progress bytes later more (line + 1) after
progress_more bytes known later names more line rest l after v at h fits is fresh grown =
    let n = at.counted in
    rw grown (record {
      came = came_more named_text IsNamed next [] bytes names known rest l after v later at.came h fits is fresh;
      counted = omega (arith, length-append names (v ∷ []));
    })

-- the last line lacks its end
pub fault_at_end : (bytes : List ℕ) (known : List (List ℕ)) (names : List Named) (line : ℕ) (rest : List ℕ)
    → Progress bytes known names line rest → lacks 10 rest ≡ true → (rest ≡ [] → ⊥) → NamesFaultAt bytes line
fault_at_end bytes known names line rest at lack some =
    fault_no_end named_text IsNamed next ends [] bytes names known rest line at.came at.counted lack (λ e. absurd (some e))

-- a line that is none
pub fault_unread : (bytes : List ℕ) (known : List (List ℕ)) (names : List Named) (line : ℕ) (rest l after : List ℕ)
    → Progress bytes known names line rest → rest ≡ l ++ 10 ∷ after → lacks 10 l ≡ true → ((v : Named) → IsNamed v → l ≡ named_text v → ⊥) → NamesFaultAt bytes line
fault_unread bytes known names line rest l after at h lack none =
    fault_line named_text IsNamed next ends [] bytes names known rest line l after named_grammar at.came at.counted h lack (λ v f s e. none v f e)

-- a name that an earlier line has
pub fault_known : (bytes : List ℕ) (known later : List (List ℕ)) (names : List Named) (line : ℕ) (rest l after : List ℕ) (v : Named)
    → Progress bytes known names line rest → rest ≡ l ++ 10 ∷ after → lacks 10 l ≡ true → IsNamed v → l ≡ named_text v → Binds (Some v.name) known later false → NamesFaultAt bytes line
fault_known bytes known later names line rest l after v at h lack fits is not =
    (known, (rest, stop_state named_text IsNamed next ends [] bytes names known rest line l after v named_grammar at.came at.counted h lack fits is not))
