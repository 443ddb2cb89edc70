-- That the text of names is theirs, and is read as them.
use Rattle.std.proofs.Common.{◌≡◌, ℕ, Bool, false, cond, ◌||◌, List, [], ◌∷◌, ◌++◌, map, Some, None, Result, Ok, Err, ap, ◌∙◌, sym, refl, append_assoc}
use Rattle.std.proofs.lemmas.List.{append-nil}
use Rattle.std.proofs.lemmas.List.Folds.{list_any-append}
use Rattle.std.proofs.lemmas.Map.Keys.{IsDistinct-head, IsDistinct-tail}
use Rattle.std.specs.Global.{Vec}
use Rattle.std.specs.List.{AllByRecursion}
use Rattle.std.specs.Str.{bytes_eq}
use Rattle.text_words.proofs.NameLemmas.{same_name, same_other}
use Rattle.call_text.specs.Script.{is_bound}
use Rattle.call_text.specs.Text.{run, lines_text}
use Rattle.call_text.specs.declared.known_names.Named.{Named}
use Rattle.call_text.specs.declared.names_text.errors.NamesError.{NamesError}
use Rattle.call_text.specs.declared.names_text.errors.NamesError.TheVariants as errors
use Rattle.call_text.specs.RunNames.{named_text, IsNamed, StandOnce, next, ends, AreNames}
use Rattle.call_text.specs.NameReading.{ReadsNames, AreRead}
use Rattle.call_text.proofs.NameLines.{named_grammar}
use Rattle.call_text.proofs.TextLemmas.{faults_not_spelled, spelled_once}

-- these names are not among those
AreNew : List (List ℕ) → List Named → Type 0
AreNew bound names = AllByRecursion (λ n. is_bound n.name bound ≡ false) names

still_new : (bound : List (List ℕ)) (name : List ℕ) (names : List Named) → AreNew bound names
    → AllByRecursion (λ other. bytes_eq name other ≡ false) (map (λ n. n.name) names) → AreNew (bound ++ name ∷ []) names
unfolding AreNew
still_new bound name [] new apart = tt
still_new bound name (m ∷ names) new apart =
    let other : bytes_eq m.name name ≡ false = sym (same_name m.name name) ∙ same_other m.name name ∙ apart.0 in
    (list_any-append (bytes_eq m.name) bound (name ∷ []) ∙ (λ i. new.0 i || (other i || false)), still_new bound name names new.1 apart.1)

all_new : (names : List Named) → AreNew [] names
unfolding AreNew
all_new [] = tt
all_new (n ∷ names) = (refl, all_new names)

may_stand : (bound : List (List ℕ)) (names : List Named) → AreNew bound names → StandOnce names
    → run next (Some bound) names ≡ Some (bound ++ map (λ n. n.name) names)
unfolding AreNew
may_stand bound [] new once = ap Some (sym (append-nil bound))
may_stand bound (n ∷ names) new once =
    let apart = IsDistinct-head bytes_eq n.name (map (λ m. m.name) names) once in
    let rest = IsDistinct-tail bytes_eq n.name (map (λ m. m.name) names) once in
    ap (λ (b : Bool). run next (cond b None (Some (bound ++ n.name ∷ []))) names) new.0
    ∙ may_stand (bound ++ n.name ∷ []) names (still_new bound n.name names new.1 apart) rest
    ∙ ap Some (append_assoc bound (n.name ∷ []) (map (λ m. m.name) names))

-- names that have spellings, none of them twice, are those of their text
pub text_is_theirs : (bytes : List ℕ) (names : List Named) → AllByRecursion IsNamed names → StandOnce names → bytes ≡ lines_text named_text names → AreNames bytes names
text_is_theirs bytes names fit once is = record {
  fit = fit;
  state = map (λ n. n.name) names;
  ran = may_stand [] names (all_new names) once;
  ended = refl;
  bytes_are = is;
}

-- they are read of it
pub read_again : (bytes : List ℕ) (names : List Named) (read : Result (Vec Named) NamesError) → AreNames bytes names → ReadsNames bytes read → AreRead names read
read_again bytes names (Ok found) is reads = spelled_once named_text IsNamed next ends [] named_grammar bytes found.items names reads is
read_again bytes names (Err errors.Memory) is reads = tt
read_again bytes names (Err (errors.Line n)) is reads = faults_not_spelled named_text IsNamed next ends [] named_grammar bytes n names reads is
