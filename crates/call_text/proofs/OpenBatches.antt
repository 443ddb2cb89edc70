-- Which batches a phase leaves open is one, and so is the first faulty line.
use Rattle.std.proofs.Common.{◌≡◌, ℕ, Bool, true, false, inl, inr, List, [], ◌∷◌, ◌++◌, length, ◌==◌, arith, Option, refl, sym, ap, ◌∙◌, subst}
use Rattle.std.proofs.lemmas.Bool.{eqb-true}
use Rattle.text_words.specs.Lacks.{lacks}
use Rattle.text_words.proofs.OneLemmas.{first_part}
use Rattle.text_words.proofs.PartLemmas.{not_in}
use Rattle.text_words.specs.declared.spoken_calls.args.Arg.{Arg}
use Rattle.text_words.specs.Spoken.{Spoken, call_with}
use Rattle.call_text.specs.declared.lines.Outline.{Outline}
use Rattle.call_text.specs.declared.lines.Outline.TheVariants as outlines
use Rattle.call_text.specs.Reading.{GoesPast}
use Rattle.call_text.specs.declared.batches.Open.{Open}
use Rattle.call_text.specs.Batch.{others, EndsPhase, LeavesOpen, NoneOpen, Ended, Malformed, GoesOn, first_fault}
use Rattle.call_text.specs.Line.{Written, Break, Said, written_with, written_text, FitsWritten}
use Rattle.call_text.specs.Script.{Earlier, next, ends, start, ScriptFaultsAt}
use Rattle.call_text.proofs.Faults.{stops_once}
use Rattle.call_text.proofs.LineLemmas.{script_grammar, break_fits}

-- a whole line of the phase is left, so it has not ended
not_ended : (rest text more : List ℕ) → rest ≡ text ++ 10 ∷ more → lacks 10 text ≡ true → (text ≡ written_text Break → ⊥) → EndsPhase rest → ⊥
not_ended rest text more is lack other (inl none) = not_in 10 text more (subst (λ (x : List ℕ). lacks 10 x ≡ true) is none)
not_ended rest text more is lack other (inr e) = other (first_part 10 text (written_text Break) more e.0 lack refl (sym is ∙ e.1)).0

malformed_no_break : (text : List ℕ) → ((l : Written) → FitsWritten l → text ≡ written_text l → ⊥) → text ≡ written_text Break → ⊥
malformed_no_break text none e = none Break break_fits e

said_no_break : (binds : Option (List ℕ)) (worker : List ℕ) (goes_on : Bool) (call : Spoken) → FitsWritten (Said binds worker goes_on call) → written_text (Said binds worker goes_on call) ≡ written_text Break → ⊥
said_no_break binds worker goes_on call fits e = let same : Said binds worker goes_on call ≡ Break = script_grammar.one (Said binds worker goes_on call) Break fits break_fits e in cc

-- no batch is left of none
pub left_none : {rest : List ℕ} {batches left : List Open} → batches ≡ [] → LeavesOpen rest batches left → left ≡ []
left_none none NoneOpen = refl
left_none none (Ended e) = none
left_none none (Malformed text is lack not leaves) = left_none none leaves
left_none none (GoesOn binds worker goes_on call fits is leaves) = left_none (ap (others worker) none) leaves

leaves_once : {rest other : List ℕ} {batches same a b : List Open} → rest ≡ other → batches ≡ same → LeavesOpen rest batches a → LeavesOpen other same b → a ≡ b
leaves_once r s NoneOpen y = sym (left_none (sym s) y)
leaves_once r s x NoneOpen = left_none s x
leaves_once r s (Ended e) (Ended f) = s
leaves_once {rest = rest} r s (Ended e) (Malformed {more = more} text is lack not y) = absurd (not_ended rest text more (r ∙ is) lack (malformed_no_break text not) e)
leaves_once {rest = rest} r s (Ended e) (GoesOn {more = more} binds worker goes_on call fits is y) =
    absurd (not_ended rest (written_text (Said binds worker goes_on call)) more (r ∙ is) (script_grammar.lacks_end (Said binds worker goes_on call) fits) (said_no_break binds worker goes_on call fits) e)
leaves_once {other = other} r s (Malformed {more = more} text is lack not x) (Ended f) = absurd (not_ended other text more (sym r ∙ is) lack (malformed_no_break text not) f)
leaves_once {other = other} r s (GoesOn {more = more} binds worker goes_on call fits is x) (Ended f) =
    absurd (not_ended other (written_text (Said binds worker goes_on call)) more (sym r ∙ is) (script_grammar.lacks_end (Said binds worker goes_on call) fits) (said_no_break binds worker goes_on call fits) f)
leaves_once r s (Malformed {more = m} text is lack not x) (Malformed {more = n} word as_is lacks_too not_too y) =
    let p = first_part 10 text word m n lack lacks_too (sym is ∙ r ∙ as_is) in leaves_once p.1 s x y
leaves_once r s (Malformed {more = m} text is lack not x) (GoesOn {more = n} binds worker goes_on call fits as_is y) =
    let l : Written = Said binds worker goes_on call in
    absurd (not l fits (first_part 10 text (written_text l) m n lack (script_grammar.lacks_end l fits) (sym is ∙ r ∙ as_is)).0)
leaves_once r s (GoesOn {more = m} binds worker goes_on call fits is x) (Malformed {more = n} word as_is lacks_too not_too y) =
    let l : Written = Said binds worker goes_on call in
    absurd (not_too l fits (sym (first_part 10 (written_text l) word m n (script_grammar.lacks_end l fits) lacks_too (sym is ∙ r ∙ as_is)).0))
leaves_once r s (GoesOn {more = m} binds worker goes_on call fits is x) (GoesOn {more = n} name by on spoken fits_too as_is y) =
    let l : Written = Said binds worker goes_on call in
    let k : Written = Said name by on spoken in
    let p = first_part 10 (written_text l) (written_text k) m n (script_grammar.lacks_end l fits) (script_grammar.lacks_end k fits_too) (sym is ∙ r ∙ as_is) in
    let same : l ≡ k = script_grammar.one l k fits fits_too p.0 in
    let workers : worker ≡ by = cc in
    leaves_once p.1 (λ i. others (workers i) (s i)) x y

-- a script has one first faulty line
pub script_fault_once : (bytes : List ℕ) (n m : ℕ) → ScriptFaultsAt bytes n → ScriptFaultsAt bytes m → n ≡ m
script_fault_once bytes n m a b =
    let one = stops_once written_text FitsWritten next script_grammar ends start bytes a.stop b.stop a.state b.state a.rest b.rest a.stops b.stops in
    let left = leaves_once one.2 (ap (λ (s : Earlier). s.open_batches) one.1) a.leaves b.leaves in
    a.told ∙ (λ i. first_fault (left i) (one.0 i)) ∙ sym b.told

-- the line ends the phase
pub ended_there : (left text more : List ℕ) (outline : Outline) (found : List Arg) (old new : List Open) (ended : Bool) → ended ≡ true → left ≡ text ++ 10 ∷ more → text ≡ written_text (written_with outline found) → GoesPast outline old new ended → LeavesOpen left old new
ended_there left text more outlines.Break found old new ended so parts is past =
    subst (λ (os : List Open). LeavesOpen left old os) (sym past.1) (Ended (inr (more, parts ∙ ap (λ (x : List ℕ). x ++ 10 ∷ more) is)))
ended_there left text more (outlines.Said binds worker goes_on verb) found old new ended so parts is past = let clash : true ≡ false = sym so ∙ past.0 in absurd (cc clash)

-- the line does not end it
pub goes_past : (left text more : List ℕ) (outline : Outline) (found : List Arg) (old new after : List Open) (ended : Bool) → ended ≡ false → left ≡ text ++ 10 ∷ more → FitsWritten (written_with outline found) → text ≡ written_text (written_with outline found) → GoesPast outline old new ended → LeavesOpen more new after → LeavesOpen left old after
goes_past left text more outlines.Break found old new after ended not parts fits is past leaves = let clash : true ≡ false = sym past.0 ∙ not in absurd (cc clash)
goes_past left text more (outlines.Said binds worker goes_on verb) found old new after ended not parts fits is past leaves =
    GoesOn binds worker goes_on (call_with verb found) fits (parts ∙ ap (λ (x : List ℕ). x ++ 10 ∷ more) is)
    (subst (λ (os : List Open). LeavesOpen more os after) past.1 leaves)

-- no batch is open
pub none_left : (rest : List ℕ) (batches : List Open) → batches ≡ [] → LeavesOpen rest batches batches
none_left rest batches none = subst (λ (os : List Open). LeavesOpen rest os os) (sym none) NoneOpen

-- a list of no length
pub no_open : (batches : List Open) (n : ℕ) → n ≡ length batches → (n == 0) ≡ true → batches ≡ []
no_open [] n is e = refl
no_open (o ∷ os) n is e = let none : n ≡ 0 = eqb-true n 0 e in absurd (omega (arith, none, is))
