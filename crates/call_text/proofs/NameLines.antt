-- The parts of a name's line, and no two lines of one spelling.
use Rattle.std.proofs.Common.{◌≡◌, ◌<◌, ℕ, true, List, [], ◌∷◌, ◌++◌, refl, ap, ◌∙◌, sym, arith}
use Rattle.std.proofs.lemmas.Fmt.{decimal_injective}
use Rattle.text_words.specs.Lacks.{lacks}
use Rattle.text_words.proofs.LackLemmas.{lacks-append}
use Rattle.text_words.proofs.OneLemmas.{first_part}
use Rattle.text_words.proofs.Outside.{name_outside, number_outside, space_outside, end_outside}
use Rattle.call_text.proofs.TextLemmas.{IsGrammar}
use Rattle.call_text.specs.declared.known_names.Named.{Named}
use Rattle.call_text.specs.declared.known_names.Value.{Value}
use Rattle.call_text.specs.declared.known_names.Value.TheVariants.{Object, Category}
use Rattle.call_text.specs.RunNames.{made_text, named_text, IsMade, IsNamed}

-- the first word of a line, and what stands after it
pub named_parts : (text first after : List ℕ) (v : Named) → text ≡ first ++ 32 ∷ after → lacks 32 first ≡ true → IsNamed v → text ≡ named_text v
    → (first ≡ v.name) × (after ≡ 61 ∷ 32 ∷ made_text v.value)
named_parts text first after v h lack is e =
    first_part 32 first v.name after (61 ∷ 32 ∷ made_text v.value) lack (name_outside 32 v.name space_outside is.0) (sym h ∙ e)

first_byte : List ℕ → ℕ
first_byte [] = 0
first_byte (x ∷ xs) = x

differ : (m n : ℕ) → m < n → m ≡ n → ⊥
differ m n less same = omega arith

made_is_one : (v w : Value) → IsMade v → IsMade w → made_text v ≡ made_text w → v ≡ w
unfolding first_byte
made_is_one (Object a) (Object b) ia ib e = ap Object (decimal_injective a b ia ib cc)
made_is_one (Object a) (Category c) ia ib e = absurd (differ 99 105 (omega arith) (sym (ap first_byte e)))
made_is_one (Category c) (Object a) ia ib e = absurd (differ 99 105 (omega arith) (ap first_byte e))
made_is_one (Category c) (Category d) ia ib e =
    let same : c.0 ≡ d.0 = decimal_injective c.0 d.0 ia ib cc in
    (λ i. Category (record { 0 = same i }))

named_is_one : (v w : Named) → IsNamed v → IsNamed w → named_text v ≡ named_text w → v ≡ w
named_is_one v w iv iw e =
    let p = named_parts (named_text v) v.name (61 ∷ 32 ∷ made_text v.value) w refl (name_outside 32 v.name space_outside iv.0) iw e in
    let texts : made_text v.value ≡ made_text w.value = (let k = p.1 in cc) in
    let value = made_is_one v.value w.value iv.1 iw.1 texts in
    (λ i. record { name = p.0 i; value = value i })

made_lacks_end : (v : Value) → IsMade v → lacks 10 (made_text v) ≡ true
made_lacks_end (Object id) is = number_outside 10 id end_outside is
made_lacks_end (Category c) is = number_outside 10 c.0 end_outside is

named_lacks_end : (v : Named) → IsNamed v → lacks 10 (named_text v) ≡ true
named_lacks_end v is = lacks-append 10 v.name (32 ∷ 61 ∷ 32 ∷ made_text v.value) (name_outside 10 v.name end_outside is.0) (made_lacks_end v.value is.1)

pub named_grammar : IsGrammar named_text IsNamed
named_grammar = record { lacks_end = named_lacks_end; one = named_is_one }
