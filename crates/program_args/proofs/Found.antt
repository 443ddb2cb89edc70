-- What the getters of `clap` read is what the definitions say of the rows.
use Rattle.std.proofs.Common.{◌≡◌, ◌∙◌, ℕ, ◌^◌, ◌<◌, Bool, cond, true, false, ◌&&◌, List, [], ◌∷◌, Option, Some, None, Result, Ok, Err, ap, refl, sym, codes, nat_lt, option_map, is_some}
use Rattle.std.specs.List.{list_all}
use Rattle.std.specs.Char.{digit_value}
use Rattle.std.specs.Prelude.{option_and_then, unwrap_or, slice_get}
use Rattle.std.specs.Option.{option_map_or}
use Rattle.std.specs.Str.{bytes_eq}
use Rattle.std.specs.Str.Parse.{AllDigits, IsNumeral, ParsesBool, ParsesUnsigned, digits_value, without_leading_plus}
use Rattle.std.proofs.lemmas.Bool.{lt-ltb, ltb-true}
use Rattle.std.proofs.lemmas.Slice.Eq.{bytes_eq-Decides}
use Rattle.clap.proofs.WalkLemmas.{both, one_text-rows}
use Rattle.clap.specs.Matches.{ReadsOne, one_text}
use Rattle.clap.specs.ValueTests.{is_numeral}
use Rattle.clap.specs.Walk.{Row, Text, first_of, rows_of, row_text}
use Rattle.clap.specs.declared.parser.matches.Found.{Found}
use Rattle.program_args.specs.Told.{flag_in, number_in, number_of}

digits_tested : (ds : List ℕ) → AllDigits 10 ds → list_all (λ d. nat_lt (digit_value d) 10) ds ≡ true
digits_tested [] h = refl
digits_tested (d ∷ ds) h = rw (lt-ltb (digit_value d) 10 h.0) (digits_tested ds h.1)

digits_found : (ds : List ℕ) → list_all (λ d. nat_lt (digit_value d) 10) ds ≡ true → AllDigits 10 ds
digits_found [] e = tt
digits_found (d ∷ ds) e =
    let parts = both _ _ e in
    (ltb-true _ _ parts.0, digits_found ds parts.1)

tested : (bits : ℕ) (text : Text) → IsNumeral 10 (without_leading_plus text) → digits_value 10 (without_leading_plus text) < 2 ^ bits
    → (is_numeral (without_leading_plus text) && nat_lt (digits_value 10 (without_leading_plus text)) (2 ^ bits)) ≡ true
tested bits text numeral fits = rw (lt-ltb _ _ numeral.0, digits_tested _ numeral.1, lt-ltb _ _ fits) refl

-- a text that reads as a number spells it
number_read : {E : Type 0} (bits : ℕ) (G : List ℕ → Result ℕ E → Type 0) (text : Text) (r : Option ℕ)
    → ((u : List ℕ) (x : Result ℕ E) → G u x → ParsesUnsigned bits 10 u x) → ReadsOne G text r → r ≡ number_of bits text
number_read bits G text (Some v) only h =
    let p = only text (Ok v) h in
    ap Some p.1 ∙ sym (ap (λ b. cond b (Some (digits_value 10 (without_leading_plus text))) None) (tested bits text p.0.0 p.0.1))
number_read {E} bits G text None only h = go (is_numeral (without_leading_plus text) && nat_lt (digits_value 10 (without_leading_plus text)) (2 ^ bits)) refl
  where
    go : (b : Bool) → (is_numeral (without_leading_plus text) && nat_lt (digits_value 10 (without_leading_plus text)) (2 ^ bits)) ≡ b
        → None ≡ cond b (Some (digits_value 10 (without_leading_plus text))) None
    go false e = refl
    go true e =
        let parts = both _ _ e in
        let numeral = both _ _ parts.0 in
        absurd (only text (Err h.0) h.1 ((ltb-true _ _ numeral.0, digits_found _ numeral.1), ltb-true _ _ parts.1))

pub number_found : {E : Type 0} (bits : ℕ) (G : List ℕ → Result ℕ E → Type 0) (f : Found) (id : Text) (r : Option ℕ)
    → ((u : List ℕ) (x : Result ℕ E) → G u x → ParsesUnsigned bits 10 u x)
    → (one_text f id ≡ None → r ≡ None) → ((text : Text) → one_text f id ≡ Some text → ReadsOne G text r)
    → r ≡ number_in bits id (rows_of f)
number_found bits G f id r only none value = go (one_text f id) refl ∙ ap (option_and_then (number_of bits)) (one_text-rows f id)
  where
    go : (o : Option Text) → one_text f id ≡ o → r ≡ option_and_then (number_of bits) (one_text f id)
    go None e = none e ∙ sym (ap (option_and_then (number_of bits)) e)
    go (Some text) e = number_read bits G text r only (value text e) ∙ sym (ap (option_and_then (number_of bits)) e)

-- a text that reads as `true` is that word
flag_read : (E : Type 0) (text : Text) (r : Option Bool) → ReadsOne (λ u (x : Result Bool E). ParsesBool u x) text r
    → unwrap_or r false ≡ bytes_eq text (codes "true")
flag_read E text (Some true) h = sym ((bytes_eq-Decides text (codes "true")).1 h)
flag_read E text (Some false) h = sym (ap (λ u. bytes_eq u (codes "true")) h)
flag_read E text None h = go (bytes_eq text (codes "true")) refl
  where
    go : (b : Bool) → bytes_eq text (codes "true") ≡ b → false ≡ bytes_eq text (codes "true")
    go false e = sym e
    go true e = absurd (h.1.0 ((bytes_eq-Decides text (codes "true")).0 e))

pub flag_found : (E : Type 0) (f : Found) (id : Text) (r : Option Bool)
    → (one_text f id ≡ None → r ≡ None)
    → ((text : Text) → one_text f id ≡ Some text → ReadsOne (λ u (x : Result Bool E). ParsesBool u x) text r)
    → unwrap_or r false ≡ flag_in id (rows_of f)
flag_found E f id r none value = go (one_text f id) refl ∙ ap (λ o. option_map_or (λ text. bytes_eq text (codes "true")) o false) (one_text-rows f id)
  where
    go : (o : Option Text) → one_text f id ≡ o → unwrap_or r false ≡ option_map_or (λ text. bytes_eq text (codes "true")) (one_text f id) false
    go None e = ap (λ s. unwrap_or s false) (none e) ∙ sym (ap (λ s. option_map_or (λ text. bytes_eq text (codes "true")) s false) e)
    go (Some text) e = flag_read E text r (value text e) ∙ sym (ap (λ s. option_map_or (λ text. bytes_eq text (codes "true")) s false) e)

-- who has no text spells no number
pub no_number : (bits : ℕ) (id : Text) (rows : List Row) → first_of id rows ≡ None → number_in bits id rows ≡ None
no_number bits id rows none = go (Rattle.std.specs.List.find (λ (r : Row). bytes_eq r.id id) rows) none
  where
    go : (o : Option Row) → option_and_then (λ (r : Row). slice_get r.values 0) o ≡ None → option_and_then (number_of bits) (option_and_then row_text o) ≡ None
    go None e = refl
    go (Some r) e = ap (λ s. option_and_then (number_of bits) (option_map (Rattle.clap.specs.Values.read_as r.reading) s)) e

-- an option is there where what it holds is
pub is_told : {X Y : Type 0} (f : X → Y) (o : Option X) (t : Option Y) → option_map f o ≡ t → is_some o ≡ is_some t
is_told f None t e = ap is_some e
is_told f (Some x) t e = ap is_some e
