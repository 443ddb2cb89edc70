-- The bytes that part words and lines stand in no word.
use Rattle.std.proofs.Common.{◌≡◌, ℕ, ◌<◌, true, false, List, [], ◌∷◌, ◌++◌, map, refl, arith, decimal, ◌^◌, ℤ}
use Rattle.std.specs.List.{AllByRecursion, join_with_byte}
use Rattle.std.proofs.lemmas.Bool.{ne_eqb}
use Rattle.hex.specs.Hex.{lower_digits}
use Rattle.base.specs.declared.levels.Level.{Level}
use Rattle.base.specs.declared.sets.TypeSet.{TypeSet}
use Rattle.base.specs.declared.sets.Rights.{Rights}
use Rattle.text_words.specs.declared.references.Reference.{Reference}
use Rattle.text_words.specs.declared.spoken_labels.SpokenPair.{SpokenPair}
use Rattle.text_words.specs.Lacks.{lacks, AllLack}
use Rattle.text_words.specs.LevelWord.{level_text}
use Rattle.text_words.specs.DataWord.{data_text, IsData}
use Rattle.text_words.specs.Name.{is_name_byte, IsName}
use Rattle.text_words.specs.Reference.{reference_text, IsReference}
use Rattle.text_words.specs.Label.{pair_text, IsPair, label_text, IsLabel, LabelValue}
use Rattle.text_words.specs.TypeWord.{types_text}
use Rattle.text_words.proofs.LackLemmas.{decimal_lacks, data_lacks, level_lacks, name_lacks, reference_lacks, lacks-append, join_lacks}
use Rattle.text_words.specs.SignedWord.{signed_text, IsSigned}
use Rattle.text_words.specs.RightsWord.{rights_text}
use Rattle.text_words.proofs.OneLemmas.{types_lack_space, types_lack_end}
use Rattle.text_words.proofs.SignedLemmas.{signed_lacks, rights_lack}

-- a byte below those of all words
pub record IsOutside (c : ℕ) : Type 0 where
  pub low : c < 35
  pub digits : lacks c (45 ∷ lower_digits) ≡ true
  pub names : is_name_byte c ≡ false
  pub types : (s : TypeSet) → lacks c (types_text s) ≡ true
  pub rights : (r : Rights) → lacks c (rights_text r) ≡ true

pub space_outside : IsOutside 32
space_outside = record { low = omega arith; digits = refl; names = refl; types = types_lack_space; rights = rights_lack 32 refl }

pub end_outside : IsOutside 10
end_outside = record { low = omega arith; digits = refl; names = refl; types = types_lack_end; rights = rights_lack 10 refl }

pub number_outside : (c n : ℕ) → IsOutside c → n < 2 ^ 64 → lacks c (decimal n) ≡ true
number_outside c n out is = let low = out.low in decimal_lacks c n (omega arith) is

pub signed_outside : (c : ℕ) (z : ℤ) → IsOutside c → IsSigned z → lacks c (signed_text z) ≡ true
signed_outside c z out is = let low = out.low in signed_lacks c z (omega arith) is

pub name_outside : (c : ℕ) (name : List ℕ) → IsOutside c → IsName name → lacks c name ≡ true
name_outside c name out is = name_lacks c name out.names is

pub reference_outside : (c : ℕ) (r : Reference) → IsOutside c → IsReference r → lacks c (reference_text r) ≡ true
reference_outside c r out is = let low = out.low in reference_lacks c r (λ d lt e. omega arith) (λ e. omega arith) out.names is

pub level_outside : (c : ℕ) (l : Level) → IsOutside c → lacks c (level_text l) ≡ true
level_outside c l out = let low = out.low in level_lacks c l (omega arith)

pub data_outside : (c : ℕ) (d : List ℕ) → IsOutside c → IsData d → lacks c (data_text d) ≡ true
data_outside c d out is = data_lacks c d out.digits is

pair_outside : (c : ℕ) (p : SpokenPair) → IsOutside c → IsPair p → lacks c (pair_text p) ≡ true
pair_outside c p out is =
    let low = out.low in
    lacks-append c (reference_text p.category) (58 ∷ level_text p.level) (reference_outside c p.category out is) (rw (ne_eqb 58 c (λ e. omega arith)) (level_outside c p.level out))

parts_outside : (c : ℕ) (ps : List SpokenPair) (l : Level) → IsOutside c → AllByRecursion IsPair ps → AllLack c (map pair_text ps ++ level_text l ∷ [])
parts_outside c [] l out h = (level_outside c l out, tt)
parts_outside c (p ∷ ps) l out h = (pair_outside c p out h.0, parts_outside c ps l out h.1)

joined_outside : (c : ℕ) (ps : List SpokenPair) (l : Level) → IsOutside c → AllByRecursion IsPair ps → lacks c (join_with_byte 44 (map pair_text ps ++ level_text l ∷ [])) ≡ true
joined_outside c [] l out h = level_outside c l out
joined_outside c (p ∷ ps) l out h =
    let low = out.low in join_lacks c 44 (pair_text p) (map pair_text ps ++ level_text l ∷ []) (λ e. omega arith) (parts_outside c (p ∷ ps) l out h)

pub label_outside : (c : ℕ) (l : LabelValue) → IsOutside c → IsLabel l → lacks c (label_text l) ≡ true
label_outside c l out is =
    let low = out.low in
    rw (ne_eqb 123 c (λ e. omega arith)) (lacks-append c (join_with_byte 44 (map pair_text l.pairs ++ level_text l.default ∷ [])) (125 ∷ []) (joined_outside c l.pairs l.default out is.pairs) (rw (ne_eqb 125 c (λ e. omega arith)) refl))
