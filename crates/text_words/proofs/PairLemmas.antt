-- The pairs of a label, one by one.
use Rattle.std.proofs.Common.{◌≡◌, ℕ, ◌+◌, ◌<◌, ◌≤◌, true, List, [], ◌∷◌, ◌++◌, length, subst, ap, ◌∙◌, sym, arith, append_assoc, length-append}
use Rattle.std.specs.List.{flat_map, AllByRecursion}
use Rattle.std.proofs.lemmas.List.{append-nil}
use Rattle.std.proofs.lemmas.Grind.{flat_map-append}
use Rattle.base.specs.declared.levels.Level.{Level}
use Rattle.text_words.specs.declared.spoken_labels.SpokenPair.{SpokenPair}
use Rattle.text_words.specs.Lacks.{lacks}
use Rattle.text_words.specs.LevelWord.{level_text}
use Rattle.text_words.specs.Label.{pair_text, IsPair, inside_text, IsLabel, LabelValue}
use Rattle.text_words.proofs.LabelLemmas.{level_lacks_comma, pair_lacks, label_joined, fit_more}
use Rattle.text_words.proofs.OneLemmas.{first_part}
use Rattle.text_words.proofs.PartLemmas.{not_in}

-- pairs, each with a comma
abbrev pub pairs_text : List SpokenPair → List ℕ
pairs_text ps = flat_map (λ p. pair_text p ++ 44 ∷ []) ps

-- what may stand in the braces of a label
pub record IsInside (text : List ℕ) (ps : List SpokenPair) (l : Level) : Type 0 where
  pub fit : AllByRecursion IsPair ps
  pub few : length ps ≤ 24
  pub is : text ≡ pairs_text ps ++ level_text l

pub label_inside : (text : List ℕ) (v : LabelValue) → IsLabel v → text ≡ inside_text v → IsInside text v.pairs v.default
label_inside text v fits e = record { fit = fits.pairs; few = fits.few; is = e ∙ sym (label_joined v.pairs (level_text v.default)) }

pub inside_label : (text : List ℕ) (ps : List SpokenPair) (l : Level) → text ≡ pairs_text ps ++ level_text l → text ≡ inside_text (record { pairs = ps; default = l })
inside_label text ps l h = h ∙ label_joined ps (level_text l)

-- the pairs so far, and what may come after them
pub record PairsRead (text : List ℕ) (pairs : List SpokenPair) (rest : List ℕ) : Type 0 where
  pub fit : AllByRecursion IsPair pairs
  pub few : length pairs ≤ 24
  pub front : text ≡ pairs_text pairs ++ rest
  pub onward : (ps : List SpokenPair) (l : Level) → IsInside text ps l
      → (more : List SpokenPair) × IsInside rest more l × (length pairs + length more ≤ 24)

-- a pair that comes next
pub record NextPair (part after : List ℕ) (l : Level) (many : ℕ) : Type 0 where
  pub pair : SpokenPair
  pub is_pair : IsPair pair
  pub part_is : part ≡ pair_text pair
  pub more : List SpokenPair
  pub is_more : IsInside after more l
  pub few : many + 1 + length more ≤ 24

next_of : (rest part after : List ℕ) (more : List SpokenPair) (l : Level) (many : ℕ) → rest ≡ part ++ 44 ∷ after → lacks 44 part ≡ true → IsInside rest more l → many + length more ≤ 24 → NextPair part after l many
next_of rest part after [] l many parts lack is few = absurd (not_in 44 part after (subst (λ (x : List ℕ). lacks 44 x ≡ true) (sym is.is ∙ parts) (level_lacks_comma l)))
next_of rest part after (q ∷ qs) l many parts lack is few =
    let k : part ++ 44 ∷ after ≡ pair_text q ++ 44 ∷ (pairs_text qs ++ level_text l) =
    sym parts ∙ is.is ∙ append_assoc (pair_text q ++ 44 ∷ []) (pairs_text qs) (level_text l) ∙ append_assoc (pair_text q) (44 ∷ []) (pairs_text qs ++ level_text l) in
    let p = first_part 44 part (pair_text q) after (pairs_text qs ++ level_text l) lack (pair_lacks q is.fit.0) k in
    record {
      pair = q;
      is_pair = is.fit.0;
      part_is = p.0;
      more = qs;
      is_more = record { fit = is.fit.1; few = omega arith; is = p.1 };
      few = omega arith;
    }

pub next_pair : (text rest part after : List ℕ) (pairs ps : List SpokenPair) (l : Level) → PairsRead text pairs rest → rest ≡ part ++ 44 ∷ after → lacks 44 part ≡ true → IsInside text ps l → NextPair part after l (length pairs)
next_pair text rest part after pairs ps l read parts lack is = let on = read.onward ps l is in next_of rest part after on.0 l (length pairs) parts lack on.1 on.2

pub one_read : (text rest part after : List ℕ) (pairs items : List SpokenPair) (p : SpokenPair) → PairsRead text pairs rest → rest ≡ part ++ 44 ∷ after → lacks 44 part ≡ true → IsPair p → part ≡ pair_text p → length pairs < 24 → items ≡ pairs ++ p ∷ []
    → PairsRead text items after
one_read text rest part after pairs items p read parts lack fits is few e =
    let many : length items ≡ length pairs + 1 = ap length e ∙ length-append pairs (p ∷ []) in
    record {
      fit = rw e (fit_more pairs p read.fit fits);
      few = omega arith;
      front = read.front ∙ rw (e, flat_map-append (λ q. pair_text q ++ 44 ∷ []) pairs (p ∷ []), parts, is) (simp (append-nil, append_assoc));
      onward = λ ps l text_is.
          let n = next_pair text rest part after pairs ps l read parts lack text_is in
          let k = n.few in
          (n.more, n.is_more, omega arith);
    }

last_of : (rest : List ℕ) (more : List SpokenPair) (l : Level) → lacks 44 rest ≡ true → IsInside rest more l → rest ≡ level_text l
last_of rest [] l lack is = is.is
last_of rest (q ∷ qs) l lack is =
    let k : rest ≡ pair_text q ++ 44 ∷ (pairs_text qs ++ level_text l) =
    is.is ∙ append_assoc (pair_text q ++ 44 ∷ []) (pairs_text qs) (level_text l) ∙ append_assoc (pair_text q) (44 ∷ []) (pairs_text qs ++ level_text l) in
    absurd (not_in 44 (pair_text q) (pairs_text qs ++ level_text l) (subst (λ (x : List ℕ). lacks 44 x ≡ true) k lack))

-- after the last comma the default stands
pub last_level : (text rest : List ℕ) (pairs ps : List SpokenPair) (l : Level) → PairsRead text pairs rest → lacks 44 rest ≡ true → IsInside text ps l → rest ≡ level_text l
last_level text rest pairs ps l read lack is = let on = read.onward ps l is in last_of rest on.0 l lack on.1
