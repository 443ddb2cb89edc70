-- What is kept of the frames by each change.
use Rattle.std.proofs.Common.{◌≡◌, ◌≢◌, ℕ, zero, suc, ◌+◌, ◌-◌, ◌<◌, ◌≤◌, inl, inr, List, [], ◌∷◌, ◌++◌, map, length, get_or, set, take, sym, ap, ◌∙◌, arith, replicate, length-append, length-set, get_or-set_same, get_or-set_other}
use Rattle.std.proofs.lemmas.Bool.{cases_eq, cases_lt}
use Rattle.std.proofs.lemmas.List.{length-map, length-take, take_more, take_all, get_or_append_left, get_or_push}
use Rattle.std.proofs.lemmas.List.Sums.{sum_by-cons}
use Rattle.arena_memory.specs.Pages.{pages_from, IsPaged, IsKept}
use Rattle.arena_memory.proofs.Sums.{sum_by-map}
use Rattle.arena_memory.proofs.Moves.{apart_moved, within_moved, as_many}
use Rattle.arena_memory.proofs.Views.{pages_at_is, page_in, length-pages}

-- what is seen of frames that are kept
pub paged : (frames : List (List ℕ)) (tables : List (List ℕ)) (free : List ℕ) → IsKept frames tables free → IsPaged (map (pages_from frames) tables)
paged frames tables free kept = record {
  whole = λ slot place lt.
      let is = pages_at_is frames tables slot in
      let less : place < length (get_or tables slot []) = omega (arith, lt, ap length is, length-pages frames (get_or tables slot [])) in
      ap length (ap (λ (ps : List (List ℕ)). get_or ps place []) is ∙ page_in frames (get_or tables slot []) place less) ∙ kept.whole _ (kept.within (suc slot) place less);
  few = λ slot. omega (arith, ap length (pages_at_is frames tables slot), length-pages frames (get_or tables slot []), kept.few slot);
  room = omega (arith, sum_by-map length length (pages_from frames) (length-pages frames) tables, sum_by-cons length free tables, kept.all, length-map tables (pages_from frames));
}

-- a frame of a slot is there
pub frame_within : (frames : List (List ℕ)) (tables : List (List ℕ)) (free : List ℕ) → IsKept frames tables free → (slot place : ℕ) → place < length (get_or tables slot []) → get_or (get_or tables slot []) place 0 < length frames
frame_within frames tables free kept slot place lt = kept.within (suc slot) place lt

few_set : (tables : List (List ℕ)) (slot : ℕ) (t : List ℕ) → ((s : ℕ) → length (get_or tables s []) ≤ 16) → length t ≤ 16 → (s : ℕ) → length (get_or (set tables slot t) s []) ≤ 16
few_set [] slot t all few s = all s
few_set (u ∷ us) zero t all few zero = few
few_set (u ∷ us) zero t all few (suc s) = all (suc s)
few_set (u ∷ us) (suc slot) t all few zero = all zero
few_set (u ∷ us) (suc slot) t all few (suc s) = few_set us slot t (λ r. all (suc r)) few s

-- a page is written, of a frame that is not free
pub kept_written : (frames : List (List ℕ)) (tables : List (List ℕ)) (free : List ℕ) (f : ℕ) (page : List ℕ) → IsKept frames tables free → length page ≡ 256 → ((k : ℕ) → k < length free → get_or free k 0 ≢ f)
    → IsKept (set frames f page) tables free
kept_written frames tables free f page kept size taken = record {
  apart = kept.apart;
  within = λ i k lt. omega (arith, kept.within i k lt, length-set frames f page);
  all = kept.all;
  few = kept.few;
  whole = λ g lt. elim (cases_eq g f) [
    | inl e ↦ ap (λ (i : ℕ). length (get_or (set frames f page) i [])) e ∙ ap length (get_or-set_same frames f page [] (omega (arith, lt, e, length-set frames f page))) ∙ size
    | inr ne ↦ ap length (get_or-set_other frames f g page [] ne) ∙ kept.whole g (omega (arith, lt, length-set frames f page))
  ];
  blank = λ k lt. get_or-set_other frames f (get_or free k 0) page [] (taken k lt) ∙ kept.blank k lt;
}

-- a frame that was free goes to a slot
pub kept_given : (frames : List (List ℕ)) (tables : List (List ℕ)) (free rest : List ℕ) (f slot : ℕ) → IsKept frames tables free → free ≡ rest ++ f ∷ [] → slot < length tables → length (get_or tables slot []) < 16
    → IsKept frames (set tables slot (get_or tables slot [] ++ f ∷ [])) rest
kept_given frames tables free rest f slot kept was lt few = record {
  apart = apart_moved (free ∷ tables) 0 (suc slot) f rest (omega arith) (omega arith) (λ (e : 0 ≡ suc slot). omega arith) was kept.apart;
  within = within_moved (free ∷ tables) 0 (suc slot) f rest (omega arith) (omega arith) (λ (e : 0 ≡ suc slot). omega arith) was (length frames) kept.within;
  all = as_many (free ∷ tables) 0 (suc slot) f rest (omega arith) (omega arith) (λ (e : 0 ≡ suc slot). omega arith) was ∙ kept.all ∙ sym (length-set tables slot (get_or tables slot [] ++ f ∷ []));
  few = few_set tables slot _ kept.few (omega (arith, length-append (get_or tables slot []) (f ∷ [])));
  whole = kept.whole;
  blank = λ k lt. ap (λ (i : ℕ). get_or frames i []) (sym (get_or_append_left rest (f ∷ []) 0 k lt) ∙ ap (λ (ys : List ℕ). get_or ys k 0) (sym was))
      ∙ kept.blank k (omega (arith, lt, ap length was, length-append rest (f ∷ [])));
}

pub front_last : (xs : List ℕ) → 0 < length xs → xs ≡ take (length xs - 1) xs ++ get_or xs (length xs - 1) 0 ∷ []
front_last xs some =
    let n : length xs - 1 + 1 ≡ length xs = omega arith in
    sym (take_all (length xs) xs (omega arith)) ∙ sym (ap (λ (n : ℕ). take n xs) n) ∙ take_more xs (length xs - 1) 0 (omega arith)

-- the last frame of a slot, which is blank, is free again
pub kept_back : (frames : List (List ℕ)) (tables : List (List ℕ)) (free : List ℕ) (slot : ℕ) → IsKept frames tables free → slot < length tables → 0 < length (get_or tables slot [])
    → (let t = get_or tables slot [] in get_or frames (get_or t (length t - 1) 0) [] ≡ replicate 256 0 → IsKept frames (set tables slot (take (length t - 1) t)) (free ++ get_or t (length t - 1) 0 ∷ []))
kept_back frames tables free slot kept lt some clear =
    let t = get_or tables slot [] in
    let front = take (length t - 1) t in
    let last = get_or t (length t - 1) 0 in
    let ne : suc slot ≢ 0 = λ (e : suc slot ≡ 0). omega arith in
    record {
      apart = apart_moved (free ∷ tables) (suc slot) 0 last front (omega arith) (omega arith) ne (front_last t some) kept.apart;
      within = within_moved (free ∷ tables) (suc slot) 0 last front (omega arith) (omega arith) ne (front_last t some) (length frames) kept.within;
      all = as_many (free ∷ tables) (suc slot) 0 last front (omega arith) (omega arith) ne (front_last t some) ∙ kept.all ∙ sym (length-set tables slot front);
      few = few_set tables slot front kept.few (omega (arith, length-take (length t - 1) t, kept.few slot));
      whole = kept.whole;
      blank = λ k less. elim (cases_lt k (length free)) [
        | inl before ↦ ap (λ (i : ℕ). get_or frames i []) (get_or_append_left free (last ∷ []) 0 k before) ∙ kept.blank k before
        | inr le ↦ ap (λ (i : ℕ). get_or frames i []) (get_or_push free last 0 k (omega (arith, less, le, length-append free (last ∷ [])))) ∙ clear
      ];
    }
