-- What is seen of the bytes of pages.
use Rattle.std.proofs.Common.{◌≡◌, ℕ, zero, suc, ◌+◌, ◌*◌, ◌≤◌, List, [], ◌∷◌, map, length, set, refl, sym, ap, ◌∙◌, arith}
use Rattle.std.specs.List.{concat}
use Rattle.std.proofs.lemmas.List.{length-map, map-set, nil_from_length}
use Rattle.std.proofs.lemmas.List.Sums.{sum_by-cons}
use Rattle.arena_memory.specs.Pages.{pages_at, page_total, IsPaged}
use Rattle.arena_memory.specs.Segments.{bytes_in, pages_of, pages_in, all_pages, HasRoom, IsWellFormed}
use Rattle.arena_memory.proofs.Bytes.{AreWhole, length-concat}

pub bytes_are : (f : List (List (List ℕ))) (slot : ℕ) → bytes_in (map concat f) slot ≡ concat (pages_at f slot)
bytes_are [] slot = refl
bytes_are (p ∷ ps) zero = refl
bytes_are (p ∷ ps) (suc slot) = bytes_are ps slot

pub pages_are : (ps : List (List ℕ)) → AreWhole ps → pages_of (concat ps) ≡ length ps
pages_are ps whole = omega (arith, length-concat ps whole)

totals : (f : List (List (List ℕ))) → ((slot : ℕ) → AreWhole (pages_at f slot)) → all_pages (map concat f) ≡ page_total f
totals [] whole = refl
totals (p ∷ ps) whole = omega (arith, sum_by-cons pages_of (concat p) (map concat ps), sum_by-cons length p ps, pages_are p (whole 0), totals ps (λ slot. whole (suc slot)))

module _ (f : List (List (List ℕ))) (paged : IsPaged f) (v : List (List ℕ)) (view : map concat f ≡ v) where
  pub length-view : length v ≡ length f
  length-view = ap length (sym view) ∙ length-map f concat

  pub bytes_is : (slot : ℕ) → bytes_in v slot ≡ concat (pages_at f slot)
  bytes_is slot = ap (λ (w : List (List ℕ)). bytes_in w slot) (sym view) ∙ bytes_are f slot

  pub length-bytes : (slot : ℕ) → length (bytes_in v slot) ≡ 256 * length (pages_at f slot)
  length-bytes slot = ap length (bytes_is slot) ∙ length-concat (pages_at f slot) (paged.whole slot)

  pub count_is : (slot : ℕ) → pages_in v slot ≡ length (pages_at f slot)
  count_is slot = omega (arith, length-bytes slot)

  total_is : all_pages v ≡ page_total f
  total_is = ap (λ (w : List (List ℕ)). all_pages w) (sym view) ∙ totals f paged.whole

  pub formed : IsWellFormed v
  formed = record {
    whole = λ slot. omega (arith, length-bytes slot);
    few = λ slot. omega (arith, count_is slot, paged.few slot);
    room = omega (arith, total_is, paged.room, length-view);
  }

  pub room_is : (slot pages : ℕ) → HasRoom v slot pages → page_total f + pages ≤ length f + length (pages_at f slot)
  room_is slot pages room = omega (arith, room, total_is, length-view, count_is slot)

  pub blank_is : (slot : ℕ) → bytes_in v slot ≡ [] → pages_at f slot ≡ []
  blank_is slot none = nil_from_length (pages_at f slot) (omega (arith, length-bytes slot, ap length none))

  -- what is seen after a slot got other pages
  pub seen : (f' : List (List (List ℕ))) (slot : ℕ) (ps : List (List ℕ)) (bytes : List ℕ) → f' ≡ set f slot ps → concat ps ≡ bytes → map concat f' ≡ set v slot bytes
  seen f' slot ps bytes is same =
      ap (λ (g : List (List (List ℕ))). map concat g) is ∙ map-set concat f slot ps ∙ ap (λ (xs : List ℕ). set (map concat f) slot xs) same ∙ ap (λ (w : List (List ℕ)). set w slot bytes) view
