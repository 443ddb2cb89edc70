-- Pages that are written over one after another.
use Rattle.std.proofs.Common.{◌≡◌, ℕ, ◌+◌, ◌-◌, ◌*◌, ◌/◌, ◌%◌, ◌<◌, ◌≤◌, ◌⊎◌, inl, inr, min, List, [], ◌++◌, map, length, set, take, drop, refl, sym, ap, ◌∙◌, arith, length-drop, length-set}
use Rattle.std.specs.List.{concat}
use Rattle.std.proofs.lemmas.List.{set-set, set-get_or, length-map, take-take, length-take-le, drop-take, take-append-drop, get_or-set_same, append-nil}
use Rattle.base.specs.Counts.{Counts, probed, ProbesAtMost}
use Rattle.kernel_rules.specs.Written.{written}
use Rattle.arena_memory.specs.Pages.{pages_at, page_at, IsPaged}
use Rattle.arena_memory.specs.Segments.{bytes_in}
use Rattle.arena_memory.proofs.Bytes.{written_page, written_more, length-concat}
use Rattle.arena_memory.proofs.Costs.{no_probes, probed_more, fewer_probes}
use Rattle.arena_memory.proofs.Rows.{length-written}
use Rattle.arena_memory.proofs.Seen.{seen, bytes_are}

take_add : (n m : ℕ) (xs : List ℕ) → take (n + m) xs ≡ take n xs ++ take m (drop n xs)
take_add n m xs =
    sym (take-append-drop n (take (n + m) xs))
    ∙ ap (λ (ys : List ℕ). ys ++ drop n (take (n + m) xs)) (take-take n (n + m) xs (omega arith))
    ∙ ap (λ (ys : List ℕ). take n xs ++ ys) (drop-take n m xs)

-- where nothing is written
pub nothing_written : (v : List (List ℕ)) (slot at : ℕ) → v ≡ set v slot (written at [] (bytes_in v slot))
nothing_written v slot at =
    let bytes = bytes_in v slot in
    let e : at + 0 ≡ at = omega arith in
    let same : written at [] bytes ≡ bytes = ap (λ (xs : List ℕ). xs ++ drop (at + 0) bytes) (append-nil (take at bytes)) ∙ ap (λ (n : ℕ). take at bytes ++ drop n bytes) e ∙ take-append-drop at bytes in
    sym (ap (λ (xs : List ℕ). set v slot xs) same ∙ set-get_or v slot [])

module _ (v0 : List (List ℕ)) (slot at : ℕ) (given : List ℕ) (lt : slot < length v0) (room : at + length given ≤ length (bytes_in v0 slot)) (f : List (List (List ℕ))) (paged : IsPaged f) (done : ℕ) (le : done ≤ length given)
    (so_far : map concat f ≡ set v0 slot (written at (take done given) (bytes_in v0 slot))) where
  bytes_now : concat (pages_at f slot) ≡ written at (take done given) (bytes_in v0 slot)
  bytes_now = sym (bytes_are f slot) ∙ ap (λ (w : List (List ℕ)). bytes_in w slot) so_far ∙ get_or-set_same v0 slot (written at (take done given) (bytes_in v0 slot)) [] lt

  front : length (take done given) ≡ done
  front = length-take-le done given le

  long : 256 * length (pages_at f slot) ≡ length (bytes_in v0 slot)
  long = sym (length-concat (pages_at f slot) (paged.whole slot)) ∙ ap length bytes_now ∙ length-written at (take done given) (bytes_in v0 slot) (omega (arith, room, front, le))

  pub slot_in : slot < length f
  slot_in = omega (arith, lt, ap length so_far, length-set v0 slot (written at (take done given) (bytes_in v0 slot)), length-map f concat)

  pub at_fits : at + done ≤ 4096
  at_fits = omega (arith, room, le, long, paged.few slot)

  pub place_in : done < length given → (at + done) / 256 < length (pages_at f slot)
  place_in less = omega (arith, room, less, long)

  module _ (part : ℕ) (some : done + part ≤ length given) (short : (at + done) % 256 + part ≤ 256) (less : done < length given) where
    pub written_one : (f' : List (List (List ℕ))) → f' ≡ set f slot (set (pages_at f slot) ((at + done) / 256) (written ((at + done) % 256) (take (done + part - done) (drop done given)) (page_at f slot ((at + done) / 256))))
        → map concat f' ≡ set v0 slot (written at (take (done + part) given) (bytes_in v0 slot))
    written_one f' is =
        let n : done + part - done ≡ part = omega arith in
        let y = take (done + part - done) (drop done given) in
        let x = take done given in
        let bytes = bytes_in v0 slot in
        let y_is : y ≡ take part (drop done given) = ap (λ (m : ℕ). take m (drop done given)) n in
        let length-y : length y ≡ part = omega (arith, length-take-le (done + part - done) (drop done given) (omega (arith, some, length-drop done given)), n) in
        let place = (at + done) / 256 in
        let off = (at + done) % 256 in
        let at_is : 256 * place + off ≡ at + done = omega arith in
        let past : at + done ≡ at + length x = omega (arith, front) in
        let page = written_page place off y (pages_at f slot) (paged.whole slot) (place_in less) (omega (arith, short, length-y)) in
        let now : concat (set (pages_at f slot) place (written off y (page_at f slot place))) ≡ written at (take (done + part) given) bytes =
        page
        ∙ ap (λ (m : ℕ). written m y (concat (pages_at f slot))) (at_is ∙ past)
        ∙ ap (λ (b : List ℕ). written (at + length x) y b) bytes_now
        ∙ written_more at x y bytes (omega (arith, front, length-y, room, some))
        ∙ ap (λ (z : List ℕ). written at z bytes) (ap (λ (z : List ℕ). x ++ z) y_is ∙ sym (take_add done part given)) in
        seen f paged (map concat f) refl f' slot _ _ is now
        ∙ ap (λ (w : List (List ℕ)). set w slot (written at (take (done + part) given) bytes)) so_far
        ∙ set-set v0 slot (written at x bytes) (written at (take (done + part) given) bytes)

-- where all that is given lies within one page
module _ (v0 : List (List ℕ)) (slot at : ℕ) (given : List ℕ) (lt : slot < length v0) (room : at + length given ≤ length (bytes_in v0 slot)) (f : List (List (List ℕ))) (paged : IsPaged f)
    (is : map concat f ≡ v0) (some : 0 < length given) (short : at % 256 + length given ≤ 256) where
  bytes_here : concat (pages_at f slot) ≡ bytes_in v0 slot
  bytes_here = sym (bytes_are f slot) ∙ ap (λ (w : List (List ℕ)). bytes_in w slot) is

  pub slot_here : slot < length f
  slot_here = omega (arith, lt, ap length is, length-map f concat)

  pub place_here : at / 256 < length (pages_at f slot)
  place_here = omega (arith, some, room, ap length bytes_here, length-concat (pages_at f slot) (paged.whole slot))

  pub written_here : (f' : List (List (List ℕ))) → f' ≡ set f slot (set (pages_at f slot) (at / 256) (written (at % 256) given (page_at f slot (at / 256))))
      → map concat f' ≡ set v0 slot (written at given (bytes_in v0 slot))
  written_here f' step =
      let at_is : 256 * (at / 256) + at % 256 ≡ at = omega arith in
      let now : concat (set (pages_at f slot) (at / 256) (written (at % 256) given (page_at f slot (at / 256)))) ≡ written at given (bytes_in v0 slot) =
      written_page (at / 256) (at % 256) given (pages_at f slot) (paged.whole slot) place_here (omega (arith, short))
      ∙ ap (λ (m : ℕ). written m given (concat (pages_at f slot))) at_is
      ∙ ap (λ (b : List ℕ). written at given b) bytes_here in
      seen f paged (map concat f) refl f' slot _ _ step now
      ∙ ap (λ (w : List (List ℕ)). set w slot (written at given (bytes_in v0 slot))) is

-- a probe was made for each page that was met
pub record IsMet (at done len : ℕ) (old new : Counts) : Type 0 where
  pub pages : ℕ
  pub probes : ProbesAtMost pages old new
  pub few : 256 * pages ≤ at % 256 + done + 255
  pub starts : ((pages ≡ 0) × (done ≡ 0)) ⊎ (done < len → at % 256 + done ≡ 256 * pages)

pub none_met : (at len : ℕ) (m : Counts) → IsMet at 0 len m m
none_met at len m = record { pages = 0; probes = no_probes 0 m; few = omega arith; starts = inl (refl, refl) }

pub all_met : (at len : ℕ) (old new : Counts) → IsMet at len len old new → ProbesAtMost (len / 256 + 2) old new
all_met at len old new met = fewer_probes _ _ old new met.probes (omega (arith, met.few))

pub one_met : (at done len : ℕ) (old now new : Counts) → IsMet at done len old now → done < len → new ≡ probed 1 now → IsMet at (done + min (len - done) (256 - (at + done) % 256)) len old new
one_met at done len old now new met less step = record {
  pages = met.pages + 1;
  probes = probed_more met.pages 1 (met.pages + 1) old now new met.probes step (omega arith);
  few = elim met.starts [
    | inl h ↦ omega (arith, h.0, h.1, less)
    | inr h ↦ omega (arith, h less, less)
  ];
  starts = inr (λ more. elim met.starts [
    | inl h ↦ omega (arith, h.0, h.1, less, more)
    | inr h ↦ omega (arith, h less, less, more)
  ]);
}
