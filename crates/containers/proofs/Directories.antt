-- What changes of the links leave the directory.
use Rattle.std.proofs.Common.{◌≡◌, ℕ, ◌<◌, inl, inr, List, length, get_or, sym, ap, ◌∙◌, arith}
use Rattle.std.proofs.lemmas.Bool.{cases_eq, cases_lt}
use Rattle.containers.specs.Objects.{Rises}
use Rattle.containers.specs.Lists.{Lists}
use Rattle.containers.specs.Cells.{IsRecorded}
use Rattle.containers.specs.Directory.{IsDirectory, IsListing}
use Rattle.containers.specs.View.{IsKept, IsDrafted}

-- two places of one id are one
pub one_place : (ids : List ℕ) → Rises ids → (i j : ℕ) → i < length ids → j < length ids → get_or ids i 0 ≡ get_or ids j 0 → i ≡ j
one_place ids rises i j li lj e = elim (cases_eq i j) [
  | inl same ↦ same
  | inr ne ↦ elim (cases_lt i j) [
    | inl lt ↦ absurd (omega (arith, rises i j lt lj))
    | inr le ↦ let less : j < i = omega arith in absurd (omega (arith, rises j i less li))
  ]
]

pub directory_as : (size root : ℕ) (r r' : List Lists) (names ids slots : List ℕ) → IsDirectory size root r names ids slots → ((o : ℕ) → IsRecorded size root r o → IsRecorded size root r' o) → ((o : ℕ) → IsRecorded size root r' o → IsRecorded size root r o) → IsDirectory size root r' names ids slots
directory_as size root r r' names ids slots dir forth back = record {
  beside = dir.beside;
  rises = dir.rises;
  recorded = λ k lt. forth (get_or slots k 0) (dir.recorded k lt);
  name = dir.name;
  place = λ o rec. dir.place o (back o rec);
}

-- a directory is a listing
pub listing_of : {size root : ℕ} {r : List Lists} {names ids slots : List ℕ} → IsDirectory size root r names ids slots → IsListing size root r names ids slots
listing_of dir = record {
  beside = dir.beside;
  rises = dir.rises;
  within = λ k lt. (dir.recorded k lt).within;
  name = dir.name;
  place = dir.place;
}

-- containers are a draft
pub drafted_of : {size root : ℕ} {r : List Lists} {names ids slots : List ℕ} → IsKept size root r names ids slots → IsDrafted size root r names ids slots
drafted_of kept = record {
  sound = kept.sound;
  calm = kept.calm;
  simple = kept.simple;
  listing = listing_of kept.directory;
  full = kept.full;
  fits = kept.fits;
  names_len = kept.names_len;
  root_id = kept.root_id;
}

-- and a draft is containers where each slot is recorded
pub kept_of : {size root : ℕ} {r : List Lists} {names ids slots : List ℕ} → IsDrafted size root r names ids slots → ((k : ℕ) → k < length ids → IsRecorded size root r (get_or slots k 0)) → IsKept size root r names ids slots
kept_of drafted recorded = record {
  sound = drafted.sound;
  calm = drafted.calm;
  simple = drafted.simple;
  directory = record {
    beside = drafted.listing.beside;
    rises = drafted.listing.rises;
    recorded = recorded;
    name = drafted.listing.name;
    place = drafted.listing.place;
  };
  full = drafted.full;
  fits = drafted.fits;
  names_len = drafted.names_len;
  root_id = drafted.root_id;
}

-- the slot of a recorded name is the one at its place
pub slot_at : (size root : ℕ) (r : List Lists) (names ids slots : List ℕ) (l : IsListing size root r names ids slots) (k d : ℕ) → k < length ids → IsRecorded size root r d → get_or names d 0 ≡ get_or ids k 0 → get_or slots k 0 ≡ d
slot_at size root r names ids slots l k d lt rec e =
    let p = l.place d rec in
    let named : get_or ids p.0 0 ≡ get_or names d 0 = sym (l.name p.0 p.1) ∙ ap (λ (s : ℕ). get_or names s 0) p.2 in
    ap (λ (i : ℕ). get_or slots i 0) (one_place ids l.rises k p.0 lt p.1 (sym e ∙ sym named)) ∙ p.2
