use Rattle.std.proofs.Common.{◌≡◌, ◌≢◌, ℕ, inl, inr, List, length, get_or, refl, subst, arith, lit<}
use Rattle.std.proofs.lemmas.Bool.{cases_eq}
use Rattle.containers.specs.Lists.{Lists, cells_at, StandsAt}
use Rattle.containers.specs.Cells.{Stands, IsOneOf}
use Rattle.containers.proofs.cells.drop_link.Goals as goal

-- another cell of a list of several
another_of : (r : List Lists) (o c : ℕ) → ((j k x : ℕ) → StandsAt (cells_at r 1 o) j x → StandsAt (cells_at r 1 o) k x → j ≡ k) → Stands r 1 o c → length (cells_at r 1 o) ≢ 1 → (b : ℕ) × (b ≢ c) × Stands r 1 o b
another_of r o c once s many = elim (cases_eq s.place 0) [
  | inl first ↦
      let at : StandsAt (cells_at r 1 o) 1 (get_or (cells_at r 1 o) 1 0) = record { within = omega (arith, s.stands.within); is = refl } in
      (get_or (cells_at r 1 o) 1 0, (λ e. absurd (omega (arith, once 1 s.place c (subst (λ (i : ℕ). StandsAt (cells_at r 1 o) 1 i) e at) s.stands))), record { place = 1; stands = at })
  | inr later ↦
      let at : StandsAt (cells_at r 1 o) 0 (get_or (cells_at r 1 o) 0 0) = record { within = omega (arith, s.stands.within); is = refl } in
      (get_or (cells_at r 1 o) 0 0, (λ e. absurd (omega (arith, once 0 s.place c (subst (λ (i : ℕ). StandsAt (cells_at r 1 o) 0 i) e at) s.stands))), record { place = 0; stands = at })
]

pub returns-else-len-eq1-clause-dropped : goal.returns-else-len-eq1-clause-dropped
returns-else-len-eq1-clause-dropped c =
    let well = c.requires.paired.well 1 (lit< tt) in
    let found = another_of c.args.rings.now c.args.object c.args.cell (λ j k x. well.one_place c.args.object j k x) c.requires.names (λ (e : length (cells_at c.args.rings.now 1 c.args.object) ≡ 1). omega (arith, c.len.ensures.value)) in
    let it : IsOneOf c.args.size c.args.rings.now c.free.new.rings c.args.object c.args.cell = record { another = found.0; apart = found.1; stands = found.2; freed = c.free.ensures.freed } in
    inr it
