-- What of a record its kept use and its place in the pool of labels leave as it is.
use Rattle.std.proofs.Common.{◌≡◌, ℕ, ◌+◌, ◌*◌, ◌/◌, ◌<◌, Bool, true, false, cond, ◌||◌, ◌==◌, List, [], ◌∷◌, ◌++◌, length, replicate, Option, refl, sym, ◌∙◌, ap, arith, sum_by}
use Rattle.std.proofs.lemmas.Bool.{both_ways, eq-eqb}
use Rattle.std.proofs.lemmas.List.{length-replicate}
use Rattle.std.proofs.lemmas.List.Sums.{sum_by-cons}
use Rattle.base.specs.Live.{has}
use Rattle.base.specs.declared.kinds.Kind.TheVariants as kinds
use Rattle.containers.specs.Tree.{without}
use Rattle.label_intern.specs.declared.held.Held.{Held}
use Rattle.label_intern.specs.Held.{label_of}
use Rattle.label_intern.specs.Owners.{one_at}
use Rattle.kernel_rules.specs.State.{is_kind, listed, own_cost}
use Rattle.kernel_rules.specs.Changes.{delisting, listing}
use Rattle.kernel_rules.specs.declared.objects.Body.TheVariants as is
use Rattle.arena_state.specs.declared.records.Record.{Record}
use Rattle.arena_state.specs.declared.records.Kept as kept
use Rattle.arena_state.specs.declared.records.Kept.TheVariants as keeps
use Rattle.arena_state.specs.Assembled.{assembled, body_of, claims, body_claims, reuse, with_use, body_use}

body_unseen : (labels : List (Option Held)) (n : ℕ) (b : kept.Kept) (l : List ℕ) → body_of labels (reuse n b) l ≡ body_of labels b l
body_unseen labels n (keeps.Container avoid used) l = refl
body_unseen labels n (keeps.Thread t) l = refl
body_unseen labels n (keeps.Segment pages) l = refl
body_unseen labels n keeps.AddressSpace l = refl
body_unseen labels n (keeps.Gate g) l = refl
body_unseen labels n keeps.Device l = refl

-- no object shows the kept use
pub use_unseen : (labels : List (Option Held)) (n : ℕ) (r : Record) (l : List ℕ)
    → assembled labels (with_use n r) l ≡ assembled labels r l
use_unseen labels n r l = (λ i. record (assembled labels r l) { body = body_unseen labels n r.body l i })

pub use_claims : (i n : ℕ) (r : Record) → claims i (with_use n r) ≡ claims i r
use_claims i n r = ap (λ (k : ℕ). one_at i r.label.0 + k) (of_body r.body)
  where
    of_body : (b : kept.Kept) → body_claims i (reuse n b) ≡ body_claims i b
    of_body (keeps.Container avoid used) = refl
    of_body (keeps.Thread t) = refl
    of_body (keeps.Segment pages) = refl
    of_body keeps.AddressSpace = refl
    of_body (keeps.Gate g) = refl
    of_body keeps.Device = refl

pub delisted : (labels : List (Option Held)) (r : Record) (l : List ℕ) (o : ℕ)
    → assembled labels r (without o l) ≡ delisting o (assembled labels r l)
delisted labels r l o = (λ i. record (assembled labels r l) { body = of_body r.body i })
  where
    of_body : (b : kept.Kept) → body_of labels b (without o l) ≡ (delisting o (record (assembled labels r l) { body = body_of labels b l })).body
    of_body (keeps.Container avoid used) = refl
    of_body (keeps.Thread t) = refl
    of_body (keeps.Segment pages) = refl
    of_body keeps.AddressSpace = refl
    of_body (keeps.Gate g) = refl
    of_body keeps.Device = refl

pub relisted : (labels : List (Option Held)) (r : Record) (l : List ℕ) (o : ℕ)
    → assembled labels r (l ++ o ∷ []) ≡ listing o (assembled labels r l)
relisted labels r l o = (λ i. record (assembled labels r l) { body = of_body r.body i })
  where
    of_body : (b : kept.Kept) → body_of labels b (l ++ o ∷ [])
        ≡ (listing o (record (assembled labels r l) { body = body_of labels b l })).body
    of_body (keeps.Container avoid used) = refl
    of_body (keeps.Thread t) = refl
    of_body (keeps.Segment pages) = refl
    of_body keeps.AddressSpace = refl
    of_body (keeps.Gate g) = refl
    of_body keeps.Device = refl

-- what lists as it is kept lists so with another list, if that is as empty
pub listed_too : (labels : List (Option Held)) (b : kept.Kept) (l m : List ℕ) → listed (body_of labels b l) ≡ l
    → (l ≡ [] → m ≡ []) → listed (body_of labels b m) ≡ m
listed_too labels (keeps.Container avoid used) l m is none = refl
listed_too labels (keeps.Thread t) l m is none = sym (none (sym is))
listed_too labels (keeps.Segment pages) l m is none = sym (none (sym is))
listed_too labels keeps.AddressSpace l m is none = sym (none (sym is))
listed_too labels (keeps.Gate g) l m is none = sym (none (sym is))
listed_too labels keeps.Device l m is none = sym (none (sym is))

pub listed_container : (labels : List (Option Held)) (r : Record) (l m : List ℕ)
    → is_kind kinds.Container (assembled labels r l) ≡ true → listed (assembled labels r m).body ≡ m
listed_container labels r l m = of_body r.body
  where
    of_body : (b : kept.Kept) → is_kind kinds.Container (record (assembled labels r l) { body = body_of labels b l }) ≡ true
        → listed (body_of labels b m) ≡ m
    of_body (keeps.Container avoid used) h = refl
    of_body (keeps.Thread t) h = absurd (both_ways false refl h)
    of_body (keeps.Segment pages) h = absurd (both_ways false refl h)
    of_body keeps.AddressSpace h = absurd (both_ways false refl h)
    of_body (keeps.Gate g) h = absurd (both_ways false refl h)
    of_body keeps.Device h = absurd (both_ways false refl h)

pub kind_same : (a b : List (Option Held)) (n : ℕ) (r : Record) (l m : List ℕ)
    → is_kind kinds.Container (assembled a (with_use n r) l) ≡ is_kind kinds.Container (assembled b r m)
kind_same a b n r l m = of_body r.body
  where
    of_body : (x : kept.Kept) → is_kind kinds.Container (record (assembled a r l) { body = body_of a (reuse n x) l })
        ≡ is_kind kinds.Container (record (assembled b r m) { body = body_of b x m })
    of_body (keeps.Container avoid used) = refl
    of_body (keeps.Thread t) = refl
    of_body (keeps.Segment pages) = refl
    of_body keeps.AddressSpace = refl
    of_body (keeps.Gate g) = refl
    of_body keeps.Device = refl

pub cost_same : (a b : List (Option Held)) (n : ℕ) (r : Record) (l m : List ℕ)
    → own_cost (assembled a (with_use n r) l).body ≡ own_cost (assembled b r m).body
cost_same a b n r l m = of_body r.body
  where
    of_body : (x : kept.Kept) → own_cost (body_of a (reuse n x) l) ≡ own_cost (body_of b x m)
    of_body (keeps.Container avoid used) = refl
    of_body (keeps.Thread t) = refl
    of_body (keeps.Segment pages) = refl
    of_body keeps.AddressSpace = refl
    of_body (keeps.Gate g) = refl
    of_body keeps.Device = refl

pub mine : (j n : ℕ) → 0 < one_at j j + n
mine j n =
    let one : one_at j j ≡ 1 = ap {B = ℕ} (λ (b : Bool). cond b 1 0) (eq-eqb j j refl) in
    omega arith

pub further : (m n : ℕ) → 0 < n → 0 < m + n
further m n h = omega arith

alone : (j : ℕ) → 0 < one_at j j
alone j = let one = mine j 0 in omega arith

pub last : (j n : ℕ) → 0 < n + one_at j j
last j n = let one = mine j 0 in omega arith

-- a body is the same in pools that agree on what it names
pub body_same : (a b : List (Option Held)) (x : kept.Kept) (l : List ℕ) → ((j : ℕ) → 0 < body_claims j x → label_of a j ≡ label_of b j)
    → body_of a x l ≡ body_of b x l
body_same a b (keeps.Container avoid used) l h = refl
body_same a b (keeps.Segment pages) l h = refl
body_same a b keeps.AddressSpace l h = refl
body_same a b (keeps.Thread t) l h =
    let first : label_of a t.clearance.0 ≡ label_of b t.clearance.0 = h t.clearance.0 (mine t.clearance.0 (one_at t.clearance.0 t.verify.0)) in
    let second : label_of a t.verify.0 ≡ label_of b t.verify.0 = h t.verify.0 (last t.verify.0 (one_at t.verify.0 t.clearance.0)) in
    (λ i. is.Thread (record {
      clearance = first i;
      verify = second i;
      space = t.space;
      entry_point = t.entry_point;
      closure = t.closure;
    }))
body_same a b (keeps.Gate g) l h =
    let first : label_of a g.clearance.0 ≡ label_of b g.clearance.0 = h g.clearance.0 (alone g.clearance.0) in
    (λ i. is.Gate (record {
      clearance = first i;
      space = g.space;
      entry_point = g.entry_point;
      closure = g.closure;
    }))
body_same a b keeps.Device l h = refl

-- an object is the same in pools that agree on what its record names
pub assembled_same : (a b : List (Option Held)) (r : Record) (l : List ℕ)
    → ((i : ℕ) → 0 < claims i r → label_of a i ≡ label_of b i) → assembled a r l ≡ assembled b r l
assembled_same a b r l same =
    (λ i. record (assembled a r l) {
      label = same r.label.0 (mine r.label.0 (body_claims r.label.0 r.body)) i;
      body = body_same a b r.body l (λ j more. same j (further (one_at j r.label.0) (body_claims j r.body) more)) i;
    })

pub same_use : (b : kept.Kept) → reuse (body_use b) b ≡ b
same_use (keeps.Container avoid used) = refl
same_use (keeps.Thread t) = refl
same_use (keeps.Segment pages) = refl
same_use keeps.AddressSpace = refl
same_use (keeps.Gate g) = refl
same_use keeps.Device = refl

-- the kept use of what lists something is what it was set to
pub set_use : (labels : List (Option Held)) (r : Record) (l : List ℕ) (n : ℕ)
    → is_kind kinds.Container (assembled labels r l) ≡ true → body_use (with_use n r).body ≡ n
set_use labels r l n = of_body r.body
  where
    of_body : (b : kept.Kept) → is_kind kinds.Container (record (assembled labels r l) { body = body_of labels b l }) ≡ true
        → body_use (reuse n b) ≡ n
    of_body (keeps.Container avoid used) h = refl
    of_body (keeps.Thread t) h = absurd (both_ways false refl h)
    of_body (keeps.Segment pages) h = absurd (both_ways false refl h)
    of_body keeps.AddressSpace h = absurd (both_ways false refl h)
    of_body (keeps.Gate g) h = absurd (both_ways false refl h)
    of_body keeps.Device h = absurd (both_ways false refl h)

pub sum_same_in : (f g : ℕ → ℕ) (xs : List ℕ) → ((x : ℕ) → has xs x ≡ true → f x ≡ g x) → sum_by f xs ≡ sum_by g xs
sum_same_in f g [] same = refl
sum_same_in f g (x ∷ xs) same =
    sum_by-cons f x xs
    ∙ (λ i. same x (ap (λ (b : Bool). b || has xs x) (eq-eqb x x refl)) i
    + sum_same_in f g xs (λ y there. same y (right (y == x) (has xs y) there)) i)
    ∙ sym (sum_by-cons g x xs)
  where
    right : (a b : Bool) → b ≡ true → (a || b) ≡ true
    right true b h = refl
    right false b h = h

-- a segment's own cost, from its pages
pub segment_cost : (pages : ℕ) → 1 + pages ≡ own_cost (is.Segment (replicate (256 * pages) 0))
segment_cost pages =
    let long : length {A = ℕ} (replicate (256 * pages) 0) ≡ 256 * pages = length-replicate (256 * pages) 0 in
    omega (arith, ap (λ (n : ℕ). n / 256) long, whole pages)
  where
    whole : (n : ℕ) → 256 * n / 256 ≡ n
    whole n = omega arith
