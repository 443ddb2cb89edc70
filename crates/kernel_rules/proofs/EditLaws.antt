-- The edits of the calls keep a state well formed.
use Rattle.std.proofs.Common.{◌≡◌, ℕ, ◌+◌, ◌-◌, ◌*◌, ◌/◌, ◌≤◌, Bool, true, ◌&&◌, ◌==◌, nat_le, List}
use Rattle.std.proofs.Common.{[], ◌++◌, length, take, drop, Option, Some, None, IfSome, refl}
use Rattle.std.proofs.Common.{◌∙◌, ap, subst, arith, length-append, length-drop}
use Rattle.std.proofs.lemmas.Bool.{and_parts, and_from}
use Rattle.std.proofs.lemmas.List.{length-take-le}
use Rattle.label_lattice.specs.Label.{LabelValue, IsStored}
use Rattle.kernel_rules.specs.Changes.{changed, with_body, rebyte, owning}
use Rattle.kernel_rules.specs.State.{State, of_object, bytes_of}
use Rattle.kernel_rules.specs.State.{bytes_at}
use Rattle.kernel_rules.specs.Step.{owned}
use Rattle.kernel_rules.specs.WellFormed.{is_well_formed, is_whole, is_whole_body, is_stored}
use Rattle.kernel_rules.specs.Written.{written}
use Rattle.kernel_rules.specs.declared.objects.Object.{Object}
use Rattle.kernel_rules.specs.declared.objects.Body as body
use Rattle.kernel_rules.specs.declared.objects.Body.TheVariants as is
use Rattle.kernel_rules.proofs.KeptLaws.{KeepsPlace, changed_sound}
use Rattle.kernel_rules.proofs.StoredLaws.{stored_test}
use Rattle.kernel_rules.proofs.WellFormedLaws.{Soundness, soundness_of, well_formed_from}

length-written : (a : ℕ) (new old : List ℕ) → a + length new ≤ length old
    → length (written a new old) ≡ length old
length-written a new old h =
    length-append (take a old ++ new) (drop (a + length new) old)
    ∙ (λ i. (length-append (take a old) new ∙ ap (λ n. n + length new) (length-take-le a old (omega arith))) i
    + length-drop (a + length new) old i)
    ∙ rejoin a (length new) (length old) h
  where
    rejoin : (a n l : ℕ) → a + n ≤ l → (a + n) + (l - (a + n)) ≡ l
    rejoin a n l h = omega arith

-- a segment whose bytes are written over keeps its place
rebyte_keeps : (x : Object) (a : ℕ) (new : List ℕ) → a + length new ≤ length (bytes_of x.body)
    → KeepsPlace x (with_body (rebyte (written a new)) x)
rebyte_keeps x a new h = at_body x.body h
  where
    at_body : (y : body.Body) → a + length new ≤ length (bytes_of y)
        → KeepsPlace (record x { body = y }) (with_body (rebyte (written a new)) (record x { body = y }))
    at_body (is.Segment bytes) h = record {
      list = refl;
      kind = refl;
      quota = refl;
      cost = ap (λ n. 1 + n / 256) (length-written a new bytes h);
      fixed = λ f. f;
      whole = λ w.
          let parts : ((is_stored x.label && length x.metadata == 64) ≡ true)
          × ((length bytes == 256 * (length bytes / 256) && nat_le (length bytes) 4096) ≡ true)
          = and_parts (is_stored x.label && length x.metadata == 64)
          (length bytes == 256 * (length bytes / 256) && nat_le (length bytes) 4096) w in
          and_from (is_stored x.label && length x.metadata == 64)
          (is_whole_body (is.Segment (written a new bytes))) parts.0
          (ap (λ n. n == 256 * (n / 256) && nat_le n 4096) (length-written a new bytes h) ∙ parts.1);
    }
    at_body (is.Container avoid list) h =
        record { list = refl; kind = refl; quota = refl; cost = refl; fixed = λ f. f; whole = λ w. w }
    at_body (is.AddressSpace slots) h =
        record { list = refl; kind = refl; quota = refl; cost = refl; fixed = λ f. f; whole = λ w. w }
    at_body (is.Thread t) h =
        record { list = refl; kind = refl; quota = refl; cost = refl; fixed = λ f. f; whole = λ w. w }
    at_body (is.Gate g) h =
        record { list = refl; kind = refl; quota = refl; cost = refl; fixed = λ f. f; whole = λ w. w }
    at_body (is.Device packets) h =
        record { list = refl; kind = refl; quota = refl; cost = refl; fixed = λ f. f; whole = λ w. w }

pub written_well_formed : (s : State) (o a : ℕ) (new : List ℕ) → a + length new ≤ length (bytes_at s o)
    → is_well_formed s ≡ true → is_well_formed (changed s o (with_body (rebyte (written a new)))) ≡ true
written_well_formed s o a new h wf =
    well_formed_from (changed s o (with_body (rebyte (written a new))))
    (changed_sound s o (with_body (rebyte (written a new)))
    (λ x found. rebyte_keeps x a new
    (subst (λ v. a + length new ≤ length (of_object [] (λ y. bytes_of y.body) v)) found h))
    (soundness_of s wf))

-- a thread with another stored label and clearance keeps its place
owning_keeps : (l c : LabelValue) → is_stored l ≡ true → is_stored c ≡ true → (x : Object)
    → KeepsPlace x (owning l c x)
owning_keeps l c label clearance x = at_body x.body
  where
    others : (b : Bool) (y : body.Body) → ((is_stored x.label && b && is_whole_body y) ≡ true)
        → (b ≡ true) × (is_whole_body y ≡ true)
    others b y w =
        let last : ((is_stored x.label && b) ≡ true) × (is_whole_body y ≡ true) =
        and_parts (is_stored x.label && b) (is_whole_body y) w in
        ((and_parts (is_stored x.label) b last.0).1, last.1)

    relabel : (y : body.Body) → is_whole (record x { body = y }) ≡ true
        → (is_stored l && length x.metadata == 64 && is_whole_body y) ≡ true
    relabel y w =
        let o = others (length x.metadata == 64) y w in
        and_from (is_stored l && length x.metadata == 64) (is_whole_body y)
        (and_from (is_stored l) (length x.metadata == 64) label o.0) o.1

    at_body : (y : body.Body) → KeepsPlace (record x { body = y }) (owning l c (record x { body = y }))
    at_body (is.Thread t) = record {
      list = refl;
      kind = refl;
      quota = refl;
      cost = refl;
      fixed = λ f. f;
      whole = λ w.
          let o = others (length x.metadata == 64) (is.Thread t) w in
          and_from (is_stored l && length x.metadata == 64) (is_stored c && is_stored t.verify)
          (and_from (is_stored l) (length x.metadata == 64) label o.0)
          (and_from (is_stored c) (is_stored t.verify) clearance
          (and_parts (is_stored t.clearance) (is_stored t.verify) o.1).1);
    }
    at_body (is.Segment bytes) =
        record {
          list = refl;
          kind = refl;
          quota = refl;
          cost = refl;
          fixed = λ f. f;
          whole = relabel (is.Segment bytes);
        }
    at_body (is.Container avoid list) =
        record {
          list = refl;
          kind = refl;
          quota = refl;
          cost = refl;
          fixed = λ f. f;
          whole = relabel (is.Container avoid list);
        }
    at_body (is.AddressSpace slots) =
        record {
          list = refl;
          kind = refl;
          quota = refl;
          cost = refl;
          fixed = λ f. f;
          whole = relabel (is.AddressSpace slots);
        }
    at_body (is.Gate g) =
        record {
          list = refl;
          kind = refl;
          quota = refl;
          cost = refl;
          fixed = λ f. f;
          whole = relabel (is.Gate g);
        }
    at_body (is.Device packets) =
        record {
          list = refl;
          kind = refl;
          quota = refl;
          cost = refl;
          fixed = λ f. f;
          whole = relabel (is.Device packets);
        }

pub owned_well_formed : (s : State) (t : ℕ) (l c : Option LabelValue) → IfSome l IsStored → IfSome c IsStored
    → is_well_formed s ≡ true → is_well_formed (owned s t l c) ≡ true
owned_well_formed s t None c label clearance h = h
owned_well_formed s t (Some l) None label clearance h = h
owned_well_formed s t (Some l) (Some c) label clearance h =
    let mid : Soundness (changed s t (owning l c)) =
    changed_sound s t (owning l c)
    (λ x found. owning_keeps l c (stored_test l label) (stored_test c clearance) x) (soundness_of s h)
    in
    well_formed_from (record (changed s t (owning l c)) { next_category = s.next_category + 1 })
    (record { begun = mid.begun; live = mid.live; given = mid.given; rise = mid.rise; kept = mid.kept })
