-- What the tests of exceptions say.
use Rattle.std.proofs.Common.{◌≡◌, ◌⊎◌, ℕ, Bool, true, false, not, cond, [], ◌&&◌, ◌||◌, ◌==◌, Option, Some, None, Less, Equal, Greater}
use Rattle.std.proofs.Common.{refl, sym, inl, inr}
use Rattle.std.specs.Bool.{beq}
use Rattle.std.specs.List.{list_all}
use Rattle.std.specs.Option.{option_map}
use Rattle.std.specs.Ordering.{is_eq}
use Rattle.std.specs.declared.cmp.Ordering.{Ordering}
use Rattle.std.proofs.lemmas.Bool.{and_parts, or_parts, eqb-true, true≢false, not-true}
use Rattle.base.specs.Live.{has}
use Rattle.label_lattice.specs.Label.{LabelValue}
use Rattle.label_lattice.specs.Listing.{label_cmp}
use Rattle.label_lattice.proofs.ListingLemmas.{labels_exact}
use Rattle.label_lattice.specs.LabelRules.{both, visible}
use Rattle.call_text.specs.declared.asking.Asked.TheVariants.{Read, Write}
use Rattle.kernel_rules.specs.State.{State, listed, object_at, of_object}
use Rattle.kernel_rules.specs.Step.{next}
use Rattle.kernel_rules.specs.declared.calls.Call.{Call}
use Rattle.kernel_rules.specs.declared.calls.Call.TheVariants as call
use Rattle.kernel_rules.specs.declared.calls.Query.{Query}
use Rattle.kernel_rules.specs.declared.objects.Object.{Object}
use Rattle.kernel_rules.proofs.LookupLaws.{all_at}
use Rattle.flow_rules.proofs.Facts.{in_all}
use Rattle.worlds.specs.Laws.{IsSameCount, is_unref}
use Rattle.worlds.specs.Seen.{IsOpen, if_visible, is_within, seen_at, untold}
use Rattle.worlds.specs.TwoRuns.{Agreed, IsHidden}
use Rattle.worlds.proofs.Unseen.{unseen, unseen_label}
use Rattle.hidden_replies.specs.Exceptions.{first_of, hides_none, is_met, is_open, is_seen, of_call}
use Rattle.hidden_replies.specs.Exceptions.{same_untold, unless, when_hidden, when_met}
use Rattle.hidden_replies.specs.declared.differences.Channel.{Channel}
use Rattle.hidden_replies.specs.declared.differences.Channel.TheVariants as channel

tested : (b : Bool) (c : Channel) → unless b c ≡ None → b ≡ true
tested true c h = refl
tested false c h = absurd (cc)

pub none_first : (x y : Option Channel) → first_of x y ≡ None → (x ≡ None) × (y ≡ None)
none_first None y h = (refl, h)
none_first (Some x) y h = absurd (cc)

pub not_seen : (l : LabelValue) (s : State) (o : ℕ) → is_seen l s o ≡ false → seen_at l s o ≡ None
not_seen l s o h = by (object_at s o) h
  where
    by : (v : Option Object) → both visible (option_map (λ x. x.label) v) (Some l) ≡ false → if_visible l v ≡ None
    by None g = refl
    by (Some x) g = unseen l x g

or_second : (a b : Bool) → a ≡ false → (a || b) ≡ true → b ≡ true
or_second true b h g = absurd (true≢false h)
or_second false b h g = g

pub opened : (l : LabelValue) (s : State) → is_open l s ≡ true → IsOpen l s
opened l s h d o lists off =
    elim (object_at s d)
    as (λ v. object_at s d ≡ v → has (of_object [] (λ x. listed x.body) v) o ≡ true → if_visible l v ≡ None
    → seen_at l s o ≡ None) [
      | None ↦ λ is g f. absurd (cc)
      | Some x ↦ λ is g f.
          let at : hides_none l s x ≡ true = all_at (λ i y. hides_none l s y) s.objects d x h is in
          let none : list_all (λ i. not (is_seen l s i)) (listed x.body) ≡ true =
          or_second (visible x.label l) _ (unseen_label l x f) at in
          not_seen l s o (not-true (is_seen l s o) (in_all (λ i. not (is_seen l s i)) (listed x.body) o none g))
    ] refl lists off

tied : (r : Ordering) → is_eq r ≡ true → r ≡ Equal
tied Less h = absurd (true≢false (sym h))
tied Equal h = refl
tied Greater h = absurd (true≢false (sym h))

same_bool : (a b : Bool) → beq a b ≡ true → a ≡ b
same_bool true true h = refl
same_bool true false h = absurd (true≢false (sym h))
same_bool false true h = absurd (true≢false (sym h))
same_bool false false h = refl

named : (a b : Option Object) → same_untold a b ≡ true → option_map untold b ≡ option_map untold a
named None None h = refl
named None (Some y) h = absurd (true≢false (sym h))
named (Some x) None h = absurd (true≢false (sym h))
named (Some x) (Some y) h =
    let parts = and_parts (is_eq (label_cmp x.label y.label) && beq x.fixed y.fixed) (beq x.immutable y.immutable) h in
    let more = and_parts (is_eq (label_cmp x.label y.label)) (beq x.fixed y.fixed) parts.0 in
    let label : x.label ≡ y.label = labels_exact x.label y.label (tied (label_cmp x.label y.label) more.0) in
    let fixed : x.fixed ≡ y.fixed = same_bool x.fixed y.fixed more.1 in
    let immutable : x.immutable ≡ y.immutable = same_bool x.immutable y.immutable parts.1 in
    (λ i. Some (record { label = sym label i; fixed = sym fixed i; immutable = sym immutable i }))

counts : (s n : State) (b : Bool)
    → (cond b (first_of (unless (n.next_id == s.next_id) channel.NextId)
    (unless (n.next_category == s.next_category) channel.NextCategory))
    (first_of (unless (n.next_category == s.next_category) channel.NextCategory)
    (unless (n.next_id == s.next_id) channel.NextId))) ≡ None → IsSameCount s n
counts s n true h =
    let parts = none_first _ _ h in
    record {
      next_id = eqb-true n.next_id s.next_id (tested (n.next_id == s.next_id) channel.NextId parts.0);
      next_category = eqb-true n.next_category s.next_category
          (tested (n.next_category == s.next_category) channel.NextCategory parts.1);
    }
counts s n false h =
    let parts = none_first _ _ h in
    record {
      next_id = eqb-true n.next_id s.next_id (tested (n.next_id == s.next_id) channel.NextId parts.1);
      next_category = eqb-true n.next_category s.next_category
          (tested (n.next_category == s.next_category) channel.NextCategory parts.0);
    }

agreed : (l : LabelValue) (s n : State) (c : Call) → of_call l s n c ≡ None → Agreed l s n c
agreed l s n (call.Link d e) h =
    inr (inr (inl (named (object_at s e.object) (object_at n e.object)
    (tested (same_untold (object_at s e.object) (object_at n e.object)) channel.Untold h))))
agreed l s n (call.QuotaMove e k) h =
    inr (inr (inl (named (object_at s e.object) (object_at n e.object)
    (tested (same_untold (object_at s e.object) (object_at n e.object)) channel.Untold h))))
agreed l s n (call.Unref e) h =
    let parts = and_parts (is_open l s) (is_open l n) (tested (is_open l s && is_open l n) channel.NotOpen h) in
    inr (inr (inr (refl, opened l s parts.0, opened l n parts.1)))
agreed l s n call.CatCreate h = inr (inl (refl, counts s n false h))
agreed l s n (call.SelfSetLabel x) h = inr (inl (refl, counts s n false h))
agreed l s n (call.SelfSetClearance y) h = inr (inl (refl, counts s n false h))
agreed l s n (call.GateEnter e r q v) h = inr (inl (refl, counts s n false h))
agreed l s n (call.ContainerCreate k) h = inr (inl (refl, counts s n true h))
agreed l s n (call.SegmentCreate k) h = inr (inl (refl, counts s n true h))
agreed l s n (call.SegmentCopy k) h = inr (inl (refl, counts s n true h))
agreed l s n (call.AsCreate k) h = inr (inl (refl, counts s n true h))
agreed l s n (call.ThreadCreate k) h = inr (inl (refl, counts s n true h))
agreed l s n (call.GateCreate k) h = inr (inl (refl, counts s n true h))
agreed l s n (call.SelfSetAs e) h = inl refl
agreed l s n (call.SetFixed e) h = inl refl
agreed l s n (call.SetImmutable e) h = inl refl
agreed l s n (call.MetaSet e bytes) h = inl refl
agreed l s n (call.SegmentResize e pages) h = inl refl
agreed l s n (call.SegmentWrite e a bytes) h = inl refl
agreed l s n (call.AsMap e slot m) h = inl refl
agreed l s n (call.AsUnmap e slot) h = inl refl
agreed l s n (call.Store address bytes) h = inl refl
agreed l s n (call.DevSend e bytes) h = inl refl
agreed l s n (call.DevRecv e) h = inl refl

-- where no exception holds at a call in both runs, its thread is within, and what else it looks at is the same
pub met_agreed : (l : LabelValue) (s n : State) (t : ℕ) (c : Call) → when_met l s n t (Write c) ≡ None
    → (is_within l s t ≡ true) × Agreed l s n c
met_agreed l s n t c h =
    elim (is_within l s t)
    as (λ b. is_within l s t ≡ b → cond b (of_call l s n c) (Some channel.Owner) ≡ None
    → (is_within l s t ≡ true) × Agreed l s n c) [
      | true ↦ λ is g. (is, agreed l s n c g)
      | false ↦ λ is g. absurd (cc)
    ] refl h

-- and where none holds at a read, its thread is within
pub read_within : (l : LabelValue) (s n : State) (t : ℕ) (q : Query) → when_met l s n t (Read q) ≡ None
    → is_within l s t ≡ true
read_within l s n t q h =
    elim (is_within l s t)
    as (λ b. is_within l s t ≡ b → cond b None (Some channel.Owner) ≡ None → is_within l s t ≡ true) [
      | true ↦ λ is g. is
      | false ↦ λ is g. absurd (cc)
    ] refl h

not_unref : (c : Call) (b : Bool) → (not (is_unref c) || b) ≡ true → b ≡ false → is_unref c ≡ false
not_unref c b h g = by (is_unref c) b h g
  where
    by : (u b : Bool) → (not u || b) ≡ true → b ≡ false → u ≡ false
    by true true h g = absurd (true≢false g)
    by true false h g = absurd (true≢false (sym h))
    by false b h g = refl

-- where none holds at a hidden call, it is hidden
pub hidden_so : (l : LabelValue) (s n : State) (t : ℕ) (c : Call) → is_met l s n t ≡ false
    → when_hidden l s t (Write c) ≡ None → IsHidden l s t c
hidden_so l s n t c off h =
    let parts = none_first (unless (not (is_unref c) || is_open l s) channel.NotOpen)
    (unless (not (is_seen l (next s t c) t)) channel.Shown) h in
    let keeps : (not (is_unref c) || is_open l s) ≡ true = tested _ channel.NotOpen parts.0 in
    let after : not (is_seen l (next s t c) t) ≡ true = tested _ channel.Shown parts.1 in
    record {
      keeps = elim (is_open l s) as (λ b. is_open l s ≡ b → (is_unref c ≡ false) ⊎ IsOpen l s) [
        | true ↦ λ is. inr (opened l s is)
        | false ↦ λ is. inl (not_unref c (is_open l s) keeps is)
      ] refl;
      before = not_seen l s t (or_parts (is_seen l s t) (is_seen l n t) off).0;
      after = not_seen l (next s t c) t (not-true (is_seen l (next s t c) t) after);
    }
