use Rattle.std.proofs.Common.{◌≡◌, ◌++◌, [], ◌∷◌, append_assoc, subst, sym}
use Rattle.base.specs.declared.kinds.Kind.TheVariants as kinds
use Rattle.base.specs.declared.refusals.Refusal.TheVariants as refusals
use Rattle.kernel_rules.specs.Conditions as is
use Rattle.kernel_rules.specs.Rows as rules
use Rattle.kernel_rules.specs.State.{State, quota_at}
use Rattle.kernel_rules.specs.Table.{conditions}
use Rattle.plain_state.specs.StateOf.{state_of}
use Rattle.explained.specs.Ruled.{conditions_in}
use Rattle.explained.proofs.Chain.{six}
use Rattle.explained.proofs.rows.Row.put_call.Goals as goal

pub returns-in_ok-at_most-in-SegmentCreate : goal.returns-in_ok-at_most-in-SegmentCreate
returns-in_ok-at_most-in-SegmentCreate c =
    simp (
      append_assoc,
      c.in-SegmentCreate.is,
      c.from-used.ensures,
      c.in_ok-new_object-in-SegmentCreate.ensures,
      c.in_ok-at_most-in-SegmentCreate.ensures,
    )

pub returns-in_ok-new_object-in-SegmentCopy : goal.returns-in_ok-new_object-in-SegmentCopy
returns-in_ok-new_object-in-SegmentCopy c =
    simp (
      append_assoc,
      c.in-SegmentCopy.is,
      c.page_count.ensures,
      c.from-used-in-SegmentCopy.ensures,
      c.in_ok-in_container-in-SegmentCopy.ensures,
      c.in_ok-of_kind-in-SegmentCopy.ensures,
      c.in_ok-observed-in-SegmentCopy.ensures,
      c.in_ok-new_object-in-SegmentCopy.ensures,
    )

pub returns-in_ok-not_immutable-in-Link : goal.returns-in_ok-not_immutable-in-Link
returns-in_ok-not_immutable-in-Link c =
    let s : State = state_of c.args.state.now in
    let t = c.in-Link.target in
    let e = c.in-Link.entry in
    subst (λ k. conditions_in c.not_immutable.new.self ≡ conditions_in c.args.self.now ++ conditions s k) (sym c.in-Link.is)
    (six (conditions_in c.args.self.now) _ _ _ _ _ _
    (rules.at_container t ++ rules.in_container e ++ rules.not_of_kind kinds.Container e.object ++ rules.modified t)
    ((refusals.LabelRange, is.AboveClearance e.object) ∷ []) ((refusals.AvoidType, is.KindAvoided t e.object) ∷ [])
    (rules.with_room t (quota_at s e.object))
    ((refusals.NotFixed, is.NotFixed e.object) ∷ (refusals.AlreadyLinked, is.Listed t e.object) ∷ []) (rules.not_immutable t)
    c.in_ok-link_ends-in-Link.ensures c.in_ok-put-in-Link.ensures c.in_ok-put-in-Link-2.ensures c.in_ok-link_room-in-Link.ensures
    c.in_ok-linkable-in-Link.ensures c.in_ok-not_immutable-in-Link.ensures)
