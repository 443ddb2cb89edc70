-- What holds of a checkpoint's state that is laid out anew.
use Rattle.std.proofs.Common.{◌≡◌, ◌∙◌, true, false, Option, Some, None, ◌==◌, refl, sym, subst}
use Rattle.std.proofs.lemmas.Bool.{and_parts, both_ways, eqb-true}
use Rattle.base.specs.Limits.{in_range}
use Rattle.base.specs.declared.kinds.Kind.TheVariants as kinds
use Rattle.base.specs.declared.ranges.Limits.{Limits}
use Rattle.kernel_rules.specs.State.{State, object_at, of_object, is_kind}
use Rattle.kernel_rules.specs.declared.objects.Object.{Object}
use Rattle.checkpoints.specs.Checkpoint.{Checkpoint}
use Rattle.checkpoints.specs.Restorable.{is_restorable, is_root}
use Rattle.checkpoints.specs.Restored.{restored}
use Rattle.checkpoints.proofs.NamesLaws.{restored_named}
use Rattle.checkpoints.proofs.SoundLaws.{restorable_whole}
use Rattle.kernel_laws.specs.Names.{IsNamedRightly}
use Rattle.arena_state.specs.Restored.{are_younger, IsHoldable}
use Rattle.syscall_core.specs.Restored.{IsKeepable}

-- the root's quota is that of the limits
pub root_quota : (l : Limits) (o : Option Object) → of_object false (is_root l) o ≡ true → of_object 0 (λ x. x.quota) o ≡ l.pages
root_quota l None h = absurd (both_ways false refl h)
root_quota l (Some x) h = eqb-true x.quota l.pages (and_parts (is_kind kinds.Container x) (x.quota == l.pages) h).1

holdable : (l : Limits) (c : Checkpoint) → in_range l ≡ true → is_restorable l c ≡ true → are_younger (restored l c) ≡ true
    → IsHoldable (restored l c)
holdable l c range fit younger =
    let whole = (restorable_whole l c).0 fit in
    record {
      formed = whole.well_formed;
      some = whole.sound.ids;
      range = range;
      root = root_quota l (object_at (restored l c) 1) whole.sound.root;
      younger = younger;
    }

-- of a state that is one which a checkpoint's is
pub keepable : (l : Limits) (c : Checkpoint) (p s : State) → s ≡ p → p ≡ restored l c → in_range l ≡ true → is_restorable l c ≡ true
    → are_younger s ≡ true → IsKeepable s
keepable l c p s same is range fit younger =
    let whole : s ≡ restored l c = same ∙ is in
    record {
      holdable = subst IsHoldable (sym whole) (holdable l c range fit (subst (λ (t : State). are_younger t ≡ true) whole younger));
      named = subst IsNamedRightly (sym whole) (restored_named l c fit);
    }
