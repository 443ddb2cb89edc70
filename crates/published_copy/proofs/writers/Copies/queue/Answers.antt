use Rattle.std.proofs.Common.{rules, ◌≡◌, ◌∙◌, List, ◌∷◌, ◌++◌, [], drop, IfOk, OnErr, ap, sym, subst}
use Rattle.core.specs.Mem.{manually_drop_value}
use Rattle.published_copy.specs.Shares.{copies_with}
use Rattle.published_copy.specs.declared.copies.Copied.{Copied}
use Rattle.published_copy.specs.declared.ops.Op.{Op}
use Rattle.published_copy.proofs.Shares.{kept_view, queued_view, viewed}
use Rattle.published_copy.proofs.writers.Copies.queue.Goals.{in-Ok, in-Err}
use Rattle.published_copy.proofs.writers.Copies.queue.Goals as goal

pub returns-clause-queued : goal.returns-clause-queued
returns-clause-queued g c =
    let old = manually_drop_value c.self.inside.writer in
    let x : Copied = old.desk.shown.value in
    let y : Copied = c.append.new.self.desk.shown.value in
    let pending : List Op = drop old.behind old.log.items in
    let more : List Op = drop c.append.new.self.behind c.append.new.self.log.items in
    let same : y ≡ x
    = ap (λ d. d.shown.value) c.append.ensures.desk ∙ ap (λ w. w.desk.shown.value) c.deref_mut-writer.ensures.value in
    let was = ap (λ w. drop w.behind w.log.items) c.deref_mut-writer.ensures.value in
    let now = copies_with c.args.self.now.list (c.args.op ∷ []) c.args.self.now.reply c.args.self.now.further in
    elim c.match-append.branch [
      | in-Ok w ↦ subst (λ r. IfOk r (λ u. viewed y more ≡ now)) (sym w.result-is)
          (queued_view x y pending more c.args.op c.args.self.now same c.self.view_is c.requires
          (w.in-Ok.ensures.pending ∙ ap (λ (p : List Op). p ++ c.args.op ∷ []) was))
      | in-Err w ↦ subst (λ r. IfOk r (λ u. viewed y more ≡ now)) (sym w.result-is) tt
    ]

pub returns-clause-kept : goal.returns-clause-kept
returns-clause-kept g c =
    let old = manually_drop_value c.self.inside.writer in
    let x : Copied = old.desk.shown.value in
    let y : Copied = c.append.new.self.desk.shown.value in
    let pending : List Op = drop old.behind old.log.items in
    let more : List Op = drop c.append.new.self.behind c.append.new.self.log.items in
    let same : y ≡ x
    = ap (λ d. d.shown.value) c.append.ensures.desk ∙ ap (λ w. w.desk.shown.value) c.deref_mut-writer.ensures.value in
    let was = ap (λ w. drop w.behind w.log.items) c.deref_mut-writer.ensures.value in
    elim c.match-append.branch [
      | in-Ok w ↦ subst (λ r. OnErr r (viewed y more ≡ c.args.self.now)) (sym w.result-is) tt
      | in-Err w ↦ subst (λ r. OnErr r (viewed y more ≡ c.args.self.now)) (sym w.result-is)
          (kept_view x y pending more c.args.self.now same c.self.view_is (w.in-Err.ensures.pending.1 ∙ was))
    ]
