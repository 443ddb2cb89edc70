-- `histar_reader_end` reads the value out, which leaves room, and lets it go.
use Rattle.std.proofs.Common.{[], ◌∷◌, refl, ap}
use lib.Dec.{T}
use mir.Syntax.{Ty}
use mir.Val.{Val, vunit, has_ty, WT}
use base.Fraction.{full_share}
use base.Logic.{id⊢}
use base.Fml.{ftrue, fat, froom}
use borrow.Table.OneValue.{part_out}
use prog.Wp.{WpFn}
use types.Kit.{‵, raw, ◌⊛◌, some, later, prop, ◌$◌, ◌∵◌, !, qed, done, move, keep, drop, use1, use2, split, join, feq_i, feq_l, pick, await, suffices, regoal, group}
use types.Run.{enter, of_opd, unit_lit, no_more, and_then, returns, load, look, stop}
use types.ByLocal.{alloc_all, pass_all, free_all, look_at, get, through, sets, lands_as}
use contract.Running.{tables}
use denote.Builtin.{RawPtr, unit}
use denote.Exit.{yes}
use denote.Laws.{Is, shows}
use denote.Param.{layout}
use denote.RawPtr.{Ptr, block_ptr, in_a_block, lies_at, rawptr_vals, rawptr_Tells}
use denote.Signature.{plain}
use denote.Steps.{nothing, only, peeks}
use denote.Triple.Call.{calls_at}
use denote.Triple.Clauses.{Lasts, lasts}
use denote.Triple.Entry.{on_entry}
use denote.Triple.Spec.{triple_of}
use denote.Triple.Walked.{Stays, walk_of, stay_dropped, Goes-dropped, ends_at}
use denote.Triple.Table.{framed}
use Rattle.std.proofs.raw_atomic.Walks.{proved}
use Rattle.shared_c.specs.contracts.readers.HeldReader.{the_row as R}
use Rattle.shared_c.proofs.readers.HeldReader.TheLaws.{the_row_laws as L}
use Rattle.shared_c.specs.contracts.readers.end_reader as g
use Rattle.shared_c.proofs.readers.end_reader.Met.{met}
use Rattle.shared_c.specs.contracts.exports.histar_reader_end as f
use Rattle.shared_c.proofs.exports.histar_reader_end.Statement.{statement}
use Rattle.shared_c.proofs.exports.histar_reader_end.Code as code

abbrev stayed : Stays f.ended.signature.params f.ended.kept
stayed = (stay_dropped _ yes, tt)

pub histar_reader_end_spec : {M : Type 1} → statement M
histar_reader_end_spec 𝓤 𝓛 𝓜 𝓡 wired =
    let c = f.clauses 𝓛 𝓜.mem 𝓡.returns in let W = walk_of 𝓛 f.ended stayed c in let 𝓣 = tables 𝓤 𝓛.H 𝓜 𝓡 𝓡.env in let τ : Ty = layout R in
    proved 𝓛 f.ended stayed c 𝓜 𝓡 (Goes-dropped 𝓛 0 (plain (λ _. RawPtr)) yes (λ κs x w. refl), tt)
    f.Key.name code.function (code.unfolded 𝓤 𝓛.H 𝓜 𝓡 wired)
    (λ κs. (rawptr_vals, tt)) (λ κs. (rawptr_Tells, tt)) (λ κs qs bounds a k are.
    let y : Ptr → W.Ghost = λ p. ((κs, qs, bounds, (p, tt), (rawptr_vals p, tt)), k) in
    qed 𝓛 (raw (on_entry 𝓛 f.signature κs qs a (y a.0).0.4) ∷ ‵ (lies_at R full_share a.0 k) ∷ []) ∵ drop ! $
    in_a_block ! a.0 (λ p. lies_at R full_share p k) (id⊢ 𝓤 _) (λ b o e.
    regoal ! (λ p. prop (WpFn 𝓤 𝓛.H 𝓣.C 𝓣.Λ code.function (rawptr_vals p) (W.post (y p)))) e refl $
    use1 𝓛 (some (λ (v : Val). ‵ (fat full_share τ b o v) ⊛ ‵ (R.own_val k (v ∷ [])))) (part_out 𝓛 R refl full_share k b o) $ pick ! (λ v. split ! $ move ! (1 ∷ []) $
    peeks ! R (Is R) (shows 𝓛 R) k (v ∷ []) (λ is. let typed : T (has_ty τ v) × WT v = ((L.lawful 𝓛).typed k (v ∷ []) is).0 in
    enter ! _ _ _ _ _ $ alloc_all ! (λ l. pass_all ! refl ((tt, tt), tt) $
    -- [what the value owns; its cell; the locals]
    sets ! (of_opd ! (load ! (through ! refl (stop !)) (look ! 1 refl))) refl typed $
    let G = triple_of 𝓛 g.signature (g.spec 𝓛 𝓜.mem 𝓡.returns) in
    let x : G.Ghost = ((tt, tt, tt, (k, tt), (v ∷ [], tt)), tt) in
    nothing ! $ move ! (1 ∷ 0 ∷ []) $ join ! $ nothing ! $ join ! $ nothing ! $ move ! (1 ∷ 0 ∷ []) $ use2 𝓛 (raw (G.pre x)) (id⊢ 𝓤 _) $
    calls_at ! (framed 𝓤 𝓛.H 𝓜 (tables 𝓤 𝓛.H 𝓜 𝓡 𝓡.env)) G (met 𝓤 𝓛 𝓜 𝓡 (code.calls-shared_c::readers::end_reader 𝓡.env wired)) x (and_then ! (get ! refl) (no_more !)) (λ w.
    use1 𝓛 (later (some (λ (s : Unit {0}). (‵ ftrue ⊛ ‵ (unit.own_val s (w ∷ []))) ⊛ some (λ (ls : Lasts g.ended tt (k, tt)). ‵ (lasts g.ended tt (k, tt) ls) ⊛ ‵ ftrue)))) (id⊢ 𝓤 _) $
    await ! tt $ pick ! (λ s. split ! $ split ! $ drop ! $ feq_l ! (λ is_unit. lands_as ! (ap only is_unit) refl (tt, tt) $ drop ! $
    use1 𝓛 (‵ (froom τ b o)) (𝓛.laws.at_room τ b o v) $
    sets ! (of_opd ! (unit_lit !)) refl (tt, tt) $ returns ! (look_at ! 0 refl) $ free_all ! refl $ keep ! (0 ∷ []) $
    suffices ! _ (ends_at 𝓛 f.ended stayed c (y (block_ptr b o)) vunit tt (tt, tt) (tt, tt)) $
    feq_i ! _ (vunit ∷ []) _ refl $ nothing ! $ nothing ! $ join ! $ nothing ! $ group ! 3 $ done !))))))))
