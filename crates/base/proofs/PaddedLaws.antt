-- A list written to the front of copies of x.
use Rattle.std.proofs.Common.{◌≡◌, ℕ, ◌≤◌, ◌-◌, List, ◌++◌, length, take, drop, replicate, sym, ◌∙◌, ap, subst, arith, length-append}
use Rattle.std.proofs.lemmas.List.{drop-replicate, length-replicate}
use Rattle.std.proofs.Math.Seq.{take-append_seam}
use Rattle.base.specs.Padded.{padded}

pub written_front : {A : Type 0} (n : ℕ) (x : A) (given front : List A) → front ≡ given → length given ≤ n →
    (length given ≤ n) × (length (front ++ drop (length given) (replicate n x)) ≡ n)
    × (front ++ drop (length given) (replicate n x) ≡ padded n x (take (length given) (front ++ drop (length given) (replicate n x))))
written_front n x given front same few =
    let rest : drop (length given) (replicate n x) ≡ replicate (n - length given) x = drop-replicate (length given) n x in
    let all : front ++ drop (length given) (replicate n x) ≡ given ++ replicate (n - length given) x = (λ i. same i ++ rest i) in
    let seam : take (length given) (front ++ drop (length given) (replicate n x)) ≡ given = ap (take (length given)) all ∙ take-append_seam given (replicate (n - length given) x) in (
      few,
      ap length all ∙ (rw (length-append given (replicate (n - length given) x)) (rw (length-replicate (n - length given) x) (omega arith))),
      subst (λ t. front ++ drop (length given) (replicate n x) ≡ padded n x t) (sym seam) all,
    )
