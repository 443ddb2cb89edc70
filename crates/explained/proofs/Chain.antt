-- A row that is put together from six words.
use Rattle.std.proofs.Common.{◌≡◌, ◌++◌, ◌∙◌, ap, append_assoc}
use Rattle.kernel_rules.specs.Rows.{Conditions}

then : (o w v a b : Conditions) → a ≡ o ++ w → b ≡ a ++ v → b ≡ o ++ (w ++ v)
then o w v a b e f = f ∙ ap (λ x. x ++ v) e ∙ append_assoc o w v

pub six : (o r1 r2 r3 r4 r5 r6 v1 v2 v3 v4 v5 v6 : Conditions) → r1 ≡ o ++ v1 → r2 ≡ r1 ++ v2 → r3 ≡ r2 ++ v3
    → r4 ≡ r3 ++ v4 → r5 ≡ r4 ++ v5 → r6 ≡ r5 ++ v6 → r6 ≡ o ++ (((((v1 ++ v2) ++ v3) ++ v4) ++ v5) ++ v6)
six o r1 r2 r3 r4 r5 r6 v1 v2 v3 v4 v5 v6 e1 e2 e3 e4 e5 e6 =
    then o ((((v1 ++ v2) ++ v3) ++ v4) ++ v5) v6 r5 r6
    (then o (((v1 ++ v2) ++ v3) ++ v4) v5 r4 r5
    (then o ((v1 ++ v2) ++ v3) v4 r3 r4 (then o (v1 ++ v2) v3 r2 r3 (then o v1 v2 r1 r2 e1 e2) e3) e4) e5) e6
