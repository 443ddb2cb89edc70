-- What it may cost to store labels among those that stand.
use Rattle.std.specs.Prelude.{ℕ, ◌+◌, ◌*◌, length}
use Rattle.kernel_rules.specs.Scratch.{stored_labels}
use Rattle.kernel_rules.specs.State.{State}

-- what n labels that are stored, one after another, may add to what is kept of a meter's counts,
-- where m stand before: each is looked for among those that stand, and compared with each
abbrev pub storing : ℕ → ℕ → ℕ
storing n m = 7 * n * (m + n)

-- how many different labels objects carry: their own, the clearances and verify labels of threads,
-- and the clearances of gates
abbrev pub label_count : State → ℕ
label_count s = length (stored_labels s.objects)
